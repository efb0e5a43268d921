use Rattle.std.specs.Prelude.{codes}
use Rattle.sap_terms.specs.Tree.{fresh}
use Rattle.sap_steps.specs.code.Piled.{table_of}
use Rattle.sap_steps.proofs.Tied.{tied_keeps, tied_push, held_single, held_fresh}
use Rattle.sap_steps.proofs.state.RuleState.fresh.Goals as goal

pub invariant_of-self-2 : goal.invariant_of-self-2
invariant_of-self-2 c =
    let numbered = c.numbers_stay.ensures (table_of c.self.inside.facts) (table_of c.put_fresh.new.self) c.self.inside.knowledge c.self.invariant.numbered c.put_fresh.ensures.keeps in
    tied_push _ _ _ _ _ c.self.invariant (held_single _ (codes "Fr") (fresh c.args.n) (held_fresh c.names_are_messages.ensures _ c.args.n)) numbered c.in_ok-put_fresh.ensures.ok

pub invariant_of-self-in_err-put_fresh : goal.invariant_of-self-in_err-put_fresh
invariant_of-self-in_err-put_fresh c =
    tied_keeps c.numbers_stay.ensures c.self.inside.rules c.self.inside.facts c.put_fresh.new.self c.self.inside.knowledge c.self.invariant c.in_err-put_fresh.ensures.err c.put_fresh.ensures.keeps
