use Rattle.std.proofs.Common.{refl}
use Rattle.sap_facts.specs.Facts.{slots_without}
use Rattle.sap_share.specs.Shared.{tree_at}
use Rattle.sap_steps.proofs.Left.{take_one}
use Rattle.sap_steps.proofs.Tied.{tied_knows, tied_without, held_argument, knows_more}
use Rattle.sap_steps.proofs.state.RuleState.learn.Goals as goal

pub output-requires-clause-message : goal.output-requires-clause-message
output-requires-clause-message c =
    rw c.table.ensures (held_argument _ _ _ _ _ c.self.invariant.held c.in_ok-number.ensures.out).message

pub output-requires-clause-within : goal.output-requires-clause-within
output-requires-clause-within c = rw c.table.ensures (held_argument _ _ _ _ _ c.self.invariant.held c.in_ok-number.ensures.out).small

pub invariant_of-self-2 : goal.invariant_of-self-2
invariant_of-self-2 c =
    let knows = tied_knows c.self.inside.rules c.self.inside.facts c.self.inside.facts c.self.inside.knowledge _ _ _ c.self.invariant c.in_ok-output.ensures.ok refl (rw c.table.ensures at c.output.ensures.numbered) in
    tied_without c.self.inside.rules c.self.inside.facts _ _ _ knows c.remove.ensures.sig c.remove.ensures.trees c.remove.ensures.slots

pub returns-clause-ok : goal.returns-clause-ok
returns-clause-ok c = rw (← c.self.view_is, c.remove.ensures.slots) (
  tree_at c.self.inside.facts.trees c.in_ok-number.number,
  record {
    rest = slots_without c.self.inside.facts.slots c.args.k;
    takes = take_one _ _ _ c.in_ok-number.ensures.out;
    silent = c.new.ensures;
    becomes = knows_more _ _ _ _ _ _ (rw c.table.ensures at c.in_ok-output.ensures.ok);
  },
)
