use Rattle.std.proofs.Common.{sym, ◌≤◌}
use Rattle.std.specs.Prelude.{codes}
use Rattle.sap_deduce.specs.Entries.{terms_of}
use Rattle.sap_share.specs.Shared.{tree_at}
use Rattle.sap_terms.specs.Message.{IsMessage}
use Rattle.sap_terms.specs.Tree.{Tree, node_count}
use Rattle.sap_terms.specs.declared.limits.TheConstants.{MOST_TERM_NODES}
use Rattle.sap_terms.specs.declared.var.Sort.TheVariants.{Msg}
use Rattle.sap_sides.specs.Messages.{IsSmallMessage}
use Rattle.sap_steps.proofs.Lists.{all_at}
use Rattle.sap_steps.proofs.Tied.{tied_push_same, held_single}
use Rattle.sap_steps.proofs.state.RuleState.know.Goals as goal

pub invariant_of-self-2 : goal.invariant_of-self-2
invariant_of-self-2 c =
    let g = c.self.inside.knowledge.sig in
    let t : Tree = tree_at c.self.inside.facts.trees c.in-Some.number in
    let known = terms_of c.self.inside.knowledge.entries in
    let entry = rw c.table.ensures at c.in-Some.ensures.some.1 in
    let held : IsSmallMessage g t = record {
      message = all_at (IsMessage g Msg) known c.args.k t c.each_is_deducible.ensures.messages entry;
      small = all_at (λ (u : Tree). node_count u ≤ MOST_TERM_NODES) known c.args.k t c.each_is_deducible.ensures.within entry;
    } in
    tied_push_same _ _ _ _ _ c.self.invariant (held_single g (codes "In") t held) c.give.ensures.sig c.give.ensures.trees c.in_ok-acts.ensures.ok
