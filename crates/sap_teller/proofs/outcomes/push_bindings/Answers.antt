use Rattle.std.proofs.Common.{ap, ◌∙◌, ◌++◌}
use Rattle.sap_terms.specs.View.{tree}
use Rattle.sap_terms.specs.declared.binding.Binding.{Binding}
use Rattle.sap_tell.specs.ToldText.{bound_text}
use Rattle.sap_teller.specs.code.Outcomes.{before_outcome}
use Rattle.sap_teller.proofs.Pieces.{pushed_next}
use Rattle.sap_teller.proofs.outcomes.push_bindings.Goals as goal

pub loop-k-preserved : goal.loop-k-preserved
loop-k-preserved c =
    let e = c.at-e.result.now in
    pushed_next (λ (b : Binding). bound_text c.args.names.now (b.var, tree b.term)) c.args.first c.args.b.now c.loop-k.k e c.args.text.now c.loop-k.text c.push_bound.new.text c.at-e.ensures c.loop-k.invariant
    (c.in_ok-push_bound.ensures ∙ ap (λ b. c.loop-k.text ++ (before_outcome b ++ bound_text c.args.names.now (e.var, tree e.term))) c.is_first.ensures)
