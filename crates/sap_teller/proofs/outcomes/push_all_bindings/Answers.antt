use Rattle.std.proofs.Common.{◌≡◌, ℕ, List, ap, ◌∙◌, ◌++◌, OnOk, subst, ◌&&◌, nat_eq}
use Rattle.sap_terms.specs.View.{tree}
use Rattle.sap_terms.specs.declared.binding.Binding.{Binding}
use Rattle.sap_tell.specs.ToldText.{bound_text}
use Rattle.sap_teller.specs.code.Doings.{binding_texts}
use Rattle.sap_teller.specs.code.Outcomes.{outcomes_from}
use Rattle.sap_teller.proofs.Pieces.{two_lists}
use Rattle.sap_teller.proofs.outcomes.push_all_bindings.Goals as goal

pub returns : goal.returns
returns c =
    let f = λ (b : Binding). bound_text c.args.names.now (b.var, tree b.term) in
    let same = ap (λ t. t ++ outcomes_from c.is_first.result (binding_texts c.args.names.now c.args.d.now)) c.in_ok-push_bindings.ensures
    ∙ ap (λ b. (c.args.text.now ++ outcomes_from c.args.first (binding_texts c.args.names.now c.args.b.now)) ++ outcomes_from b (binding_texts c.args.names.now c.args.d.now)) (c.is_first.ensures ∙ ap (λ n. c.args.first && nat_eq n 0) c.len.ensures)
    ∙ two_lists f f c.args.text.now c.args.first c.args.b.now c.args.d.now in
    subst (λ (t : List ℕ). OnOk c.push_bindings-2.result (c.push_bindings-2.new.text ≡ t)) same c.push_bindings-2.ensures
