use Rattle.std.proofs.Common.{[], ◌∷◌, ◌++◌, append_assoc, ap, ◌∙◌}
use Rattle.std.proofs.lemmas.Result.{on_ok_weaker}
use Rattle.sap_terms.specs.Tree.{variable}
use Rattle.sap_terms.specs.View.{tree}
use Rattle.sap_place.specs.StateFacts.{tag}
use Rattle.sap_templates.proofs.terms.push_sent.Goals as goal

pub returns : goal.returns
returns c =
    let tagged = variable tag ∷ [] in
    on_ok_weaker c.push_var.result
    (λ e. e ∙ ap (λ ts. ts ++ tagged) c.in_ok-push_two.ensures ∙ append_assoc c.args.terms.now (tree c.args.t.now ∷ tree c.args.u.now ∷ []) tagged)
    (c.push_var.ensures tag c.tag.ensures)
