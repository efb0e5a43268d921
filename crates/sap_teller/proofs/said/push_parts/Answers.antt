use Rattle.std.proofs.Common.{◌≡◌, [], ◌∷◌, sym, subst, ◌∙◌}
use Rattle.sap_tell.specs.Said.{parts_told}
use Rattle.sap_tell.specs.ToldText.{term_told}
use Rattle.sap_terms.specs.View.{tree}
use Rattle.sap_terms.specs.declared.term.Term.{Term}
use Rattle.sap_teller.proofs.SaidPieces.{parts_whole}
use Rattle.sap_teller.proofs.said.push_parts.Goals as goal

pub returns-else-len-eq2 : goal.returns-else-len-eq2
returns-else-len-eq2 c =
    let whole : parts_told c.args.names.now (tree c.args.x.now) ≡ term_told c.args.names.now (tree c.args.x.now) ∷ [] =
    subst (λ (t : Term). parts_told c.args.names.now (tree t) ≡ term_told c.args.names.now (tree t) ∷ []) (sym c.in-App.is)
    (parts_whole c.args.names.now c.in-App.field-0 c.in-App.ts (λ e. c.if-len-eq2.false (c.len.ensures ∙ e))) in
    rw whole c.push_term-else-len-eq2.ensures
