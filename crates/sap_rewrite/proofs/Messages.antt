-- The test of messages.
use Rattle.std.proofs.Common.{◌≡◌, true, sym, ap, subst, ◌∙◌}
use Rattle.sap_terms.specs.declared.var.Sort.{Sort}
use Rattle.sap_terms.specs.declared.term.Term.{Term}
use Rattle.sap_terms.specs.Choice.{fits_sort}
use Rattle.sap_terms.specs.Ground.{IsGround}
use Rattle.sap_terms.specs.Message.{IsMessage, IsOver}
use Rattle.sap_terms.specs.Normal.{IsNormal, IsNormalForm}
use Rattle.sap_terms.specs.Signature.{Sig}
use Rattle.sap_terms.specs.Equations.{equations}
use Rattle.sap_terms.specs.View.{tree, term, term-tree}
use Rattle.sap_rewrite.proofs.NormalForms.{one_normal_form, nf-fixed}

-- a ground term over the signature that fits the sort is a message exactly where it is its normal form
pub is_message_where : (g : Sig) (s : Sort) (t n : Term) → fits_sort s (tree t) ≡ true → IsGround (tree t) → IsOver g (tree t) → IsNormalForm (equations g) (tree t) (tree n) → (n ≡ t → IsMessage g s (tree t)) × (IsMessage g s (tree t) → n ≡ t)
is_message_where g s t n h a o f = (
  λ e. record { ground = a; over = o; normal = subst (λ (u : Term). IsNormal (equations g) (tree u)) e f.normal; sorted = h },
  λ m.
      let same : tree n ≡ tree t = one_normal_form (equations g) (tree t) (tree n) f ∙ nf-fixed (equations g) (tree t) m.normal in
      sym (term-tree n) ∙ ap term same ∙ term-tree t,
)
