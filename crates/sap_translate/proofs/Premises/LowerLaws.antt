-- What the laws of the crates below say, where the proofs use it, and what follows of normal forms.
use Rattle.std.proofs.Common.{◌≡◌, ◌⊎◌, ℕ, List, sym, subst}
use Rattle.sap_terms.specs.Choice.{Choice, instance}
use Rattle.sap_terms.specs.Equal.{IsTheoryEqual}
use Rattle.sap_terms.specs.Equations.{Equations, equations}
use Rattle.sap_terms.specs.Ground.{IsGround}
use Rattle.sap_terms.specs.Laws.{LeavesAreNormal}
use Rattle.sap_terms.specs.Message.{IsMessage, IsOver}
use Rattle.sap_terms.specs.Normal.{IsNormal, IsNormalForm}
use Rattle.sap_terms.specs.Signature.{Sig, HoldsBuiltins}
use Rattle.sap_terms.specs.Tree.{Tree, variable, public, fresh}
use Rattle.sap_terms.specs.declared.var.Sort.TheVariants.{Msg}
use Rattle.sap_terms.specs.declared.var.Var.{Var}
use Rattle.sap_rewrite.specs.Laws.{EachHasForm, FormIsOne, EqualityIsKept, FormsAreMessages}
use Rattle.sap_process.specs.Instance.{process_instance}
use Rattle.sap_process.specs.Proc.{Proc}
use Rattle.sap_restrict.specs.Laws.{AdmittedLaw, NeededLaw, NeedsLaw}

-- the laws
pub record Laws : Type 0 where
  -- of terms
  pub leaves : LeavesAreNormal
  -- of normal forms
  pub has_form : EachHasForm
  pub one_form : FormIsOne
  pub kept : EqualityIsKept
  pub messages : FormsAreMessages
  -- of instances of processes
  pub unchanged : (p : Proc) → process_instance (λ v. variable v) p ≡ p
  pub twice : (p : Proc) (s t : Choice) → ((v : Var) → IsGround (s v) ⊎ (s v ≡ variable v)) → process_instance t (process_instance s p) ≡ process_instance (λ v. instance t (s v)) p
  -- of restrictions
  pub admitted : AdmittedLaw
  pub needed : NeededLaw
  pub needs : NeedsLaw

-- the normal form of a term
abbrev pub nf : Laws → Equations → Tree → Tree
nf laws e t = (laws.has_form e t).0

pub has_normal_form : (laws : Laws) (e : Equations) (t : Tree) → IsNormalForm e t (nf laws e t)
has_normal_form laws e t = (laws.has_form e t).1

pub one_normal_form : (laws : Laws) (e : Equations) (t n : Tree) → IsNormalForm e t n → n ≡ nf laws e t
one_normal_form laws e t n h = laws.one_form e t n (nf laws e t) h (has_normal_form laws e t)

pub nf-reached : (laws : Laws) (e : Equations) (t : Tree) → IsTheoryEqual e t (nf laws e t)
nf-reached laws e t = (has_normal_form laws e t).equal

pub nf-normal : (laws : Laws) (e : Equations) (t : Tree) → IsNormal e (nf laws e t)
nf-normal laws e t = (has_normal_form laws e t).normal

pub nf-fixed : (laws : Laws) (e : Equations) (t : Tree) → IsNormal e t → nf laws e t ≡ t
nf-fixed laws e t n = sym (one_normal_form laws e t t (record { equal = laws.kept.itself e t; normal = n }))

pub chain : (laws : Laws) {e : Equations} {t u v : Tree} → IsTheoryEqual e t u → IsTheoryEqual e u v → IsTheoryEqual e t v
chain laws {e} {t} {u} {v} a b = laws.kept.onwards e t u v a b

pub back : (laws : Laws) {e : Equations} {t u : Tree} → IsTheoryEqual e t u → IsTheoryEqual e u t
back laws {e} {t} {u} a = laws.kept.back e t u a

pub nf-equal : (laws : Laws) (e : Equations) {a b : Tree} → IsTheoryEqual e a b → nf laws e a ≡ nf laws e b
nf-equal laws e {a} {b} h = one_normal_form laws e b (nf laws e a) (record { equal = chain laws (back laws h) (nf-reached laws e a); normal = nf-normal laws e a })

pub equal-from_nf : (laws : Laws) (e : Equations) (t u : Tree) → nf laws e t ≡ nf laws e u → IsTheoryEqual e t u
equal-from_nf laws e t u h = chain laws (nf-reached laws e t) (subst (λ n. IsTheoryEqual e n u) (sym h) (back laws (nf-reached laws e u)))

pub nf-public : (laws : Laws) (e : Equations) (n : List ℕ) → nf laws e (public n) ≡ public n
nf-public laws e n = nf-fixed laws e (public n) (laws.leaves.of_public_name e n)

pub nf-fresh : (laws : Laws) (e : Equations) (k : ℕ) → nf laws e (fresh k) ≡ fresh k
nf-fresh laws e k = nf-fixed laws e (fresh k) (laws.leaves.of_fresh_name e k)

pub form_message : (laws : Laws) (g : Sig) (t n : Tree) → HoldsBuiltins g → IsGround t → IsOver g t → IsNormalForm (equations g) t n → IsMessage g Msg n
form_message laws g t n hold ground over form = laws.messages g t n hold ground over form

pub process_unchanged : (laws : Laws) (p : Proc) → process_instance (λ v. variable v) p ≡ p
process_unchanged laws p = laws.unchanged p

pub process_twice : (laws : Laws) (p : Proc) (s t : Choice) → ((v : Var) → IsGround (s v) ⊎ (s v ≡ variable v)) → process_instance t (process_instance s p) ≡ process_instance (λ v. instance t (s v)) p
process_twice laws p s t h = laws.twice p s t h
