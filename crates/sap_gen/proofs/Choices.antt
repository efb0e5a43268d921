-- The choice by which a silent rule takes a state fact is that by which the fact was added, on the variables in scope.
use Rattle.std.proofs.Common.{◌≡◌, List, [], ◌∷◌, refl, sym, ap, subst, ◌∙◌}
use Rattle.std.specs.Prelude.{map}
use Rattle.std.specs.List.{AllZip}
use Rattle.sap_terms.specs.declared.var.Var.{Var}
use Rattle.sap_terms.specs.Signature.{Sig}
use Rattle.sap_terms.specs.Equations.{equations}
use Rattle.sap_terms.specs.Equal.{IsTheoryEqual}
use Rattle.sap_terms.specs.Normal.{IsNormalForm}
use Rattle.sap_terms.specs.Tree.{Tree, variable, public, fresh, apply, Trees, none, more}
use Rattle.sap_terms.specs.Choice.{Choice, instance, instances}
use Rattle.sap_terms.specs.declared.fact.Fact.{Fact}
use Rattle.sap_terms.specs.Message.{IsMessageChoice}
use Rattle.sap_terms.specs.Modulo.{instance_fact, IsEqualFact, IsFormOfFact}
use Rattle.sap_rewrite.specs.Laws.{NormalTermsDecide}
use Rattle.sap_translate.specs.Members.{Member, here, later}
use Rattle.sap_translate.specs.Scoped.{Within, EachWithin}

-- both choices give each of these variables the same
pub data Agree (σ τ : Choice) : List Var → Type 0 where
  on_none : Agree σ τ []
  on_more : {v : Var} {vs : List Var} → τ v ≡ σ v → Agree σ τ vs → Agree σ τ (v ∷ vs)

pub agree_on : (σ τ : Choice) (vs : List Var) (v : Var) → Agree σ τ vs → Member v vs → τ v ≡ σ v
agree_on σ τ _ v on_none i = elim i [ ]
agree_on σ τ _ v (on_more e a) here = e
agree_on σ τ _ v (on_more e a) (later i) = agree_on σ τ _ v a i

-- so instances of what is in scope are the same
mutual
  pub instance_agrees : (σ τ : Choice) (vs : List Var) (t : Tree) → Agree σ τ vs → Within vs t → instance τ t ≡ instance σ t
  instance_agrees σ τ vs (variable v) a w = agree_on σ τ vs v a w
  instance_agrees σ τ vs (public n) a w = refl
  instance_agrees σ τ vs (fresh k) a w = refl
  instance_agrees σ τ vs (apply f ts) a w = ap (apply f) (instances_agree σ τ vs ts a w)

  pub instances_agree : (σ τ : Choice) (vs : List Var) (ts : Trees) → Agree σ τ vs → EachWithin vs ts → instances τ ts ≡ instances σ ts
  instances_agree σ τ vs none a w = refl
  instances_agree σ τ vs (more t ts) a w =
      let x = instance_agrees σ τ vs t a w.0 in
      let y = instances_agree σ τ vs ts a w.1 in
      λ i. more (x i) (y i)

module _ (decide : NormalTermsDecide) (g : Sig) (σ τ : Choice) (m : IsMessageChoice g σ) (n : IsMessageChoice g τ) where
  args_agree : (vs : List Var) (ts : List Tree) → AllZip (IsNormalForm (equations g)) (map (instance σ) (map variable vs)) ts
      → AllZip (IsTheoryEqual (equations g)) (map (instance τ) (map variable vs)) ts → Agree σ τ vs
  args_agree [] ts f e = on_none
  args_agree (v ∷ vs) [] f e = absurd f
  args_agree (v ∷ vs) (a ∷ ts) f e =
      let here : τ v ≡ a = (decide (equations g) (τ v) a (n v).normal f.0.normal).0 e.0 in
      let there : σ v ≡ a = (decide (equations g) (σ v) a (m v).normal f.0.normal).0 f.0.equal in
      on_more (here ∙ sym there) (args_agree vs ts f.1 e.1)

  -- the state fact was added under the one choice, and is taken under the other
  pub choices-agree : (f h : Fact) (vs : List Var) → f.args ≡ map variable vs → IsFormOfFact (equations g) (instance_fact σ f) h → IsEqualFact (equations g) (instance_fact τ f) h → Agree σ τ vs
  choices-agree f h vs e a b =
      args_agree vs h.args (subst (λ ts. AllZip (IsNormalForm (equations g)) (map (instance σ) ts) h.args) e a.args)
      (subst (λ ts. AllZip (IsTheoryEqual (equations g)) (map (instance τ) ts) h.args) e b.args)
