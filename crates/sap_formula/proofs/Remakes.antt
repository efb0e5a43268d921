-- What is made of a formula anew, as the definitions say it.
use Rattle.std.proofs.Common.{◌≡◌, List, [], ◌∷◌, refl, ap, ap₂, map}
use Rattle.sap_formula.specs.Checked.{enter}
use Rattle.sap_formula.specs.Form.{Form, action, both, earlier, either, equal, equivalent, every, exists, falsity, implies, negation, same_time, truth}
use Rattle.sap_formula.specs.Sorted.{by_binder, with_sorts}
use Rattle.sap_formula.specs.code.Remade.{remade}
use Rattle.sap_formula.specs.declared.binder.Binder.{Binder}
use Rattle.sap_formula.specs.declared.remaking.How.TheVariants.{Same, Sorted}
use Rattle.sap_terms.specs.Choice.{instance, instances}
use Rattle.sap_terms.specs.Modulo.{instance_fact}
use Rattle.sap_terms.specs.Tree.{Tree, Trees, apply, fresh, more, none, public, variable}
use Rattle.sap_terms.specs.declared.fact.Fact.{Fact}

mutual
  same_term : (t : Tree) → instance (by_binder []) t ≡ t
  same_term (variable v) = refl
  same_term (public n) = refl
  same_term (fresh k) = refl
  same_term (apply f ts) = ap (apply f) (same_terms ts)

  same_terms : (ts : Trees) → instances (by_binder []) ts ≡ ts
  same_terms none = refl
  same_terms (more t ts) = ap₂ more (same_term t) (same_terms ts)

same_list : (ts : List Tree) → map (instance (by_binder [])) ts ≡ ts
same_list [] = refl
same_list (t ∷ ts) = ap₂ (λ u us. u ∷ us) (same_term t) (same_list ts)

same_fact : (f : Fact) → instance_fact (by_binder []) f ≡ f
same_fact f = ap (λ ts. record f { args = ts }) (same_list f.args)

pub remade-same : (f : Form) → remade Same [] f ≡ f
remade-same truth = refl
remade-same falsity = refl
remade-same (action f i) = ap (λ h. action h i) (same_fact f)
remade-same (equal s t) = ap₂ equal (same_term s) (same_term t)
remade-same (same_time i j) = refl
remade-same (earlier i j) = refl
remade-same (negation f) = ap negation (remade-same f)
remade-same (both f g) = ap₂ both (remade-same f) (remade-same g)
remade-same (either f g) = ap₂ either (remade-same f) (remade-same g)
remade-same (implies f g) = ap₂ implies (remade-same f) (remade-same g)
remade-same (equivalent f g) = ap₂ equivalent (remade-same f) (remade-same g)
remade-same (every bs f) = ap (every bs) (remade-same f)
remade-same (exists bs f) = ap (exists bs) (remade-same f)

pub remade-sorted : (scope : List Binder) (f : Form) → remade Sorted scope f ≡ with_sorts scope f
remade-sorted scope truth = refl
remade-sorted scope falsity = refl
remade-sorted scope (action f i) = refl
remade-sorted scope (equal s t) = refl
remade-sorted scope (same_time i j) = refl
remade-sorted scope (earlier i j) = refl
remade-sorted scope (negation f) = ap negation (remade-sorted scope f)
remade-sorted scope (both f g) = ap₂ both (remade-sorted scope f) (remade-sorted scope g)
remade-sorted scope (either f g) = ap₂ either (remade-sorted scope f) (remade-sorted scope g)
remade-sorted scope (implies f g) = ap₂ implies (remade-sorted scope f) (remade-sorted scope g)
remade-sorted scope (equivalent f g) = ap₂ equivalent (remade-sorted scope f) (remade-sorted scope g)
remade-sorted scope (every bs f) = ap (every bs) (remade-sorted (enter bs scope) f)
remade-sorted scope (exists bs f) = ap (exists bs) (remade-sorted (enter bs scope) f)

pub ruleset remade_laws = (remade-same, remade-sorted)
