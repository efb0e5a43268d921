-- In a term without destructors each variable stands outside them.
use Rattle.std.proofs.Common.{◌≡◌, List, [], ◌∷◌, ◌++◌, refl, ap, ◌∙◌, inl, inr, Bool, true, false, cond, map}
use Rattle.sap_terms.specs.Destructors.{HasDestructor, AnyHasDestructor}
use Rattle.sap_terms.specs.Signature.{Sig, is_destructor_of}
use Rattle.sap_terms.specs.Tree.{Tree, variable, public, fresh, apply, Trees, none, more, trees_of}
use Rattle.sap_terms.specs.Variables.{tree_vars, trees_vars, facts_vars}
use Rattle.sap_terms.specs.declared.fact.Fact.{Fact}
use Rattle.sap_terms.specs.declared.var.Var.{Var}
use Rattle.sap_rewrite.specs.Around.{outer_vars, all_outer_vars}
use Rattle.sap_process.specs.Heads.{facts_terms}
use Rattle.sap_rule.specs.Variables.{facts_outer_vars}
use Rattle.sap_translate.specs.Members.{Member}
use Rattle.sap_translate.proofs.Shared.Lookups.{member_left, member_right}

not_true : (b : Bool) → (b ≡ true → ⊥) → b ≡ false
not_true true h = absurd (h refl)
not_true false h = refl

mutual
  pub outer_all : (g : Sig) (t : Tree) → (HasDestructor g t → ⊥) → outer_vars g t ≡ tree_vars t
  outer_all g (variable v) plain = refl
  outer_all g (public n) plain = refl
  outer_all g (fresh k) plain = refl
  outer_all g (apply f ts) plain =
      ap (λ b. cond b [] (all_outer_vars g ts)) (not_true (is_destructor_of g f) (λ e. plain (inl e)))
      ∙ all_outer_all g ts (λ h. plain (inr h))

  all_outer_all : (g : Sig) (ts : Trees) → (AnyHasDestructor g ts → ⊥) → all_outer_vars g ts ≡ trees_vars ts
  all_outer_all g none plain = refl
  all_outer_all g (more t ts) plain = λ i. outer_all g t (λ h. plain (inl h)) i ++ all_outer_all g ts (λ h. plain (inr h)) i

-- none of these has one
abbrev pub ArePlain : Sig → List Tree → Type 0
ArePlain g ts = (t : Tree) → Member t ts → HasDestructor g t → ⊥

list_outer : (g : Sig) (ts : List Tree) → ArePlain g ts → all_outer_vars g (trees_of ts) ≡ trees_vars (trees_of ts)
list_outer g [] plain = refl
list_outer g (t ∷ ts) plain = λ i. outer_all g t (plain t Member.here) i ++ list_outer g ts (λ u m. plain u (Member.later m)) i

pub facts_outer : (g : Sig) (fs : List Fact) → ArePlain g (facts_terms fs) → facts_outer_vars g fs ≡ facts_vars fs
facts_outer g [] plain = refl
facts_outer g (f ∷ fs) plain =
    λ i. list_outer g f.args (λ t m. plain t (member_left (facts_terms fs) m)) i ++ facts_outer g fs (λ t m. plain t (member_right f.args m)) i

-- the variables in scope as arguments
pub scope_outer : (g : Sig) (v : List Var) → all_outer_vars g (trees_of (map variable v)) ≡ v
scope_outer g [] = refl
scope_outer g (x ∷ v) = ap (λ w. x ∷ w) (scope_outer g v)

pub tagged_outer : (g : Sig) (v : List Var) (z : Var) → all_outer_vars g (trees_of (map variable v ++ variable z ∷ [])) ≡ v ++ z ∷ []
tagged_outer g [] z = refl
tagged_outer g (x ∷ v) z = ap (λ w. x ∷ w) (tagged_outer g v z)
