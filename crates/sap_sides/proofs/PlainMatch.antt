-- A match of a pattern without destructors is what fits around destructors.
use Rattle.std.proofs.Common.{◌≡◌, ◌++◌, ℕ, zero, suc, Some, List, [], ◌∷◌, inl, inr, refl, sym, subst, ◌∙◌}
use Rattle.std.specs.Prelude.{slice_get}
use Rattle.std.proofs.lemmas.Bool.{cases_Bool}
use Rattle.std.proofs.lemmas.List.Elements.{Contains-append_right}
use Rattle.sap_terms.specs.Choice.{Choice, instance, instances}
use Rattle.sap_terms.specs.Destructors.{HasDestructor, AnyHasDestructor}
use Rattle.sap_terms.specs.Signature.{Sig, is_destructor_of}
use Rattle.sap_terms.specs.Tree.{Tree, variable, public, fresh, apply, Trees, none, more, trees_of}
use Rattle.sap_terms.specs.Variables.{tree_vars, trees_vars}
use Rattle.sap_terms.specs.declared.binding.Binding.{Binding}
use Rattle.sap_terms.specs.declared.var.Var.{Var}
use Rattle.sap_rewrite.specs.Around.{FitsAround, FitAll, outer_vars, all_outer_vars, IsOnlyFit, HasNoFit}
use Rattle.sap_rewrite.specs.Bound.{AgreeingSubstitutes}
use Rattle.sap_rewrite.specs.Match.{Extends, HaveOneSort, bound_vars, IsOnlyMatch, HasNoMatch}
use Rattle.sap_sides.proofs.Plain.{plain_fits}

mutual
  -- all variables stand outside destructors
  outer_all : (g : Sig) (p : Tree) → (HasDestructor g p → ⊥) → outer_vars g p ≡ tree_vars p
  outer_all g (variable v) n = refl
  outer_all g (public m) n = refl
  outer_all g (fresh k) n = refl
  outer_all g (apply f ps) n = elim (cases_Bool (is_destructor_of g f)) as (λ _. outer_vars g (apply f ps) ≡ trees_vars ps) [
    | inl d ↦ absurd (n (inl d))
    | inr not ↦ rw not (outer_all_within g ps (λ h. n (inr h)))
  ]

  outer_all_within : (g : Sig) (ps : Trees) → (AnyHasDestructor g ps → ⊥) → all_outer_vars g ps ≡ trees_vars ps
  outer_all_within g none n = refl
  outer_all_within g (more p ps) n =
      let first = outer_all g p (λ h. n (inl h)) in
      let rest = outer_all_within g ps (λ h. n (inr h)) in
      λ i. first i ++ rest i

mutual
  -- a pattern fits its instance
  fits_instance : (g : Sig) (σ : Choice) (p : Tree) → FitsAround g σ p (instance σ p)
  fits_instance g σ (variable v) = refl
  fits_instance g σ (public m) = refl
  fits_instance g σ (fresh k) = refl
  fits_instance g σ (apply f ps) = inr (instances σ ps, refl, fit_instances g σ ps)

  fit_instances : (g : Sig) (σ : Choice) (ps : Trees) → FitAll g σ ps (instances σ ps)
  fit_instances g σ none = tt
  fit_instances g σ (more p ps) = (fits_instance g σ p, fit_instances g σ ps)

pub match_fits : AgreeingSubstitutes → (g : Sig) (p t : Tree) (b c : List Binding) → (HasDestructor g p → ⊥) → IsOnlyMatch p t b c → IsOnlyFit g p t b c
match_fits law g p t b c n m =
    let e = outer_all g p n in
    record {
      extends = subst (λ (vs : List Var). Extends b vs c) (sym e) m.is_match.extends;
      fits = λ one σ a.
          let sorts = subst (λ (vs : List Var). HaveOneSort (bound_vars b ++ vs)) e one in
          let is : instance σ p ≡ t = sym (law b c (tree_vars p) m.is_match.extends sorts σ a p (λ v k. Contains-append_right (bound_vars b) (tree_vars p) v k)) ∙ m.is_match.turns in
          subst (FitsAround g σ p) is (fits_instance g σ p);
      only = λ one σ s a f. m.of_all (subst (λ (vs : List Var). HaveOneSort (bound_vars b ++ vs)) e one) σ (record { sorted = s; agrees = a; is = plain_fits g σ p t n f });
    }

pub no_match_fits_none : (g : Sig) (p t : Tree) (b : List Binding) → (HasDestructor g p → ⊥) → HasNoMatch p t b → HasNoFit g p t b
no_match_fits_none g p t b n m = λ one σ s a f.
    m.of_none (subst (λ (vs : List Var). HaveOneSort (bound_vars b ++ vs)) (outer_all g p n) one) σ (record { sorted = s; agrees = a; is = plain_fits g σ p t n f })

-- none stands in one of patterns without destructors
pub none_at : (g : Sig) (ps : List Tree) (k : ℕ) (p : Tree) → (AnyHasDestructor g (trees_of ps) → ⊥) → slice_get ps k ≡ Some p → HasDestructor g p → ⊥
none_at g [] k p n h d = cc
none_at g (q ∷ qs) zero p n h d = let e : q ≡ p = cc in n (inl (subst (HasDestructor g) (sym e) d))
none_at g (q ∷ qs) (suc k) p n h d = none_at g qs k p (λ a. n (inr a)) h d
