-- What a walk does that skips the subterms of the pattern which some symbols head.
use Rattle.std.proofs.Common.{◌≡◌, ℕ, Bool, true, List, [], ◌∷◌, ◌++◌, None, Some, ◌⊎◌, inl, inr, refl, sym, ap, subst, ◌∙◌}
use Rattle.std.specs.Prelude.{if◌then◌else◌}
use Rattle.sap_terms.specs.declared.var.Var.{Var}
use Rattle.sap_terms.specs.Choice.{Choice, instance, instances}
use Rattle.sap_terms.specs.Signature.{Sig, is_destructor_of}
use Rattle.sap_terms.specs.Tree.{Tree, variable, public, fresh, apply, Trees, none, more}
use Rattle.sap_terms.specs.Variables.{tree_vars, trees_vars}
use Rattle.sap_rewrite.specs.Around.{outer_vars, all_outer_vars, FitsAround, FitAll}
use Rattle.sap_rewrite.specs.code.Walk.{skipped}

abbrev mutual
  -- each occurrence of a variable outside what is skipped, from the left
  pub met_vars : (List ℕ → Bool) → Tree → List Var
  met_vars s (variable v) = v ∷ []
  met_vars s (public n) = []
  met_vars s (fresh k) = []
  met_vars s (apply f ts) = if s f then [] else all_met_vars s ts

  pub all_met_vars : (List ℕ → Bool) → Trees → List Var
  all_met_vars s none = []
  all_met_vars s (more t ts) = met_vars s t ++ all_met_vars s ts

abbrev mutual
  -- the pattern's instance is the tree, but for what is skipped
  pub FitsBut : (List ℕ → Bool) → Choice → Tree → Tree → Type 0
  FitsBut s σ (variable v) t = σ v ≡ t
  FitsBut s σ (public n) t = public n ≡ t
  FitsBut s σ (fresh k) t = fresh k ≡ t
  FitsBut s σ (apply f ps) t = (s f ≡ true) ⊎ ((ts : Trees) × (t ≡ apply f ts) × AllFitBut s σ ps ts)

  pub AllFitBut : (List ℕ → Bool) → Choice → Trees → Trees → Type 0
  AllFitBut s σ none none = Unit {0}
  AllFitBut s σ (more p ps) (more t ts) = FitsBut s σ p t × AllFitBut s σ ps ts
  AllFitBut s σ _ _ = ⊥

-- where nothing is skipped, all variables are met
mutual
  pub met-all : (t : Tree) → met_vars (skipped None) t ≡ tree_vars t
  met-all (variable v) = refl
  met-all (public n) = refl
  met-all (fresh k) = refl
  met-all (apply f ts) = all_met-all ts

  all_met-all : (ts : Trees) → all_met_vars (skipped None) ts ≡ trees_vars ts
  all_met-all none = refl
  all_met-all (more t ts) = λ i. met-all t i ++ all_met-all ts i

-- and the instance is the tree
mutual
  pub fits-instance : (σ : Choice) (p t : Tree) → FitsBut (skipped None) σ p t → instance σ p ≡ t
  fits-instance σ (variable v) t h = h
  fits-instance σ (public n) t h = h
  fits-instance σ (fresh k) t h = h
  fits-instance σ (apply f ps) t (inl h) = cc
  fits-instance σ (apply f ps) t (inr h) = ap (apply f) (fit-instances σ ps h.0 h.2) ∙ sym h.1

  fit-instances : (σ : Choice) (ps ts : Trees) → AllFitBut (skipped None) σ ps ts → instances σ ps ≡ ts
  fit-instances σ none none h = refl
  fit-instances σ (more p ps) (more t ts) h = λ i. more (fits-instance σ p t h.0 i) (fit-instances σ ps ts h.1 i)
  fit-instances σ none (more t ts) h = absurd h
  fit-instances σ (more p ps) none h = absurd h

mutual
  instance-fits_itself : (σ : Choice) (p : Tree) → FitsBut (skipped None) σ p (instance σ p)
  instance-fits_itself σ (variable v) = refl
  instance-fits_itself σ (public n) = refl
  instance-fits_itself σ (fresh k) = refl
  instance-fits_itself σ (apply f ps) = inr (instances σ ps, refl, instances-fit_themselves σ ps)

  instances-fit_themselves : (σ : Choice) (ps : Trees) → AllFitBut (skipped None) σ ps (instances σ ps)
  instances-fit_themselves σ none = tt
  instances-fit_themselves σ (more p ps) = (instance-fits_itself σ p, instances-fit_themselves σ ps)

pub instance-fits : (σ : Choice) (p t : Tree) → instance σ p ≡ t → FitsBut (skipped None) σ p t
instance-fits σ p t h = subst (λ u. FitsBut (skipped None) σ p u) h (instance-fits_itself σ p)

-- where the signature's destructors are skipped, the outer variables are met
mutual
  pub met-outer : (g : Sig) (t : Tree) → met_vars (skipped (Some g)) t ≡ outer_vars g t
  met-outer g (variable v) = refl
  met-outer g (public n) = refl
  met-outer g (fresh k) = refl
  met-outer g (apply f ts) = ap (λ vs. if is_destructor_of g f then [] else vs) (all_met-outer g ts)

  all_met-outer : (g : Sig) (ts : Trees) → all_met_vars (skipped (Some g)) ts ≡ all_outer_vars g ts
  all_met-outer g none = refl
  all_met-outer g (more t ts) = λ i. met-outer g t i ++ all_met-outer g ts i

-- and what fits but for what is skipped fits
mutual
  pub fits-around : (g : Sig) (σ : Choice) (p t : Tree) → FitsBut (skipped (Some g)) σ p t → FitsAround g σ p t
  fits-around g σ (variable v) t h = h
  fits-around g σ (public n) t h = h
  fits-around g σ (fresh k) t h = h
  fits-around g σ (apply f ps) t (inl h) = inl h
  fits-around g σ (apply f ps) t (inr h) = inr (h.0, h.1, fit-around g σ ps h.0 h.2)

  fit-around : (g : Sig) (σ : Choice) (ps ts : Trees) → AllFitBut (skipped (Some g)) σ ps ts → FitAll g σ ps ts
  fit-around g σ none none h = tt
  fit-around g σ (more p ps) (more t ts) h = (fits-around g σ p t h.0, fit-around g σ ps ts h.1)
  fit-around g σ none (more t ts) h = absurd h
  fit-around g σ (more p ps) none h = absurd h

mutual
  pub around-fits : (g : Sig) (σ : Choice) (p t : Tree) → FitsAround g σ p t → FitsBut (skipped (Some g)) σ p t
  around-fits g σ (variable v) t h = h
  around-fits g σ (public n) t h = h
  around-fits g σ (fresh k) t h = h
  around-fits g σ (apply f ps) t (inl h) = inl h
  around-fits g σ (apply f ps) t (inr h) = inr (h.0, h.1, around-fit g σ ps h.0 h.2)

  around-fit : (g : Sig) (σ : Choice) (ps ts : Trees) → FitAll g σ ps ts → AllFitBut (skipped (Some g)) σ ps ts
  around-fit g σ none none h = tt
  around-fit g σ (more p ps) (more t ts) h = (around-fits g σ p t h.0, around-fit g σ ps ts h.1)
  around-fit g σ none (more t ts) h = absurd h
  around-fit g σ (more p ps) none h = absurd h
