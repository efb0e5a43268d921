-- Matching around the subterms that a destructor heads, which no match can look into.
use Rattle.std.specs.Prelude.{◌≡◌, ◌↔◌, ◌⊎◌, true, false, List, [], ◌∷◌, ◌++◌, if◌then◌else◌, Contains, IsTrue}
use Rattle.sap_terms.specs.declared.var.Var.{Var}
use Rattle.sap_terms.specs.declared.binding.Binding.{Binding}
use Rattle.sap_terms.specs.declared.var.Sort.TheVariants.{Msg}
use Rattle.sap_terms.specs.Choice.{Choice, IsSorted, fits_sort, instance}
use Rattle.sap_terms.specs.Equal.{IsTheoryEqual}
use Rattle.sap_terms.specs.Message.{IsMessage}
use Rattle.sap_terms.specs.Normal.{IsNormal}
use Rattle.sap_terms.specs.Signature.{Sig, is_destructor_of}
use Rattle.sap_terms.specs.Equations.{equations}
use Rattle.sap_terms.specs.Tree.{Tree, variable, public, fresh, apply, Trees, none, more}
use Rattle.sap_rewrite.specs.Match.{Extends, Agrees, HaveOneSort, bound_vars}
use Rattle.sap_rewrite.specs.Pattern.{IsNormalChoice}

abbrev mutual
  -- each occurrence of a variable outside the subterms that a destructor heads, from the left
  pub outer_vars : Sig → Tree → List Var
  outer_vars g (variable v) = v ∷ []
  outer_vars g (public n) = []
  outer_vars g (fresh k) = []
  outer_vars g (apply f ts) = if is_destructor_of g f then [] else all_outer_vars g ts

  -- those of these trees, one tree after another
  pub all_outer_vars : Sig → Trees → List Var
  all_outer_vars g none = []
  all_outer_vars g (more t ts) = outer_vars g t ++ all_outer_vars g ts

abbrev mutual
  -- the pattern's instance is the tree, but for what stands where a destructor heads a subterm of the pattern
  pub FitsAround : Sig → Choice → Tree → Tree → Type 0
  FitsAround g σ (variable v) t = σ v ≡ t
  FitsAround g σ (public n) t = public n ≡ t
  FitsAround g σ (fresh k) t = fresh k ≡ t
  FitsAround g σ (apply f ps) t = (is_destructor_of g f ≡ true)
      ⊎ ((ts : Trees) × (t ≡ apply f ts) × FitAll g σ ps ts)

  -- so it is with these, one by one
  pub FitAll : Sig → Choice → Trees → Trees → Type 0
  FitAll g σ none none = Unit {0}
  FitAll g σ (more p ps) (more t ts) = FitsAround g σ p t × FitAll g σ ps ts
  FitAll g σ _ _ = ⊥

abbrev mutual
  -- where a destructor heads a subterm of the pattern, its instance is theory-equal to what stands there in the tree
  pub HoldsUnder : Sig → Choice → Tree → Tree → Type 0
  HoldsUnder g σ (variable v) t = Unit {0}
  HoldsUnder g σ (public n) t = Unit {0}
  HoldsUnder g σ (fresh k) t = Unit {0}
  HoldsUnder g σ (apply f ps) t =
      (is_destructor_of g f ≡ true → IsTheoryEqual (equations g) (instance σ (apply f ps)) t)
      × (is_destructor_of g f ≡ false → (ts : Trees) → t ≡ apply f ts → HoldAll g σ ps ts)

  -- so it is with these, one by one
  pub HoldAll : Sig → Choice → Trees → Trees → Type 0
  HoldAll g σ (more p ps) (more t ts) = HoldsUnder g σ p t × HoldAll g σ ps ts
  HoldAll g σ _ _ = Unit {0}

-- c is b and then terms for the pattern's variables outside; what agrees with c fits, and what is sorted, agrees with b
-- and fits agrees with c, if no name has two sorts
pub record IsOnlyFit (g : Sig) (p t : Tree) (b c : List Binding) : Type 0 where
  pub extends : Extends b (outer_vars g p) c
  pub fits : HaveOneSort (bound_vars b ++ outer_vars g p) → (σ : Choice) → Agrees c σ
      → FitsAround g σ p t
  pub only : HaveOneSort (bound_vars b ++ outer_vars g p) → (σ : Choice) → IsSorted σ → Agrees b σ
      → FitsAround g σ p t → Agrees c σ

-- nothing that is sorted and agrees with b fits, if no name has two sorts
abbrev pub HasNoFit : Sig → Tree → Tree → List Binding → Type 0
HasNoFit g p t b =
    HaveOneSort (bound_vars b ++ outer_vars g p) → (σ : Choice) → IsSorted σ → Agrees b σ
    → FitsAround g σ p t → ⊥

-- under a normal substitution the instance of a pattern is theory-equal to a normal term exactly where it fits around the
-- destructors and each of these holds
abbrev pub MatchingAroundIsModulo : Type 0
MatchingAroundIsModulo =
    (g : Sig) (σ : Choice) (p t : Tree) → IsNormalChoice (equations g) σ → IsNormal (equations g) t
    → IsTheoryEqual (equations g) (instance σ p) t ↔ (FitsAround g σ p t × HoldsUnder g σ p t)

-- what a choice that fits gives an outer variable is a message, where the tree is one and the variable's sort allows it
abbrev pub FittingGivesMessages : Type 0
FittingGivesMessages =
    (g : Sig) (σ : Choice) (p t : Tree) → FitsAround g σ p t → IsMessage g Msg t → (v : Var)
    → Contains (outer_vars g p) v → IsTrue (fits_sort v.sort (σ v)) → IsMessage g v.sort (σ v)
