-- The normal form of a ground term is ground: what is put for a variable of it gives it again, since normal forms are unique.
use Rattle.std.proofs.Common.{◌≡◌, ℕ, List, [], ◌∷◌, length, refl, ap, subst, arith}
use Rattle.sap_rewrite.specs.Laws.{FormIsOne, EqualityIsKept}
use Rattle.sap_terms.specs.Choice.{Choice, instance, instances}
use Rattle.sap_terms.specs.Equations.{Equations, IsInstance, first, second, symmetric, asymmetric, signing, revealing, revealed}
use Rattle.sap_terms.specs.Equal.{IsTheoryEqual}
use Rattle.sap_terms.specs.Ground.{IsGround, AreGround}
use Rattle.sap_terms.specs.Normal.{IsNormal, AreNormal, IsNoLeftSide, IsNormalForm}
use Rattle.sap_terms.specs.Tree.{Tree, variable, public, fresh, apply, Trees, none, more}
use Rattle.sap_macro.specs.UpToNames.{named}

mutual
  pub ground_stays : (σ : Choice) (t : Tree) → IsGround t → instance σ t ≡ t
  ground_stays σ (variable v) g = absurd g
  ground_stays σ (public n) g = refl
  ground_stays σ (fresh k) g = refl
  ground_stays σ (apply f ts) g = ap (apply f) (all_stay σ ts g)

  all_stay : (σ : Choice) (ts : Trees) → AreGround ts → instances σ ts ≡ ts
  all_stay σ none g = refl
  all_stay σ (more t ts) g = λ i. more (ground_stays σ t g.0 i) (all_stay σ ts g.1 i)

-- each variable with a name that is longer by one byte, and back
abbrev longer : Choice
longer v = variable (named (0 ∷ v.name) v.sort)

abbrev tail : List ℕ → List ℕ
tail [] = []
tail (x ∷ xs) = xs

abbrev shorter : Choice
shorter v = variable (named (tail v.name) v.sort)

mutual
  and_back : (t : Tree) → instance shorter (instance longer t) ≡ t
  and_back (variable v) = refl
  and_back (public n) = refl
  and_back (fresh k) = refl
  and_back (apply f ts) = ap (apply f) (all_back ts)

  all_back : (ts : Trees) → instances shorter (instances longer ts) ≡ ts
  all_back none = refl
  all_back (more t ts) = λ i. more (and_back t i) (all_back ts i)

-- instances of both sides of an equation are both sides of it
under : (e : Equations) (σ : Choice) (t r : Tree) → IsInstance e t r → IsInstance e (instance σ t) (instance σ r)
under e σ _ _ first = first
under e σ _ _ second = second
under e σ _ _ (symmetric h) = symmetric h
under e σ _ _ (asymmetric h) = asymmetric h
under e σ _ _ (signing h) = signing h
under e σ _ _ (revealing h) = revealing h
under e σ _ _ (revealed h) = revealed h

no_left_side : (e : Equations) (t : Tree) → IsNoLeftSide e t → IsNoLeftSide e (instance longer t)
no_left_side e t h r i = h (instance shorter r) (subst (λ z. IsInstance e z (instance shorter r)) (and_back t) (under e shorter (instance longer t) r i))

mutual
  stays_normal : (e : Equations) (t : Tree) → IsNormal e t → IsNormal e (instance longer t)
  stays_normal e (variable v) h = no_left_side e (variable v) h
  stays_normal e (public n) h = h
  stays_normal e (fresh k) h = h
  stays_normal e (apply f ts) h = (no_left_side e (apply f ts) h.0, all_normal e ts h.1)

  all_normal : (e : Equations) (ts : Trees) → AreNormal e ts → AreNormal e (instances longer ts)
  all_normal e none h = tt
  all_normal e (more t ts) h = (stays_normal e t h.0, all_normal e ts h.1)

longer_differs : (n : List ℕ) → (0 ∷ n) ≡ n → ⊥
longer_differs n h = let k : length (0 ∷ n) ≡ length n = ap length h in omega (arith, k)

abbrev name_in : Tree → List ℕ
name_in (variable v) = v.name
name_in _ = []

abbrev args_of : Tree → Trees
args_of (apply f ts) = ts
args_of _ = none

abbrev head_of : Trees → Tree
head_of none = fresh 0
head_of (more t ts) = t

abbrev rest_of : Trees → Trees
rest_of none = none
rest_of (more t ts) = ts

mutual
  -- what stays under it has no variable
  no_variable : (t : Tree) → instance longer t ≡ t → IsGround t
  no_variable (variable v) h = longer_differs v.name (ap name_in h)
  no_variable (public n) h = tt
  no_variable (fresh k) h = tt
  no_variable (apply f ts) h = none_in ts (ap args_of h)

  none_in : (ts : Trees) → instances longer ts ≡ ts → AreGround ts
  none_in none h = tt
  none_in (more t ts) h = (no_variable t (ap head_of h), none_in ts (ap rest_of h))

pub form_is_ground : FormIsOne → EqualityIsKept → (e : Equations) (t n : Tree) → IsGround t → IsNormalForm e t n → IsGround n
form_is_ground unique kept e t n g f =
    no_variable n (unique e t (instance longer n) n
    (record { equal = subst (λ z. IsTheoryEqual e z (instance longer n)) (ground_stays longer t g) (kept.of_instances e longer t n f.equal); normal = stays_normal e n f.normal }) f)
