-- Checked formulas.
use Rattle.std.specs.Prelude.{◌≡◌, ℕ, ◌⊎◌, List, [], ◌∷◌, length, false, Option, Some, None, if◌then◌else◌}
use Rattle.std.specs.Str.{bytes_eq}
use Rattle.sap_formula.specs.Form.{Form, action, both, earlier, either, equal, equivalent, every, exists, falsity, implies, negation, same_time, truth}
use Rattle.sap_formula.specs.Truth.{EachIn}
use Rattle.sap_formula.specs.declared.binder.Binder.{Binder}
use Rattle.sap_formula.specs.declared.binder.Binder.TheVariants.{Message, Time}
use Rattle.sap_terms.specs.Signature.{Sig, arity_of, is_destructor_of}
use Rattle.sap_terms.specs.Tree.{Tree, Trees, apply, fresh, list_of, more, none, public, trees_of, variable}

-- the name that a binder binds
abbrev pub binder_name : Binder → List ℕ
binder_name (Message v) = v.name
binder_name (Time n) = n

-- the binders round a part of a formula, the innermost first
abbrev pub enter : List Binder → List Binder → List Binder
enter [] scope = scope
enter (b ∷ bs) scope = enter bs (b ∷ scope)

-- the innermost binder of a name
abbrev pub find_binder : List Binder → List ℕ → Option Binder
find_binder [] n = None
find_binder (b ∷ bs) n = if bytes_eq (binder_name b) n then Some b else find_binder bs n

abbrev mutual
  -- held symbols, no destructor, and each variable is its innermost binder's
  pub IsCheckedTerm : Sig → List Binder → Tree → Type 0
  IsCheckedTerm g scope (variable v) = find_binder scope v.name ≡ Some (Message v)
  IsCheckedTerm g scope (public n) = Unit {0}
  IsCheckedTerm g scope (fresh k) = Unit {0}
  IsCheckedTerm g scope (apply f ts) =
      (arity_of g f ≡ Some (length (list_of ts))) × (is_destructor_of g f ≡ false)
      × AreCheckedTerms g scope ts

  -- and so are these, one by one
  pub AreCheckedTerms : Sig → List Binder → Trees → Type 0
  AreCheckedTerms g scope none = Unit {0}
  AreCheckedTerms g scope (more t ts) = IsCheckedTerm g scope t × AreCheckedTerms g scope ts

abbrev mutual
  -- a variable of this name stands in the term
  pub StandsIn : List ℕ → Tree → Type 0
  StandsIn n (variable v) = v.name ≡ n
  StandsIn n (public m) = ⊥
  StandsIn n (fresh k) = ⊥
  StandsIn n (apply f ts) = StandsInAny n ts

  -- in one of these
  pub StandsInAny : List ℕ → Trees → Type 0
  StandsInAny n none = ⊥
  StandsInAny n (more t ts) = StandsIn n t ⊎ StandsInAny n ts

-- a variable of this name stands in an action atom among the conjuncts
abbrev pub StandsInAtom : List ℕ → Form → Type 0
StandsInAtom n (both f g) = StandsInAtom n f ⊎ StandsInAtom n g
StandsInAtom n (action f i) = (i ≡ n) ⊎ StandsInAny n (trees_of f.args)
StandsInAtom n truth = ⊥
StandsInAtom n falsity = ⊥
StandsInAtom n (equal s t) = ⊥
StandsInAtom n (same_time i j) = ⊥
StandsInAtom n (earlier i j) = ⊥
StandsInAtom n (negation f) = ⊥
StandsInAtom n (either f g) = ⊥
StandsInAtom n (implies f g) = ⊥
StandsInAtom n (equivalent f g) = ⊥
StandsInAtom n (every bs f) = ⊥
StandsInAtom n (exists bs f) = ⊥

-- where the guards of an `All` are looked for
abbrev pub premise : Form → Form
premise (implies f g) = f
premise truth = truth
premise falsity = truth
premise (action f i) = truth
premise (equal s t) = truth
premise (same_time i j) = truth
premise (earlier i j) = truth
premise (negation f) = truth
premise (both f g) = truth
premise (either f g) = truth
premise (equivalent f g) = truth
premise (every bs f) = truth
premise (exists bs f) = truth

-- each of these binders stands in an action atom among the conjuncts
abbrev pub AreGuarded : List Binder → Form → Type 0
AreGuarded bs f = EachIn (λ b. StandsInAtom (binder_name b) f) bs

-- none of the five faults is anywhere; V is what names of facts are allowed
abbrev pub IsChecked : Sig → (List ℕ → Type 0) → List Binder → Form → Type 0
IsChecked g V scope truth = Unit {0}
IsChecked g V scope falsity = Unit {0}
IsChecked g V scope (action f i) = V f.name × AreCheckedTerms g scope (trees_of f.args)
    × (find_binder scope i ≡ Some (Time i))
IsChecked g V scope (equal s t) = IsCheckedTerm g scope s × IsCheckedTerm g scope t
IsChecked g V scope (same_time i j) = (find_binder scope i ≡ Some (Time i))
    × (find_binder scope j ≡ Some (Time j))
IsChecked g V scope (earlier i j) = (find_binder scope i ≡ Some (Time i))
    × (find_binder scope j ≡ Some (Time j))
IsChecked g V scope (negation f) = IsChecked g V scope f
IsChecked g V scope (both f h) = IsChecked g V scope f × IsChecked g V scope h
IsChecked g V scope (either f h) = IsChecked g V scope f × IsChecked g V scope h
IsChecked g V scope (implies f h) = IsChecked g V scope f × IsChecked g V scope h
IsChecked g V scope (equivalent f h) = IsChecked g V scope f × IsChecked g V scope h
IsChecked g V scope (every bs f) = AreGuarded bs (premise f) × IsChecked g V (enter bs scope) f
IsChecked g V scope (exists bs f) = AreGuarded bs f × IsChecked g V (enter bs scope) f

-- none of these binds the name
abbrev pub IsApart : List Binder → List ℕ → Type 0
IsApart bs n = EachIn (λ c. binder_name c ≡ n → ⊥) bs

-- no name stands twice
abbrev pub NoTwice : List Binder → Type 0
NoTwice [] = Unit {0}
NoTwice (b ∷ bs) = IsApart bs (binder_name b) × NoTwice bs

-- no quantifier binds one name twice
abbrev pub BindsOnce : Form → Type 0
BindsOnce truth = Unit {0}
BindsOnce falsity = Unit {0}
BindsOnce (action f i) = Unit {0}
BindsOnce (equal s t) = Unit {0}
BindsOnce (same_time i j) = Unit {0}
BindsOnce (earlier i j) = Unit {0}
BindsOnce (negation f) = BindsOnce f
BindsOnce (both f g) = BindsOnce f × BindsOnce g
BindsOnce (either f g) = BindsOnce f × BindsOnce g
BindsOnce (implies f g) = BindsOnce f × BindsOnce g
BindsOnce (equivalent f g) = BindsOnce f × BindsOnce g
BindsOnce (every bs f) = NoTwice bs × BindsOnce f
BindsOnce (exists bs f) = NoTwice bs × BindsOnce f
