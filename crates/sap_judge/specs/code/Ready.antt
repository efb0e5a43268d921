-- A formula made ready for a trace: variables are slots, in the order in which guards fill them.
use Rattle.std.specs.Prelude.{ℕ, Bool, true, false, ◌+◌, length, List, [], ◌∷◌, ◌++◌, map, Option, Some, None, if◌then◌else◌}
use Rattle.std.specs.List.{list_any, position}
use Rattle.std.specs.Str.{bytes_eq}
use Rattle.sap_formula.specs.Checked.{binder_name, premise}
use Rattle.sap_formula.specs.Form.{Form, action, both, earlier, either, equal, equivalent, every, exists, falsity, implies, negation, same_time, truth}
use Rattle.sap_formula.specs.declared.binder.Binder.{Binder}
use Rattle.sap_judge.specs.declared.extent.Extent.{Extent}
use Rattle.sap_judge.specs.declared.extent.Extent.TheVariants.{Whole, Body, Rest}
use Rattle.sap_judge.specs.Guards.{Action, guards, sights}
use Rattle.sap_match.specs.Atoms.{Atom}
use Rattle.sap_search.specs.Plan.{Guard, Plan, alike, always, and_then, at_once, before, equals, if_then, inverse, or_else, search, shows}
use Rattle.sap_terms.specs.Trace.{Trace}
use Rattle.sap_terms.specs.Tree.{Tree, Trees, apply, fresh, more, none, public, trees_of, variable}
use Rattle.sap_terms.specs.declared.fact.Fact.{Fact}

-- the names of the slots, in their order, quantifier by quantifier, the innermost first
abbrev pub Layers : Type 0
Layers = List (List (List ℕ))

-- how many slots there are
abbrev pub slot_count : Layers → ℕ
slot_count [] = 0
slot_count (names ∷ outer) = slot_count outer + length names

-- the slot behind so many others, else another
abbrev pub slot_or : Option ℕ → ℕ → Option ℕ → Option ℕ
slot_or None count other = other
slot_or (Some k) count other = Some (count + k)

-- the slot of a name, in the innermost quantifier that has one
abbrev pub slot_in : Layers → List ℕ → Option ℕ
slot_in [] n = None
slot_in (names ∷ outer) n = slot_or (position (bytes_eq n) names) (slot_count outer) (slot_in outer n)

-- where a quantifier's guards stand: the names that it binds, and the slots outside of it
pub record Place : Type 0 where
  pub bound : List (List ℕ)
  pub outer : Layers

-- the slot of a name there, where these names of the quantifier have slots already; none where it is to get the next
abbrev pub slot_at : Place → List (List ℕ) → List ℕ → Option ℕ
slot_at p seen n = slot_or (position (bytes_eq n) seen) (slot_count p.outer) (if list_any (bytes_eq n) p.bound then None else slot_in p.outer n)

-- for each occurrence of a variable its slot, none where it fills the next one; and the names that have slots then
pub record Marked : Type 0 where
  pub marks : List (Option ℕ)
  pub seen : List (List ℕ)

-- the names that have slots behind an occurrence
abbrev pub noted : Option ℕ → List (List ℕ) → List ℕ → List (List ℕ)
noted None seen n = seen ++ n ∷ []
noted (Some k) seen n = seen

abbrev mutual
  -- from the left
  pub marked : Place → List (List ℕ) → Tree → Marked
  marked p seen (variable v) = record { marks = slot_at p seen v.name ∷ []; seen = noted (slot_at p seen v.name) seen v.name }
  marked p seen (public n) = record { marks = []; seen = seen }
  marked p seen (fresh k) = record { marks = []; seen = seen }
  marked p seen (apply f ts) = marked_all p seen ts

  pub marked_all : Place → List (List ℕ) → Trees → Marked
  marked_all p seen none = record { marks = []; seen = seen }
  marked_all p seen (more t ts) =
      record { marks = (marked p seen t).marks ++ (marked_all p (marked p seen t).seen ts).marks; seen = (marked_all p (marked p seen t).seen ts).seen }

-- an action atom with its slots
abbrev pub atom_of : Place → List (List ℕ) → Action → Atom
atom_of p seen a =
    record { args = trees_of a.pattern.args; marks = (marked_all p seen (trees_of a.pattern.args)).marks; time = slot_at p (marked_all p seen (trees_of a.pattern.args)).seen a.time }

-- the names that have slots behind it
abbrev pub seen_behind : Place → List (List ℕ) → Action → List (List ℕ)
seen_behind p seen a =
    noted (slot_at p (marked_all p seen (trees_of a.pattern.args)).seen a.time) (marked_all p seen (trees_of a.pattern.args)).seen a.time

-- the guards with their slots and facts, one after another
abbrev pub guards_of : Trace → Place → List (List ℕ) → List Action → List Guard
guards_of tr p seen [] = []
guards_of tr p seen (a ∷ rest) = record { atom = atom_of p seen a; facts = sights a.pattern.name tr } ∷ guards_of tr p (seen_behind p seen a) rest

-- the names that have slots behind them
abbrev pub seen_by : Place → List (List ℕ) → List Action → List (List ℕ)
seen_by p seen [] = seen
seen_by p seen (a ∷ rest) = seen_by p (seen_behind p seen a) rest

-- where no quantifier binds anything
abbrev pub inside : Layers → Place
inside layers = record { bound = []; outer = layers }

-- how much of each conjunct is left, and how much of the left of an implication
abbrev pub under_and : Extent → Extent
under_and Whole = Whole
under_and Body = Whole
under_and Rest = Rest

abbrev pub left_of_imp : Extent → Extent
left_of_imp Whole = Whole
left_of_imp Body = Rest
left_of_imp Rest = Whole

-- an action atom, unless it is a guard
abbrev pub unless_guard : Extent → Plan → Plan
unless_guard Whole p = p
unless_guard Body p = p
unless_guard Rest p = always true

-- the names that a quantifier binds, and the slots outside
abbrev pub place_of : List Binder → Layers → Place
place_of bs layers = record { bound = map binder_name bs; outer = layers }

-- the formula made ready, as far as it isn't a quantifier's guards, where these names have slots
abbrev pub ready : Trace → Extent → Layers → Form → Plan
ready tr e layers truth = always true
ready tr e layers falsity = always false
ready tr e layers (action f i) = unless_guard e (shows f.name (atom_of (inside layers) [] (record { pattern = f; time = i })))
ready tr e layers (equal s t) = equals s t (marked (inside layers) [] s).marks (marked (inside layers) [] t).marks
ready tr e layers (same_time i j) = at_once (slot_in layers i) (slot_in layers j)
ready tr e layers (earlier i j) = before (slot_in layers i) (slot_in layers j)
ready tr e layers (negation f) = inverse (ready tr Whole layers f)
ready tr e layers (both f g) = and_then (ready tr (under_and e) layers f) (ready tr (under_and e) layers g)
ready tr e layers (either f g) = or_else (ready tr Whole layers f) (ready tr Whole layers g)
ready tr e layers (implies f g) = if_then (ready tr (left_of_imp e) layers f) (ready tr Whole layers g)
ready tr e layers (equivalent f g) = alike (ready tr Whole layers f) (ready tr Whole layers g)
ready tr e layers (every bs f) =
    search true (guards_of tr (place_of bs layers) [] (guards (premise f))) (ready tr Body (seen_by (place_of bs layers) [] (guards (premise f)) ∷ layers) f)
ready tr e layers (exists bs f) =
    search false (guards_of tr (place_of bs layers) [] (guards f)) (ready tr Rest (seen_by (place_of bs layers) [] (guards f) ∷ layers) f)
