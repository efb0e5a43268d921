-- Binders that a later one of the same quantifier hides change nothing in a formula made ready.
use Rattle.std.proofs.Common.{◌≡◌, ℕ, List, [], ◌∷◌, ◌++◌, Bool, true, false, ◌||◌, None, refl, sym, ap, ◌∙◌, if◌then◌else◌}
use Rattle.std.specs.Prelude.{map}
use Rattle.std.specs.List.{list_any, position}
use Rattle.std.specs.Str.{bytes_eq}
use Rattle.std.proofs.lemmas.Slice.Eq.{bytes_eq-Decides}
use Rattle.sap_judge.proofs.Tests.{names_turn}
use Rattle.sap_formula.specs.Checked.{binder_name, premise}
use Rattle.sap_formula.specs.Form.{Form, action, both, earlier, either, equal, equivalent, every, exists, falsity, implies, negation, same_time, truth}
use Rattle.sap_formula.specs.Slim.{binds, lasts, slim}
use Rattle.sap_judge.specs.Guards.{Action, guards, sights}
use Rattle.sap_judge.specs.code.Ready.{Layers, Place, atom_of, guards_of, left_of_imp, marked, marked_all, noted, place_of, ready, seen_behind, seen_by, slot_at, slot_count, slot_in, slot_or, under_and}
use Rattle.sap_search.specs.Plan.{and_then, alike, if_then, inverse, or_else, search}
use Rattle.sap_formula.specs.declared.binder.Binder.{Binder}
use Rattle.sap_judge.specs.declared.extent.Extent.{Extent}
use Rattle.sap_judge.specs.declared.extent.Extent.TheVariants.{Whole, Body, Rest}
use Rattle.sap_terms.specs.Trace.{Trace}
use Rattle.sap_terms.specs.Tree.{Tree, Trees, apply, fresh, more, none, public, trees_of, variable}

-- the same names are bound

binds_named : (bs : List Binder) (n : List ℕ) → binds bs n ≡ list_any (bytes_eq n) (map binder_name bs)
binds_named [] n = refl
binds_named (b ∷ bs) n = λ i. names_turn (binder_name b) n i || binds_named bs n i

same_bound : (bs : List Binder) (n : List ℕ) → list_any (bytes_eq n) (map binder_name bs) ≡ list_any (bytes_eq n) (map binder_name (lasts bs))
same_bound [] n = refl
same_bound (b ∷ bs) n = at (binds bs (binder_name b)) refl (same_bound bs n) where
  hidden : (r : Bool) → bytes_eq n (binder_name b) ≡ r → binds bs (binder_name b) ≡ true → (r || list_any (bytes_eq n) (map binder_name bs)) ≡ list_any (bytes_eq n) (map binder_name bs)
  hidden true d e = let is = (bytes_eq-Decides n (binder_name b)).0 d in sym (sym (binds_named bs n) ∙ ap (binds bs) is ∙ e)
  hidden false d e = refl

  at : (r : Bool) → binds bs (binder_name b) ≡ r → list_any (bytes_eq n) (map binder_name bs) ≡ list_any (bytes_eq n) (map binder_name (lasts bs)) → (bytes_eq n (binder_name b) || list_any (bytes_eq n) (map binder_name bs)) ≡ list_any (bytes_eq n) (map binder_name (if r then lasts bs else b ∷ lasts bs))
  at true e f = hidden (bytes_eq n (binder_name b)) refl e ∙ f
  at false e f = ap (λ z. bytes_eq n (binder_name b) || z) f

same_slot : (bs : List Binder) (layers : Layers) (seen : List (List ℕ)) (n : List ℕ) → slot_at (place_of bs layers) seen n ≡ slot_at (place_of (lasts bs) layers) seen n
same_slot bs layers seen n = ap (λ (b : Bool). slot_or (position (bytes_eq n) seen) (slot_count layers) (if b then None else slot_in layers n)) (same_bound bs n)

-- places where each look-up is the same
module _ (p q : Place) (e : (seen : List (List ℕ)) (n : List ℕ) → slot_at p seen n ≡ slot_at q seen n) where
  mutual
    marked_same : (seen : List (List ℕ)) (t : Tree) → marked p seen t ≡ marked q seen t
    marked_same seen (variable v) = λ i. record { marks = e seen v.name i ∷ []; seen = noted (e seen v.name i) seen v.name }
    marked_same seen (public n) = refl
    marked_same seen (fresh k) = refl
    marked_same seen (apply f ts) = marked_all_same seen ts

    marked_all_same : (seen : List (List ℕ)) (ts : Trees) → marked_all p seen ts ≡ marked_all q seen ts
    marked_all_same seen none = refl
    marked_all_same seen (more t ts) =
        let a = marked_same seen t in
        let b = marked_all_same (marked p seen t).seen ts ∙ ap (λ z. marked_all q z.seen ts) (marked_same seen t) in
        λ i. record { marks = (a i).marks ++ (b i).marks; seen = (b i).seen }

  time_same : (seen : List (List ℕ)) (a : Action) → slot_at p (marked_all p seen (trees_of a.pattern.args)).seen a.time ≡ slot_at q (marked_all q seen (trees_of a.pattern.args)).seen a.time
  time_same seen a = ap (λ z. slot_at p z.seen a.time) (marked_all_same seen (trees_of a.pattern.args)) ∙ e (marked_all q seen (trees_of a.pattern.args)).seen a.time

  atom_same : (seen : List (List ℕ)) (a : Action) → atom_of p seen a ≡ atom_of q seen a
  atom_same seen a = λ i. record { args = trees_of a.pattern.args; marks = (marked_all_same seen (trees_of a.pattern.args) i).marks; time = time_same seen a i }

  behind_same : (seen : List (List ℕ)) (a : Action) → seen_behind p seen a ≡ seen_behind q seen a
  behind_same seen a = λ i. noted (time_same seen a i) (marked_all_same seen (trees_of a.pattern.args) i).seen a.time

  guards_of_same : (tr : Trace) (seen : List (List ℕ)) (xs : List Action) → guards_of tr p seen xs ≡ guards_of tr q seen xs
  guards_of_same tr seen [] = refl
  guards_of_same tr seen (a ∷ xs) =
      let r = guards_of_same tr (seen_behind p seen a) xs ∙ ap (λ z. guards_of tr q z xs) (behind_same seen a) in
      λ i. record { atom = atom_same seen a i; facts = sights a.pattern.name tr } ∷ r i

  seen_by_same : (seen : List (List ℕ)) (xs : List Action) → seen_by p seen xs ≡ seen_by q seen xs
  seen_by_same seen [] = refl
  seen_by_same seen (a ∷ xs) = seen_by_same (seen_behind p seen a) xs ∙ ap (λ z. seen_by q z xs) (behind_same seen a)

-- the guards are the same

pub guards_slim : (f : Form) → guards f ≡ guards (slim f)
guards_slim (both f h) = λ i. guards_slim f i ++ guards_slim h i
guards_slim (action f i) = refl
guards_slim truth = refl
guards_slim falsity = refl
guards_slim (equal _ _) = refl
guards_slim (same_time _ _) = refl
guards_slim (earlier _ _) = refl
guards_slim (negation _) = refl
guards_slim (either _ _) = refl
guards_slim (implies _ _) = refl
guards_slim (equivalent _ _) = refl
guards_slim (every _ _) = refl
guards_slim (exists _ _) = refl

pub premise_slim : (f : Form) → guards (premise f) ≡ guards (premise (slim f))
premise_slim (implies f h) = guards_slim f
premise_slim (both _ _) = refl
premise_slim (action _ _) = refl
premise_slim truth = refl
premise_slim falsity = refl
premise_slim (equal _ _) = refl
premise_slim (same_time _ _) = refl
premise_slim (earlier _ _) = refl
premise_slim (negation _) = refl
premise_slim (either _ _) = refl
premise_slim (equivalent _ _) = refl
premise_slim (every _ _) = refl
premise_slim (exists _ _) = refl

module _ (tr : Trace) (bs : List Binder) (layers : Layers) (xs ys : List Action) (e : xs ≡ ys) where
  pub quantifier_guards : guards_of tr (place_of bs layers) [] xs ≡ guards_of tr (place_of (lasts bs) layers) [] ys
  quantifier_guards = guards_of_same (place_of bs layers) (place_of (lasts bs) layers) (same_slot bs layers) tr [] xs ∙ ap (guards_of tr (place_of (lasts bs) layers) []) e

  pub quantifier_seen : seen_by (place_of bs layers) [] xs ≡ seen_by (place_of (lasts bs) layers) [] ys
  quantifier_seen = seen_by_same (place_of bs layers) (place_of (lasts bs) layers) (same_slot bs layers) [] xs ∙ ap (seen_by (place_of (lasts bs) layers) []) e

pub ready_slim : (tr : Trace) (f : Form) (e : Extent) (layers : Layers) → ready tr e layers f ≡ ready tr e layers (slim f)
ready_slim tr truth e layers = refl
ready_slim tr falsity e layers = refl
ready_slim tr (action f i) e layers = refl
ready_slim tr (equal s t) e layers = refl
ready_slim tr (same_time i j) e layers = refl
ready_slim tr (earlier i j) e layers = refl
ready_slim tr (negation f) e layers = ap (λ z. inverse z) (ready_slim tr f Whole layers)
ready_slim tr (both f h) e layers = λ i. and_then (ready_slim tr f (under_and e) layers i) (ready_slim tr h (under_and e) layers i)
ready_slim tr (either f h) e layers = λ i. or_else (ready_slim tr f Whole layers i) (ready_slim tr h Whole layers i)
ready_slim tr (implies f h) e layers = λ i. if_then (ready_slim tr f (left_of_imp e) layers i) (ready_slim tr h Whole layers i)
ready_slim tr (equivalent f h) e layers = λ i. alike (ready_slim tr f Whole layers i) (ready_slim tr h Whole layers i)
ready_slim tr (every bs f) e layers =
    let a = quantifier_guards tr bs layers (guards (premise f)) (guards (premise (slim f))) (premise_slim f) in
    let s = quantifier_seen tr bs layers (guards (premise f)) (guards (premise (slim f))) (premise_slim f) in
    let b = ready_slim tr f Body (seen_by (place_of bs layers) [] (guards (premise f)) ∷ layers) ∙ ap (λ z. ready tr Body (z ∷ layers) (slim f)) s in
    λ i. search true (a i) (b i)
ready_slim tr (exists bs f) e layers =
    let a = quantifier_guards tr bs layers (guards f) (guards (slim f)) (guards_slim f) in
    let s = quantifier_seen tr bs layers (guards f) (guards (slim f)) (guards_slim f) in
    let b = ready_slim tr f Rest (seen_by (place_of bs layers) [] (guards f) ∷ layers) ∙ ap (λ z. ready tr Rest (z ∷ layers) (slim f)) s in
    λ i. search false (a i) (b i)
