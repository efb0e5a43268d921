-- Which names have slots where a quantifier's guards stand, and which ones.
use Rattle.std.proofs.Common.{◌≡◌, ℕ, ◌+◌, List, [], ◌∷◌, ◌++◌, Bool, true, false, ◌||◌, length, Option, Some, None, refl, sym, ap, subst, ◌∙◌, ◌⊎◌, inl, inr, if◌then◌else◌, arith}
use Rattle.std.specs.Prelude.{cond, map}
use Rattle.std.specs.List.{list_any, position, position_from}
use Rattle.std.specs.Str.{bytes_eq}
use Rattle.std.proofs.lemmas.Iterator.Adapters.{position_from-zero}
use Rattle.std.proofs.lemmas.Slice.Eq.{bytes_eq-Decides}
use Rattle.sap_formula.specs.Checked.{AreGuarded, IsApart, StandsInAtom, StandsIn, StandsInAny, binder_name}
use Rattle.sap_formula.specs.Form.{Form, action, both, earlier, either, equal, equivalent, every, exists, falsity, implies, negation, same_time, truth}
use Rattle.sap_judge.specs.Guards.{Action, guards}
use Rattle.sap_judge.specs.code.Ready.{Layers, Place, marked, marked_all, noted, place_of, seen_behind, seen_by, slot_at, slot_count, slot_in, slot_or}
use Rattle.sap_formula.specs.declared.binder.Binder.{Binder}
use Rattle.sap_terms.proofs.PlainLaws.Tests.{same_name}
use Rattle.sap_terms.specs.Tree.{Tree, Trees, apply, fresh, more, none, public, trees_of, variable}

-- one name more at the end

from_kept : (q : List ℕ → Bool) (i : ℕ) (xs : List (List ℕ)) (y : List ℕ) (k : ℕ) → position_from q i xs ≡ Some k → position_from q i (xs ++ y ∷ []) ≡ Some k
from_kept q i [] y k h = absurd (cc)
from_kept q i (x ∷ xs) y k h = at (q x) h (from_kept q (i + 1) xs y k) where
  at : (b : Bool) → cond b (Some i) (position_from q (i + 1) xs) ≡ Some k → (position_from q (i + 1) xs ≡ Some k → position_from q (i + 1) (xs ++ y ∷ []) ≡ Some k) → cond b (Some i) (position_from q (i + 1) (xs ++ y ∷ [])) ≡ Some k
  at true h f = h
  at false h f = f h

from_more : (q : List ℕ → Bool) (i : ℕ) (xs : List (List ℕ)) (y : List ℕ) → position_from q i xs ≡ None → position_from q i (xs ++ y ∷ []) ≡ cond (q y) (Some (i + length xs)) None
from_more q i [] y h = let e : i ≡ i + 0 = omega arith in ap (λ j. cond (q y) (Some j) None) e
from_more q i (x ∷ xs) y h = at (q x) h (from_more q (i + 1) xs y) where
  at : (b : Bool) → cond b (Some i) (position_from q (i + 1) xs) ≡ None → (position_from q (i + 1) xs ≡ None → position_from q (i + 1) (xs ++ y ∷ []) ≡ cond (q y) (Some ((i + 1) + length xs)) None) → cond b (Some i) (position_from q (i + 1) (xs ++ y ∷ [])) ≡ cond (q y) (Some (i + length (x ∷ xs))) None
  at true h f = absurd (cc)
  at false h f = let e : (i + 1) + length xs ≡ i + length (x ∷ xs) = omega arith in f h ∙ ap (λ j. cond (q y) (Some j) None) e

position_kept : (q : List ℕ → Bool) (xs : List (List ℕ)) (y : List ℕ) (k : ℕ) → position q xs ≡ Some k → position q (xs ++ y ∷ []) ≡ Some k
position_kept q xs y k h = position_from-zero q (xs ++ y ∷ []) ∙ from_kept q 0 xs y k (sym (position_from-zero q xs) ∙ h)

position_more : (q : List ℕ → Bool) (xs : List (List ℕ)) (y : List ℕ) → position q xs ≡ None → position q (xs ++ y ∷ []) ≡ cond (q y) (Some (length xs)) None
position_more q xs y h =
    let e : 0 + length xs ≡ length xs = omega arith in
    position_from-zero q (xs ++ y ∷ []) ∙ from_more q 0 xs y (sym (position_from-zero q xs) ∙ h) ∙ ap (λ j. cond (q y) (Some j) None) e

-- the slot of a name whose place in the quantifier is known
or_kept : (o : Option ℕ) (c : ℕ) (x : Option ℕ) (k : ℕ) (new : Option ℕ) → ((j : ℕ) → o ≡ Some j → new ≡ Some j) → (o ≡ None → new ≡ None) → slot_or o c x ≡ Some k → slot_or new c x ≡ Some k
or_kept None c x k new f g h = ap (λ z. slot_or z c x) (g refl) ∙ h
or_kept (Some j) c x k new f g h = ap (λ z. slot_or z c x) (f j refl) ∙ h

module _ (p : Place) where
  -- the slot outside of the quantifier
  abbrev pub slot_outside : List ℕ → Option ℕ
  slot_outside n = if list_any (bytes_eq n) p.bound then None else slot_in p.outer n

  -- the name has a slot
  abbrev pub IsSlotted : List (List ℕ) → List ℕ → Type 0
  IsSlotted seen n = (k : ℕ) × (slot_at p seen n ≡ Some k)

  -- a name without one gets the next
  pub slot_next : (seen : List (List ℕ)) (n : List ℕ) → slot_at p seen n ≡ None → slot_at p (seen ++ n ∷ []) n ≡ Some (slot_count p.outer + length seen)
  slot_next seen n h = at (position (bytes_eq n) seen) refl h where
    at : (o : Option ℕ) → position (bytes_eq n) seen ≡ o → slot_or o (slot_count p.outer) (slot_outside n) ≡ None → slot_at p (seen ++ n ∷ []) n ≡ Some (slot_count p.outer + length seen)
    at (Some j) e h = absurd (cc)
    at None e h = ap (λ z. slot_or z (slot_count p.outer) (slot_outside n)) (position_more (bytes_eq n) seen n e ∙ ap (λ b. cond b (Some (length seen)) None) (same_name n))

  -- and other names keep theirs
  pub slot_kept : (seen : List (List ℕ)) (m n : List ℕ) (k : ℕ) → slot_at p seen m ≡ None → slot_at p seen n ≡ Some k → slot_at p (seen ++ m ∷ []) n ≡ Some k
  slot_kept seen m n k f h = at (position (bytes_eq n) seen) refl h where
    at : (o : Option ℕ) → position (bytes_eq n) seen ≡ o → slot_or o (slot_count p.outer) (slot_outside n) ≡ Some k → slot_at p (seen ++ m ∷ []) n ≡ Some k
    at (Some j) e h = ap (λ z. slot_or z (slot_count p.outer) (slot_outside n)) (position_kept (bytes_eq n) seen m j e) ∙ h
    at None e h = in_case (bytes_eq n m) refl where
      in_case : (b : Bool) → bytes_eq n m ≡ b → slot_at p (seen ++ m ∷ []) n ≡ Some k
      in_case true d =
          let is = (bytes_eq-Decides n m).0 d in
          let there : slot_at p seen n ≡ Some k = ap (λ z. slot_or z (slot_count p.outer) (slot_outside n)) e ∙ h in
          let gone : slot_at p seen n ≡ None = ap (slot_at p seen) is ∙ f in
          absurd (cc)
      in_case false d = ap (λ z. slot_or z (slot_count p.outer) (slot_outside n)) (position_more (bytes_eq n) seen m e ∙ ap (λ b. cond b (Some (length seen)) None) d) ∙ h

  -- and no name but this one gets one
  pub slot_cases : (seen : List (List ℕ)) (m n : List ℕ) (k : ℕ) → slot_at p seen m ≡ None → slot_at p (seen ++ m ∷ []) n ≡ Some k → (slot_at p seen n ≡ Some k) ⊎ ((n ≡ m) × (k ≡ slot_count p.outer + length seen))
  slot_cases seen m n k f h = in_case (bytes_eq n m) refl where
    in_case : (b : Bool) → bytes_eq n m ≡ b → (slot_at p seen n ≡ Some k) ⊎ ((n ≡ m) × (k ≡ slot_count p.outer + length seen))
    in_case true d =
        let is = (bytes_eq-Decides n m).0 d in
        let e = slot_next seen m f in
        let there : slot_at p (seen ++ m ∷ []) m ≡ Some k = ap (slot_at p (seen ++ m ∷ [])) (sym is) ∙ h in
        inr (is, cc)
    in_case false d = inl (at (position (bytes_eq n) seen) refl) where
      at : (o : Option ℕ) → position (bytes_eq n) seen ≡ o → slot_at p seen n ≡ Some k
      at (Some j) e = ap (λ z. slot_or z (slot_count p.outer) (slot_outside n)) e ∙ sym (ap (λ z. slot_or z (slot_count p.outer) (slot_outside n)) (position_kept (bytes_eq n) seen m j e)) ∙ h
      at None e = ap (λ z. slot_or z (slot_count p.outer) (slot_outside n)) e ∙ sym (ap (λ z. slot_or z (slot_count p.outer) (slot_outside n)) (position_more (bytes_eq n) seen m e ∙ ap (λ b. cond b (Some (length seen)) None) d)) ∙ h

  -- slots stay
  abbrev pub Stay : List (List ℕ) → List (List ℕ) → Type 0
  Stay seen later = (n : List ℕ) (k : ℕ) → slot_at p seen n ≡ Some k → slot_at p later n ≡ Some k

  pub noted_stay : (seen : List (List ℕ)) (m : List ℕ) → Stay seen (noted (slot_at p seen m) seen m)
  noted_stay seen m = at (slot_at p seen m) refl where
    at : (o : Option ℕ) → slot_at p seen m ≡ o → Stay seen (noted o seen m)
    at None e n k h = slot_kept seen m n k e h
    at (Some j) e n k h = h

  pub noted_slotted : (seen : List (List ℕ)) (m : List ℕ) → IsSlotted (noted (slot_at p seen m) seen m) m
  noted_slotted seen m = at (slot_at p seen m) refl where
    at : (o : Option ℕ) → slot_at p seen m ≡ o → IsSlotted (noted o seen m) m
    at None e = (slot_count p.outer + length seen, slot_next seen m e)
    at (Some j) e = (j, e)

  stay_slotted : (seen later : List (List ℕ)) (n : List ℕ) → Stay seen later → IsSlotted seen n → IsSlotted later n
  stay_slotted seen later n s h = (h.0, s n h.0 h.1)

  mutual
    pub marked_stay : (seen : List (List ℕ)) (t : Tree) → Stay seen (marked p seen t).seen
    marked_stay seen (variable v) = noted_stay seen v.name
    marked_stay seen (public n) = λ n k h. h
    marked_stay seen (fresh j) = λ n k h. h
    marked_stay seen (apply f ts) = marked_all_stay seen ts

    pub marked_all_stay : (seen : List (List ℕ)) (ts : Trees) → Stay seen (marked_all p seen ts).seen
    marked_all_stay seen none = λ n k h. h
    marked_all_stay seen (more t ts) = λ n k h. marked_all_stay (marked p seen t).seen ts n k (marked_stay seen t n k h)

  mutual
    pub marked_slotted : (seen : List (List ℕ)) (n : List ℕ) (t : Tree) → StandsIn n t → IsSlotted (marked p seen t).seen n
    marked_slotted seen n (variable v) s = subst (IsSlotted (noted (slot_at p seen v.name) seen v.name)) s (noted_slotted seen v.name)
    marked_slotted seen n (public m) s = absurd s
    marked_slotted seen n (fresh k) s = absurd s
    marked_slotted seen n (apply f ts) s = marked_all_slotted seen n ts s

    pub marked_all_slotted : (seen : List (List ℕ)) (n : List ℕ) (ts : Trees) → StandsInAny n ts → IsSlotted (marked_all p seen ts).seen n
    marked_all_slotted seen n none s = absurd s
    marked_all_slotted seen n (more t ts) (inl s) = stay_slotted (marked p seen t).seen (marked_all p (marked p seen t).seen ts).seen n (marked_all_stay (marked p seen t).seen ts) (marked_slotted seen n t s)
    marked_all_slotted seen n (more t ts) (inr s) = marked_all_slotted (marked p seen t).seen n ts s

  pub behind_stay : (seen : List (List ℕ)) (a : Action) → Stay seen (seen_behind p seen a)
  behind_stay seen a = λ n k h. noted_stay (marked_all p seen (trees_of a.pattern.args)).seen a.time n k (marked_all_stay seen (trees_of a.pattern.args) n k h)

  pub by_stay : (seen : List (List ℕ)) (xs : List Action) → Stay seen (seen_by p seen xs)
  by_stay seen [] = λ n k h. h
  by_stay seen (a ∷ xs) = λ n k h. by_stay (seen_behind p seen a) xs n k (behind_stay seen a n k h)

  -- a name that stands in a guard has a slot behind it
  abbrev pub StandsInAction : List ℕ → Action → Type 0
  StandsInAction n a = (a.time ≡ n) ⊎ StandsInAny n (trees_of a.pattern.args)

  pub behind_slotted : (seen : List (List ℕ)) (n : List ℕ) (a : Action) → StandsInAction n a → IsSlotted (seen_behind p seen a) n
  behind_slotted seen n a (inl s) = subst (IsSlotted (seen_behind p seen a)) s (noted_slotted (marked_all p seen (trees_of a.pattern.args)).seen a.time)
  behind_slotted seen n a (inr s) = stay_slotted (marked_all p seen (trees_of a.pattern.args)).seen (seen_behind p seen a) n (noted_stay (marked_all p seen (trees_of a.pattern.args)).seen a.time) (marked_all_slotted seen n (trees_of a.pattern.args) s)

  by_append : (seen : List (List ℕ)) (xs ys : List Action) → seen_by p seen (xs ++ ys) ≡ seen_by p (seen_by p seen xs) ys
  by_append seen [] ys = refl
  by_append seen (a ∷ xs) ys = by_append (seen_behind p seen a) xs ys

  pub by_slotted : (f : Form) (seen : List (List ℕ)) (n : List ℕ) → StandsInAtom n f → IsSlotted (seen_by p seen (guards f)) n
  by_slotted (both f h) seen n (inl s) =
      let first = by_slotted f seen n s in
      let there = stay_slotted (seen_by p seen (guards f)) (seen_by p (seen_by p seen (guards f)) (guards h)) n (by_stay (seen_by p seen (guards f)) (guards h)) first in
      subst (λ z. IsSlotted z n) (sym (by_append seen (guards f) (guards h))) there
  by_slotted (both f h) seen n (inr s) = subst (λ z. IsSlotted z n) (sym (by_append seen (guards f) (guards h))) (by_slotted h (seen_by p seen (guards f)) n s)
  by_slotted (action f i) seen n s = behind_slotted seen n (record { pattern = f; time = i }) s
  by_slotted truth seen n s = absurd s
  by_slotted falsity seen n s = absurd s
  by_slotted (equal _ _) seen n s = absurd s
  by_slotted (same_time _ _) seen n s = absurd s
  by_slotted (earlier _ _) seen n s = absurd s
  by_slotted (negation _) seen n s = absurd s
  by_slotted (either _ _) seen n s = absurd s
  by_slotted (implies _ _) seen n s = absurd s
  by_slotted (equivalent _ _) seen n s = absurd s
  by_slotted (every _ _) seen n s = absurd s
  by_slotted (exists _ _) seen n s = absurd s

-- the names that a quantifier binds
pub bound_apart : (bs : List Binder) (n : List ℕ) → list_any (bytes_eq n) (map binder_name bs) ≡ false → IsApart bs n
bound_apart [] n h = tt
bound_apart (b ∷ bs) n h = at (bytes_eq n (binder_name b)) refl h (bound_apart bs n) where
  at : (r : Bool) → bytes_eq n (binder_name b) ≡ r → (r || list_any (bytes_eq n) (map binder_name bs)) ≡ false → (list_any (bytes_eq n) (map binder_name bs) ≡ false → IsApart bs n) → IsApart (b ∷ bs) n
  at true e h f = absurd (cc)
  at false e h f = (λ q. let t = (bytes_eq-Decides n (binder_name b)).1 (sym q) in absurd (cc), f h)

pub bound_stands : (bs : List Binder) (f : Form) (n : List ℕ) → AreGuarded bs f → list_any (bytes_eq n) (map binder_name bs) ≡ true → StandsInAtom n f
bound_stands [] f n g h = absurd (cc)
bound_stands (b ∷ bs) f n g h = at (bytes_eq n (binder_name b)) refl h (bound_stands bs f n g.1) where
  at : (r : Bool) → bytes_eq n (binder_name b) ≡ r → (r || list_any (bytes_eq n) (map binder_name bs)) ≡ true → (list_any (bytes_eq n) (map binder_name bs) ≡ true → StandsInAtom n f) → StandsInAtom n f
  at true e h k = subst (λ m. StandsInAtom m f) (sym ((bytes_eq-Decides n (binder_name b)).0 e)) g.0
  at false e h k = k h

-- where each bound name has a slot, the look-up behind the guards is that of the body
pub same_slots : (bs : List Binder) (layers : Layers) (seen : List (List ℕ)) (n : List ℕ) → (list_any (bytes_eq n) (map binder_name bs) ≡ true → IsSlotted (place_of bs layers) seen n) → slot_at (place_of bs layers) seen n ≡ slot_in (seen ∷ layers) n
same_slots bs layers seen n f = at (list_any (bytes_eq n) (map binder_name bs)) refl where
  at : (b : Bool) → list_any (bytes_eq n) (map binder_name bs) ≡ b → slot_or (position (bytes_eq n) seen) (slot_count layers) (if b then None else slot_in layers n) ≡ slot_or (position (bytes_eq n) seen) (slot_count layers) (slot_in layers n)
  at false e = refl
  at true e = in_case (position (bytes_eq n) seen) there where
    there : (k : ℕ) × (slot_or (position (bytes_eq n) seen) (slot_count layers) None ≡ Some k)
    there = let s = f e in (s.0, ap (λ (b : Bool). slot_or (position (bytes_eq n) seen) (slot_count layers) (if b then None else slot_in layers n)) (sym e) ∙ s.1)

    in_case : (o : Option ℕ) → ((k : ℕ) × (slot_or o (slot_count layers) None ≡ Some k)) → slot_or o (slot_count layers) None ≡ slot_or o (slot_count layers) (slot_in layers n)
    in_case (Some j) h = refl
    in_case None h = absurd (let e = h.1 in cc)
