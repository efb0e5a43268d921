-- Slots and marks, as they are laid out one after another.
use Rattle.std.proofs.Common.{◌≡◌, ℕ, suc, ◌+◌, List, [], ◌∷◌, ◌++◌, Bool, true, false, cond, not, nat_lt, Option, Some, None, ◌||◌, drop, length, map, position, is_some, refl, sym, ap, ◌∙◌, append_assoc, arith, Bor}
use Rattle.std.specs.Prelude.{if◌then◌else◌, slice_get}
use Rattle.std.specs.List.{list_any, position_or_len}
use Rattle.std.specs.Option.{option_copied}
use Rattle.std.specs.Str.{bytes_eq}
use Prim.Native.Nat.compare
use Rattle.std.proofs.lemmas.Bool.{lt-ltb, false≢true}
use Rattle.std.proofs.lemmas.Slice.Eq.{bytes_eq-Decides}
use Rattle.sap_judge.proofs.Tests.{names_turn}
use Rattle.sap_formula.specs.Checked.{binder_name}
use Rattle.sap_formula.specs.declared.binder.Binder.{Binder}
use Rattle.sap_judge.specs.Guards.{Action}
use Rattle.sap_judge.specs.code.Ready.{Place, guards_of, marked, marked_all, noted, seen_behind, seen_by, slot_at, slot_count, slot_in, slot_or}
use Rattle.sap_search.specs.Plan.{Guard}
use Rattle.sap_terms.proofs.PlainLaws.Lists.{drop_got}
use Rattle.sap_terms.proofs.PlainLaws.Trees.{item_le-trees_count}
use Rattle.sap_terms.specs.NameSet.{with_name}
use Rattle.sap_terms.specs.Named.{first_named}
use Rattle.sap_terms.specs.Trace.{Trace}
use Rattle.sap_terms.specs.Tree.{Tree, more, trees_of}

-- a binder of the name is found exactly where the name is bound
pub found-bound : (bs : List Binder) (n : List ℕ) → is_some (first_named binder_name bs n) ≡ list_any (bytes_eq n) (map binder_name bs)
found-bound [] n = refl
found-bound (b ∷ bs) n = rw (names_turn n (binder_name b)) (at (bytes_eq (binder_name b) n) (found-bound bs n)) where
  at : (t : Bool) → is_some (first_named binder_name bs n) ≡ list_any (bytes_eq n) (map binder_name bs) → is_some (if t then Some b else first_named binder_name bs n) ≡ (t || list_any (bytes_eq n) (map binder_name bs))
  at true e = refl
  at false e = e

pub copied-is : {T : Type 0} (o : Option (Bor T)) → is_some o ≡ is_some (option_copied o)
copied-is None = refl
copied-is (Some x) = refl

-- there is a place exactly where there is such an element
is_placed : {X : Type 0} (p : X → Bool) (xs : List X) → nat_lt (position_or_len p xs) (length xs) ≡ list_any p xs
is_placed p [] = refl
is_placed p (x ∷ xs) = at (p x) (is_placed p xs) where
  at : (t : Bool) → nat_lt (position_or_len p xs) (length xs) ≡ list_any p xs → nat_lt (cond (not t) (1 + position_or_len p xs) 0) (suc (length xs)) ≡ (t || list_any p xs)
  at true e = lt-ltb 0 (suc (length xs)) (omega arith)
  at false e = let one : 1 + position_or_len p xs ≡ suc (position_or_len p xs) = omega arith in rw (one, compare.suc-suc) e

unplaced : {X : Type 0} (p : X → Bool) (xs : List X) → position p xs ≡ None → list_any p xs ≡ false
unplaced p xs h = at (list_any p xs) (sym (ap (λ t. cond t (Some (position_or_len p xs)) None) (is_placed p xs)) ∙ h) where
  at : (t : Bool) → cond t (Some (position_or_len p xs)) None ≡ None → t ≡ false
  at true e = absurd (cc)
  at false e = refl

-- nor what has no slot among these
no_slot : (o : Option ℕ) (count : ℕ) (other : Option ℕ) → slot_or o count other ≡ None → o ≡ None
no_slot None count other h = refl
no_slot (Some k) count other h = absurd (cc)

pub unseen : (p : Place) (seen : List (List ℕ)) (n : List ℕ) → slot_at p seen n ≡ None → list_any (bytes_eq n) seen ≡ false
unseen p seen n h = unplaced (bytes_eq n) seen (no_slot (position (bytes_eq n) seen) _ _ h)

-- an occurrence of a name that the quantifier binds has a slot exactly where the name came before
placed : {X : Type 0} (p : X → Bool) (xs : List X) → position p xs ≡ cond (list_any p xs) (Some (position_or_len p xs)) None
placed p xs = ap (λ t. cond t (Some (position_or_len p xs)) None) (is_placed p xs)

slot_bound : (p : Place) (seen : List (List ℕ)) (n : List ℕ) (there : Bool) → list_any (bytes_eq n) p.bound ≡ true → list_any (bytes_eq n) seen ≡ there
    → slot_at p seen n ≡ slot_or (cond there (Some (position_or_len (bytes_eq n) seen)) None) (slot_count p.outer) None
slot_bound p seen n there b t =
    (λ i. slot_or ((placed (bytes_eq n) seen ∙ ap (λ c. cond c (Some (position_or_len (bytes_eq n) seen)) None) t) i) (slot_count p.outer) (if b i then None else slot_in p.outer n))

came : (there new : Bool) → new ≡ not there → new ≡ false → there ≡ true
came true new e f = refl
came false new e f = absurd (false≢true (sym f ∙ e))

came_not : (there new : Bool) → new ≡ not there → new ≡ true → there ≡ false
came_not false new e f = refl
came_not true new e f = absurd (false≢true (sym e ∙ f))

pub bound_slot : (p : Place) (seen : List (List ℕ)) (n : List ℕ) (index slot : ℕ) (new : Bool) → list_any (bytes_eq n) p.bound ≡ true → new ≡ not (list_any (bytes_eq n) seen) → new ≡ false
    → index ≡ position_or_len (bytes_eq n) seen → slot ≡ slot_count p.outer + index → Some slot ≡ slot_at p seen n
bound_slot p seen n index slot new b e f at is =
    ap Some (is ∙ ap (λ k. slot_count p.outer + k) at) ∙ sym (slot_bound p seen n true b (came (list_any (bytes_eq n) seen) new e f))

pub bound_next : (p : Place) (seen : List (List ℕ)) (n : List ℕ) (new : Bool) → list_any (bytes_eq n) p.bound ≡ true → new ≡ not (list_any (bytes_eq n) seen) → new ≡ true → None ≡ slot_at p seen n
bound_next p seen n new b e f = sym (slot_bound p seen n false b (came_not (list_any (bytes_eq n) seen) new e f))

pub bound_noted : (p : Place) (seen after : List (List ℕ)) (n : List ℕ) → list_any (bytes_eq n) p.bound ≡ true → after ≡ with_name seen n → after ≡ noted (slot_at p seen n) seen n
bound_noted p seen after n b e = e ∙ at (list_any (bytes_eq n) seen) refl where
  at : (there : Bool) → list_any (bytes_eq n) seen ≡ there → with_name seen n ≡ noted (slot_at p seen n) seen n
  at true t = ap (λ c. if c then seen else seen ++ n ∷ []) t ∙ sym (ap (λ o. noted o seen n) (slot_bound p seen n true b t))
  at false t = ap (λ c. if c then seen else seen ++ n ∷ []) t ∙ sym (ap (λ o. noted o seen n) (slot_bound p seen n false b t))

-- the terms from index k on
trees_got : (ts : List Tree) (k : ℕ) (t : Tree) → slice_get ts k ≡ Some t → trees_of (drop k ts) ≡ more t (trees_of (drop (k + 1) ts))
trees_got ts k t h = ap trees_of (drop_got ts k t h)

pub more_marks : (p : Place) (seen behind : List (List ℕ)) (marks new : List (Option ℕ)) (ts : List Tree) (k : ℕ) (t : Tree) → slice_get ts k ≡ Some t → new ≡ marks ++ (marked p seen t).marks → behind ≡ (marked p seen t).seen
    → new ++ (marked_all p behind (trees_of (drop (k + 1) ts))).marks ≡ marks ++ (marked_all p seen (trees_of (drop k ts))).marks
more_marks p seen behind marks new ts k t got e s =
    let rest = trees_of (drop (k + 1) ts) in
    ap (λ (m : List (Option ℕ)). m ++ (marked_all p behind rest).marks) e ∙ append_assoc marks (marked p seen t).marks (marked_all p behind rest).marks
    ∙ ap (λ (b : List (List ℕ)). marks ++ ((marked p seen t).marks ++ (marked_all p b rest).marks)) s ∙ sym (ap (λ us. marks ++ (marked_all p seen us).marks) (trees_got ts k t got))

pub more_seen : (p : Place) (seen behind : List (List ℕ)) (ts : List Tree) (k : ℕ) (t : Tree) → slice_get ts k ≡ Some t → behind ≡ (marked p seen t).seen
    → (marked_all p behind (trees_of (drop (k + 1) ts))).seen ≡ (marked_all p seen (trees_of (drop k ts))).seen
more_seen p seen behind ts k t got s =
    ap (λ (b : List (List ℕ)). (marked_all p b (trees_of (drop (k + 1) ts))).seen) s ∙ sym (ap (λ us. (marked_all p seen us).seen) (trees_got ts k t got))

pub ruleset lay_laws = (item_le-trees_count)

-- the guards from index k on
pub more_guards : {X : Type 0} (f : X → Action) (tr : Trace) (p : Place) (seen behind : List (List ℕ)) (gs new : List Guard) (xs : List X) (k : ℕ) (x : X) → slice_get xs k ≡ Some x → new ≡ gs ++ guards_of tr p seen (f x ∷ []) → behind ≡ seen_behind p seen (f x)
    → new ++ guards_of tr p behind (map f (drop (k + 1) xs)) ≡ gs ++ guards_of tr p seen (map f (drop k xs))
more_guards f tr p seen behind gs new xs k x got e s =
    let rest = map f (drop (k + 1) xs) in
    ap (λ (m : List Guard). m ++ guards_of tr p behind rest) e ∙ append_assoc gs (guards_of tr p seen (f x ∷ [])) (guards_of tr p behind rest)
    ∙ ap (λ (b : List (List ℕ)). gs ++ (guards_of tr p seen (f x ∷ []) ++ guards_of tr p b rest)) s ∙ sym (ap (λ us. gs ++ guards_of tr p seen (map f us)) (drop_got xs k x got))

pub more_seen_by : {X : Type 0} (f : X → Action) (p : Place) (seen behind : List (List ℕ)) (xs : List X) (k : ℕ) (x : X) → slice_get xs k ≡ Some x → behind ≡ seen_behind p seen (f x)
    → seen_by p behind (map f (drop (k + 1) xs)) ≡ seen_by p seen (map f (drop k xs))
more_seen_by f p seen behind xs k x got s =
    ap (λ (b : List (List ℕ)). seen_by p b (map f (drop (k + 1) xs))) s ∙ sym (ap (λ us. seen_by p seen (map f us)) (drop_got xs k x got))
