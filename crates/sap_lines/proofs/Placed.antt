-- Places that are added, and the processes there.
use Rattle.std.proofs.Common.{◌≡◌, ◌<◌, ◌+◌, ◌⊎◌, inl, inr, ℕ, zero, suc, List, [], ◌∷◌, ◌++◌, length, Some, refl, sym, ap, subst, ◌∙◌, arith, append_assoc, length-append}
use Rattle.std.specs.Prelude.{slice_get, Result, Ok, Err, IfOk}
use Rattle.std.proofs.lemmas.List.{append-nil}
use Rattle.sap_process.specs.Proc.{Proc, nil}
use Rattle.sap_lines.specs.declared.form.Form.TheVariants.{Nil}
use Rattle.sap_lines.specs.declared.place.Place.{Place}
use Rattle.sap_lines.specs.Places.{form_proc, with_children, proc_at, place_proc, procs_from, procs_of, StandsBelow, ArePlaces, AddsForm, AddsProcess, IsRooted}

pub if_ok : {T E : Type 0} (P Q : T → Type 0) (r : Result T E) → ((x : T) → P x → Q x) → IfOk r P → IfOk r Q
if_ok P Q (Ok x) f h = f x h
if_ok P Q (Err e) f h = tt

-- an earlier process stays
proc_at-front : (ps qs : List Proc) (k : ℕ) → k < length ps → proc_at (ps ++ qs) k ≡ proc_at ps k
proc_at-front [] qs k lt = absurd (omega arith)
proc_at-front (p ∷ ps) qs zero lt = refl
proc_at-front (p ∷ ps) qs (suc k) lt = let less : k < length ps = omega arith in proc_at-front ps qs k less

proc_at-last : (ps : List Proc) (p : Proc) (qs : List Proc) → proc_at (ps ++ p ∷ qs) (length ps) ≡ p
proc_at-last [] p qs = refl
proc_at-last (q ∷ ps) p qs = proc_at-last ps p qs

place_proc-front : (ps qs : List Proc) (x : Place) → StandsBelow (length ps) x → place_proc (ps ++ qs) x ≡ place_proc ps x
place_proc-front ps qs x (inl leaf) = rw leaf refl
place_proc-front ps qs x (inr lt) = let a = proc_at-front ps qs x.first lt.0 in let b = proc_at-front ps qs x.second lt.1 in λ i. form_proc x.form (a i) (b i)

-- what comes behind these processes
abbrev procs_added : List Proc → List Place → List Proc
procs_added ps [] = []
procs_added ps (x ∷ xs) = place_proc ps x ∷ procs_added (ps ++ place_proc ps x ∷ []) xs

procs_from-is : (ps : List Proc) (xs : List Place) → procs_from ps xs ≡ ps ++ procs_added ps xs
procs_from-is ps [] = sym (append-nil ps)
procs_from-is ps (x ∷ xs) = procs_from-is (ps ++ place_proc ps x ∷ []) xs ∙ append_assoc ps (place_proc ps x ∷ []) (procs_added (ps ++ place_proc ps x ∷ []) xs)

procs_added-length : (ps : List Proc) (xs : List Place) → length (procs_added ps xs) ≡ length xs
procs_added-length ps [] = refl
procs_added-length ps (x ∷ xs) = ap suc (procs_added-length (ps ++ place_proc ps x ∷ []) xs)

procs_of-length : (xs : List Place) → length (procs_of xs) ≡ length xs
procs_of-length xs = ap length (procs_from-is [] xs) ∙ procs_added-length [] xs

procs_from-append : (ps : List Proc) (xs ys : List Place) → procs_from ps (xs ++ ys) ≡ procs_from (procs_from ps xs) ys
procs_from-append ps [] ys = refl
procs_from-append ps (x ∷ xs) ys = procs_from-append (ps ++ place_proc ps x ∷ []) xs ys

procs_stay : (xs ys : List Place) (k : ℕ) → k < length xs → proc_at (procs_of (xs ++ ys)) k ≡ proc_at (procs_of xs) k
procs_stay xs ys k lt =
    let less : k < length (procs_of xs) = rw (procs_of-length xs) lt in
    ap (λ ps. proc_at ps k) (procs_from-append [] xs ys ∙ procs_from-is (procs_of xs) ys) ∙ proc_at-front (procs_of xs) (procs_added (procs_of xs) ys) k less

length-one : {X : Type 0} (xs : List X) (x : X) → length (xs ++ x ∷ []) ≡ suc (length xs)
length-one [] x = refl
length-one (y ∷ xs) x = ap suc (length-one xs x)

plus-suc : (n k : ℕ) → n + suc k ≡ suc n + k
plus-suc n k = omega arith

-- the process of a place is over those of all
placed_from : (ps : List Proc) (xs : List Place) (k : ℕ) (x : Place) → slice_get xs k ≡ Some x → StandsBelow (length ps + k) x → proc_at (procs_from ps xs) (length ps + k) ≡ place_proc (procs_from ps xs) x
placed_from ps [] k x got below = cc
placed_from ps (y ∷ ys) zero x got below =
    let same : y ≡ x = cc in
    let here : length ps + 0 ≡ length ps = omega arith in
    let rest : List Proc = procs_added (ps ++ place_proc ps y ∷ []) ys in
    let all : procs_from ps (y ∷ ys) ≡ ps ++ place_proc ps y ∷ rest = procs_from-is ps (y ∷ ys) in
    let b : StandsBelow (length ps) y = rw (same, ← here) below in
    rw (all, here) (proc_at-last ps (place_proc ps y) rest ∙ sym (place_proc-front ps (place_proc ps y ∷ rest) y b) ∙ ap (place_proc (ps ++ place_proc ps y ∷ rest)) same)
placed_from ps (y ∷ ys) (suc k) x got below =
    let qs = ps ++ place_proc ps y ∷ [] in
    let longer : length qs ≡ suc (length ps) = length-one ps (place_proc ps y) in
    let there : length ps + suc k ≡ length qs + k = plus-suc (length ps) k ∙ ap (λ n. n + k) (sym longer) in
    let b : StandsBelow (length qs + k) x = subst (λ n. StandsBelow n x) there below in
    ap (proc_at (procs_from qs ys)) there ∙ placed_from qs ys k x got b

placed : (xs : List Place) (k : ℕ) (x : Place) → ArePlaces xs → slice_get xs k ≡ Some x → proc_at (procs_of xs) k ≡ place_proc (procs_of xs) x
placed xs k x are got =
    let z : 0 + k ≡ k = omega arith in
    rw z at (placed_from [] xs k x got (rw z (are k x got)))

got_push : {X : Type 0} (xs : List X) (y : X) (k : ℕ) (x : X) → slice_get (xs ++ y ∷ []) k ≡ Some x → (slice_get xs k ≡ Some x) ⊎ ((y ≡ x) × (k ≡ length xs))
got_push [] y zero x h = let e : y ≡ x = cc in inr (e, refl)
got_push [] y (suc k) x h = cc
got_push (z ∷ xs) y zero x h = inl h
got_push (z ∷ xs) y (suc k) x h = elim (got_push xs y k x h) [ inl e ↦ inl e | inr e ↦ inr (e.0, ap suc e.1) ]

got_last : {X : Type 0} (xs : List X) (y : X) → slice_get (xs ++ y ∷ []) (length xs) ≡ Some y
got_last [] y = refl
got_last (x ∷ xs) y = got_last xs y

-- one more place, over earlier ones
pub adds_last : (old new : List Place) (p q r : Proc) (k a b : ℕ) → ArePlaces old → proc_at (procs_of old) a ≡ q → proc_at (procs_of old) b ≡ r → with_children p q r ≡ p → (h : AddsForm old new p k a b) → StandsBelow (length old) h.place
    → AddsProcess old new k p
adds_last old new p q r k a b are at_a at_b is h below =
    let x = h.place in
    let are_new : ArePlaces (old ++ x ∷ []) = λ j y got. elim (got_push old x j y got) [ inl e ↦ are j y e | inr e ↦ rw (← e.0, e.1) below ] in
    let lt : length old < length (old ++ x ∷ []) = rw (length-one old x) (omega arith) in
    let at : proc_at (procs_of (old ++ x ∷ [])) (length old) ≡ place_proc (procs_of (old ++ x ∷ [])) x = placed (old ++ x ∷ []) (length old) x are_new (got_last old x) in
    let grown : procs_of (old ++ x ∷ []) ≡ procs_of old ++ place_proc (procs_of old) x ∷ [] = procs_from-append [] old (x ∷ []) in
    let same : place_proc (procs_of (old ++ x ∷ [])) x ≡ place_proc (procs_of old) x = ap (λ ps. place_proc ps x) grown ∙ place_proc-front (procs_of old) (place_proc (procs_of old) x ∷ []) x (rw (procs_of-length old) below) in
    let form : place_proc (procs_of old) x ≡ with_children p q r =
    (λ i. form_proc x.form (proc_at (procs_of old) (h.first_is i)) (proc_at (procs_of old) (h.second_is i))) ∙ (λ i. form_proc x.form (at_a i) (at_b i)) ∙ h.form q r in
    record {
      places = rw h.is are_new;
      added = x ∷ [];
      is = h.is;
      below = rw (h.is, h.number) lt;
      proc = rw (h.is, h.number) (at ∙ same ∙ form ∙ is);
    }

pub adds_more : (old mid new : List Place) (k j : ℕ) (p q : Proc) → AddsProcess old mid j q → AddsProcess mid new k p → AddsProcess old new k p
adds_more old mid new k j p q h i = record {
  places = i.places;
  added = h.added ++ i.added;
  is = i.is ∙ ap (λ xs. xs ++ i.added) h.is ∙ append_assoc old h.added i.added;
  below = i.below;
  proc = i.proc;
}

-- what was added before is still there
still : (old new : List Place) (k : ℕ) (p : Proc) (xs : List Place) → proc_at (procs_of old) k ≡ p → k < length old → new ≡ old ++ xs → proc_at (procs_of new) k ≡ p
still old new k p xs at lt is = rw is (procs_stay old xs k lt ∙ at)

pub adds_leaf : (old new : List Place) (p : Proc) (k : ℕ) → ArePlaces old → p ≡ nil → ((x : Place) → ((q r : Proc) → form_proc x.form q r ≡ nil) → x.form ≡ Nil) → AddsForm old new p k 0 0 → AddsProcess old new k p
adds_leaf old new p k are is leaf h =
    let kids : (q r : Proc) → with_children p q r ≡ p = λ q r. rw is refl in
    adds_last old new p (proc_at (procs_of old) 0) (proc_at (procs_of old) 0) k 0 0 are refl refl (kids _ _) h (inl (leaf h.place (λ q r. h.form q r ∙ rw is refl)))

pub adds_one : (old mid new : List Place) (p q : Proc) (k a : ℕ) → with_children p q q ≡ p → AddsProcess old mid a q → AddsForm mid new p k a a → AddsProcess old new k p
adds_one old mid new p q k a is h i =
    let below : StandsBelow (length mid) i.place = inr ((rw i.first_is h.below), (rw i.second_is h.below)) in
    adds_more old mid new k a p q h (adds_last mid new p q q k a a h.places h.proc h.proc is i below)

pub adds_two : (old mid far new : List Place) (p q r : Proc) (k a b : ℕ) → with_children p q r ≡ p → AddsProcess old mid a q → AddsProcess mid far b r → AddsForm far new p k a b → AddsProcess old new k p
adds_two old mid far new p q r k a b is h i j =
    let less : a < length far = rw (i.is, length-append mid i.added) (less_more a (length mid) (length i.added) h.below) in
    let below : StandsBelow (length far) j.place = inr ((rw j.first_is less), (rw j.second_is i.below)) in
    let there : proc_at (procs_of far) a ≡ q = still mid far a q i.added h.proc h.below i.is in
    adds_more old mid new k a p q h (adds_more mid far new k b p r i (adds_last far new p q r k a b i.places there i.proc is j below)) where
      less_more : (x y z : ℕ) → x < y → x < y + z
      less_more x y z lt = omega arith

-- what was added is placed, with the process at its number
pub rooted : (old new : List Place) (k : ℕ) (p : Proc) → AddsProcess old new k p → IsRooted new k p
rooted old new k p h = record {
  places = record { below = h.places; procs = λ j x got. placed new j x h.places got };
  below = h.below;
  proc = h.proc;
}
