-- Lines as they are stored, and what more of their parts keeps.
use Rattle.std.proofs.Common.{◌≡◌, ◌<◌, ◌≤◌, ◌+◌, ℕ, zero, suc, List, [], ◌∷◌, ◌++◌, length, map, take, drop, option_map, slice_get, slice_index_or, refl, ap, sym, ◌∙◌, arith, length-append, Bool, true, false, Some, if◌then◌else◌}
use Rattle.std.specs.Prelude.{Result, Ok, Err, OnErr}
use Rattle.std.proofs.lemmas.List.{map-append, length-map, get_or_append_left, take-append-le, drop-append-le, append-nil, length-drop}
use Rattle.std.proofs.Math.Seq.{take-length, drop-append_seam}
use Rattle.std.proofs.lemmas.Simd.{map-map}
use Rattle.std.proofs.lemmas.List.Elements.{All-nil, All-head, All-tail, All-push}
use Rattle.std.proofs.lemmas.Option.{get_or_from_slice_get, slice_get_within, slice_get-map, same_Some}
use Rattle.std.proofs.lemmas.Slice.Eq.{bytes_eq-Decides}
use Rattle.std.specs.Str.{bytes_eq}
use Rattle.sap_terms.specs.NameMap.{Puts, value_at}
use Rattle.sap_terms.specs.View.{tree}
use Rattle.sap_deduce.specs.declared.entry.Entry.{Entry}
use Rattle.sap_deduce.specs.declared.origin.Origin.TheVariants.{Apply}
use Rattle.sap_deduce.specs.declared.stored.StoredOrigin.{StoredOrigin}
use Rattle.sap_deduce.specs.declared.stored.StoredOrigin.TheVariants.{Given, Applied}
use Rattle.sap_deduce.specs.code.Lines.{Line, origin_of, IsWithin, lines_of, AreWithin, ArePlaces, IsMore}

pub length-lines_of : (symbols : List (List ℕ)) (used : List ℕ) (es : List Entry) → length (lines_of symbols used es) ≡ length es
length-lines_of symbols used es = length-map es (λ (e : Entry). record { number = e.number; term = tree e.term; origin = origin_of symbols used e.way })

pub slice_get-terms : (symbols : List (List ℕ)) (used : List ℕ) (es : List Entry) (k : ℕ) → slice_get (map (λ (l : Line). l.term) (lines_of symbols used es)) k ≡ option_map (λ (e : Entry). tree e.term) (slice_get es k)
slice_get-terms symbols used es k =
    ap (λ ts. slice_get ts k) (map-map (λ (l : Line). l.term) (λ (e : Entry). record { number = e.number; term = tree e.term; origin = origin_of symbols used e.way }) es) ∙ slice_get-map (λ (e : Entry). tree e.term) es k

pub slice_get-numbers : (symbols : List (List ℕ)) (used : List ℕ) (es : List Entry) (k : ℕ) → slice_get (map (λ (l : Line). l.number) (lines_of symbols used es)) k ≡ option_map (λ (e : Entry). e.number) (slice_get es k)
slice_get-numbers symbols used es k =
    ap (λ ns. slice_get ns k) (map-map (λ (l : Line). l.number) (λ (e : Entry). record { number = e.number; term = tree e.term; origin = origin_of symbols used e.way }) es) ∙ slice_get-map (λ (e : Entry). e.number) es k

pub lines_of-push : (symbols : List (List ℕ)) (used : List ℕ) (es : List Entry) (e : Entry) → lines_of symbols used (es ++ e ∷ []) ≡ lines_of symbols used es ++ record { number = e.number; term = tree e.term; origin = origin_of symbols used e.way } ∷ []
lines_of-push symbols used es e = map-append (λ (e : Entry). record { number = e.number; term = tree e.term; origin = origin_of symbols used e.way }) es (e ∷ [])

pub more-none : {X : Type 0} (xs : List X) → IsMore xs xs
more-none xs = record { added = []; is = sym (append-nil xs) }

-- an origin stays what it is, and within
origin-more : (symbols more : List (List ℕ)) (used also : List ℕ) (w : StoredOrigin) → IsWithin (length symbols) (length used) w → origin_of (symbols ++ more) (used ++ also) w ≡ origin_of symbols used w
origin-more symbols more used also (Given g) h = refl
origin-more symbols more used also (Applied s k n) h =
    let name : slice_index_or (symbols ++ more) s [] ≡ slice_index_or symbols s [] = get_or_append_left symbols more [] s h.0 in
    let front : drop k (used ++ also) ≡ drop k used ++ also = drop-append-le k used also (omega (arith, h.1)) in
    let rest : length (drop k used) + k ≡ length used = drop_rest k used (omega (arith, h.1)) in
    let part : take n (drop k (used ++ also)) ≡ take n (drop k used) = ap (take n) front ∙ take-append-le n (drop k used) also (omega (arith, rest, h.1)) in
    λ i. Apply (name i) (part i)
  where
    drop_rest : (k : ℕ) (xs : List ℕ) → k ≤ length xs → length (drop k xs) + k ≡ length xs
    drop_rest k xs h = let l = length-drop k xs in omega (arith, l, h)

within-more : (m n p q : ℕ) (w : StoredOrigin) → m ≤ p → n ≤ q → IsWithin m n w → IsWithin p q w
within-more m n p q (Given g) a b h = tt
within-more m n p q (Applied s k c) a b h = (omega (arith, a, h.0), omega (arith, b, h.1))

pub lines-more : (symbols more : List (List ℕ)) (used also : List ℕ) (es : List Entry) → AreWithin (length symbols) (length used) es → lines_of (symbols ++ more) (used ++ also) es ≡ lines_of symbols used es
lines-more symbols more used also [] h = refl
lines-more symbols more used also (e ∷ es) h =
    let P : Entry → Type 0 = λ e. IsWithin (length symbols) (length used) e.way in
    let same = origin-more symbols more used also e.way (All-head P e es h) in
    λ i. record { number = e.number; term = tree e.term; origin = same i } ∷ lines-more symbols more used also es (All-tail P e es h) i

pub AreWithin-more : (m n p q : ℕ) (es : List Entry) → m ≤ p → n ≤ q → AreWithin m n es → AreWithin p q es
AreWithin-more m n p q es a b h = λ k d lt. within-more m n p q _ a b (h k d lt)

-- the same where the parts have become more
pub lines-kept : (symbols names : List (List ℕ)) (used numbers : List ℕ) (es : List Entry) → IsMore symbols names → IsMore used numbers → AreWithin (length symbols) (length used) es → lines_of names numbers es ≡ lines_of symbols used es
lines-kept symbols names used numbers es m n h = (λ i. lines_of (m.is i) (n.is i) es) ∙ lines-more symbols m.added used n.added es h

more-length : {X : Type 0} (old new : List X) → IsMore old new → length old ≤ length new
more-length old new m = let l : length new ≡ length old + length m.added = ap length m.is ∙ length-append old m.added in omega (arith, l)

pub within-kept : (symbols names : List (List ℕ)) (used numbers : List ℕ) (es : List Entry) → IsMore symbols names → IsMore used numbers → AreWithin (length symbols) (length used) es → AreWithin (length names) (length numbers) es
within-kept symbols names used numbers es m n h = AreWithin-more _ _ _ _ es (more-length symbols names m) (more-length used numbers n) h

-- what was put last is found
pub origin-last : (names : List (List ℕ)) (used ns : List ℕ) (s k n : ℕ) (f : List ℕ) → slice_index_or names s [] ≡ f → k ≡ length used → n ≡ length ns → origin_of names (used ++ ns) (Applied s k n) ≡ Apply f ns
origin-last names used ns s k n f name from count =
    let part : take n (drop k (used ++ ns)) ≡ ns = rw (from, count) (ap (take (length ns)) (drop-append_seam used ns) ∙ take-length ns) in
    λ i. Apply (name i) (part i)

-- and is within
pub applied-within : (symbols : ℕ) (used after ns : List ℕ) (s k n : ℕ) → s < symbols → after ≡ used ++ ns → k ≡ length used → n ≡ length ns → IsWithin symbols (length after) (Applied s k n)
applied-within symbols used after ns s k n below is from count =
    let l : length after ≡ length used + length ns = ap length is ∙ length-append used ns in
    (below, omega (arith, l, from, count))

-- one line more
pub within_push : (m n : ℕ) (es : List Entry) (e : Entry) → AreWithin m n es → IsWithin m n e.way → AreWithin m n (es ++ e ∷ [])
within_push m n es e h w = All-push (λ (e : Entry). IsWithin m n e.way) es e h w

pub within_none : AreWithin 0 0 []
within_none = All-nil (λ (e : Entry). IsWithin 0 0 e.way)

pub ruleset line_laws = (length-lines_of, slice_get-terms, slice_get-numbers, lines_of-push)

-- what holds anyhow holds where there is an error
pub on_err : {T E P : Type 0} (r : Result T E) → P → OnErr r P
on_err (Ok x) p = tt
on_err (Err e) p = p

-- what stands in a list stands there where more is put behind
got_front : {X : Type 0} (xs ys : List X) (k : ℕ) (x : X) → slice_get xs k ≡ Some x → slice_get (xs ++ ys) k ≡ Some x
got_front [] ys k x h = cc
got_front (y ∷ xs) ys zero x h = h
got_front (y ∷ xs) ys (suc k) x h = got_front xs ys k x h

got_last : {X : Type 0} (xs : List X) (x : X) → slice_get (xs ++ x ∷ []) (length xs) ≡ Some x
got_last [] x = refl
got_last (y ∷ xs) x = got_last xs x

-- one name more
pub more_push : {X : Type 0} (old new : List X) (x : X) → new ≡ old ++ x ∷ [] → IsMore old new
more_push old new x is = record { added = x ∷ []; is = is }

-- a name at its place
pub name_stored : (names : List (List ℕ)) (k : ℕ) (f : List ℕ) → slice_get names k ≡ Some f → (k < length names) × (slice_index_or names k [] ≡ f)
name_stored names k f h = (slice_get_within names k f h, get_or_from_slice_get names k f [] h)

-- the last one
pub name_last : (names new : List (List ℕ)) (k : ℕ) (f : List ℕ) → k ≡ length names → new ≡ names ++ f ∷ [] → slice_get new k ≡ Some f
name_last names new k f last is = rw (last, is) (got_last names f)

-- places stay where names are put behind
pub places_kept : (old new : List (List ℕ)) (places : List (List ℕ × ℕ)) → IsMore old new → ArePlaces old places → ArePlaces new places
places_kept old new places more h n s at = rw more.is (got_front old more.added s n (h n s at))

-- and one more place
pub places_put : (names : List (List ℕ)) (old new : List (List ℕ × ℕ)) (f : List ℕ) (k : ℕ) → ArePlaces names old → slice_get names k ≡ Some f → Puts old new f (Some k) → ArePlaces names new
places_put names old new f k h at puts n s has = by (bytes_eq f n) refl where
  by : (b : Bool) → bytes_eq f n ≡ b → slice_get names s ≡ Some n
  by true e =
      let same : f ≡ n = (bytes_eq-Decides f n).0 e in
      let there : Some k ≡ Some s = sym (puts n ∙ ap (λ b. if b then Some k else value_at old n) e) ∙ has in
      let place : k ≡ s = same_Some k s there in
      rw (← place, ← same) at
  by false e = h n s (sym (puts n ∙ ap (λ b. if b then Some k else value_at old n) e) ∙ has)

pub places_none : (names : List (List ℕ)) → ArePlaces names []
places_none names n s h = cc

pub ruleset place_laws = (more_push, more-none, name_stored, name_last)
