-- Names in order, and what is bound in that order.
use Rattle.std.proofs.Common.{◌≡◌, ◌≤◌, ◌<◌, ◌+◌, ℕ, zero, suc, Bool, true, false, not, cond, List, [], ◌∷◌, ◌++◌, length, take, map, Option, Some, None, option_map, Result, Ok, Err, refl, sym, ap, subst, ◌∙◌, arith, length-append}
use Rattle.std.specs.Prelude.{if◌then◌else◌, slice_get, OnOk, OnErr}
use Rattle.std.specs.List.{IsDistinct, AllByRecursion, position, position_or_len}
use Rattle.std.specs.Str.{bytes_eq}
use Rattle.std.proofs.lemmas.Cmp.{nat_list_eq_equiv}
use Rattle.std.proofs.lemmas.Grind.{common_steps}
use Rattle.std.proofs.lemmas.List.{map-append}
use Rattle.std.proofs.lemmas.Slice.Eq.{bytes_eq-Decides}
use Rattle.sap_terms.proofs.PlainLaws.Lists.{take_got}
use Rattle.sap_terms.specs.declared.mem.Mem.{Mem}
use Rattle.sap_share.specs.code.Found.{number_of_name, IsIndexOf, IsInOrder, KeepsOrder}
use Rattle.sap_share.specs.declared.env.Bound.{Bound}
use Rattle.sap_share.specs.declared.index.Index.{Index}
use Rattle.sap_share.proofs.Indexed.{index_longer}

-- where a name comes first
abbrev first_of : List (List ℕ) → List ℕ → ℕ
first_of names n = position_or_len (bytes_eq n) names

one : (k : ℕ) → 1 + k ≡ suc k
one k = omega arith

below : {X : Type 0} (xs : List X) (k : ℕ) (x : X) → slice_get xs k ≡ Some x → k < length xs
below [] k x h = cc
below (y ∷ ys) zero x h = omega arith
below (y ∷ ys) (suc k) x h = let rest = below ys k x h in omega (arith, rest)

none_beyond : {X : Type 0} (xs : List X) (k : ℕ) → length xs ≤ k → slice_get xs k ≡ None
none_beyond [] k h = refl
none_beyond (x ∷ xs) zero h =
    let no : ⊥ = omega (arith, h) in
    elim no [ ]
none_beyond (x ∷ xs) (suc k) h = none_beyond xs k (omega (arith, h))

-- among names of which no two are the same, one stands nowhere before it
one_at : (names : List (List ℕ)) (k : ℕ) (n : List ℕ) → IsDistinct bytes_eq names → slice_get names k ≡ Some n → first_of names n ≡ k
unfolding IsDistinct
one_at [] k n d h = cc
one_at (m ∷ ms) zero n d h = let same : n ≡ m = cc in ap (λ b. cond (not b) (1 + first_of ms n) 0) ((bytes_eq-Decides n m).1 same)
one_at (m ∷ ms) (suc k) n d h =
    ap (λ b. cond (not b) (1 + first_of ms n) 0) (nat_list_eq_equiv.symm n m ∙ other ms k d.0 h) ∙ one (first_of ms n) ∙ ap suc (one_at ms k n d.1 h) where
      other : (ms : List (List ℕ)) (k : ℕ) → AllByRecursion (λ y. bytes_eq m y ≡ false) ms → slice_get ms k ≡ Some n → bytes_eq m n ≡ false
      other [] k f h = cc
      other (y ∷ ys) zero f h = let same : y ≡ n = cc in ap (bytes_eq m) (sym same) ∙ f.0
      other (y ∷ ys) (suc k) f h = other ys k f.1 h

pub is_first : (names : List (List ℕ)) (k : ℕ) (n : List ℕ) → IsDistinct bytes_eq names → slice_get names k ≡ Some n → position (bytes_eq n) names ≡ Some k
is_first names k n d h =
    let at = one_at names k n d h in
    let in_list = below names k n h in
    grind (arith, common_steps)

-- the number of a name is that of what is bound where the name comes first
pub found_first : (es : List Bound) (names : List (List ℕ)) (n : List ℕ) → map (λ (e : Bound). e.var.name) es ≡ take (length es) names
    → number_of_name es n ≡ option_map (λ (e : Bound). e.id) (slice_get es (first_of names n))
found_first [] names n h = refl
found_first (e ∷ es) [] n h = cc
found_first (e ∷ es) (m ∷ ms) n h =
    let head : e.var.name ≡ m = cc in
    let tail : map (λ (e : Bound). e.var.name) es ≡ take (length es) ms = cc in
    let same : bytes_eq e.var.name n ≡ bytes_eq n m = ap (λ k. bytes_eq k n) head ∙ nat_list_eq_equiv.symm m n in
    by (bytes_eq e.var.name n) (found_first es ms n tail) ∙ ap (λ b. option_map (λ (e : Bound). e.id) (slice_get (e ∷ es) (cond (not b) (1 + first_of ms n) 0))) same where
      by : (b : Bool) → number_of_name es n ≡ option_map (λ (e : Bound). e.id) (slice_get es (first_of ms n))
          → (if b then Some e.id else number_of_name es n) ≡ option_map (λ (e : Bound). e.id) (slice_get (e ∷ es) (cond (not b) (1 + first_of ms n) 0))
      by true rest = refl
      by false rest = rest ∙ ap (λ k. option_map (λ (e : Bound). e.id) (slice_get (e ∷ es) k)) (sym (one (first_of ms n)))

at_of : (names : List (List ℕ)) (n : List ℕ) (k : ℕ) → position (bytes_eq n) names ≡ Some k → first_of names n ≡ k
at_of names n k h = grind (arith, common_steps)

beyond_of : (names : List (List ℕ)) (n : List ℕ) → position (bytes_eq n) names ≡ None → length names ≤ first_of names n
beyond_of names n h = grind (arith, common_steps)

no_longer : (es : List Bound) (names : List (List ℕ)) → map (λ (e : Bound). e.var.name) es ≡ take (length es) names → length es ≤ length names
no_longer [] names h = omega arith
no_longer (e ∷ es) [] h = cc
no_longer (e ∷ es) (m ∷ ms) h =
    let tail : map (λ (e : Bound). e.var.name) es ≡ take (length es) ms = cc in
    let rest = no_longer es ms tail in
    omega (arith, rest)

-- what is bound to a name, by where the name stands in the order
pub found_at : (es : List Bound) (names : List (List ℕ)) (n : List ℕ) (k : ℕ) → map (λ (e : Bound). e.var.name) es ≡ take (length es) names → position (bytes_eq n) names ≡ Some k
    → number_of_name es n ≡ option_map (λ (e : Bound). e.id) (slice_get es k)
found_at es names n k h at = found_first es names n h ∙ ap (λ j. option_map (λ (e : Bound). e.id) (slice_get es j)) (at_of names n k at)

pub found_nowhere : (es : List Bound) (names : List (List ℕ)) (n : List ℕ) → map (λ (e : Bound). e.var.name) es ≡ take (length es) names → position (bytes_eq n) names ≡ None → number_of_name es n ≡ None
found_nowhere es names n h at =
    let far = beyond_of names n at in
    let short = no_longer es names h in
    found_first es names n h ∙ ap (option_map (λ (e : Bound). e.id)) (none_beyond es (first_of names n) (omega (arith, far, short)))

-- with one more of the order, all is bound in order
one_further : (es : List Bound) (b : Bound) (names : List (List ℕ)) → map (λ (e : Bound). e.var.name) es ≡ take (length es) names → slice_get names (length es) ≡ Some b.var.name
    → map (λ (e : Bound). e.var.name) (es ++ b ∷ []) ≡ take (length (es ++ b ∷ [])) names
one_further es b names h next =
    let longer : length (es ++ b ∷ []) ≡ length es + 1 = length-append es (b ∷ []) in
    map-append (λ (e : Bound). e.var.name) es (b ∷ []) ∙ ap (λ ns. ns ++ b.var.name ∷ []) h ∙ sym (take_got names (length es) b.var.name next) ∙ ap (λ k. take k names) (sym longer)

-- what was in order is so in what is left of the order
still_in_order : (old new : Option (List (List ℕ))) (es : List Bound) (k : ℕ) (n : List ℕ) → IsInOrder old es → KeepsOrder old new k n → IsInOrder new es
still_in_order old None es k n h f = tt
still_in_order old (Some names) es k n h f = subst (λ o. IsInOrder o es) f.0 h

more_in_order : (old new : Option (List (List ℕ))) (es : List Bound) (b : Bound) → IsInOrder old es → KeepsOrder old new (length es) b.var.name → IsInOrder new (es ++ b ∷ [])
more_in_order old None es b h f = tt
more_in_order old (Some names) es b h f = one_further es b names (subst (λ o. IsInOrder o es) f.0 h) f.1

-- where one more was put last, or none
pub put_in_order : (r : Result (Unit {0}) Mem) (x : Index) (old new : Option (List (List ℕ))) (es pushed : List Bound) (b : Bound) → OnOk r (pushed ≡ es ++ b ∷ []) → OnErr r (pushed ≡ es)
    → IsIndexOf x es → IsInOrder old es → KeepsOrder old new (length es) b.var.name → IsIndexOf x pushed × IsInOrder new pushed
put_in_order (Ok u) x old new es pushed b ok err i h f = rw ok (index_longer x es (b ∷ []) i, more_in_order old new es b h f)
put_in_order (Err m) x old new es pushed b ok err i h f = rw err (i, still_in_order old new es (length es) b.var.name h f)
