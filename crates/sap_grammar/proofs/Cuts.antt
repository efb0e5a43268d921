-- Words are cut into items in one way.
use Rattle.std.proofs.Common.{◌≡◌, ◌+◌, ℕ, suc, Bool, true, false, List, [], ◌∷◌, ◌++◌, take, drop, refl, sym, ap, ◌∙◌, arith}
use Rattle.std.specs.Prelude.{if◌then◌else◌}
use Rattle.sap_grammar.specs.Words.{Word, name, mark}
use Rattle.sap_grammar.specs.Cut.{Placed, begins_item, NoItemWord, StartsItem, IsCut, cut_none, cut_one, IsHeader}
use Rattle.sap_grammar.specs.ItemReading.{count_on, joined, starts_item, cut}

starts_there : (ts : List Placed) → StartsItem ts → starts_item ts ≡ true
starts_there [] s = refl
starts_there (p ∷ ts) s = s

one_item : (p : Placed) (ps ts : List Placed) (items : List (List Placed)) → NoItemWord ps → StartsItem ts → cut ts ≡ items → cut (p ∷ (ps ++ ts)) ≡ (p ∷ ps) ∷ items
one_item p [] ts items none s e = rw (starts_there ts s, e) refl
one_item p (q ∷ ps) ts items none s e = rw (none.0, one_item q ps ts items none.1 s e) refl

-- a cut is the one that is computed
pub cut_is : {ts : List Placed} {items : List (List Placed)} → IsCut ts items → cut ts ≡ items
cut_is cut_none = refl
cut_is (cut_one p ps ts {items = items} none s r) = one_item p ps ts items none s (cut_is r)

-- one more word before an item that begins with no item word
more_first : (p q : Placed) (z : List Placed) (items : List (List Placed)) → begins_item q ≡ false → IsCut (q ∷ z) items → IsCut (p ∷ q ∷ z) (joined p items)
more_first p q z items other (cut_one q' ps ts none s r) = cut_one p (q ∷ ps) ts (other, none) s r

-- what is computed is a cut
pub cut_sound : (ts : List Placed) → IsCut ts (cut ts)
cut_sound [] = cut_none
cut_sound (p ∷ []) = cut_one p [] [] tt tt cut_none
cut_sound (p ∷ q ∷ z) = by_test (begins_item q) refl (cut_sound (q ∷ z))
  where
    by_test : (c : Bool) → begins_item q ≡ c → IsCut (q ∷ z) (cut (q ∷ z)) → IsCut (p ∷ q ∷ z) (if c then (p ∷ []) ∷ cut (q ∷ z) else joined p (cut (q ∷ z)))
    by_test true e r = cut_one p [] (q ∷ z) tt e r
    by_test false e r = more_first p q z (cut (q ∷ z)) e r

pub one_cut : (ts : List Placed) (is js : List (List Placed)) → IsCut ts is → IsCut ts js → is ≡ js
one_cut ts is js r s = sym (cut_is r) ∙ cut_is s

-- an item is one word and all up to the next item word
pub cut_step : (p : Placed) (ps : List Placed) → cut (p ∷ ps) ≡ (p ∷ take (count_on ps) ps) ∷ cut (drop (count_on ps) ps)
cut_step p [] = refl
cut_step p (q ∷ ps) = by_test (begins_item q) refl (cut_step q ps)
  where
    by_test : (c : Bool) → begins_item q ≡ c → cut (q ∷ ps) ≡ (q ∷ take (count_on ps) ps) ∷ cut (drop (count_on ps) ps)
        → cut (p ∷ q ∷ ps) ≡ (p ∷ take (count_on (q ∷ ps)) (q ∷ ps)) ∷ cut (drop (count_on (q ∷ ps)) (q ∷ ps))
    by_test true e later = rw e refl
    by_test false e later =
        let n : 1 + count_on ps ≡ suc (count_on ps) = omega arith in
        rw (e, later, n) refl

second_word : List Placed → Word
second_word [] = mark []
second_word (p ∷ []) = mark []
second_word (p ∷ q ∷ ps) = q.word

-- words have one header
pub one_header : (x y : List ℕ) (all rest tail : List Placed) → IsHeader x all rest → IsHeader y all tail → (x ≡ y) × (rest ≡ tail)
unfolding second_word
one_header x y all rest tail r s =
    let same = sym r.spelled ∙ s.spelled in
    let named : name x ≡ name y = ap second_word same in
    (cc, ap (λ (ps : List Placed). drop 3 ps) same)
