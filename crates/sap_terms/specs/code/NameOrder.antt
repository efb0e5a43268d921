-- The order in which maps hold names: by a number that is read off a name at once, names of one number byte by byte. It is another
-- than that of a dictionary, and no contract speaks of it. Its laws stand here since the keys of maps are proved from them.
use Rattle.std.proofs.Common.{◌≡◌, ℕ, ◌+◌, ◌-◌, ◌*◌, ◌%◌, ◌^◌, Bool, true, false, if◌then◌else◌, List, [], ◌∷◌, length, nat_eq, nat_le, slice_index, refl, sym, ap, ◌∙◌}
use Rattle.std.proofs.Common.{Ordering, Less, Equal, Greater, nat_cmp, is_eq}
use Rattle.std.specs.Ordering.{ordering_then, eq_by_cmp, as_partial_cmp}
use Rattle.std.specs.Int.{w32, w64, from_le_bytes}
use Rattle.std.specs.Cmp.{IsTotalOrder, IsPartialOrder, on_total, then_total, po}
use Rattle.std.specs.Cmp.Lexicographic.{slice_cmp, pointwise, bytes_decides, texts_ties}
use Rattle.std.proofs.lemmas.Cmp.{nat_cmp_total, nat_list_cmp_total, tied_itself}

-- the four bytes from an index on, as one number
abbrev pub four : List ℕ → ℕ → ℕ
four bs i = from_le_bytes w32 (slice_index bs i ∷ slice_index bs (i + 1) ∷ slice_index bs (i + 2) ∷ slice_index bs (i + 3) ∷ [])

-- the eight bytes from an index on, as one number
abbrev pub eight : List ℕ → ℕ → ℕ
eight bs i =
    from_le_bytes w64 (slice_index bs i ∷ slice_index bs (i + 1) ∷ slice_index bs (i + 2) ∷ slice_index bs (i + 3)
    ∷ slice_index bs (i + 4) ∷ slice_index bs (i + 5) ∷ slice_index bs (i + 6) ∷ slice_index bs (i + 7) ∷ [])

-- the number of a name: the sum of its first eight bytes and its last eight, each as one number, as far as a word goes; of a shorter
-- name its first four and its last four; 0 of one that has fewer
abbrev pub mark : List ℕ → ℕ
mark n =
    if nat_le 8 (length n) then (eight n 0 + eight n (length n - 8)) % 2 ^ 64
    else if nat_le 4 (length n) then four n 0 + four n (length n - 4) * 4294967296
    else 0

-- names by their numbers, and those of one number byte by byte
unfoldable pub name_cmp : List ℕ → List ℕ → Ordering
name_cmp a b = ordering_then (nat_cmp (mark a) (mark b)) (slice_cmp nat_cmp a b)

pub name_cmp_total : IsTotalOrder name_cmp
unfolding name_cmp
name_cmp_total = then_total (on_total mark nat_cmp_total) nat_list_cmp_total

-- names that it doesn't tell apart are the same
pub name_ties : (a b : List ℕ) → pointwise nat_eq a b ≡ eq_by_cmp name_cmp a b
unfolding name_cmp
name_ties a b = by (pointwise nat_eq a b) refl (nat_cmp (mark a) (mark b)) refl (texts_ties a b) where
  bytes : Ordering
  bytes = slice_cmp nat_cmp a b

  level : pointwise nat_eq a b ≡ true → nat_cmp (mark a) (mark b) ≡ Equal
  level e = ap (λ (c : List ℕ). nat_cmp (mark a) (mark c)) (sym ((bytes_decides a b).0 e)) ∙ tied_itself nat_cmp_total (mark a)

  by : (c : Bool) → pointwise nat_eq a b ≡ c → (r : Ordering) → nat_cmp (mark a) (mark b) ≡ r → c ≡ is_eq bytes → c ≡ is_eq (ordering_then r bytes)
  by c e Equal m h = h
  by false e Less m h = refl
  by false e Greater m h = refl
  by true e r m h = h ∙ ap (λ (o : Ordering). is_eq (ordering_then o bytes)) (sym (level e) ∙ m)

pub name_po : IsPartialOrder (pointwise nat_eq) (as_partial_cmp name_cmp)
name_po = po name_cmp_total name_ties
