-- The stretches of the words whose flags are set, in the order of the file.
use Rattle.std.proofs.Common.{◌≡◌, ◌<◌, ◌≤◌, ◌+◌, ◌⊎◌, inl, inr, ℕ, zero, suc, Bool, true, false, List, [], ◌∷◌, ◌++◌, length, take, Option, Some, None, refl, sym, ap, ◌∙◌, subst, arith}
use Rattle.std.specs.Prelude.{Contains, slice_get}
use Rattle.sap_terms.proofs.PlainLaws.Items.{cons_cases, first_item, later_item, none_contained}
use Rattle.sap_terms.proofs.PlainLaws.Lists.{take_got}
use Rattle.sap_text.specs.Spans.{InOrder}
use Rattle.sap_text.specs.declared.token.Token.{Token}
use Rattle.sap_stretches.specs.Stretches.{stretch_at, stretch_of}
use Rattle.sap_stretches.specs.declared.stretch.Stretch.{Stretch}
use Rattle.sap_captures.specs.Ascending.{AreAscending, AreBehind}
use Rattle.sap_captures.specs.code.Flags.{IsFlagged}
use Rattle.sap_captures.specs.code.Flagged.{flagged}

-- ---- each word begins behind the one before it

same_end : (t u : Token) (ts : List Token) (k : ℕ) → stretch_at (t ∷ u ∷ ts) (suc k) ≡ stretch_at (u ∷ ts) k
same_end t u ts k = by (slice_get (u ∷ ts) k) where
  by : (o : Option Token) → stretch_of (t ∷ u ∷ ts) o ≡ stretch_of (u ∷ ts) o
  by (Some v) = refl
  by None = refl

next_within : (t u : Token) (ts : List Token) (k : ℕ) → (stretch_at (u ∷ ts) k).from < (stretch_at (u ∷ ts) (suc k)).from → (stretch_at (t ∷ u ∷ ts) (suc k)).from < (stretch_at (t ∷ u ∷ ts) (suc (suc k))).from
next_within t u ts k h =
    subst (λ (v : Stretch). v.from < (stretch_at (t ∷ u ∷ ts) (suc (suc k))).from) (sym (same_end t u ts k))
    (subst (λ (v : Stretch). (stretch_at (u ∷ ts) k).from < v.from) (sym (same_end t u ts (suc k))) h)

next_from : (ts : List Token) (k : ℕ) (at size : ℕ) → InOrder at size ts → k < length ts → (stretch_at ts k).from < (stretch_at ts (suc k)).from
next_from [] k at size o low = absurd (omega (arith, low))
next_from (t ∷ []) zero at size o low = o.1
next_from (t ∷ []) (suc k) at size o low = absurd (omega (arith, low))
next_from (t ∷ u ∷ ts) zero at size o low = let a = o.1 in let b = o.2.0 in omega (arith, a, b)
next_from (t ∷ u ∷ ts) (suc k) at size o low = next_within t u ts k (next_from (u ∷ ts) k t.to size o.2 (omega (arith, low)))

abbrev from_at : List Token → ℕ → ℕ
from_at ts k = (stretch_at ts k).from

-- ---- the stretches ascend

module _ (ts : List Token) (size : ℕ) (o : InOrder 0 size ts) where
  behind_all : (n k : ℕ) (fs : List Bool) → k + length fs ≤ length ts + 1 → ((0 < length fs) → n < from_at ts k) → AreBehind n (flagged ts k fs)
  behind_all n k [] fits low = tt
  behind_all n k (true ∷ fs) fits low =
      (low (omega arith), behind_all (from_at ts k) (suc k) fs (omega (arith, fits)) (λ more. next_from ts k 0 size o (omega (arith, fits, more))))
  behind_all n k (false ∷ fs) fits low =
      behind_all n (suc k) fs (omega (arith, fits)) (λ more. let a = low (omega arith) in let b = next_from ts k 0 size o (omega (arith, fits, more)) in omega (arith, a, b))

  pub ascending : (k : ℕ) (fs : List Bool) → k + length fs ≤ length ts + 1 → AreAscending (flagged ts k fs)
  ascending k [] fits = tt
  ascending k (true ∷ fs) fits = behind_all (from_at ts k) (suc k) fs (omega (arith, fits)) (λ more. next_from ts k 0 size o (omega (arith, fits, more)))
  ascending k (false ∷ fs) fits = ascending (suc k) fs (omega (arith, fits))

-- ---- which they are

abbrev IsOneOf : List Token → ℕ → List Bool → Stretch → Type 0
IsOneOf ts k fs t = (i : ℕ) × IsFlagged fs i × (t ≡ stretch_at ts (k + i))

further : (ts : List Token) (k : ℕ) (b : Bool) (fs : List Bool) (t : Stretch) → IsOneOf ts (suc k) fs t → IsOneOf ts k (b ∷ fs) t
further ts k b fs t x = (suc x.0, x.1, x.2 ∙ ap (stretch_at ts) (omega arith))

pub told_to : (ts : List Token) (k : ℕ) (fs : List Bool) (t : Stretch) → Contains (flagged ts k fs) t → IsOneOf ts k fs t
told_to ts k [] t c = absurd (none_contained c)
told_to ts k (false ∷ fs) t c = further ts k false fs t (told_to ts (suc k) fs t c)
told_to ts k (true ∷ fs) t c = by (cons_cases (stretch_at ts k) (flagged ts (suc k) fs) t c) (told_to ts (suc k) fs t) where
  by : (stretch_at ts k ≡ t) ⊎ Contains (flagged ts (suc k) fs) t → (Contains (flagged ts (suc k) fs) t → IsOneOf ts (suc k) fs t) → IsOneOf ts k (true ∷ fs) t
  by (inl e) rest = (zero, refl, sym e ∙ ap (stretch_at ts) (omega arith))
  by (inr c) rest = further ts k true fs t (rest c)

pub told_from : (ts : List Token) (k : ℕ) (fs : List Bool) (i : ℕ) → IsFlagged fs i → Contains (flagged ts k fs) (stretch_at ts (k + i))
told_from ts k [] i h = absurd (cc (h))
told_from ts k (true ∷ fs) zero h = subst (λ (n : ℕ). Contains (stretch_at ts k ∷ flagged ts (suc k) fs) (stretch_at ts n)) (omega arith) (first_item (stretch_at ts k) (flagged ts (suc k) fs))
told_from ts k (false ∷ fs) zero h = absurd (cc (h))
told_from ts k (true ∷ fs) (suc i) h =
    subst (λ (n : ℕ). Contains (stretch_at ts k ∷ flagged ts (suc k) fs) (stretch_at ts n)) (omega arith)
    (later_item (stretch_at ts k) (flagged ts (suc k) fs) (stretch_at ts (suc k + i)) (told_from ts (suc k) fs i h))
told_from ts k (false ∷ fs) (suc i) h = subst (λ (n : ℕ). Contains (flagged ts (suc k) fs) (stretch_at ts n)) (omega arith) (told_from ts (suc k) fs i h)

-- ---- one flag after another

flagged_append : (ts : List Token) (j : ℕ) (xs ys : List Bool) → flagged ts j (xs ++ ys) ≡ flagged ts j xs ++ flagged ts (j + length xs) ys
flagged_append ts j [] ys = ap (λ (n : ℕ). flagged ts n ys) (omega arith)
flagged_append ts j (true ∷ xs) ys =
    ap (λ (us : List Stretch). stretch_at ts j ∷ us) (flagged_append ts (suc j) xs ys ∙ ap (λ (n : ℕ). flagged ts (suc j) xs ++ flagged ts n ys) (omega arith))
flagged_append ts j (false ∷ xs) ys = flagged_append ts (suc j) xs ys ∙ ap (λ (n : ℕ). flagged ts (suc j) xs ++ flagged ts n ys) (omega arith)

front_length : (fs : List Bool) (k : ℕ) (f : Bool) → slice_get fs k ≡ Some f → length (take k fs) ≡ k
front_length [] k f e = absurd (cc (e))
front_length (g ∷ fs) zero f e = refl
front_length (g ∷ fs) (suc k) f e = let rest = front_length fs k f e in omega (arith, rest)

all_before : (fs : List Bool) (k : ℕ) (f : Bool) → slice_get fs k ≡ Some f → k ≡ 0 + length (take k fs)
all_before fs k f got = let e = front_length fs k f got in omega (arith, e)

pub flag_step : (ts : List Token) (fs : List Bool) (k : ℕ) (f : Bool) (a b : List Stretch) → slice_get fs k ≡ Some f → a ≡ flagged ts 0 (take k fs) → b ≡ a ++ flagged ts k (f ∷ []) → b ≡ flagged ts 0 (take (k + 1) fs)
flag_step ts fs k f a b got before after =
    after ∙ ap (λ (us : List Stretch). us ++ flagged ts k (f ∷ [])) before
    ∙ ap (λ (n : ℕ). flagged ts 0 (take k fs) ++ flagged ts n (f ∷ [])) (all_before fs k f got)
    ∙ sym (flagged_append ts 0 (take k fs) (f ∷ []))
    ∙ ap (flagged ts 0) (sym (take_got fs k f got))
