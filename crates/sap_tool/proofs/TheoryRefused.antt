-- Bytes are one theory, or refused for one cause.
use Rattle.std.proofs.Common.{◌≡◌, ◌≤◌, ◌<◌, ℕ, List, length, take, Result, Ok, Err, refl, sym, ap, subst, arith}
use Rattle.std.specs.Prelude.{◌+◌}
use Rattle.std.proofs.lemmas.Grind.{common_steps}
use Rattle.sap_rule.specs.declared.theory.Theory.{Theory}
use Rattle.sap_theory.specs.ReadTheory.{IsTheoryRead}
use Rattle.sap_theory.specs.declared.fault.TheoryFault.{TheoryFault}
use Rattle.sap_replay.specs.AcceptedTheory.{most_theory_bytes, IsAcceptedTheory, IsTheoryRefusedWith, too_long, unread}
use Rattle.sap_refusals.specs.TheoryRefusals.{theory_fault_text}

-- bytes are read as one theory, or refused for one cause
abbrev pub OneTheory : Type 0
OneTheory = (z : List ℕ) (o u : Result Theory TheoryFault) → IsTheoryRead z o → IsTheoryRead z u → o ≡ u

module _ (one : OneTheory) (z : List ℕ) where
  same_fault : (e f : TheoryFault) → IsTheoryRead z (Err e) → IsTheoryRead z (Err f) → e ≡ f
  same_fault e f r s = let same : ◌≡◌ {A = Result Theory TheoryFault} (Err e) (Err f) = one z (Err e) (Err f) r s in cc

  not_both : (t : Theory) (e : TheoryFault) → IsTheoryRead z (Ok t) → IsTheoryRead z (Err e) → ⊥
  not_both t e r s = let same : ◌≡◌ {A = Result Theory TheoryFault} (Ok t) (Err e) = one z (Ok t) (Err e) r s in cc (same)

  -- one theory at most is accepted
  pub same_theory : (t u : Theory) → IsAcceptedTheory z t → IsAcceptedTheory z u → t ≡ u
  same_theory t u r s = let same : ◌≡◌ {A = Result Theory TheoryFault} (Ok t) (Ok u) = one z (Ok t) (Ok u) r.read s.read in cc

  -- one cause refuses them
  pub one_theory_cause : (a b : List ℕ) → IsTheoryRefusedWith z a → IsTheoryRefusedWith z b → a ≡ b
  one_theory_cause a b (too_long l) (too_long m) = refl
  one_theory_cause a b (too_long l) (unread m s) = absurd (omega (arith, l, m))
  one_theory_cause a b (unread l r) (too_long m) = absurd (omega (arith, l, m))
  one_theory_cause a b (unread {e = e} l r) (unread {e = f} m s) = ap theory_fault_text (same_fault e f r s)

  -- what is refused isn't accepted
  pub theory_not_refused : (why : List ℕ) (t : Theory) → IsTheoryRefusedWith z why → IsAcceptedTheory z t → ⊥
  theory_not_refused why t (too_long l) file = omega (arith, l, file.short)
  theory_not_refused why t (unread {e = e} l r) file = not_both t e file.read r

-- the first bytes of a theory, one more than it may have, show what it is
abbrev part : List ℕ → List ℕ
part bytes = take (most_theory_bytes + 1) bytes

whole_part : (most : ℕ) (bytes : List ℕ) → length bytes ≤ most → take (most + 1) bytes ≡ bytes
whole_part most bytes h = grind (arith, common_steps)

long_part : (most : ℕ) (bytes : List ℕ) → most < length bytes → most < length (take (most + 1) bytes)
long_part most bytes h = grind (arith, common_steps)

short_part : (most : ℕ) (bytes : List ℕ) → length (take (most + 1) bytes) ≤ most → length bytes ≤ most
short_part most bytes h = grind (arith, common_steps)

pub theory_part_refused : (bytes why : List ℕ) → IsTheoryRefusedWith bytes why → IsTheoryRefusedWith (part bytes) why
theory_part_refused bytes why (too_long l) = too_long (long_part most_theory_bytes bytes l)
theory_part_refused bytes why (unread {e = e} l r) =
    subst (λ (y : List ℕ). IsTheoryRefusedWith y (theory_fault_text e)) (sym (whole_part most_theory_bytes bytes l)) (unread l r)

pub theory_refused_by_part : (bytes why : List ℕ) → IsTheoryRefusedWith (part bytes) why → IsTheoryRefusedWith bytes why
theory_refused_by_part bytes why (too_long l) = too_long (longer most_theory_bytes bytes l) where
  longer : (most : ℕ) (xs : List ℕ) → most < length (take (most + 1) xs) → most < length xs
  longer most xs h = grind (arith, common_steps)
theory_refused_by_part bytes why (unread {e = e} l r) =
    subst (λ (y : List ℕ). IsTheoryRefusedWith y (theory_fault_text e)) (whole_part most_theory_bytes bytes (short_part most_theory_bytes bytes l)) (unread l r)

pub theory_part_accepted : (bytes : List ℕ) (t : Theory) → IsAcceptedTheory bytes t → IsAcceptedTheory (part bytes) t
theory_part_accepted bytes t file = subst (λ (y : List ℕ). IsAcceptedTheory y t) (sym (whole_part most_theory_bytes bytes file.short)) file

pub theory_accepted_by_part : (bytes : List ℕ) (t : Theory) → IsAcceptedTheory (part bytes) t → IsAcceptedTheory bytes t
theory_accepted_by_part bytes t file =
    subst (λ (y : List ℕ). IsAcceptedTheory y t) (whole_part most_theory_bytes bytes (short_part most_theory_bytes bytes file.short)) file
