-- What refuses bytes of JSON refuses the first of them that were fetched.
use Rattle.std.proofs.Common.{◌≡◌, ◌≤◌, ◌<◌, ℕ, List, length, take, sym, subst, arith}
use Rattle.std.specs.Prelude.{◌+◌}
use Rattle.std.proofs.lemmas.Grind.{common_steps}
use Rattle.sap_outside.specs.RunPieces.{most_run_bytes}
use Rattle.sap_refusals.specs.RunFaultTexts.{json_fault_text}
use Rattle.sap_replay.specs.JsonRuns.{IsJsonRefusedWith, too_long, no_run}

-- the first bytes, one more than there may be, show what they are
abbrev part : List ℕ → List ℕ
part bytes = take (most_run_bytes + 1) bytes

whole_part : (most : ℕ) (bytes : List ℕ) → length bytes ≤ most → take (most + 1) bytes ≡ bytes
whole_part most bytes h = grind (arith, common_steps)

long_part : (most : ℕ) (bytes : List ℕ) → most < length bytes → most < length (take (most + 1) bytes)
long_part most bytes h = grind (arith, common_steps)

short_part : (most : ℕ) (bytes : List ℕ) → length (take (most + 1) bytes) ≤ most → length bytes ≤ most
short_part most bytes h = grind (arith, common_steps)

longer_whole : (most : ℕ) (bytes : List ℕ) → most < length (take (most + 1) bytes) → most < length bytes
longer_whole most bytes h = grind (arith, common_steps)

pub json_part_refused : (bytes why : List ℕ) → IsJsonRefusedWith bytes why → IsJsonRefusedWith (part bytes) why
json_part_refused bytes _ (too_long l) = too_long (long_part most_run_bytes bytes l)
json_part_refused bytes _ (no_run {e = e} l r) =
    subst (λ (y : List ℕ). IsJsonRefusedWith y (json_fault_text e)) (sym (whole_part most_run_bytes bytes l)) (no_run l r)

pub json_refused_by_part : (bytes why : List ℕ) → IsJsonRefusedWith (part bytes) why → IsJsonRefusedWith bytes why
json_refused_by_part bytes _ (too_long l) = too_long (longer_whole most_run_bytes bytes l)
json_refused_by_part bytes _ (no_run {e = e} l r) =
    subst (λ (y : List ℕ). IsJsonRefusedWith y (json_fault_text e)) (whole_part most_run_bytes bytes (short_part most_run_bytes bytes l)) (no_run l r)
