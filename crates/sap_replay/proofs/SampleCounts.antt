-- How many lines the sample has, and how many stand opposite to them.
use Rattle.std.proofs.Common.{◌≡◌, ◌≤◌, ◌<◌, ◌+◌, ◌*◌, ℕ, zero, suc, List, [], ◌∷◌, ◌++◌, length, refl, ap, ◌∙◌, append_assoc, arith}
use Rattle.std.proofs.lemmas.List.{length-append}
use Rattle.std.proofs.Math.Numerals.{suc-eq-add-one}
use Rattle.sap_runs.specs.declared.process_step.PStep.{PStep}
use Rattle.sap_forward.specs.Counted.{lines_for_all, copying_behind, all_copying, rule_count}
use Rattle.sap_replay.specs.Sample.{session, sample_lines}

-- the run of one session more
pub one_more_session : (m : ℕ) → sample_lines m ++ session m ≡ sample_lines (m + 1)
one_more_session m = ap sample_lines (suc-eq-add-one m)

-- nine lines a session
pub lines_of_sample : (n : ℕ) → length (sample_lines n) ≡ 9 * n
lines_of_sample zero = refl
lines_of_sample (suc m) = let h = lines_of_sample m in let l = length-append (sample_lines m) (session m) in omega arith

lines_for_both : (xs ys : List PStep) → lines_for_all (xs ++ ys) ≡ lines_for_all xs + lines_for_all ys
lines_for_both [] ys = omega arith
lines_for_both (x ∷ xs) ys = let h = lines_for_both xs ys in omega arith

copying_both : (ts : List ℕ) (xs ys : List PStep) → all_copying ts (xs ++ ys) ≡ all_copying (all_copying ts xs) ys
copying_both ts [] ys = refl
copying_both ts (x ∷ xs) ys = copying_both (copying_behind ts x) xs ys

-- thirteen for a session
lines_for_sample : (n : ℕ) → lines_for_all (sample_lines n) ≡ 13 * n
lines_for_sample zero = refl
lines_for_sample (suc m) = let h = lines_for_sample m in let l = lines_for_both (sample_lines m) (session m) in omega arith

-- one replication starts
copying_of_sample : (m : ℕ) → all_copying [] (sample_lines (suc m)) ≡ 0 ∷ []
copying_of_sample zero = refl
copying_of_sample (suc m) = copying_both [] (sample_lines (suc m)) (session (suc m)) ∙ ap (λ ts. all_copying ts (session (suc m))) (copying_of_sample m)

-- where there are lines
count_of_lines : (xs : List PStep) → 0 < length xs → rule_count xs ≡ lines_for_all xs + length (all_copying [] xs) + 1
count_of_lines [] h = omega (arith, h)
count_of_lines (x ∷ xs) h = refl

-- so many lines of rules
pub rules_of_sample : (n : ℕ) → 1 ≤ n → rule_count (sample_lines n) ≡ 13 * n + 2
rules_of_sample zero h = omega (arith, h)
rules_of_sample (suc m) h =
    let l = lines_of_sample (suc m) in
    let c = count_of_lines (sample_lines (suc m)) (omega arith) in
    let f = lines_for_sample (suc m) in
    let o = ap length (copying_of_sample m) in
    omega arith

-- five texts that are put one behind the other
pub five_texts : (t a b c d e : List ℕ) → ((((t ++ a) ++ b) ++ c) ++ d) ++ e ≡ t ++ (a ++ (b ++ (c ++ (d ++ e))))
five_texts t a b c d e =
    append_assoc (((t ++ a) ++ b) ++ c) d e ∙ append_assoc ((t ++ a) ++ b) c (d ++ e) ∙ append_assoc (t ++ a) b (c ++ (d ++ e)) ∙ append_assoc t a (b ++ (c ++ (d ++ e)))
