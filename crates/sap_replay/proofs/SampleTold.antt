-- What is told of the sample is what is found.
use Rattle.std.proofs.Common.{◌≡◌, ◌≤◌, ◌+◌, ◌*◌, ℕ, List, length, ap, subst, ◌∙◌}
use Rattle.sap_terms.specs.Signature.{Sig}
use Rattle.sap_terms.specs.Trace.{Trace}
use Rattle.sap_process.specs.Proc.{Proc}
use Rattle.sap_runs.specs.Limits.{HasFewNodes}
use Rattle.sap_runs.specs.declared.process_step.PStep.{PStep}
use Rattle.sap_runs.specs.declared.rule_step.RStep.{RStep}
use Rattle.sap_forward.specs.Converted as forward
use Rattle.sap_forward.specs.Counted.{rule_count}
use Rattle.sap_back.specs.Converted as back
use Rattle.sap_replay.specs.Sample.{sample_lines, counts_text, sample_text}
use Rattle.sap_replay.proofs.SampleCounts.{lines_of_sample, rules_of_sample}
use Rattle.sap_replay.proofs.SampleShown.{shown_by_sample}

same_counts : (n a b c s : ℕ) → a ≡ 9 * n → b ≡ 13 * n + 2 → c ≡ 9 * n → s ≡ 2 * n → counts_text n a b c s ≡ sample_text n
same_counts n a b c s first second third fourth = λ i. counts_text n (first i) (second i) (third i) (fourth i)

module _ (g : Sig) (start : Proc) (n : ℕ) (some : 1 ≤ n) (run : List PStep) (is_run : run ≡ sample_lines n) where
  times_shown : (tr : Trace) → forward.IsShownByLines g start run tr → length tr ≡ 2 * n
  times_shown tr shown =
      let at = subst (λ (lines : List PStep). forward.IsShownByLines g start lines tr) is_run shown in
      shown_by_sample g HasFewNodes start n at.config at.entries tr at.marks
      at.legal

  -- the numbers of the runs and of the trace
  pub told_of_sample : (times : ℕ) (rules : List RStep) (lines : List PStep) → ((tr : Trace) × forward.IsShownByLines g start run tr × (times ≡ length tr))
      → forward.IsConvertedToRules g start run rules → back.IsConvertedToProcess g start rules lines → counts_text n (length run) (length rules) (length lines) times ≡ sample_text n
  told_of_sample times rules lines shown to_rules to_lines =
      let first : length run ≡ 9 * n = ap length is_run ∙ lines_of_sample n in
      let second : length rules ≡ 13 * n + 2 = to_rules.counted ∙ (ap rule_count is_run ∙ rules_of_sample n some) in
      let third : length lines ≡ 9 * n = to_lines.count ∙ (to_rules.back ∙ first) in
      let fourth : times ≡ 2 * n = shown.2 ∙ times_shown shown.0 shown.1 in
      same_counts n (length run) (length rules) (length lines) times first second third fourth
