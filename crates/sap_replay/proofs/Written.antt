-- The text of a run of the process that was made of lines of rules is read as that run.
use Rattle.std.proofs.Common.{◌≡◌, ◌≤◌, ℕ, List, [], ◌∷◌, length, Result, Ok, Err, refl, subst}
use Rattle.std.specs.Prelude.{All}
use Rattle.std.proofs.lemmas.List.Elements.{All-nil, All-cons, All-head, All-tail, All-contains}
use Rattle.sap_terms.specs.Trace.{Trace}
use Rattle.sap_terms.specs.declared.binding.Binding.{Binding}
use Rattle.sap_rule.specs.declared.rule.Rule.{Rule}
use Rattle.sap_runs.specs.declared.process_step.PStep.{PStep}
use Rattle.sap_runs.specs.declared.process_step.PStep.TheVariants as step
use Rattle.sap_runs.specs.declared.rule_step.RStep.{RStep}
use Rattle.sap_runs.specs.declared.rule_step.RStep.TheVariants as rstep
use Rattle.sap_run_lines.specs.Spellable.{AreWritableWords, IsWritableProcess, IsWritableRule}
use Rattle.sap_run_lines.specs.StepLines.{process_words, use_words, with_words}
use Rattle.sap_run_texts.specs.declared.limits.TheConstants.{MOST_PROCESS_STEPS}
use Rattle.sap_run_texts.specs.declared.run.Kinds.{Kinds}
use Rattle.sap_run_texts.specs.declared.run.Run.{Run}
use Rattle.sap_run_texts.specs.declared.run.Run.TheVariants as run
use Rattle.sap_run_texts.specs.declared.run_fault.RunFault.{RunFault}
use Rattle.sap_run_texts.specs.RunPrinted.{Each, process_run_text}
use Rattle.sap_run_texts.specs.RunTexts.{IsProcessRunText, IsRuleRunText, IsRunRead, as_process, as_rules, told_process, told_rules, told_neither, process_answer, rule_answer}
use Rattle.sap_run_texts.specs.Writable.{AreNumbered, CanBeNamed}
use Rattle.sap_outside.specs.RunPieces.{IsRunAnswer, is_run}
use Rattle.sap_back.specs.LinesFor.{ProcessLinesStandInTurn}
use Rattle.sap_back.specs.NamedIn.{IsNamedIn}

-- what is so of texts of runs
pub record Laws : Type 0 where
  pub named : (s : PStep) → CanBeNamed s → AreNumbered (process_words s) → IsWritableProcess s
  pub names : (rules : List Rule) (ls : List RStep) (full : Trace) (ss : List PStep) → ProcessLinesStandInTurn rules ls full ss → All (IsNamedIn ls) ss
  pub read : (z : List ℕ) (ss : List RStep) → IsRuleRunText z (Ok ss) → Each IsWritableRule ss
  pub printed : (ss : List PStep) → Each IsWritableProcess ss → length ss ≤ MOST_PROCESS_STEPS → IsProcessRunText (process_run_text ss) (Ok ss)

-- an answer on runs of a process is none of rules, and one on runs of rules is that of these
no_rules : (o : Result (List PStep) RunFault) (ls : List RStep) → process_answer o ≡ Ok (run.Rules ls) → ⊥
no_rules (Ok ss) ls e = cc
no_rules (Err x) ls e = cc

these_rules : (z : List ℕ) (o : Result (List RStep) RunFault) (ls : List RStep) → rule_answer o ≡ Ok (run.Rules ls) → IsRuleRunText z o → IsRuleRunText z (Ok ls)
these_rules z (Ok ss) ls e t = let same : ss ≡ ls = cc in subst (λ (x : List RStep). IsRuleRunText z (Ok x)) same t
these_rules z (Err x) ls e t = absurd (cc)

of_read : (k : Kinds) (z : List ℕ) (a : Result Run RunFault) (ls : List RStep) → IsRunRead k z a → a ≡ Ok (run.Rules ls) → IsRuleRunText z (Ok ls)
of_read _ z _ ls (as_process {o = o} t) e = absurd (no_rules o ls e)
of_read _ z _ ls (as_rules {o = o} t) e = these_rules z o ls e t
of_read _ z _ ls (told_process {o = o} h t) e = absurd (no_rules o ls e)
of_read _ z _ ls (told_rules {o = o} h t) e = these_rules z o ls e t
of_read _ z _ ls (told_neither p r) e = absurd (cc)

no_process : (o : Result (List RStep) RunFault) (ss : List PStep) → rule_answer o ≡ Ok (run.Process ss) → ⊥
no_process (Ok ls) ss e = cc
no_process (Err x) ss e = cc

these_lines : (z : List ℕ) (o : Result (List PStep) RunFault) (ss : List PStep) → process_answer o ≡ Ok (run.Process ss) → IsProcessRunText z o → IsProcessRunText z (Ok ss)
these_lines z (Ok ls) ss e t = let same : ls ≡ ss = cc in subst (λ (x : List PStep). IsProcessRunText z (Ok x)) same t
these_lines z (Err x) ss e t = absurd (cc)

process_of_read : (k : Kinds) (z : List ℕ) (a : Result Run RunFault) (ss : List PStep) → IsRunRead k z a → a ≡ Ok (run.Process ss) → IsProcessRunText z (Ok ss)
process_of_read _ z _ ss (as_process {o = o} t) e = these_lines z o ss e t
process_of_read _ z _ ss (as_rules {o = o} t) e = absurd (no_process o ss e)
process_of_read _ z _ ss (told_process {o = o} h t) e = these_lines z o ss e t
process_of_read _ z _ ss (told_rules {o = o} h t) e = absurd (no_process o ss e)
process_of_read _ z _ ss (told_neither p r) e = absurd (cc)

-- lines of a process that were answered are those of their text
pub process_text_of_answer : (k : Kinds) (z : List ℕ) (ss : List PStep) → IsRunAnswer k z (Ok (run.Process ss)) → IsProcessRunText z (Ok ss)
process_text_of_answer k z ss (is_run short r) = process_of_read k z (Ok (run.Process ss)) ss r refl

-- lines of rules that were answered are those of their text
pub text_of_answer : (k : Kinds) (z : List ℕ) (ls : List RStep) → IsRunAnswer k z (Ok (run.Rules ls)) → IsRuleRunText z (Ok ls)
text_of_answer k z ls (is_run short r) = of_read k z (Ok (run.Rules ls)) ls r refl

-- each of these lines has what each has
all_of : {A : Type 0} (P : A → Type 0) (xs : List A) → Each P xs → All P xs
all_of P [] each = All-nil P
all_of P (x ∷ xs) each = All-cons P x xs each.0 (all_of P xs each.1)

-- the words of bindings stand behind those of facts
bindings_last : (facts : List ℕ) (b : List Binding) → AreWritableWords (use_words facts b) → AreWritableWords (with_words b)
bindings_last [] b w = w
bindings_last (k ∷ facts) b w = bindings_last facts b w.1

module _ (ls : List RStep) (writable : All IsWritableRule ls) where
  -- what stands in a line of rules that can be written may stand in one of the process
  can_be_named : (s : PStep) → IsNamedIn ls s → CanBeNamed s
  can_be_named (step.Public a) has = (All-contains IsWritableRule ls (rstep.Public a) writable has).words.1.0
  can_be_named (step.Apply f entries) has = (All-contains IsWritableRule ls (rstep.Apply f has.0) writable has.1).named
  can_be_named (step.Embedded t facts b) has = bindings_last has.1 b ((All-contains IsWritableRule ls (rstep.Rule has.0 has.1 b) writable has.2).words.1.1)
  can_be_named (step.Nil t) has = tt
  can_be_named (step.Par t) has = tt
  can_be_named (step.Rep t) has = tt
  can_be_named (step.New t n) has = tt
  can_be_named (step.Out t) has = tt
  can_be_named (step.Send t k) has = tt
  can_be_named (step.In t k) has = tt
  can_be_named (step.Sync s r) has = tt
  can_be_named (step.Then t) has = tt
  can_be_named (step.Else t) has = tt
  can_be_named (step.Event t) has = tt
  can_be_named (step.Insert t) has = tt
  can_be_named (step.Delete t) has = tt
  can_be_named (step.Found t) has = tt
  can_be_named (step.Missing t) has = tt
  can_be_named (step.Lock t) has = tt
  can_be_named (step.Unlock t) has = tt
  can_be_named (step.Name n) has = tt
  can_be_named (step.Know k) has = tt

  can_be_written : Laws → (ss : List PStep) → All (IsNamedIn ls) ss → Each (λ s. AreNumbered (process_words s)) ss → Each IsWritableProcess ss
  can_be_written laws [] has numbered = tt
  can_be_written laws (s ∷ ss) has numbered =
      (laws.named s (can_be_named s (All-head (IsNamedIn ls) s ss has)) numbered.0, can_be_written laws ss (All-tail (IsNamedIn ls) s ss has) numbered.1)

-- the text of lines that stand in turn, those for each line of rules that were read, and whose numbers are of 64 bits, is read as these
-- lines
pub opposite_is_read : Laws → (k : Kinds) (z : List ℕ) (rules : List Rule) (ls : List RStep) (full : Trace) (ss : List PStep) → IsRunAnswer k z (Ok (run.Rules ls)) → ProcessLinesStandInTurn rules ls full ss
    → Each (λ s. AreNumbered (process_words s)) ss → length ss ≤ MOST_PROCESS_STEPS → IsProcessRunText (process_run_text ss) (Ok ss)
opposite_is_read laws k z rules ls full ss answer turns numbered short =
    let writable = all_of IsWritableRule ls (laws.read z ls (text_of_answer k z ls answer)) in
    laws.printed ss (can_be_written ls writable laws ss (laws.names rules ls full ss turns) numbered) short
