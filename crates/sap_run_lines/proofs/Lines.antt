-- Lines are read, and their answers are one; runs that are printed are read back.
use Rattle.std.proofs.Common.{◌≡◌, ℕ, List, [], ◌∷◌, Option, Some, None, refl, sym, subst, ◌∙◌, ◌⊎◌, inl, inr}
use Rattle.sap_runs.specs.declared.process_step.PStep.{PStep}
use Rattle.sap_runs.specs.declared.process_step.PStep.TheVariants as step
use Rattle.sap_runs.specs.declared.rule_step.RStep.{RStep}
use Rattle.sap_runs.specs.declared.rule_step.RStep.TheVariants as rstep
use Rattle.sap_run_lines.specs.LineWords.{LineWord, AreLineWords}
use Rattle.sap_run_lines.specs.StepLines.{process_words, rule_words, NamesSymbol, NamesRule, IsProcessStepLine, IsRuleStepLine, IsLineRead, IsDecided}
use Rattle.sap_run_lines.specs.LineText.{words_text}
use Rattle.sap_run_lines.specs.Spellable.{AreWritableWords, IsWritableProcess, IsWritableRule}
use Rattle.sap_run_lines.specs.code.Taking.{given}
use Rattle.sap_run_lines.specs.code.WordTaking.{words_of}
use Rattle.sap_run_lines.specs.code.StepTaking.{process_step_of, rule_step_of, process_line_of, rule_line_of}
use Rattle.sap_run_lines.proofs.OnTaken.{OnSome, some_on}
use Rattle.sap_run_lines.proofs.WordsTaken.{words_are, are_words}
use Rattle.sap_run_lines.proofs.StepsTaken.{process_on, process_back, rule_on, rule_back}
use Rattle.sap_run_lines.proofs.WordsOn.{process_line_is, rule_line_is}
use Rattle.sap_run_lines.proofs.TermsPrinted.{words_printed}

-- steps of one kind, by their words, what they name, and the step that words are
module _ {A : Type 0} (words : A → List LineWord) (Named : A → Type 0) (IsStepLine : A → List ℕ → Type 0) (step_of : List LineWord → Option A)
    (line : (s : A) (z : List ℕ) → Named s → AreLineWords (words s) z → IsStepLine s z)
    (named : (s : A) (z : List ℕ) → IsStepLine s z → Named s)
    (are : (s : A) (z : List ℕ) → IsStepLine s z → AreLineWords (words s) z)
    (sound : (ws : List LineWord) → OnSome (λ s. (ws ≡ words s) × ((z : List ℕ) → AreLineWords ws z → Named s)) (step_of ws))
    (complete : (s : A) → Named s → step_of (words s) ≡ Some s) where
  step_read : (s : A) (z : List ℕ) → IsStepLine s z → given (words_of z) step_of ≡ Some s
  unfolding given
  step_read s z l = rw (are_words z (words s) (are s z l)) (complete s (named s z l))

  line_read : (z : List ℕ) → IsLineRead IsStepLine z (given (words_of z) step_of)
  unfolding given
  line_read z = at (words_of z) refl where
    at : (o : Option (List LineWord)) → words_of z ≡ o → IsLineRead IsStepLine z (given o step_of)
    at None e = λ s l. absurd (cc (e, are_words z (words s) (are s z l)))
    at (Some ws) e = go (step_of ws) refl where
      go : (o : Option A) → step_of ws ≡ o → IsLineRead IsStepLine z o
      go None f = λ s l.
          let same : ◌≡◌ {A = Option (List LineWord)} (Some ws) (Some (words s)) = sym e ∙ are_words z (words s) (are s z l) in
          let is : ws ≡ words s = cc in
          absurd (cc (f, is, complete s (named s z l)))
      go (Some s) f =
          let h = some_on (λ s. (ws ≡ words s) × ((z : List ℕ) → AreLineWords ws z → Named s)) (step_of ws) s f (sound ws) in
          let r = words_are z ws e in
          line s z (h.1 z r) (subst (λ (y : List LineWord). AreLineWords y z) h.0 r)

  one : (s u : A) (z : List ℕ) → IsStepLine s z → IsStepLine u z → s ≡ u
  one s u z l m =
      let same : ◌≡◌ {A = Option A} (Some s) (Some u) = sym (step_read s z l) ∙ step_read u z m in
      cc

  decided : (z : List ℕ) → ((s : A) × IsStepLine s z) ⊎ ((s : A) → IsStepLine s z → ⊥)
  decided z = at (given (words_of z) step_of) (line_read z) where
    at : (o : Option A) → IsLineRead IsStepLine z o → ((s : A) × IsStepLine s z) ⊎ ((s : A) → IsStepLine s z → ⊥)
    at None h = inr h
    at (Some s) h = inl (s, h)

process_line : (s : PStep) (z : List ℕ) → NamesSymbol s → AreLineWords (process_words s) z → IsProcessStepLine s z
process_line s z n r = record { named = n; words = r }

rule_line : (s : RStep) (z : List ℕ) → NamesRule s → AreLineWords (rule_words s) z → IsRuleStepLine s z
rule_line s z n r = record { named = n; words = r }

pub process_read : (z : List ℕ) → IsLineRead IsProcessStepLine z (process_line_of z)
process_read z = subst (λ (o : Option PStep). IsLineRead IsProcessStepLine z o) (process_line_is z) (line_read process_words NamesSymbol IsProcessStepLine process_step_of process_line (λ s z l. l.named) (λ s z l. l.words) process_on process_back z)

pub rule_read : (z : List ℕ) → IsLineRead IsRuleStepLine z (rule_line_of z)
rule_read z = subst (λ (o : Option RStep). IsLineRead IsRuleStepLine z o) (rule_line_is z) (line_read rule_words NamesRule IsRuleStepLine rule_step_of rule_line (λ s z l. l.named) (λ s z l. l.words) rule_on rule_back z)

-- bytes are one step's line at most
pub one_process : (s u : PStep) (z : List ℕ) → IsProcessStepLine s z → IsProcessStepLine u z → s ≡ u
one_process = one process_words NamesSymbol IsProcessStepLine process_step_of process_line (λ s z l. l.named) (λ s z l. l.words) process_on process_back

pub one_rule : (s u : RStep) (z : List ℕ) → IsRuleStepLine s z → IsRuleStepLine u z → s ≡ u
one_rule = one rule_words NamesRule IsRuleStepLine rule_step_of rule_line (λ s z l. l.named) (λ s z l. l.words) rule_on rule_back

-- and are some step's, or none's
pub process_decided : (z : List ℕ) → IsDecided IsProcessStepLine z
process_decided = decided process_words NamesSymbol IsProcessStepLine process_step_of process_line (λ s z l. l.named) (λ s z l. l.words) process_on process_back

pub rule_decided : (z : List ℕ) → IsDecided IsRuleStepLine z
rule_decided = decided rule_words NamesRule IsRuleStepLine rule_step_of rule_line (λ s z l. l.named) (λ s z l. l.words) rule_on rule_back

-- what has a first word
abbrev HasWord : List LineWord → Type 0
HasWord [] = ⊥
HasWord (w ∷ ws) = Unit {0}

printed : (ws : List LineWord) → HasWord ws → AreWritableWords ws → AreLineWords ws (words_text ws)
printed [] some h = absurd some
printed (w ∷ ws) some h = words_printed w ws h

process_word : (s : PStep) → HasWord (process_words s)
process_word (step.Nil t) = tt
process_word (step.Par t) = tt
process_word (step.Rep t) = tt
process_word (step.New t n) = tt
process_word (step.Out t) = tt
process_word (step.Send t k) = tt
process_word (step.In t k) = tt
process_word (step.Sync s r) = tt
process_word (step.Then t) = tt
process_word (step.Else t) = tt
process_word (step.Event t) = tt
process_word (step.Insert t) = tt
process_word (step.Delete t) = tt
process_word (step.Found t) = tt
process_word (step.Missing t) = tt
process_word (step.Lock t) = tt
process_word (step.Unlock t) = tt
process_word (step.Embedded t facts bindings) = tt
process_word (step.Name n) = tt
process_word (step.Public a) = tt
process_word (step.Apply f entries) = tt
process_word (step.Know k) = tt

rule_word : (s : RStep) → HasWord (rule_words s)
rule_word (rstep.Fresh n) = tt
rule_word (rstep.Learn f) = tt
rule_word (rstep.Own f) = tt
rule_word (rstep.Public a) = tt
rule_word (rstep.Apply f entries) = tt
rule_word (rstep.Know k) = tt
rule_word (rstep.Rule name facts bindings) = tt

pub process_printed : (s : PStep) → IsWritableProcess s → IsProcessStepLine s (words_text (process_words s))
process_printed s h = record { named = h.named; words = printed (process_words s) (process_word s) h.words }

pub rule_printed : (s : RStep) → IsWritableRule s → IsRuleStepLine s (words_text (rule_words s))
rule_printed s h = record { named = h.named; words = printed (rule_words s) (rule_word s) h.words }
