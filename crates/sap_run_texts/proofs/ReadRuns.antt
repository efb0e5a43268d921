-- Each step of a run that was read can be written.
use Rattle.std.proofs.Common.{◌≤◌, length, ◌≡◌, ℕ, true, false, List, Ok}
use Rattle.sap_terms.specs.Tree.{Tree, Trees}
use Rattle.sap_runs.specs.declared.process_step.PStep.{PStep}
use Rattle.sap_runs.specs.declared.rule_step.RStep.{RStep}
use Rattle.sap_run_lines.specs.RunTerms.{IsRunTerm, term_public, term_fresh, term_constant, term_symbol, term_tuple, IsRunRest, rest_last, rest_more, AreRunTerms, terms_last, terms_more}
use Rattle.sap_run_lines.specs.LineWords.{LineWord, IsLineWord, word_identifier, word_number, word_fresh, word_public, word_bound, AreLineWords, words_last, words_more}
use Rattle.sap_run_lines.specs.StepLines.{IsProcessStepLine, IsRuleStepLine}
use Rattle.sap_run_lines.specs.Spellable.{IsWritable, AreWritable, IsWritableWord, AreWritableWords, IsWritableProcess, IsWritableRule}
use Rattle.sap_run_texts.specs.RunTexts.{AreStepLines, no_lines, lines_more, IsBody, all_steps, IsText, headed, IsProcessRunText, IsRuleRunText}
use Rattle.sap_run_texts.specs.RunPrinted.{Each}

mutual
  term_back : (t : Tree) (x k : List ℕ) → IsRunTerm t x k → IsWritable t
  term_back _ _ _ (term_public c) = c
  term_back _ _ _ (term_fresh n) = n
  term_back _ _ _ (term_constant f) = (λ e. f, tt)
  term_back _ _ _ (term_symbol {ts = ts} f r) = (λ e. f, terms_back ts _ _ r)
  term_back _ _ _ (term_tuple {t = t} {u = u} r s) = (λ e. let no : true ≡ false = e in absurd cc, (term_back t _ _ r, (rest_back u _ _ s, tt)))

  rest_back : (t : Tree) (x k : List ℕ) → IsRunRest t x k → IsWritable t
  rest_back t _ _ (rest_last r) = term_back t _ _ r
  rest_back _ _ _ (rest_more {t = t} {u = u} r s) = (λ e. let no : true ≡ false = e in absurd cc, (term_back t _ _ r, (rest_back u _ _ s, tt)))

  terms_back : (ts : Trees) (x k : List ℕ) → AreRunTerms ts x k → AreWritable ts
  terms_back _ _ _ (terms_last {t = t} r) = (term_back t _ _ r, tt)
  terms_back _ _ _ (terms_more {t = t} {ts = ts} r s) = (term_back t _ _ r, terms_back ts _ _ s)

word_back : (w : LineWord) (x k : List ℕ) → IsLineWord w x k → IsWritableWord w
word_back _ _ _ (word_identifier i) = i
word_back _ _ _ (word_number n) = n
word_back _ _ _ (word_fresh n) = n
word_back _ _ _ (word_public c) = c
word_back _ _ _ (word_bound {t = t} v r small) = (v, term_back t _ _ r, small)

words_back : (ws : List LineWord) (x : List ℕ) → AreLineWords ws x → AreWritableWords ws
words_back _ _ (words_last {w = w} r) = (word_back w _ _ r, tt)
words_back _ _ (words_more {w = w} {ws = ws} r s) = (word_back w _ _ r, words_back ws _ s)

-- each step has its line
module _ {A : Type 0} (IsStepLine : A → List ℕ → Type 0) (Writable : A → Type 0) (written : (s : A) (line : List ℕ) → IsStepLine s line → Writable s) where
  lines_back : (ss : List A) (lines : List (List ℕ)) → AreStepLines IsStepLine ss lines → Each Writable ss
  lines_back _ _ no_lines = tt
  lines_back _ _ (lines_more {s = s} {ss = ss} {line = line} {lines = lines} here more) = (written s line here, lines_back ss lines more)

  body_back : (most : ℕ) (z : List ℕ) (ss : List A) → IsBody IsStepLine most z (Ok ss) → Each Writable ss
  body_back most _ ss (all_steps {lines = lines} steps few) = lines_back ss lines steps

  pub text_back : (head : List ℕ) (most : ℕ) (z : List ℕ) (ss : List A) → IsText head IsStepLine most z (Ok ss) → Each Writable ss
  text_back head most z ss (headed {body = body} at is) = body_back most body ss is

process_line_back : (s : PStep) (line : List ℕ) → IsProcessStepLine s line → IsWritableProcess s
process_line_back s line l = record { named = l.named; words = words_back _ line l.words }

rule_line_back : (s : RStep) (line : List ℕ) → IsRuleStepLine s line → IsWritableRule s
rule_line_back s line l = record { named = l.named; words = words_back _ line l.words }

pub process_run_back : (z : List ℕ) (ss : List PStep) → IsProcessRunText z (Ok ss) → Each IsWritableProcess ss
process_run_back z ss t = text_back IsProcessStepLine IsWritableProcess process_line_back _ _ z ss t

pub rule_run_back : (z : List ℕ) (ss : List RStep) → IsRuleRunText z (Ok ss) → Each IsWritableRule ss
rule_run_back z ss t = text_back IsRuleStepLine IsWritableRule rule_line_back _ _ z ss t

-- a run that was read has no more steps than it may have
module _ {A : Type 0} (IsStepLine : A → List ℕ → Type 0) where
  body_within : (most : ℕ) (z : List ℕ) (ss : List A) → IsBody IsStepLine most z (Ok ss) → length ss ≤ most
  body_within most _ ss (all_steps steps few) = few

  pub text_within : (head : List ℕ) (most : ℕ) (z : List ℕ) (ss : List A) → IsText head IsStepLine most z (Ok ss) → length ss ≤ most
  text_within head most z ss (headed {body = body} at is) = body_within most body ss is
