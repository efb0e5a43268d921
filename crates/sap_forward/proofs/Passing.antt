-- The names in what is written for a line stand in the store or in the line.
use Rattle.std.proofs.Common.{◌≡◌, ℕ, Bool, List, [], ◌∷◌, ◌++◌, Option, Some, sym, subst}
use Rattle.sap_terms.specs.Signature.{Sig}
use Rattle.sap_terms.specs.Tree.{Tree}
use Rattle.sap_process.specs.Configuration.{Config}
use Rattle.sap_process.specs.Proc.{Proc}
use Rattle.sap_runs.specs.declared.process_step.PStep.{PStep}
use Rattle.sap_runs.specs.declared.rule_step.RStep.{RStep}
use Rattle.sap_lines.specs.NamesPass.{NamesPass, ProcessPasses, LinePasses, LinesPass, ConfigPasses}
use Rattle.sap_translate.specs.relation.Agents.{Agent}
use Rattle.sap_forward.specs.RuleLinesPass.{RuleLinesPass, BringNoName}
use Rattle.sap_forward.specs.Tables.{RuleTables}
use Rattle.sap_forward.specs.Written.{IsWrittenAsRules}

-- the names in what the lines of a process lead to stand in it or in them
abbrev pub StandSoFar : Proc → List PStep → Config → List Tree → Type 0
StandSoFar q lines c es = (test : Tree → Bool) → ProcessPasses test q → LinesPass test lines → ConfigPasses test c es

module _ {g : Sig} {drawn : List ℕ} {agents : List (Option Agent)} {c : Config} {tables : RuleTables} (test : Tree → Bool) (store : (x v : Tree) → c.store x ≡ Some v → NamesPass test v) where
  pub written_passes : {step : PStep} {lines : List RStep} {later : List (Option Agent)} {behind : RuleTables} → IsWrittenAsRules g drawn agents c tables step lines later behind → LinePasses test step → RuleLinesPass test lines
  written_passes (IsWrittenAsRules.ends t k path env sits) h = (tt, tt)
  written_passes (IsWrittenAsRules.splits t k path env p q sits) h = (tt, tt)
  written_passes (IsWrittenAsRules.copies_first t k path env p sits) h = (tt, (tt, tt))
  written_passes (IsWrittenAsRules.copies_more t k path env p sits) h = (tt, tt)
  written_passes (IsWrittenAsRules.makes_name t k n path env x p sits) h = (tt, (tt, tt))
  written_passes (IsWrittenAsRules.outputs t k path env m p sits) h = (tt, (tt, tt))
  written_passes (IsWrittenAsRules.outputs_on t k j path env m n p sits) h = (tt, (tt, (tt, tt)))
  written_passes (IsWrittenAsRules.inputs t k j path env m σ p sits) h = (tt, (tt, tt))
  written_passes (IsWrittenAsRules.inputs_on t k j path env m n σ p sits) h = (tt, (tt, tt))
  written_passes (IsWrittenAsRules.meets a b j k n path at env other m u l r σ p q sits sits_too next) h = (tt, (tt, (tt, (tt, tt))))
  written_passes (IsWrittenAsRules.agrees t k path env m n p q sits) h = (tt, tt)
  written_passes (IsWrittenAsRules.differs t k path env m n p q sits) h = (tt, tt)
  written_passes (IsWrittenAsRules.shows t k path env f p sits) h = (tt, tt)
  written_passes (IsWrittenAsRules.inserts t k path env m n p sits) h = (tt, tt)
  written_passes (IsWrittenAsRules.deletes t k path env m p sits) h = (tt, tt)
  written_passes (IsWrittenAsRules.finds t k path env m x v y b p q sits form held var term) h = ((subst (NamesPass test) (sym term) (store x v held), tt), tt)
  written_passes (IsWrittenAsRules.misses t k path env m y p q sits) h = (tt, tt)
  written_passes (IsWrittenAsRules.locks t k n path env m l p sits next) h = (tt, (tt, tt))
  written_passes (IsWrittenAsRules.unlocks t k path env m l p sits) h = (tt, tt)
  written_passes (IsWrittenAsRules.embeds t k ks js b path env l e r σ p sits cited) h = (h, tt)
  written_passes (IsWrittenAsRules.names n) h = (tt, (tt, tt))
  written_passes (IsWrittenAsRules.writes a) h = (h, tt)
  written_passes (IsWrittenAsRules.applies f ks) h = (tt, tt)
  written_passes (IsWrittenAsRules.knows k) h = (tt, tt)

-- lines that pass, one behind another
lines_join : (test : Tree → Bool) (xs ys : List RStep) → RuleLinesPass test xs → RuleLinesPass test ys → RuleLinesPass test (xs ++ ys)
lines_join test [] ys h k = k
lines_join test (x ∷ xs) ys h k = (h.0, lines_join test xs ys h.1 k)

before_last : (test : Tree → Bool) (lines : List PStep) (step : PStep) → LinesPass test (lines ++ step ∷ []) → LinesPass test lines × LinePasses test step
before_last test [] step h = (tt, h.0)
before_last test (x ∷ lines) step h = let rest = before_last test lines step h.1 in ((h.0, rest.0), rest.1)

-- one line more, with what is written for it
pub brought_join : (q : Proc) (lines : List PStep) (step : PStep) (rest own : List RStep) → BringNoName q lines rest
    → ((test : Tree → Bool) → ProcessPasses test q → LinesPass test lines → LinePasses test step → RuleLinesPass test own) → BringNoName q (lines ++ step ∷ []) (rest ++ own)
brought_join q lines step rest own before new test process passed =
    let parts = before_last test lines step passed in
    lines_join test rest own (before test process parts.0) (new test process parts.0 parts.1)
