-- What the desk is to write for a line of rules.
use Rattle.std.specs.Prelude.{◌≡◌, ◌<◌, ◌↔◌, ℕ, Bool, IsTrue, List, ◌++◌, Option, length}
use Rattle.sap_terms.specs.Signature.{Sig}
use Rattle.sap_terms.specs.Tree.{Tree}
use Rattle.sap_terms.specs.declared.fact.Fact.{Fact}
use Rattle.sap_rule.specs.RuleSteps.{RuleState}
use Rattle.sap_runs.specs.declared.process_step.PStep.{PStep}
use Rattle.sap_runs.specs.declared.rule_step.RStep.{RStep}
use Rattle.sap_translate.specs.relation.Agents.{Agent}
use Rattle.sap_back.specs.Followed.{IsWrittenAsProcess}
use Rattle.sap_process_lines.specs.Tables.{ProcessTables}

-- The lines before are followed by those that are written for the line of rules, and the tables become those behind it, where it
-- shows facts exactly if the flag says so, and so many facts of the rules have come behind it.
abbrev pub WritesProcess : (t behind : ProcessTables) → RStep → (shows : Bool) → (count : ℕ) → (before after : List PStep) → Type 0
WritesProcess t behind step shows count before after =
    (g : Sig) (agents : List (Option Agent)) (pending : Option Tree) (s : RuleState) (acts : List Fact) (more : List PStep) (next : List (Option Agent)) (later : Option Tree) (tables : ProcessTables)
    → IsWrittenAsProcess g agents pending s t step acts more next later tables → length tables.facts ≡ count → (IsTrue shows ↔ (0 < length acts))
    → (after ≡ before ++ more) × (behind ≡ tables)
