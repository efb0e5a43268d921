-- What becomes of the tables and of the lines of the process, where a line of rules is converted.
use Rattle.std.specs.Prelude.{◌≡◌, List, ◌++◌, Option, length}
use Rattle.sap_terms.specs.Signature.{Sig}
use Rattle.sap_terms.specs.Tree.{Tree}
use Rattle.sap_terms.specs.declared.fact.Fact.{Fact}
use Rattle.sap_restrict.specs.Stands.{Machine}
use Rattle.sap_rule.specs.RuleSteps.{RuleState}
use Rattle.sap_runs.specs.declared.process_step.PStep.{PStep}
use Rattle.sap_runs.specs.declared.rule_step.RStep.{RStep}
use Rattle.sap_steps.specs.State.{State}
use Rattle.sap_translate.specs.relation.Agents.{Agent}
use Rattle.sap_back.specs.Followed.{IsWrittenAsProcess}
use Rattle.sap_process_lines.specs.Tables.{ProcessTables}
use Rattle.sap_back.specs.code.Replayed.{IsTakenUp}

-- the line of rules is taken up, and what is written for it by the tables is written, where they have a number for each fact behind it
pub record IsConvertedLine (old new : State) (m n : Machine) (t u : ProcessTables) (line : RStep) (before after : List PStep) : Type 0 where
  pub acts : List Fact
  pub taken : IsTakenUp old new m n line acts
  pub written : (g : Sig) (agents : List (Option Agent)) (pending : Option Tree) (s : RuleState) (more : List PStep) (next : List (Option Agent)) (later : Option Tree) (behind : ProcessTables)
      → IsWrittenAsProcess g agents pending s t line acts more next later behind → length behind.facts ≡ length new.at.facts → (after ≡ before ++ more) × (u ≡ behind)
