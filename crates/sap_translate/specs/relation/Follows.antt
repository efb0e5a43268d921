-- How the process follows a step of the rules.
use Rattle.std.specs.Prelude.{◌≡◌, List, [], ◌∷◌, ◌++◌, Option, Some, None}
use Rattle.sap_terms.specs.Signature.{Sig}
use Rattle.sap_terms.specs.Trace.{Trace}
use Rattle.sap_terms.specs.Tree.{Tree}
use Rattle.sap_terms.specs.declared.fact.Fact.{Fact}
use Rattle.sap_process.specs.Configuration.{Config, initial}
use Rattle.sap_process.specs.Proc.{Proc}
use Rattle.sap_process.specs.ProcessSteps.{ProcessRun}
use Rattle.sap_rule.specs.RuleSteps.{RuleState, RuleRun}
use Rattle.sap_templates.specs.Templates.{rules_of}
use Rattle.sap_translate.specs.relation.ProcessMoves.{ProcessMove, ProcessMoves, knows}
use Rattle.sap_translate.specs.relation.Agents.{Agent}
use Rattle.sap_translate.specs.relation.Related.{Related, Free}

-- Both sides are related: a run of the process led to the configuration, a run of its rules to the state. A K event that the rules
-- have shown and the process has not is pending.
pub record Together (g : Sig) (start : Proc) (agents : List (Option Agent)) (pending : Option Tree) (c : Config) (tr : Trace) (s : RuleState) (full : Trace) : Type 0 where
  pub reached : ProcessRun g (initial start) c tr
  pub ran : RuleRun g (rules_of start) s full
  pub related : Related g start agents pending c tr s full

-- the K event that an input may take is pending: the process has not shown it yet
abbrev pub Waits : Option Tree → Trace → Type 0
Waits pending full = (x : Tree) → Free full x → pending ≡ Some x

-- the process shows what is pending
abbrev pub written : Option Tree → List ProcessMove
written None = []
written (Some x) = knows x ∷ []

-- By these moves, which show this, the process comes to d, and both sides are together again behind the step of the rules; if
-- the K event that an input may take was pending, then so it is behind.
pub record Follows (g : Sig) (start : Proc) (pending : Option Tree) (c : Config) (tr : Trace) (full : Trace) (moves : List ProcessMove) (shows : Trace) (d : Config) (later : Option Tree) (agents : List (Option Agent)) (z : RuleState) (acts : List Fact) : Type 0 where
  pub process : ProcessMoves g c moves shows d
  pub together : Together g start agents later d (tr ++ shows) z (full ++ acts ∷ [])
  pub waits : Waits pending full → Waits later (full ++ acts ∷ [])
