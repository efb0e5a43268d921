-- A short run of rules has one answer at most: it is legal, with one state behind it, or one line of it is the first that is refused, for
-- one cause.
use Rattle.std.specs.Prelude.{◌≡◌, ℕ, List, All, Contains, Some}
use Rattle.sap_terms.specs.Signature.{Sig}
use Rattle.sap_terms.specs.Tree.{Tree}
use Rattle.sap_terms.specs.Variables.{tree_vars}
use Rattle.sap_terms.specs.declared.var.Var.{Var}
use Rattle.sap_process.specs.Action.{out}
use Rattle.sap_process.specs.Places.{place}
use Rattle.sap_process.specs.Proc.{Proc, act}
use Rattle.sap_runs.specs.Limits.{HasFewNodes}
use Rattle.sap_rule.specs.WellMade.{IsWellMade}
use Rattle.sap_templates.specs.Places.{root, scoped_place_at}
use Rattle.sap_templates.specs.Templates.{rules_of}
use Rattle.sap_attacks.specs.RuleRefusals.{IsShortRuleRefused}
use Rattle.sap_attacks.specs.ShortRuleLines.{IsShortRuleLine}
use Rattle.sap_attacks.specs.ShortRuleRuns.{IsFirstRefusedRuleLine, IsLegalShortRuleRun}
use Rattle.sap_attacks.specs.ShortRuleStates.{AreOneState, ShortState}
use Rattle.sap_attacks.specs.declared.rule_fill_fault.RuleFillFault.{RuleFillFault}
use Rattle.sap_attacks.specs.declared.short_rule_step.ShortRuleStep.{ShortRuleStep}

-- what the process puts out is over the variables in scope there
abbrev pub OutputsAreInScope : Proc → Type 0
OutputsAreInScope p =
    (path : List ℕ) (v : List Var) (t : Tree) (q : Proc) → scoped_place_at (root p) path ≡ Some (place path v (act (out t) q))
    → All (Contains v) (tree_vars t)

-- its rules can be run, and what it puts out is in scope: so it is with the process of a file
pub record IsProper (g : Sig) (p : Proc) : Type 0 where
  pub rules : All (IsWellMade g) (rules_of p)
  pub outputs : OutputsAreInScope p

-- a line leads from one state to one, whatever the order of facts and of uses
abbrev pub ShortRuleLinesHaveOneEnd : (Tree → Type 0) → Type 0
ShortRuleLinesHaveOneEnd W =
    (g : Sig) (p : Proc) (s z y x : ShortState) (l : ShortRuleStep) → IsProper g p → AreOneState s z
    → IsShortRuleLine g W p s l y → IsShortRuleLine g W p z l x → AreOneState y x

-- so a short run of rules does
abbrev pub ShortRuleRunsHaveOneEnd : (Tree → Type 0) → Type 0
ShortRuleRunsHaveOneEnd W =
    (g : Sig) (p : Proc) (ls : List ShortRuleStep) (s z : ShortState) → IsProper g p → IsLegalShortRuleRun g W p ls s
    → IsLegalShortRuleRun g W p ls z → AreOneState s z

-- a line that is possible isn't refused
abbrev pub ShortRuleLinesAreNotRefused : (Tree → Type 0) → Type 0
ShortRuleLinesAreNotRefused W =
    (g : Sig) (p : Proc) (s z y : ShortState) (l : ShortRuleStep) (fault : RuleFillFault) → IsProper g p → AreOneState s z
    → IsShortRuleLine g W p s l y → IsShortRuleRefused g W p z l fault → ⊥

-- two causes for which a line is refused are one
abbrev pub ShortRuleRefusalsAreOne : (Tree → Type 0) → Type 0
ShortRuleRefusalsAreOne W =
    (g : Sig) (p : Proc) (s z : ShortState) (l : ShortRuleStep) (fault reason : RuleFillFault) → IsProper g p → AreOneState s z
    → IsShortRuleRefused g W p s l fault → IsShortRuleRefused g W p z l reason → fault ≡ reason

-- a legal short run of rules has no first refused line
abbrev pub LegalShortRuleRunsAreNotRefused : Type 0
LegalShortRuleRunsAreNotRefused =
    (g : Sig) (p : Proc) (ls : List ShortRuleStep) (s : ShortState) (number : ℕ) (fault : RuleFillFault) → IsProper g p
    → IsLegalShortRuleRun g HasFewNodes p ls s → IsFirstRefusedRuleLine g p ls number fault → ⊥

-- and one that isn't has one at most, for one cause
abbrev pub FirstRuleRefusalsAreOne : Type 0
FirstRuleRefusalsAreOne =
    (g : Sig) (p : Proc) (ls : List ShortRuleStep) (number other : ℕ) (fault reason : RuleFillFault) → IsProper g p
    → IsFirstRefusedRuleLine g p ls number fault → IsFirstRefusedRuleLine g p ls other reason → (number ≡ other) × (fault ≡ reason)
