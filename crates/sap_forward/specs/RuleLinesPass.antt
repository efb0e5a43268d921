-- Tests of the names in what lines of rules write down and bind.
use Rattle.std.specs.Prelude.{◌≡◌, Bool, true, List, [], ◌∷◌}
use Rattle.sap_terms.specs.Tree.{Tree, public}
use Rattle.sap_process.specs.Proc.{Proc}
use Rattle.sap_runs.specs.declared.process_step.PStep.{PStep}
use Rattle.sap_runs.specs.declared.rule_step.RStep.{RStep}
use Rattle.sap_runs.specs.declared.rule_step.RStep.TheVariants.{Public, Rule as RuleLine}
use Rattle.sap_lines.specs.NamesPass.{ProcessPasses, BindingsPass, LinesPass}

-- the public name that the line writes down, or those names in what it binds, pass the test; of the names that Fr is made of nothing is
-- asked, since locks and tags get such
abbrev pub RuleLinePasses : (Tree → Bool) → RStep → Type 0
RuleLinePasses test (Public a) = test (public a) ≡ true
RuleLinePasses test (RuleLine name facts bindings) = BindingsPass test bindings
RuleLinePasses test _ = Unit {0}

-- so it is with each of these lines
abbrev pub RuleLinesPass : (Tree → Bool) → List RStep → Type 0
RuleLinesPass test [] = Unit {0}
RuleLinesPass test (line ∷ lines) = RuleLinePasses test line × RuleLinesPass test lines

-- a test that the names in the process pass, and those that its lines bring, the names in what these lines of rules write down and
-- bind pass too: none comes from elsewhere
abbrev pub BringNoName : Proc → List PStep → List RStep → Type 0
BringNoName start lines rule_lines = (test : Tree → Bool) → ProcessPasses test start
    → LinesPass test lines → RuleLinesPass test rule_lines
