-- Lines that use rules of a process, the line before all of them, and numbers in a row.
use Rattle.std.specs.Prelude.{ℕ, zero, suc, ◌+◌, List, [], ◌∷◌, ◌++◌, codes}
use Rattle.sap_terms.specs.declared.binding.Binding.{Binding}
use Rattle.sap_place.specs.StateFacts.{digits}
use Rattle.sap_runs.specs.declared.process_step.PStep.{PStep}
use Rattle.sap_runs.specs.declared.rule_step.RStep.{RStep}
use Rattle.sap_runs.specs.declared.rule_step.RStep.TheVariants.{Rule}

-- the line that starts the rules
abbrev pub init_line : RStep
init_line = Rule (codes "Init") [] []

-- what stands before the lines of rules for each line of a process: the line that starts the rules, and nothing where there are
-- no lines
abbrev pub head_for : List PStep → List RStep
head_for [] = []
head_for (line ∷ lines) = init_line ∷ []

-- the rule of this word at the place with this path is used on the facts with these numbers
abbrev pub uses : List ℕ → List ℕ → List ℕ → List Binding → RStep
uses word path ks b = Rule (word ++ digits path) ks b

-- this many numbers, from this one on
abbrev pub numbers_from : ℕ → ℕ → List ℕ
numbers_from n zero = []
numbers_from n (suc k) = n ∷ numbers_from (n + 1) k
