-- Lines of small runs with lines of rules, to try by hand whose each name is.
use Rattle.std.specs.Prelude.{ℕ, List, [], ◌∷◌, codes}
use Rattle.sap_runs.specs.declared.process_step.PStep.{PStep}
use Rattle.sap_runs.specs.declared.process_step.PStep.TheVariants as line
use Rattle.sap_runs.specs.declared.rule_step.RStep.{RStep}
use Rattle.sap_runs.specs.declared.rule_step.RStep.TheVariants.{Fresh}
use Rattle.sap_forward.specs.LinesFor.{uses}
use Rattle.sap_rule_lines.specs.RuleLines.{init_line}

-- the lines of lock 's'; new ~x; unlock 's', which draws the name 0
abbrev pub lock_and_new : List PStep
lock_and_new = line.Lock 0 ∷ line.New 0 0 ∷ line.Unlock 0 ∷ []

-- lines of its rules, where Fr is made of these names
abbrev pub with_names : ℕ → ℕ → List RStep
with_names n m =
    init_line ∷ Fresh n ∷ uses (codes "Lock_") [] (0 ∷ 1 ∷ []) [] ∷ Fresh m ∷ uses (codes "New_") (1 ∷ []) (2 ∷ 3 ∷ []) [] ∷ uses (codes "Unlock_") (1 ∷ 1 ∷ []) (4 ∷ []) [] ∷ []

-- of two threads the first takes a lock and then the second makes the name 0
abbrev pub lock_then_new : List PStep
lock_then_new = line.Lock 0 ∷ line.New 1 0 ∷ []

-- lines of rules, in the other order
abbrev pub new_then_lock : ℕ → ℕ → List RStep
new_then_lock n m = init_line ∷ Fresh n ∷ uses (codes "New_") (2 ∷ []) (2 ∷ 3 ∷ []) [] ∷ Fresh m ∷ uses (codes "Lock_") (1 ∷ []) (1 ∷ 5 ∷ []) [] ∷ []

-- a test agrees, and then a lock is taken
abbrev pub test_then_lock : List PStep
test_then_lock = line.Then 0 ∷ line.Lock 0 ∷ []

-- lines of rules, where Fr is made before the line of the test
abbrev pub made_early : ℕ → List RStep
made_early n = init_line ∷ Fresh n ∷ uses (codes "Then_") [] (0 ∷ []) [] ∷ uses (codes "Lock_") (1 ∷ []) (2 ∷ 1 ∷ []) [] ∷ []
