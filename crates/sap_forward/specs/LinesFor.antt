-- Which lines of rules stand opposite to each line of a process, and whose name each name is.
use Rattle.std.specs.Prelude.{ℕ, List, [], ◌∷◌, ◌++◌, codes}
use Rattle.sap_terms.specs.declared.binding.Binding.{Binding}
use Rattle.sap_runs.specs.declared.process_step.PStep.{PStep}
use Rattle.sap_runs.specs.declared.process_step.PStep.TheVariants as line
use Rattle.sap_runs.specs.declared.rule_step.RStep.{RStep}
use Rattle.sap_runs.specs.declared.rule_step.RStep.TheVariants.{Fresh, Learn, Own, Public, Apply, Know}
pub use Rattle.sap_rule_lines.specs.RuleLines.{uses}

-- These lines of rules stand opposite to the line of the process, and its lock or tag gets this name, where it has one: rules of these
-- words are used, each at some place and on some facts. Fr is made of the name that the line draws, or of the one that its lock or
-- tag gets, and of no other, and the next line takes it.
pub data AreRuleLinesFor : PStep → List RStep → List ℕ → Type 0 where
  ends : (t : ℕ) (path ks : List ℕ)
      → AreRuleLinesFor (line.Nil t) (uses (codes "Nil_") path ks [] ∷ []) []
  splits : (t : ℕ) (path ks : List ℕ)
      → AreRuleLinesFor (line.Par t) (uses (codes "Par_") path ks [] ∷ []) []
  -- a replication that starts here, and one that has started
  copies_first : (t : ℕ) (path ks js : List ℕ)
      → AreRuleLinesFor (line.Rep t)
      (uses (codes "RepStart_") path ks [] ∷ uses (codes "RepCopy_") path js [] ∷ []) []
  copies_more : (t : ℕ) (path ks : List ℕ)
      → AreRuleLinesFor (line.Rep t) (uses (codes "RepCopy_") path ks [] ∷ []) []
  makes_name : (t n : ℕ) (path ks : List ℕ)
      → AreRuleLinesFor (line.New t n) (Fresh n ∷ uses (codes "New_") path ks [] ∷ []) []
  outputs : (t k : ℕ) (path ks : List ℕ)
      → AreRuleLinesFor (line.Out t) (uses (codes "Out_") path ks [] ∷ Learn k ∷ []) []
  outputs_on : (t j k : ℕ) (path ks : List ℕ)
      → AreRuleLinesFor (line.Send t j) (Know j ∷ uses (codes "OutAdv_") path ks [] ∷ Learn k ∷ []) []
  inputs : (t j : ℕ) (path ks : List ℕ)
      → AreRuleLinesFor (line.In t j) (Know j ∷ uses (codes "In_") path ks [] ∷ []) []
  inputs_on : (t j : ℕ) (path ks : List ℕ)
      → AreRuleLinesFor (line.In t j) (Know j ∷ uses (codes "InAdv_") path ks [] ∷ []) []
  meets : (a b n : ℕ) (path at ks js is : List ℕ)
      → AreRuleLinesFor (line.Sync a b)
      (Fresh n ∷ uses (codes "OutMsg_") path ks [] ∷ uses (codes "InMsg_") at js [] ∷ uses (codes "OutAck_") path is [] ∷ []) (n ∷ [])
  agrees : (t : ℕ) (path ks : List ℕ)
      → AreRuleLinesFor (line.Then t) (uses (codes "Then_") path ks [] ∷ []) []
  differs : (t : ℕ) (path ks : List ℕ)
      → AreRuleLinesFor (line.Else t) (uses (codes "Else_") path ks [] ∷ []) []
  shows : (t : ℕ) (path ks : List ℕ)
      → AreRuleLinesFor (line.Event t) (uses (codes "Event_") path ks [] ∷ []) []
  inserts : (t : ℕ) (path ks : List ℕ)
      → AreRuleLinesFor (line.Insert t) (uses (codes "Insert_") path ks [] ∷ []) []
  deletes : (t : ℕ) (path ks : List ℕ)
      → AreRuleLinesFor (line.Delete t) (uses (codes "Delete_") path ks [] ∷ []) []
  finds : (t : ℕ) (b : Binding) (path ks : List ℕ)
      → AreRuleLinesFor (line.Found t) (uses (codes "Found_") path ks (b ∷ []) ∷ []) []
  misses : (t : ℕ) (path ks : List ℕ)
      → AreRuleLinesFor (line.Missing t) (uses (codes "Missing_") path ks [] ∷ []) []
  locks : (t n : ℕ) (path ks : List ℕ)
      → AreRuleLinesFor (line.Lock t) (Fresh n ∷ uses (codes "Lock_") path ks [] ∷ []) (n ∷ [])
  unlocks : (t : ℕ) (path ks : List ℕ)
      → AreRuleLinesFor (line.Unlock t) (uses (codes "Unlock_") path ks [] ∷ []) []
  embeds : (t : ℕ) (taken : List ℕ) (b : List Binding) (path ks : List ℕ)
      → AreRuleLinesFor (line.Embedded t taken b) (uses (codes "Rule_") path ks b ∷ []) []
  names : (n k : ℕ) → AreRuleLinesFor (line.Name n) (Fresh n ∷ Own k ∷ []) []
  writes : (a : List ℕ) → AreRuleLinesFor (line.Public a) (Public a ∷ []) []
  applies : (f ks : List ℕ) → AreRuleLinesFor (line.Apply f ks) (Apply f ks ∷ []) []
  knows : (k : ℕ) → AreRuleLinesFor (line.Know k) (Know k ∷ []) []

-- for each line in turn its lines of rules, and the names that its lock or tag gets
pub data AreRuleLinesForAll : List PStep → List RStep → List ℕ → Type 0 where
  no_lines : AreRuleLinesForAll [] [] []
  more : {step : PStep} {own : List RStep} {given : List ℕ} {lines : List PStep} {rest : List RStep}
      {names : List ℕ}
      → AreRuleLinesFor step own given → AreRuleLinesForAll lines rest names
      → AreRuleLinesForAll (step ∷ lines) (own ++ rest) (given ++ names)
