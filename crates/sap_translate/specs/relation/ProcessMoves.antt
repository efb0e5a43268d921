-- What a step of a process chooses, by its case, and steps one after another.
use Rattle.std.specs.Prelude.{◌≡◌, ℕ, List, [], ◌∷◌, ◌++◌}
use Rattle.sap_terms.specs.Choice.{Choice}
use Rattle.sap_terms.specs.Signature.{Sig}
use Rattle.sap_terms.specs.Trace.{Trace, shown}
use Rattle.sap_terms.specs.Tree.{Tree}
use Rattle.sap_terms.specs.declared.fact.Fact.{Fact}
use Rattle.sap_process.specs.Configuration.{Config}
use Rattle.sap_process.specs.ProcessSteps.{ProcessStep}

-- the case of a step with the threads, names, numbers of facts and terms that it chooses; the configuration says the rest
pub data ProcessMove : Type 0 where
  ends : (thread : ℕ) → ProcessMove
  splits : (thread : ℕ) → ProcessMove
  copies : (thread : ℕ) → ProcessMove
  makes_name : (thread name : ℕ) → ProcessMove
  outputs : (thread : ℕ) → ProcessMove
  outputs_on : (thread : ℕ) → ProcessMove
  inputs : (thread : ℕ) (σ : Choice) → ProcessMove
  inputs_on : (thread : ℕ) (σ : Choice) → ProcessMove
  meets : (sender receiver : ℕ) (σ : Choice) → ProcessMove
  agrees : (thread : ℕ) → ProcessMove
  differs : (thread : ℕ) → ProcessMove
  shows : (thread : ℕ) → ProcessMove
  inserts : (thread : ℕ) → ProcessMove
  deletes : (thread : ℕ) → ProcessMove
  finds : (thread : ℕ) → ProcessMove
  misses : (thread : ℕ) → ProcessMove
  locks : (thread : ℕ) → ProcessMove
  unlocks : (thread : ℕ) → ProcessMove
  embeds : (thread : ℕ) (taken : List ℕ) (σ : Choice) → ProcessMove
  adversary_makes : (name : ℕ) → ProcessMove
  knows : (t : Tree) → ProcessMove

-- what this step chooses
abbrev pub process_move : {g : Sig} {c d : Config} {label : List Fact} → ProcessStep g c label d → ProcessMove
process_move (ProcessStep.ends t e) = ends t
process_move (ProcessStep.splits t e) = splits t
process_move (ProcessStep.copies t e) = copies t
process_move (ProcessStep.makes_name t n e u) = makes_name t n
process_move (ProcessStep.outputs t e f) = outputs t
process_move (ProcessStep.outputs_on t e f h k) = outputs_on t
process_move (ProcessStep.inputs t σ e h k) = inputs t σ
process_move (ProcessStep.inputs_on t σ e h k i) = inputs_on t σ
process_move (ProcessStep.meets s t σ e f h k) = meets s t σ
process_move (ProcessStep.agrees t e h) = agrees t
process_move (ProcessStep.differs t e h) = differs t
process_move (ProcessStep.shows t e h) = shows t
process_move (ProcessStep.inserts t e f h) = inserts t
process_move (ProcessStep.deletes t e f) = deletes t
process_move (ProcessStep.finds t e f h) = finds t
process_move (ProcessStep.misses t e f h) = misses t
process_move (ProcessStep.locks t e f h) = locks t
process_move (ProcessStep.unlocks t e f) = unlocks t
process_move (ProcessStep.embeds t ks σ left acts right e h k i j m) = embeds t ks σ
process_move (ProcessStep.adversary_makes n u) = adversary_makes n
process_move (ProcessStep.knows x h) = knows x

-- the names that a move makes, for a process or the adversary
abbrev pub drawn_by : ProcessMove → List ℕ
drawn_by (makes_name t n) = n ∷ []
drawn_by (adversary_makes n) = n ∷ []
drawn_by move = []

-- a step from the first configuration to the second has this label, and chooses this
pub record IsProcessMove (g : Sig) (c : Config) (move : ProcessMove) (label : List Fact) (d : Config) : Type 0 where
  pub step : ProcessStep g c label d
  pub chooses : process_move step ≡ move

-- steps that choose this, one after another, lead from the first configuration to the second and show this
pub data ProcessMoves (g : Sig) : Config → List ProcessMove → Trace → Config → Type 0 where
  stays : {c : Config} → ProcessMoves g c [] [] c
  further : {c d e : Config} {move : ProcessMove} {label : List Fact} {moves : List ProcessMove} {tr : Trace}
      → IsProcessMove g c move label d → ProcessMoves g d moves tr e → ProcessMoves g c (move ∷ moves) (shown label ++ tr) e
