-- What lines ask of the adversary's entries: nothing, or one entry's term.
use Rattle.std.specs.Prelude.{◌≡◌, ℕ, List, ◌++◌, Some, slice_get}
use Rattle.sap_terms.specs.Signature.{Sig}
use Rattle.sap_terms.specs.Tree.{Tree}
use Rattle.sap_terms.specs.declared.fact.Fact.{Fact}
use Rattle.sap_process.specs.Configuration.{Config}
use Rattle.sap_runs.specs.Inner.{InnerAction}
use Rattle.sap_runs.specs.Short.{MayStand}
use Rattle.sap_runs.specs.declared.process_step.PStep.{PStep}
use Rattle.sap_runs.specs.declared.process_step.PStep.TheVariants as line
use Rattle.sap_lines.specs.Faults.{IsRefused}
use Rattle.sap_lines.specs.Lines.{IsProcessLine}
use Rattle.sap_lines.specs.declared.fault.PFault.{PFault}

-- The first line asks of these entries what the second asks of those: it is the same line, one that
-- may stand in a short run; or both take, are sent to, or show an entry, and it is one term.
pub data AskTheSame (es us : List Tree) : PStep → PStep → Type 0 where
  ask_nothing : (step : PStep) → MayStand step → AskTheSame es us step step
  send_on : (t k i : ℕ) (x : Tree) → slice_get es k ≡ Some x → slice_get us i ≡ Some x
      → AskTheSame es us (line.Send t k) (line.Send t i)
  take_in : (t k i : ℕ) (x : Tree) → slice_get es k ≡ Some x → slice_get us i ≡ Some x
      → AskTheSame es us (line.In t k) (line.In t i)
  show_known : (k i : ℕ) (x : Tree) → slice_get es k ≡ Some x → slice_get us i ≡ Some x
      → AskTheSame es us (line.Know k) (line.Know i)

-- behind those entries the line does and shows the same as was done behind these, leads to the same
-- configuration, and adds the same entries
pub record IsDoneToo (g : Sig) (W : Tree → Type 0) (c : Config) (es us : List Tree) (step : PStep)
    (inner : List InnerAction) (label : List Fact) (d : Config) (fs : List Tree) : Type 0 where
  pub added : List Tree
  pub first : fs ≡ es ++ added
  pub second : IsProcessLine g W c us step inner label d (us ++ added)

-- where one of two lines that ask the same is possible, the other is, and both do the same
abbrev pub LinesThatAskTheSameDoTheSame : (Tree → Type 0) → Type 0
LinesThatAskTheSameDoTheSame W =
    (g : Sig) (c d : Config) (es us fs : List Tree) (step other : PStep) (inner : List InnerAction)
    (label : List Fact) → AskTheSame es us step other
    → IsProcessLine g W c es step inner label d fs
    → IsDoneToo g W c es us other inner label d fs

-- where one is refused, the other is refused for the same cause
abbrev pub LinesThatAskTheSameAreRefusedTheSame : Type 0
LinesThatAskTheSameAreRefusedTheSame =
    (g : Sig) (c : Config) (es us : List Tree) (step other : PStep) (e : PFault)
    → AskTheSame es us step other → IsRefused g c es step e → IsRefused g c us other e
