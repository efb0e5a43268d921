-- A short run that is being filled: what is kept beside its lines, and what each part of a step does to it.
use Rattle.std.specs.Prelude.{◌≡◌, ◌⊎◌, ℕ, true, List, [], ◌∷◌, ◌++◌, Some, length, map, slice_get}
use Rattle.sap_terms.specs.Signature.{Sig}
use Rattle.sap_terms.specs.Trace.{Trace, shown}
use Rattle.sap_terms.specs.Tree.{Tree}
use Rattle.sap_terms.specs.declared.fact.Fact.{Fact}
use Rattle.sap_terms.specs.declared.term.Term.{Term}
use Rattle.sap_deduce.specs.Entries.{terms_of}
use Rattle.sap_derive.specs.Found.{IsFoundBy}
use Rattle.sap_derive.specs.Lines.{Give, IsLine}
use Rattle.sap_derive.specs.declared.derivation.Derivation.{Derivation}
use Rattle.sap_derive.specs.declared.line.Line.{Line}
use Rattle.sap_process.specs.Configuration.{Config, Runs, CanGive}
use Rattle.sap_process.specs.Proc.{Proc}
use Rattle.sap_runs.specs.Inner.{InnerAction}
use Rattle.sap_runs.specs.Limits.{HasFewNodes}
use Rattle.sap_runs.specs.Marks.{Mark, marks_of}
use Rattle.sap_runs.specs.declared.process_step.PStep.{PStep}
use Rattle.sap_runs.specs.declared.process_step.PStep.TheVariants as line
use Rattle.sap_runs.specs.declared.short_step.SStep.{SStep}
use Rattle.sap_lines.specs.Faults.{IsUnfit, has_form}
use Rattle.sap_lines.specs.declared.fault.PFault.{PFault}
use Rattle.sap_lines.specs.declared.fault.PFault.TheVariants as fault
use Rattle.sap_calc.specs.Running.{configuration, IsDone, IsDenied}
use Rattle.sap_intruder.specs.FilledRuns.{IsSparingRun, line_step}
use Rattle.sap_intruder.specs.Refusals.{IsShortRefused}
use Rattle.sap_intruder.specs.ShortLines.{IsGiven}
use Rattle.sap_intruder.specs.declared.fill_fault.FillFault.{FillFault}
use Rattle.sap_intruder.specs.declared.fill_fault.FillFault.TheVariants as fill
use Rattle.sap_intruder.specs.declared.filling.Filling.{Filling}
use Rattle.sap_intruder.specs.declared.unfilled.Unfilled.{Unfilled}
use Rattle.sap_intruder.specs.declared.unfilled.Unfilled.TheVariants as unfilled

-- the terms of the entries
abbrev pub entries_of : Filling → List Tree
entries_of a = terms_of a.config.known

-- want of memory, or a cause as P says
abbrev pub OrMem : (FillFault → Type 0) → Unfilled → Type 0
OrMem P unfilled.Mem = Unit {0}
OrMem P (unfilled.Fault f) = P f

-- what a fault of a line makes of the step: want of memory, or that fault
pub data IsBlamed : PFault → Unfilled → Type 0 where
  out_of_memory : IsBlamed fault.Mem unfilled.Mem
  other_fault : {e : PFault} → ¬ (e ≡ fault.Mem) → IsBlamed e (unfilled.Fault (fill.Process e))

-- no entry has some number
abbrev pub IsNoEntry : PFault → Type 0
IsNoEntry e = (k : ℕ) × (e ≡ fault.NoEntry k)

-- one signature; the search has the terms of the entries, and they are counted
pub record IsTied (a : Filling) : Type 0 where
  pub sig : a.search.sig ≡ a.config.sig
  pub entries : a.search.entries ≡ entries_of a
  pub count : a.count ≡ length a.search.entries

-- these terms, and maybe one more
abbrev pub AddsOne : List Tree → List Tree → Type 0
AddsOne es fs = (fs ≡ es) ⊎ ((x : Tree) × (fs ≡ es ++ x ∷ []))

-- so it is, but that the configuration may have one entry more
pub record IsLooselyTied (a : Filling) : Type 0 where
  pub sig : a.search.sig ≡ a.config.sig
  pub entries : AddsOne a.search.entries (entries_of a)
  pub count : a.count ≡ length a.search.entries

-- the line was done, and put last
pub record IsWritten (a b : Filling) (step : PStep) : Type 0 where
  pub label : List Fact
  pub done : IsDone a.config b.config step label
  pub lines : b.lines ≡ a.lines ++ step ∷ []
  pub search : b.search ≡ a.search
  pub count : b.count ≡ a.count

-- and what it gave was entered
pub record IsFollowed (a b : Filling) (step : PStep) : Type 0 where
  pub label : List Fact
  pub done : IsDone a.config b.config step label
  pub lines : b.lines ≡ a.lines ++ step ∷ []
  pub tied : IsTied b

-- the line is refused for this cause, which isn't want of memory
pub record IsBlamedFor (a : Filling) (step : PStep) (f : FillFault) : Type 0 where
  pub cause : PFault
  pub is : f ≡ fill.Process cause
  pub denied : IsDenied a.config step cause
  pub other : ¬ (cause ≡ fault.Mem)

-- the line is possible behind the entries
abbrev pub IsPossible : Filling → Line → Type 0
IsPossible a l = (u : Tree) × IsLine a.config.sig (entries_of a) l u

-- so are these lines, one after the other
abbrev pub AreLeading : Filling → List Line → Type 0
AreLeading a lines = (given : List Tree) × Give a.config.sig (entries_of a) lines given

-- the lines so far fill these steps of a short run, within the limit and without idle lines
abbrev pub HasFilled : Sig → Proc → List SStep → Filling → Trace → List Mark → Type 0
HasFilled g p ss a tr ms =
    IsSparingRun g p ss a.lines (configuration a.config) (entries_of a) tr ms

-- these lines of a derivation came, and these entries; the configuration is the same
pub record IsGrown (a b : Filling) (lines : List Line) (given : List Tree) : Type 0 where
  pub sig : b.config.sig ≡ a.config.sig
  pub config : configuration b.config ≡ configuration a.config
  pub lines_are : b.lines ≡ a.lines ++ map line_step lines
  pub entries : entries_of b ≡ entries_of a ++ given

-- if the lines are possible behind the entries, what they give was entered; the search wasn't touched
pub record AreCarriedOut (a b : Filling) (lines : List Line) : Type 0 where
  pub search : b.search ≡ a.search
  pub count : b.count ≡ a.count
  pub out : (given : List Tree) → Give a.config.sig (entries_of a) lines given → IsGrown a b lines given

-- lines came that find the term, this entry is it, and the adversary can give it
pub record HasEntered (a b : Filling) (x : Tree) (k : ℕ) : Type 0 where
  pub derivation : Derivation
  pub given : List Tree
  pub found : IsFoundBy a.config.sig (entries_of a) x derivation given
  pub grown : IsGrown a b derivation.lines given
  pub tied : IsTied b
  pub entry : slice_get (entries_of b) k ≡ Some x
  pub gives : CanGive a.config.sig (configuration a.config) x

-- so it is with the normal form of the written term
pub record HasGiven (a b : Filling) (u : Term) (k : ℕ) : Type 0 where
  pub term : Tree
  pub entered : HasEntered a b term k
  pub given : IsGiven a.config.sig (configuration a.config) u term

-- the thread takes what the adversary gives
pub record IsTaker (c : Config) (t : ℕ) : Type 0 where
  pub runs_as : Proc
  pub runs : Runs c t runs_as
  pub form : has_form (line.In t 0) runs_as ≡ true

-- it isn't there, or takes nothing
pub record IsUnfitTaker (c : Config) (t : ℕ) (f : FillFault) : Type 0 where
  pub cause : PFault
  pub is : f ≡ fill.Process cause
  pub unfit : IsUnfit c t (has_form (line.In t 0)) cause

-- one step more is filled
pub record IsFilledMore (p : Proc) (ss : List SStep) (b : Filling) (g : Sig) (s : SStep) (tr : Trace)
    (ms : List Mark) : Type 0 where
  pub inner : List InnerAction
  pub label : List Fact
  pub run : HasFilled g p (ss ++ s ∷ []) b (tr ++ shown label) (ms ++ marks_of inner label)

pub record IsFilledOn (a b : Filling) (s : SStep) : Type 0 where
  pub sig : b.config.sig ≡ a.config.sig
  pub tied : IsTied b
  pub run : (p : Proc) (ss : List SStep) (tr : Trace) (ms : List Mark)
      → HasFilled a.config.sig p ss a tr ms → IsFilledMore p ss b a.config.sig s tr ms

-- the step with this number is refused for this cause
pub record IsRefusedAs (a : Filling) (s : SStep) (number n : ℕ) (fault : FillFault) : Type 0 where
  pub same : n ≡ number
  pub refused : IsShortRefused a.config.sig (configuration a.config) s fault

-- the lines so far fill these steps of a run of the process, over this signature
pub record IsFilledTo (g : Sig) (p : Proc) (ss : List SStep) (a : Filling) : Type 0 where
  pub sig : a.config.sig ≡ g
  pub tied : IsTied a
  pub trace : Trace
  pub marks : List Mark
  pub run : HasFilled g p ss a trace marks
