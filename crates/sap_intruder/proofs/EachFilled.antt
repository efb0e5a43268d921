-- Steps of a short run, filled one after the other.
use Rattle.std.proofs.Common.{◌≡◌, ◌+◌, ◌≤◌, ℕ, zero, suc, List, [], ◌∷◌, ◌++◌, length, Some, slice_get, take, drop, take-append-drop, arith, refl, sym, ap, subst, ◌∙◌}
use Rattle.sap_terms.specs.Signature.{Sig}
use Rattle.sap_terms.specs.Trace.{shown}
use Rattle.sap_terms.proofs.PlainLaws.Lists.{take_got, drop_got}
use Rattle.sap_process.specs.Configuration.{Config, initial}
use Rattle.sap_process.specs.Proc.{Proc}
use Rattle.sap_runs.specs.Limits.{HasFewNodes}
use Rattle.sap_runs.specs.Marks.{marks_of}
use Rattle.sap_runs.specs.declared.process_step.PStep.{PStep}
use Rattle.sap_runs.specs.declared.short_step.SStep.{SStep}
use Rattle.sap_calc.specs.Running.{configuration}
use Rattle.sap_deduce.specs.Entries.{Entry, terms_of}
use Rattle.sap_intruder.specs.FilledRuns.{FilledRunsAreLegal, IsFilled, IsSparingRun, begins}
use Rattle.sap_intruder.specs.OneAnswer.{IsFirstRefusedOfShort}
use Rattle.sap_intruder.specs.Refusals.{IsShortRefused}
use Rattle.sap_intruder.specs.code.Filled.{HasFilled, IsFilledOn, IsFilledTo, IsRefusedAs, IsTied, entries_of}
use Rattle.sap_intruder.specs.declared.fill_fault.FillFault.{FillFault}
use Rattle.sap_intruder.specs.declared.filling.Filling.{Filling}
use Rattle.sap_intruder.proofs.Sparing.{sparing_runs_fill}

-- the item with this number, between those before it and those behind it
cut_got : {A : Type 0} (xs : List A) (k : ℕ) (x : A) → slice_get xs k ≡ Some x → xs ≡ take k xs ++ x ∷ drop (k + 1) xs
cut_got xs k x e = sym (take-append-drop k xs) ∙ ap (λ zs. take k xs ++ zs) (drop_got xs k x e)

length_before : {A : Type 0} (xs : List A) (k : ℕ) (x : A) → slice_get xs k ≡ Some x → length (take k xs) ≡ k
length_before [] k x e = absurd (cc)
length_before (y ∷ xs) zero x e = refl
length_before (y ∷ xs) (suc k) x e = ap suc (length_before xs k x e)

pub take_all : {A : Type 0} (xs : List A) (k : ℕ) → length xs ≤ k → take k xs ≡ xs
take_all [] zero h = refl
take_all [] (suc k) h = refl
take_all (x ∷ xs) zero h = absurd (omega arith)
take_all (x ∷ xs) (suc k) h = ap (λ zs. x ∷ zs) (take_all xs k (omega arith))

-- nothing is filled yet
pub filled_none : (g : Sig) (p : Proc) (a : Filling) → IsTied a → a.config.sig ≡ g → a.config.known ≡ [] → configuration a.config ≡ initial p → a.lines ≡ [] → IsFilledTo g p [] a
filled_none g p a tied sig known conf lines = record {
  sig = sig;
  tied = tied;
  trace = [];
  marks = [];
  run =
      subst (λ (ls : List PStep). IsSparingRun g p [] ls (configuration a.config) (entries_of a) [] []) (sym lines)
      (subst (λ (c : Config). IsSparingRun g p [] [] c (entries_of a) [] []) (sym conf)
      (subst (λ (es : List Entry). IsSparingRun g p [] [] (initial p) (terms_of es) [] []) (sym known) begins));
}

-- one step more
pub filled_more : (g : Sig) (p : Proc) (run : List SStep) (k : ℕ) (s : SStep) (a b : Filling) → slice_get run k ≡ Some s → IsFilledTo g p (take k run) a → IsFilledOn a b s
    → IsFilledTo g p (take (k + 1) run) b
filled_more g p run k s a b at h on =
    let here : HasFilled a.config.sig p (take k run) a h.trace h.marks = subst (λ (x : Sig). HasFilled x p (take k run) a h.trace h.marks) (sym h.sig) h.run in
    let more = on.run p (take k run) h.trace h.marks here in
    subst (λ (ss : List SStep). IsFilledTo g p ss b) (sym (take_got run k s at))
    (record {
      sig = on.sig ∙ h.sig;
      tied = on.tied;
      trace = h.trace ++ shown more.label;
      marks = h.marks ++ marks_of more.inner more.label;
      run = subst (λ (x : Sig). HasFilled x p (take k run ++ s ∷ []) b (h.trace ++ shown more.label) (h.marks ++ marks_of more.inner more.label)) h.sig more.run;
    })

-- a step that is refused behind those before it is the first
pub refused_first : FilledRunsAreLegal HasFewNodes → (g : Sig) (p : Proc) (run : List SStep) (k n : ℕ) (s : SStep) (fault : FillFault) (a : Filling) → slice_get run k ≡ Some s
    → IsFilledTo g p (take k run) a → IsRefusedAs a s (k + 1) n fault → IsFirstRefusedOfShort g p run n fault
refused_first legal g p run k n s fault a at h is = record {
  before = take k run;
  step = s;
  after = drop (k + 1) run;
  cut = cut_got run k s at;
  counts = is.same ∙ ap (λ m. m + 1) (sym (length_before run k s at));
  config = configuration a.config;
  trace = h.trace;
  marks = h.marks;
  legal = (legal g p (take k run) a.lines (configuration a.config) (entries_of a) h.trace h.marks (sparing_runs_fill g p (take k run) a.lines (configuration a.config) (entries_of a) h.trace h.marks h.run)).1;
  refused = subst (λ (x : Sig). IsShortRefused x (configuration a.config) s fault) h.sig is.refused;
}

-- all are filled
pub filled_all : (g : Sig) (p : Proc) (run : List SStep) (a : Filling) → IsFilledTo g p run a → IsFilled g p run a.lines
filled_all g p run a h = record { config = configuration a.config; entries = entries_of a; trace = h.trace; marks = h.marks; run = h.run }
