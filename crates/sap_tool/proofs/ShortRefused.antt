-- Short runs that are filled are legal; what refuses one refuses what was read of it.
use Rattle.std.proofs.Common.{◌≡◌, ◌<◌, ◌≤◌, ℕ, List, length, Ok, inl, inr, refl, sym, subst, arith}
use Rattle.sap_intruder.specs.FilledRuns.{FilledRunsAreLegal, SparingRunsFill}
use Rattle.sap_outside.specs.RunPieces.{most_run_bytes, IsReadUp}
use Rattle.sap_outside.specs.declared.run_refusal.RunRefusal.TheVariants as refusal
use Rattle.sap_read.specs.Files.{FileContent, IsRunnable}
use Rattle.sap_refusals.specs.RunFaultTexts.{run_refusal_text}
use Rattle.sap_read.specs.Printable.{IsPrintableFile}
use Rattle.sap_read.specs.declared.limits.TheConstants.{MOST_NEW_NAME_BYTES}
use Rattle.sap_run_texts.specs.RunTexts.{IsProcessRunText}
use Rattle.sap_runs.specs.Limits.{HasFewNodes}
use Rattle.sap_terms.specs.declared.limits.TheConstants.{MOST_FILE_NAME_BYTES}
use Rattle.sap_replay.specs.AcceptedFile.{IsAcceptedFile}
use Rattle.sap_replay.specs.Laws.{TextsMeanWhatTheySay}
use Rattle.sap_replay.specs.ShortRuns.{IsShortRefusedWith, too_long, no_run, illegal}
use Rattle.sap_tool.specs.AcceptedRuns.{IsFilledText, IsLegalFilling}
use Rattle.sap_tool.proofs.Parts.{short_or_long, all_read, longer}

-- what fills a short run is legal, and that is
pub filled_is_legal : FilledRunsAreLegal HasFewNodes → SparingRunsFill → TextsMeanWhatTheySay → (bytes z text : List ℕ) → (t : IsFilledText bytes z text) → IsRunnable t.told
    → IsPrintableFile MOST_FILE_NAME_BYTES MOST_NEW_NAME_BYTES t.told → IsLegalFilling bytes z text
filled_is_legal law fill meant bytes z text t runnable printable =
    let by = t.filled in
    let fills = fill t.told.signature t.told.process t.run t.lines by.config by.entries by.trace by.marks by.run in
    let both = law t.told.signature t.told.process t.run t.lines by.config by.entries by.trace by.marks fills in
    record {
      short = record { told = t.told; file = t.file; run = t.run; read = t.read; config = by.config; trace = by.trace; marks = by.marks; legal = both.1 };
      lines = t.lines;
      layout = t.layout;
      entries = by.entries;
      fills = fills;
      sparing = by.run;
      legal = both.0;
      read = λ few. subst (λ (y : List ℕ). IsProcessRunText y (Ok t.lines)) (sym t.layout) (meant.filled t.told z t.run t.lines runnable printable t.read t.filled few);
    }

-- that they are too many is why too many bytes are refused
refused_as_long : (f : FileContent) (z why : List ℕ) → most_run_bytes < length z → IsShortRefusedWith f z why → why ≡ run_refusal_text refusal.TooLong
refused_as_long f z _ long (too_long l) = refl
refused_as_long f z _ long (no_run l a) = absurd (omega (arith, long, l))
refused_as_long f z _ long (illegal n e read a) = let l = read.few in absurd (omega (arith, long, l))

-- what refuses a short run refuses the bytes of it that were read up
pub short_read_up_refused : (f : FileContent) (z y why : List ℕ) → IsReadUp z y → IsShortRefusedWith f z why → IsShortRefusedWith f y why
short_read_up_refused f z y why up r = elim (short_or_long (length y) most_run_bytes) [
  | inl short ↦ subst (λ (x : List ℕ). IsShortRefusedWith f x why) (all_read z y up short) r
  | inr long ↦
      let more = subst (λ (x : List ℕ). most_run_bytes < length x) (sym up.part) (longer y up.left most_run_bytes long) in
      subst (λ (w : List ℕ). IsShortRefusedWith f y w) (sym (refused_as_long f z why more r)) (too_long long)
]

-- and the other way about
pub short_refused_by_read_up : (f : FileContent) (z y why : List ℕ) → IsReadUp z y → IsShortRefusedWith f y why → ((other : List ℕ) × IsShortRefusedWith f z other)
short_refused_by_read_up f z y why up r = elim (short_or_long (length y) most_run_bytes) [
  | inl short ↦ (why, subst (λ (x : List ℕ). IsShortRefusedWith f x why) (sym (all_read z y up short)) r)
  | inr long ↦ (_, too_long (subst (λ (x : List ℕ). most_run_bytes < length x) (sym up.part) (longer y up.left most_run_bytes long)))
]
