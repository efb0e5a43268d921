-- What a command allows, refuses and takes of what it read, and of what is held.
use Rattle.std.proofs.Common.{◌≡◌, ◌+◌, ℕ, List, take, Option, Some, None, refl, sym, ap, subst, ◌∙◌}
use Rattle.std.specs.Prelude.{Ok, All}
use Rattle.std.specs.FinMap as files
use Rattle.sap_terms.specs.Signature.{HoldsBuiltins}
use Rattle.sap_read.specs.Files.{FileContent}
use Rattle.sap_rule.specs.WellMade.{IsWellMade}
use Rattle.sap_rule.specs.declared.theory.Theory.{Theory}
use Rattle.sap_run_texts.specs.declared.run.Kinds.TheVariants.{Rules, Either}
use Rattle.sap_theory.specs.ReadTheory.{IsTheoryRead}
use Rattle.sap_outside.specs.Outside.{Files, IsFetched, IsFirstPart}
use Rattle.sap_outside.specs.RunPieces.{most_run_bytes}
use Rattle.sap_terms.specs.declared.limits.TheConstants.{MOST_FILE_NAME_BYTES}
use Rattle.sap_read.specs.Printable.{IsPrintableFile}
use Rattle.sap_read.specs.declared.limits.TheConstants.{MOST_NEW_NAME_BYTES}
use Rattle.sap_intruder.specs.FilledRuns.{FilledRunsAreLegal, SparingRunsFill}
use Rattle.sap_runs.specs.Limits.{HasFewNodes}
use Rattle.sap_replay.specs.Laws.{TextsMeanWhatTheySay, RefusedRunsHaveOneCause, LegalRunsAreNotRefused}
use Rattle.sap_replay.specs.AcceptedFile.{most_bytes, IsAcceptedFile, IsRefusedWith}
use Rattle.sap_replay.specs.AcceptedTheory.{most_theory_bytes, IsAcceptedTheory, IsTheoryRefusedWith}
use Rattle.sap_replay.specs.JsonRuns.{IsJsonRefusedWith}
use Rattle.sap_tool.specs.Call.{Holds}
use Rattle.sap_replay.specs.declared.way.Way.{Way}
use Rattle.sap_tool.specs.Commands.{Command, compile, replay, fill, check, to_json, from_json, explain, Input, alone, behaviour_of, compiling, replaying, filling, checking, writing_json, reading_json, explaining, AcceptsFile, AcceptsTheory, no_cause, each, limit_of, RefusesRun, Allows}
use Rattle.sap_replay.specs.Tasks.{kinds_of}
use Rattle.sap_replay.specs.declared.task.Task.{Task}
use Rattle.sap_replay.specs.ShortRuns.{IsShortRefusedWith}
use Rattle.sap_replay.specs.RunRefusals.{IsIllegal, IsIllegalOfTheory, IsNeverIllegal, IsRunRefusedWith}
use Rattle.sap_tool.proofs.AsWritten.{AreShownAsWritten, shown_as_written}
use Rattle.sap_tool.proofs.AtOnce.{OnePage}
use Rattle.sap_tool.proofs.Sound.{IsShown, IsSound, on_alone, on_both, on_run, alone_two, both_two, run_two, alone_whole, both_whole, run_whole, alone_as_read, both_as_read, run_as_read, alone_as_held, both_as_held, run_as_held}
use Rattle.sap_tool.specs.AcceptedRuns.{IsFilledText, IsLegalFilling}
use Rattle.sap_tool.specs.Meaning.{IsWritten}
use Rattle.sap_tool.proofs.ShortRefused.{filled_is_legal, short_read_up_refused, short_refused_by_read_up}
use Rattle.sap_tool.proofs.JsonRefused.{json_part_refused, json_refused_by_part}
use Rattle.sap_tool.proofs.Parts.{read_up_refused, refused_by_read_up}
use Rattle.sap_tool.proofs.Refused.{OneReading, OneCompiled, Runnable, Keeping, Writing, one_cause, one_theory, same_file, not_refused, part_refused, part_accepted, refused_by_part, accepted_by_part}
use Rattle.sap_tool.proofs.WhyMeant.{why_means}
use Rattle.sap_tool.proofs.TheoryRefused.{OneTheory, same_theory, one_theory_cause, theory_not_refused, theory_part_refused, theory_refused_by_part, theory_part_accepted, theory_accepted_by_part}

-- what is so of a theory that is read
pub record IsRunnableTheory (t : Theory) : Type 0 where
  pub builtins : HoldsBuiltins t.signature
  pub made : All (IsWellMade t.signature) t.rules

-- the laws of the crates below
pub record Laws : Type 0 where
  pub keeping : Keeping
  pub runnable : Runnable
  pub printed : (z : List ℕ) (f : FileContent) → IsAcceptedFile z f → IsPrintableFile MOST_FILE_NAME_BYTES MOST_NEW_NAME_BYTES f
  pub writing : Writing
  pub as_written : AreShownAsWritten
  pub one_compiled : OneCompiled
  pub one : OneReading
  pub one_theory : OneTheory
  pub theories : (z : List ℕ) (t : Theory) → IsTheoryRead z (Ok t) → IsRunnableTheory t
  pub meant : TextsMeanWhatTheySay
  pub one_cause : RefusedRunsHaveOneCause
  pub unrefused : LegalRunsAreNotRefused
  pub filled : FilledRunsAreLegal HasFewNodes
  pub one_page : OnePage
  pub sparing : SparingRunsFill

-- what is so of what is fetched first: a file, a theory, or what is neither
of_files : Laws → IsShown most_bytes IsRefusedWith AcceptsFile
of_files laws = record {
  never = λ bytes why a r. not_refused laws.one bytes why a.0 r a.1;
  one = λ bytes why other r s. one_cause laws.one bytes why other r s;
  part_refused = part_refused;
  by_part = refused_by_part;
  part_accepted = λ bytes a. (a.0, part_accepted bytes a.0 a.1);
}

of_theories : Laws → IsShown most_theory_bytes IsTheoryRefusedWith AcceptsTheory
of_theories laws = record {
  never = λ bytes why a r. theory_not_refused laws.one_theory bytes why a.0 r a.1;
  one = λ bytes why other r s. one_theory_cause laws.one_theory bytes why other r s;
  part_refused = theory_part_refused;
  by_part = theory_refused_by_part;
  part_accepted = λ bytes a. (a.0, theory_part_accepted bytes a.0 a.1);
}

of_all : (most : ℕ) → IsShown most no_cause each
of_all most = record {
  never = λ bytes why a r. absurd r;
  one = λ bytes why other r s. absurd r;
  part_refused = λ bytes why r. absurd r;
  by_part = λ bytes why r. absurd r;
  part_accepted = λ bytes a. tt;
}

-- the theory of a file
compiling_is : Laws → (way : Way) (file : List ℕ) → IsSound (compiling way file)
compiling_is laws way file = record {
  fetched = of_files laws;
  means = λ input text. on_alone _ _ (λ bytes t. record {
    told = t.told;
    file = t.file;
    theory = t.theory;
    written = subst (λ (y : List ℕ). IsWritten y t.theory) (sym t.layout) (laws.writing way bytes t.told t.theory t.file t.compiled);
    layout = t.layout;
    compiled = t.compiled;
    keeps = laws.keeping way t.told t.theory (laws.runnable bytes t.told t.file.read) t.compiled;
    as_written = shown_as_written laws.as_written bytes t.told t.file.read;
  }) input;
  never_taken = λ input why t r. absurd r;
  one_run_why = λ input why other r s. absurd r;
  takes = λ input text why t r. absurd r;
  allowed_is_whole = λ input text. alone_whole (compiling way file) _ (λ bytes t. (t.told, t.file)) refl input;
  refused_is_whole = λ input why r. absurd r;
  taken_is_whole = λ input t. absurd t;
  refused_as_read = λ held read why p r. absurd r;
  refused_as_held = λ held read why p r. absurd r;
}

-- a task on a run of a file
replaying_is : Laws → (task : Task) (file run : List ℕ) → IsSound (replaying task file run)
replaying_is laws task file run = record {
  fetched = of_files laws;
  means = λ input text. on_both _ _ (λ bytes z t. record {
    told = t.told;
    file = t.file;
    lines = t.lines;
    read = t.read;
    written = laws.meant.written task bytes t.told (kinds_of task) z t.lines text (laws.runnable bytes t.told t.file.read) (laws.printed bytes t.told t.file) t.read t.written;
  }) input;
  never_taken = λ input why. both_two _ _ ⊥ (λ bytes z t r.
      let same : r.0 ≡ t.told = same_file laws.one bytes r.0 t.told r.1.read t.file.read in
      laws.unrefused.file t.told (kinds_of task) z why t.lines t.trace (laws.runnable bytes t.told t.file.read) t.read t.seen
      (subst (λ (f : FileContent). IsRunRefusedWith (kinds_of task) (IsIllegal f) z why) same r.2)) input;
  one_run_why = λ input why other. both_two _ _ (why ≡ other) (λ bytes z r s.
      let same : s.0 ≡ r.0 = same_file laws.one bytes s.0 r.0 s.1.read r.1.read in
      laws.one_cause.file r.0 (kinds_of task) z why other (laws.runnable bytes r.0 r.1.read) r.2
      (subst (λ (f : FileContent). IsRunRefusedWith (kinds_of task) (IsIllegal f) z other) same s.2)) input;
  takes = λ input text why t r. on_both _ _ (λ bytes z t.
      let shown = laws.meant.legal task bytes t.told t.lines text t.written in
      record { told = t.told; file = t.file; lines = t.lines; read = t.read; trace = shown.0; seen = shown.1 }) input t;
  allowed_is_whole = λ input text. both_whole (replaying task file run) _ (λ bytes z t. (t.told, t.file)) input;
  refused_is_whole = λ input why. both_whole (replaying task file run) _ (λ bytes z r. (r.0, r.1)) input;
  taken_is_whole = λ input. both_whole (replaying task file run) _ (λ bytes z t. (t.told, t.file)) input;
  refused_as_read = λ held read why. both_as_read most_bytes _ (λ bytes z y up r.
      (r.0, part_accepted bytes r.0 r.1, read_up_refused (kinds_of task) (IsIllegal r.0) z y why up r.2)) held read;
  refused_as_held = λ held read why. both_as_held most_bytes
      (λ bytes z x. (told : FileContent) × IsAcceptedFile bytes told × IsRunRefusedWith (kinds_of task) (IsIllegal told) z x)
      (λ bytes z y x up r.
      let found = refused_by_read_up (kinds_of task) (IsIllegal r.0) z y x up r.2 in (found.0, (r.0, accepted_by_part bytes r.0 r.1, found.1)))
      held read why;
}

-- what is allowed of a short run means what it should
filled_meant : Laws → (bytes z text : List ℕ) → IsFilledText bytes z text → IsLegalFilling bytes z text
filled_meant laws bytes z text t = filled_is_legal laws.filled laws.sparing laws.meant bytes z text t (laws.runnable bytes t.told t.file.read) (laws.printed bytes t.told t.file)

-- the run of a file that a short run stands for
filling_is : Laws → (file run : List ℕ) → IsSound (filling file run)
filling_is laws file run = record {
  fetched = of_files laws;
  means = λ input text. on_both _ _ (λ bytes z t. filled_meant laws bytes z text t) input;
  never_taken = λ input why. both_two _ _ ⊥ (λ bytes z t r.
      let same : r.0 ≡ t.told = same_file laws.one bytes r.0 t.told r.1.read t.file.read in
      laws.unrefused.short t.told z why t.run t.config t.trace t.marks (laws.runnable bytes t.told t.file.read) t.read t.legal
      (subst (λ (f : FileContent). IsShortRefusedWith f z why) same r.2)) input;
  one_run_why = λ input why other. both_two _ _ (why ≡ other) (λ bytes z r s.
      let same : s.0 ≡ r.0 = same_file laws.one bytes s.0 r.0 s.1.read r.1.read in
      laws.one_cause.short r.0 z why other (laws.runnable bytes r.0 r.1.read) r.2
      (subst (λ (f : FileContent). IsShortRefusedWith f z other) same s.2)) input;
  takes = λ input text why t r. on_both _ _ (λ bytes z t. (filled_meant laws bytes z text t).short) input t;
  allowed_is_whole = λ input text. both_whole (filling file run) _ (λ bytes z t. (t.told, t.file)) input;
  refused_is_whole = λ input why. both_whole (filling file run) _ (λ bytes z r. (r.0, r.1)) input;
  taken_is_whole = λ input. both_whole (filling file run) _ (λ bytes z t. (t.told, t.file)) input;
  refused_as_read = λ held read why. both_as_read most_bytes _ (λ bytes z y up r.
      (r.0, part_accepted bytes r.0 r.1, short_read_up_refused r.0 z y why up r.2)) held read;
  refused_as_held = λ held read why. both_as_held most_bytes
      (λ bytes z x. (told : FileContent) × IsAcceptedFile bytes told × IsShortRefusedWith told z x)
      (λ bytes z y x up r.
      let found = short_refused_by_read_up r.0 z y x up r.2 in (found.0, (r.0, accepted_by_part bytes r.0 r.1, found.1)))
      held read why;
}

-- what a theory says of a run of its rules
checking_is : Laws → (theory run : List ℕ) → IsSound (checking theory run)
checking_is laws theory run = record {
  fetched = of_theories laws;
  means = λ input text t. t;
  never_taken = λ input why. both_two _ _ ⊥ (λ bytes z t r.
      let same : r.0 ≡ t.theory = same_theory laws.one_theory bytes r.0 t.theory r.1 t.file in
      let can = laws.theories bytes t.theory t.file.read in
      laws.unrefused.theory t.theory z why t.lines t.full can.builtins can.made t.read t.shown
      (subst (λ (u : Theory). IsRunRefusedWith Rules (IsIllegalOfTheory u) z why) same r.2)) input;
  one_run_why = λ input why other. both_two _ _ (why ≡ other) (λ bytes z r s.
      let same : s.0 ≡ r.0 = same_theory laws.one_theory bytes s.0 r.0 s.1 r.1 in
      let can = laws.theories bytes r.0 r.1.read in
      laws.one_cause.theory r.0 z why other can.builtins can.made r.2
      (subst (λ (t : Theory). IsRunRefusedWith Rules (IsIllegalOfTheory t) z other) same s.2)) input;
  takes = λ input text why t r. on_both _ _ (λ bytes z t.
      record { theory = t.theory; file = t.file; lines = t.lines; read = t.read; full = t.written.full; shown = t.written.shown }) input t;
  allowed_is_whole = λ input text. both_whole (checking theory run) _ (λ bytes z t. (t.theory, t.file)) input;
  refused_is_whole = λ input why. both_whole (checking theory run) _ (λ bytes z r. (r.0, r.1)) input;
  taken_is_whole = λ input. both_whole (checking theory run) _ (λ bytes z t. (t.theory, t.file)) input;
  refused_as_read = λ held read why. both_as_read most_theory_bytes _ (λ bytes z y up r.
      (r.0, theory_part_accepted bytes r.0 r.1, read_up_refused Rules (IsIllegalOfTheory r.0) z y why up r.2)) held read;
  refused_as_held = λ held read why. both_as_held most_theory_bytes
      (λ bytes z x. (t : Theory) × IsAcceptedTheory bytes t × IsRunRefusedWith Rules (IsIllegalOfTheory t) z x)
      (λ bytes z y x up r.
      let found = refused_by_read_up Rules (IsIllegalOfTheory r.0) z y x up r.2 in (found.0, (r.0, theory_accepted_by_part bytes r.0 r.1, found.1)))
      held read why;
}

-- a run as JSON
writing_json_is : Laws → (run : List ℕ) → IsSound (writing_json run)
writing_json_is laws run = record {
  fetched = of_all 0;
  means = λ input text. on_run _ _ (λ z t. laws.meant.as_json z text t) input;
  never_taken = λ input why. run_two _ _ ⊥ (λ z t r. laws.unrefused.alone z why t.0 t.1 r) input;
  one_run_why = λ input why other. run_two _ _ (why ≡ other) (λ z r s. laws.one_cause.alone z why other r s) input;
  takes = λ input text why t r. on_run _ _ (λ z t. (t.lines, t.read)) input t;
  allowed_is_whole = λ input text. run_whole (writing_json run) _ refl input;
  refused_is_whole = λ input why. run_whole (writing_json run) _ refl input;
  taken_is_whole = λ input. run_whole (writing_json run) _ refl input;
  refused_as_read = λ held read why. run_as_read 0 _ (λ z y up r. read_up_refused Either IsNeverIllegal z y why up r) held read;
  refused_as_held = λ held read why. run_as_held 0 (λ z x. IsRunRefusedWith Either IsNeverIllegal z x)
      (λ z y x up r. refused_by_read_up Either IsNeverIllegal z y x up r) held read why;
}

-- the run that JSON is
reading_json_is : Laws → (json : List ℕ) → IsSound (reading_json json)
reading_json_is laws json = record {
  fetched = of_all most_run_bytes;
  means = λ input text. on_alone _ _ (λ bytes t. laws.meant.of_json bytes text t) input;
  never_taken = λ input why. alone_two _ _ ⊥ (λ bytes t r. laws.unrefused.json bytes why t.0 t.1 r) input;
  one_run_why = λ input why other. alone_two _ _ (why ≡ other) (λ bytes r s. laws.one_cause.json bytes why other r s) input;
  takes = λ input text why t r. on_alone _ _ (λ bytes t. (t.lines, t.accepted)) input t;
  allowed_is_whole = λ input text. alone_whole (reading_json json) _ (λ bytes t. tt) refl input;
  refused_is_whole = λ input why. alone_whole (reading_json json) _ (λ bytes r. tt) refl input;
  taken_is_whole = λ input. alone_whole (reading_json json) _ (λ bytes t. tt) refl input;
  refused_as_read = λ held read why. alone_as_read most_run_bytes _ (λ bytes r. json_part_refused bytes why r) held read;
  refused_as_held = λ held read why. alone_as_held most_run_bytes (λ bytes x. IsJsonRefusedWith bytes x)
      (λ bytes x r. json_refused_by_part bytes x r) held read why;
}

-- whether a file is accepted, or why not
explaining_is : Laws → (file : List ℕ) → IsSound (explaining file)
explaining_is laws file = record {
  fetched = of_all most_bytes;
  means = λ input text. on_alone _ _ (λ bytes t. why_means laws.one bytes text t) input;
  never_taken = λ input why t r. absurd r;
  one_run_why = λ input why other r s. absurd r;
  takes = λ input text why t r. absurd r;
  allowed_is_whole = λ input text. alone_whole (explaining file) _ (λ bytes t. tt) refl input;
  refused_is_whole = λ input why r. absurd r;
  taken_is_whole = λ input t. absurd t;
  refused_as_read = λ held read why p r. absurd r;
  refused_as_held = λ held read why p r. absurd r;
}

pub is_sound : Laws → (k : Command) → IsSound (behaviour_of k)
is_sound laws (compile way file) = compiling_is laws way file
is_sound laws (replay task file run) = replaying_is laws task file run
is_sound laws (fill file run) = filling_is laws file run
is_sound laws (check theory run) = checking_is laws theory run
is_sound laws (to_json run) = writing_json_is laws run
is_sound laws (from_json json) = reading_json_is laws json
is_sound laws (explain file) = explaining_is laws file

-- no run is both allowed a text and refused
pub never_run : Laws → (k : Command) (input : Input) (text why : List ℕ) → Allows k input text → RefusesRun k input why → ⊥
never_run laws k input text why t r = let s = is_sound laws k in s.never_taken input why (s.takes input text why t r) r

-- a file has one theory in a way
pub one_allowed : Laws → (way : Way) (file bytes text other : List ℕ) → Allows (compile way file) (alone bytes) text → Allows (compile way file) (alone bytes) other → text ≡ other
one_allowed laws way file bytes text other t u = one_theory laws.one bytes laws.one_compiled way text other t u

-- what is fetched of a file that is held is its first part
pub fetched_part : (holds : Option Files) (limit : ℕ) (file bytes z : List ℕ) → Holds holds file bytes → IsFetched holds file limit z → z ≡ take (limit + 1) bytes
fetched_part None limit file bytes z held part = absurd held
fetched_part (Some all) limit file bytes z held part = at (files.get all file) held part where
  at : (o : Option (List ℕ)) → o ≡ Some bytes → IsFirstPart o limit z → z ≡ take (limit + 1) bytes
  at None h k = absurd k
  at (Some other) h k = let e : other ≡ bytes = cc in k ∙ ap (λ y. take (limit + 1) y) e

-- a first part of an accepted file allows the file's text
pub part_allows : (way : Way) (file bytes text : List ℕ) → Allows (compile way file) (alone bytes) text
    → Allows (compile way file) (alone (take (limit_of (compile way file) + 1) bytes)) text
part_allows way file bytes text t = record { told = t.told; file = part_accepted bytes t.told t.file; theory = t.theory; compiled = t.compiled; layout = t.layout }
