-- From what was read to how the call ends.
use Rattle.std.proofs.Common.{◌≡◌, ◌≢◌, ◌≤◌, ◌+◌, ℕ, List, [], ◌∷◌, ◌++◌, length, Option, None, Some, Result, Ok, Err, inl, inr, sym, ap, subst, ◌∙◌, refl, arith}
use Rattle.std.specs.Prelude.{IfOk, IsErrOf, IsSomeAnd, IfSome, MatchOption}
use Rattle.sap_read.specs.Files.{FileContent}
use Rattle.sap_rule.specs.declared.theory.Theory.{Theory}
use Rattle.sap_run_texts.specs.declared.run.Kinds.TheVariants as kinds
use Rattle.sap_run_texts.specs.declared.run.Run.{Run}
use Rattle.sap_terms.specs.declared.mem.Mem.{Mem as OutOfMemory}
use Rattle.sap_replay.specs.AcceptedFile.{IsAcceptedFile, IsRefusal, IsTheoryOf}
use Rattle.sap_tool.specs.WhyTexts.{IsWhyText}
use Rattle.sap_replay.specs.AcceptedTheory.{IsAcceptedTheory}
use Rattle.sap_replay.specs.Replays.{IsCheckedText}
use Rattle.sap_outside.specs.Outside.{Files, Rose, IsFetched}
use Rattle.sap_outside.specs.Requests.{Request, Requested, fetch, for_run}
use Rattle.sap_outside.specs.Seen.{SeenShelf}
use Rattle.sap_outside.specs.declared.shelf.ShelfFault.{ShelfFault}
use Rattle.sap_outside.specs.declared.shelf.ShelfFault.TheVariants as faults
use Rattle.sap_outside.specs.RunPieces.{IsJoined, may_come, WasRead, WasGivenUp, IsRunAnswer, most_run_bytes}
use Rattle.sap_tool.specs.Call.{Call, FailedOn, AskedFor}
use Rattle.sap_tool.specs.Commands.{Command, compile, replay, fill, check, to_json, from_json, explain, Input, alone, and_run, run_alone, file_of, run_of, HowRead, in_pieces, at_once, how_read, limit_of, Accepts, Refuses, RefusesRun}
use Rattle.sap_replay.specs.Tasks.{kinds_of, Writes}
use Rattle.sap_answer.specs.Answer.{Answer, gives, tells, HasText, IsDelivered, usage_text, read_fault_text}
use Rattle.sap_tool.specs.Answers.{IsAnswerTo, allowed, refused, run_refused, Asks, for_file, for_name, IsFileFetched, WasReadSo, WasGivenUpSo, WasRunRead, WasRunGivenUp, IsRunNext, IsAnswer, IsBegun, to_input, usage, unread, unread_run, asked_file, asked_run, asked_both, Ended, answered, unanswered}
use Rattle.sap_refusals.specs.Refusals.{refused_line}
use Rattle.sap_refusals.specs.RunFaultTexts.{run_refused_line}
use Rattle.sap_replay.specs.JsonRuns.{IsJsonOf, IsRunOfJson, IsJsonRefusedWith}
use Rattle.sap_replay.specs.RunRefusals.{IsIllegal, IsIllegalOfTheory, IsNeverIllegal, IsLineOf, IsRunRefusal}
use Rattle.sap_answer.specs.Endings.{ending_of, file_ending_of, refused_ending, unread_ending, written_ending}
use Rattle.sap_tool.specs.code.Endings.{Ends, EndsFile, EndsBoth, HasRead, HasGivenUp, Reading, reading}
use Rattle.sap_replay.specs.ShortRuns.{IsShortRefusedWith, IsFilledOf}
use Rattle.sap_answer.specs.declared.refusal.Refusal.{Refusal}
use Rattle.sap_answer.specs.declared.refusal.Refusal.TheVariants as refusal
use Rattle.sap_replay.specs.declared.task.Task.{Task}
use Rattle.sap_replay.specs.declared.way.Way.{Way}
use Rattle.sap_answer.specs.declared.ending.Ending.{Ending}
use Rattle.sap_answer.specs.declared.ending.Ending.TheVariants as ending
use Rattle.sap_tool.proofs.Some.{is_some_and}

-- a count that rose behind an earlier moment rose since then
rose_before : (before now later : ℕ) → before ≤ now → Rose now later → Rose before later
rose_before before now later h k = omega arith

-- a line that refuses a file is an answer to it
pub file_line : (k : Command) (bytes why line : List ℕ) → Refuses k bytes why → line ≡ refused_line why → IsAnswerTo k (alone bytes) (tells 1 line)
file_line k bytes why line r layout = subst (λ (l : List ℕ). IsAnswerTo k (alone bytes) (tells 1 l)) (sym layout) (refused why r)

-- one that refuses a run is an answer to what was read
pub run_line : (k : Command) (input : Input) (why line : List ℕ) → RefusesRun k input why → line ≡ run_refused_line why → IsAnswerTo k input (tells 2 line)
run_line k input why line r layout = subst (λ (l : List ℕ). IsAnswerTo k input (tells 2 l)) (sym layout) (run_refused why r)

-- behind bytes that are accepted it is the run's turn
run_next : (c : Call) (k : Command) (bytes : List ℕ) → IsFileFetched c k bytes → Accepts k bytes → IsRunNext c k
run_next c k bytes fetched accepted = at (file_of k) fetched where
  at : (o : Option (List ℕ)) → IsSomeAnd o (λ name. IsFetched c.before.holds name (limit_of k) bytes)
      → IfSome o (λ name. (z : List ℕ) × IsFetched c.before.holds name (limit_of k) z × Accepts k z)
  at None f = absurd f
  at (Some name) f = (bytes, f, accepted)

-- what a file alone ends with is what the call ends with
pub of_file : (c : Call) (k : Command) (bytes : List ℕ) (e : Ending) → Asks c k → IsFileFetched c k bytes → AskedFor c (for_file k) → EndsFile k bytes e → Ends c e
of_file c k bytes (ending.Given text) asks fetched once t = to_input k (alone bytes) asks (fetched, once) (allowed t)
of_file c k bytes (ending.Help text) asks fetched once t = absurd t
of_file c k bytes ending.Usage asks fetched once t = absurd t
of_file c k bytes ending.Unread asks fetched once t = absurd t
of_file c k bytes (ending.File line) asks fetched once t = to_input k (alone bytes) asks (fetched, once) t
of_file c k bytes (ending.Run line) asks fetched once t = to_input k (alone bytes) asks (fetched, once) t
of_file c k bytes ending.Mem asks fetched once t = asked_file k asks once

-- requests that were made, and then others, were made one behind another
abbrev pub Joining : Type 0
Joining = (first more : List Request) (before mid after : Option (List Request)) → Requested first before mid → Requested more mid after → Requested (first ++ more) before after

-- bytes that were fetched under a command's limit, by the name of what it fetches first, and what was asked for them
module _ (c : Call) (k : Command) (name : List ℕ) (named : file_of k ≡ Some name) (limit : ℕ) (is : limit ≡ limit_of k) where
  pub fetched_of : (bytes : List ℕ) → IsFetched c.before.holds name limit bytes → IsFileFetched c k bytes
  fetched_of bytes fetched =
      is_some_and (file_of k) name (λ (n : List ℕ). IsFetched c.before.holds n (limit_of k) bytes) named
      (subst (λ (most : ℕ). IsFetched c.before.holds name most bytes) is fetched)

  pub once_of : (after : Option (List Request)) → Requested (fetch name limit ∷ []) c.before.asked after → Requested (for_file k) c.before.asked after
  once_of after once =
      subst (λ (made : List Request). Requested made c.before.asked after)
      (ap (λ (most : ℕ). fetch name most ∷ []) is ∙ sym (ap (λ (o : Option (List ℕ)). for_name o (limit_of k)) named)) once

  -- where the shelf failed, or found no memory
  pub of_unread : (fault : ShelfFault) → Asks c k → (fault ≡ faults.Failed → FailedOn c name)
      → Requested (fetch name limit ∷ []) c.before.asked c.after.asked → Ends c (unread_ending fault)
  of_unread faults.Failed asks failed once =
      unread k asks (is_some_and (file_of k) name (λ (n : List ℕ). FailedOn c n) named (failed refl)) (once_of c.after.asked once)
  of_unread faults.Mem asks failed once = asked_file k asks (once_of c.after.asked once)

-- so it is with a file and a run behind it, which was read since the shelf was as it is seen here
module _ (joining : Joining) (c : Call) (k : Command) (bytes : List ℕ) (run : List ℕ) (mid : SeenShelf) (asks : Asks c k)
    (fetched : IsFileFetched c k bytes) (named : run_of k ≡ Some run) (same : mid.holds ≡ c.before.holds)
    (before : c.before.faults run ≤ mid.faults run) (once : Requested (for_file k) c.before.asked mid.asked) where
  asked_all : (more : List Request) → Requested more mid.asked c.after.asked → AskedFor c (for_file k ++ more)
  asked_all more asked = joining (for_file k) more c.before.asked mid.asked c.after.asked once asked

  asked_once : c.after.asked ≡ mid.asked → AskedFor c (for_file k)
  asked_once none = subst (λ (x : Option (List Request)). Requested (for_file k) c.before.asked x) (sym none) once

  read_so : (h : HowRead) (z : List ℕ) → WasReadSo h mid.holds run [] mid.asked c.after.asked z → WasReadSo h c.before.holds run (for_file k) c.before.asked c.after.asked z
  read_so in_pieces z was = record {
    joined = subst (λ (h : Option Files). IsJoined h run z) same was.joined;
    pieces = was.pieces;
    are = was.are;
    whole = was.whole;
    asked = asked_all (for_run run (length was.pieces)) was.asked;
  }
  read_so at_once z was =
      (subst (λ (h : Option Files). IsFetched h run most_run_bytes z) same was.0, asked_all (fetch run most_run_bytes ∷ []) was.1)

  read_of : (z : List ℕ) → HasRead k (reading run mid c.after) z → WasRunRead c k z
  read_of z was =
      is_some_and (run_of k) run (λ (r : List ℕ). WasReadSo (how_read k) c.before.holds r (for_file k) c.before.asked c.after.asked z) named
      (read_so (how_read k) z was)

  given_up_so : (h : HowRead) → WasGivenUpSo h mid.holds run [] mid.asked c.after.asked → WasGivenUpSo h c.before.holds run (for_file k) c.before.asked c.after.asked
  given_up_so in_pieces was = record {
    nexts = was.nexts;
    few = subst (λ (h : Option Files). was.nexts ≤ may_come h run + 1) same was.few;
    asked = asked_all (for_run run was.nexts) was.asked;
  }
  given_up_so at_once was = asked_all (fetch run most_run_bytes ∷ []) was

  given_up_of : HasGivenUp k (reading run mid c.after) → WasRunGivenUp c k
  given_up_of was =
      is_some_and (run_of k) run (λ (r : List ℕ). WasGivenUpSo (how_read k) c.before.holds r (for_file k) c.before.asked c.after.asked) named
      (given_up_so (how_read k) was)

  pub of_both : (e : Ending) → EndsBoth k bytes (reading run mid c.after) e → Ends c e
  of_both (ending.Given text) t = to_input k (and_run bytes t.0) asks (fetched, read_of t.0 t.1) (allowed t.2)
  of_both (ending.Help text) t = absurd t
  of_both ending.Usage t = absurd t
  of_both ending.Unread t =
      let rose : FailedOn c run = rose_before (c.before.faults run) (mid.faults run) (c.after.faults run) before t.1 in
      unread_run k asks (run_next c k bytes fetched t.0) (is_some_and (run_of k) run (λ (r : List ℕ). FailedOn c r) named rose) (given_up_of t.2)
  of_both (ending.File line) t = to_input k (alone bytes) asks (fetched, asked_once t.1) t.0
  of_both (ending.Run line) t = to_input k (and_run bytes t.0) asks (fetched, read_of t.0 t.1) t.2
  of_both ending.Mem (inl none) = asked_file k asks (asked_once none)
  of_both ending.Mem (inr (accepted, inl was)) = asked_run k asks (run_next c k bytes fetched accepted) (given_up_of was)
  of_both ending.Mem (inr (accepted, inr read)) = asked_both k read.0 asks (run_next c k bytes fetched accepted) (read_of read.0 read.1)

-- where a run couldn't be read
pub run_unread : (k : Command) (bytes : List ℕ) (r : Reading) (fault : ShelfFault) → Accepts k bytes
    → (fault ≡ faults.Failed → Rose (r.before.faults r.run) (r.after.faults r.run)) → HasGivenUp k r → EndsBoth k bytes r (unread_ending fault)
run_unread k bytes r faults.Failed accepted failed given_up = (accepted, failed refl, given_up)
run_unread k bytes r faults.Mem accepted failed given_up = inr (accepted, inl given_up)

-- what is told isn't empty
pub usage_is : usage_text ≢ []
usage_is e = cc

read_fault_is : read_fault_text ≢ []
read_fault_is e = cc

told_is : (c : Call) (n : ℕ) (text : List ℕ) → IsAnswer c (tells n text) → text ≢ []
told_is c n _ (to_input k input asks fetched (refused why r)) e = cc
told_is c n _ (to_input k input asks fetched (run_refused why r)) e = cc
told_is c n _ (usage u a) e = usage_is e
told_is c n _ (unread k asks f a) e = read_fault_is e
told_is c n _ (unread_run k asks next f a) e = read_fault_is e

-- what the call ends with was delivered
pub ended : (c : Call) (a : Option Answer) (status : ℕ) → MatchOption a (IsBegun c) (λ one. IsAnswer c one)
    → (IfSome a HasText → IsDelivered a c.out c.err status) → Ended (IsAnswer c) (IsBegun c) c.out c.err status
ended c None status begun put = unanswered begun (put tt)
ended c (Some (gives text)) status is put = answered (gives text) is (put tt)
ended c (Some (tells n text)) status is put = answered (tells n text) is (put (told_is c n text is))

-- what a task writes of a run that was read, or the line that refuses it, ends both
pub replay_ends : (task : Task) (file run bytes z : List ℕ) (f : FileContent) (r : Reading) (text : Result (List ℕ) Refusal) → IsAcceptedFile bytes f → HasRead (replay task file run) r z
    → IfOk text (λ t. (lines : Run) × IsRunAnswer (kinds_of task) z (Ok lines) × Writes task bytes f lines t)
    → ((line : List ℕ) → IsErrOf text (refusal.Told line) → IsRunRefusal (kinds_of task) (IsIllegal f) z line) → EndsBoth (replay task file run) bytes r (ending_of text)
replay_ends task file run bytes z f r (Ok t) accepted read given told =
    (z, read, record { told = f; file = accepted; lines = given.0; read = given.1; written = given.2 })
replay_ends task file run bytes z f r (Err (refusal.Told line)) accepted read given told =
    let l = told line refl in (z, read, run_line (replay task file run) (and_run bytes z) l.why line (f, accepted, l.cause) l.layout)
replay_ends task file run bytes z f r (Err refusal.Mem) accepted read given told = inr ((f, accepted), inr (z, read))

-- and where a theory was asked
pub check_ends : (theory run bytes z : List ℕ) (t : Theory) (r : Reading) (text : Result (List ℕ) Refusal) → IsAcceptedTheory bytes t → HasRead (check theory run) r z
    → IfOk text (λ x. (lines : Run) × IsRunAnswer kinds.Rules z (Ok lines) × IsCheckedText t lines x)
    → ((line : List ℕ) → IsErrOf text (refusal.Told line) → IsRunRefusal kinds.Rules (IsIllegalOfTheory t) z line) → EndsBoth (check theory run) bytes r (ending_of text)
check_ends theory run bytes z t r (Ok x) accepted read given told =
    (z, read, record { theory = t; file = accepted; lines = given.0; read = given.1; written = given.2 })
check_ends theory run bytes z t r (Err (refusal.Told line)) accepted read given told =
    let l = told line refl in (z, read, run_line (check theory run) (and_run bytes z) l.why line (t, accepted, l.cause) l.layout)
check_ends theory run bytes z t r (Err refusal.Mem) accepted read given told = inr ((t, accepted), inr (z, read))

-- and of a short run
pub fill_ends : (file run bytes z : List ℕ) (f : FileContent) (r : Reading) (text : Result (List ℕ) Refusal) → IsAcceptedFile bytes f → HasRead (fill file run) r z
    → IfOk text (IsFilledOf f z) → ((line : List ℕ) → IsErrOf text (refusal.Told line) → IsLineOf (IsShortRefusedWith f z) line)
    → EndsBoth (fill file run) bytes r (ending_of text)
fill_ends file run bytes z f r (Ok t) accepted read given told =
    (z, read, record { told = f; file = accepted; run = given.run; read = given.read; lines = given.written.lines; filled = given.written.filled; layout = given.written.layout })
fill_ends file run bytes z f r (Err (refusal.Told line)) accepted read given told =
    let l = told line refl in (z, read, run_line (fill file run) (and_run bytes z) l.why line (f, accepted, l.cause) l.layout)
fill_ends file run bytes z f r (Err refusal.Mem) accepted read given told = inr ((f, accepted), inr (z, read))

-- what is written of a run that was read alone, or the line that refuses it, ends the call
pub to_json_ends : (c : Call) (run z : List ℕ) (text : Result (List ℕ) Refusal) → Asks c (to_json run) → WasRead c.before.holds run [] c.before.asked c.after.asked z
    → IfOk text (λ t. IsJsonOf z t) → ((line : List ℕ) → IsErrOf text (refusal.Told line) → IsRunRefusal kinds.Either IsNeverIllegal z line) → Ends c (ending_of text)
to_json_ends c run z (Ok t) asks read given told = to_input (to_json run) (run_alone z) asks read (allowed given)
to_json_ends c run z (Err (refusal.Told line)) asks read given told =
    let l = told line refl in to_input (to_json run) (run_alone z) asks read (run_line (to_json run) (run_alone z) l.why line l.cause l.layout)
to_json_ends c run z (Err refusal.Mem) asks read given told = asked_both (to_json run) z asks tt read

-- where it couldn't be read
pub to_json_unread : (c : Call) (run : List ℕ) (fault : ShelfFault) → Asks c (to_json run) → (fault ≡ faults.Failed → FailedOn c run)
    → WasGivenUp c.before.holds run [] c.before.asked c.after.asked → Ends c (unread_ending fault)
to_json_unread c run faults.Failed asks failed given_up = unread_run (to_json run) asks tt (failed refl) given_up
to_json_unread c run faults.Mem asks failed given_up = asked_run (to_json run) asks tt given_up

-- what is written of JSON, or the line that refuses it, ends what its bytes do
pub from_json_ends : (json bytes : List ℕ) (text : Result (List ℕ) Refusal) → IfOk text (λ t. IsRunOfJson bytes t)
    → ((line : List ℕ) → IsErrOf text (refusal.Told line) → IsLineOf (IsJsonRefusedWith bytes) line) → EndsFile (from_json json) bytes (ending_of text)
from_json_ends json bytes (Ok t) given told = given
from_json_ends json bytes (Err (refusal.Told line)) given told =
    let l = told line refl in run_line (from_json json) (alone bytes) l.why line l.cause l.layout
from_json_ends json bytes (Err refusal.Mem) given told = tt

-- so does the theory of a file
pub compile_ends : (way : Way) (file bytes : List ℕ) (text : Result (List ℕ) Refusal) → IfOk text (λ t. IsTheoryOf way bytes t)
    → ((line : List ℕ) → IsErrOf text (refusal.Told line) → IsRefusal bytes line) → EndsFile (compile way file) bytes (file_ending_of text)
compile_ends way file bytes (Ok t) given told = given
compile_ends way file bytes (Err (refusal.Told line)) given told =
    let l = told line refl in file_line (compile way file) bytes l.why line l.refused l.layout
compile_ends way file bytes (Err refusal.Mem) given told = tt

-- and what is told of one
pub why_ends : (file bytes : List ℕ) (text : Result (List ℕ) OutOfMemory) → IfOk text (λ t. IsWhyText bytes t) → EndsFile (explain file) bytes (written_ending text)
why_ends file bytes (Ok t) given = given
why_ends file bytes (Err e) given = tt

-- a line that refuses the file ends both
pub refused_ends : (k : Command) (bytes : List ℕ) (r : Reading) (e : Refusal) → r.after.asked ≡ r.before.asked
    → ((line : List ℕ) → e ≡ refusal.Told line → IsAnswerTo k (alone bytes) (tells 1 line)) → EndsBoth k bytes r (refused_ending e)
refused_ends k bytes r (refusal.Told line) asked told = (told line refl, asked)
refused_ends k bytes r refusal.Mem asked told = inl asked
