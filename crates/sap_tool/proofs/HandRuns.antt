-- Calls by hand that give a run as JSON: the run of one line, how it is read, and what is given.
use Rattle.std.proofs.Common.{◌≡◌, ◌≢◌, ◌≤◌, ◌<◌, ◌+◌, ℕ, List, [], ◌∷◌, ◌++◌, length, replicate, Option, Some, Result, Ok, Err, refl, sym, ap, subst, ◌∙◌, inl, inr, ◌⊎◌, arith, lit<, lit≤, length-append}
use Rattle.std.proofs.lemmas.List.{length-replicate, append-nil}
use Rattle.std.proofs.lemmas.List.Elements.{All-nil, All-cons, All-head}
use Rattle.std.specs.Fmt.{digits}
use Rattle.std.specs.FinMap as files
use Rattle.std.specs.List.{concat}
use Rattle.std.specs.Prelude.{codes, All, IsSomeAnd}
use Rattle.sap_json.specs.Written.{json_text}
use Rattle.sap_outside.specs.Outside.{Files}
use Rattle.sap_outside.specs.Pieces.{pieces}
use Rattle.sap_outside.specs.Requests.{Request, next, for_run}
use Rattle.sap_outside.specs.RunPieces.{most_run_bytes, IsReadUp, ArePieces, WasRead, IsRunAnswer, is_run}
use Rattle.sap_outside.specs.Stream.{Gained}
use Rattle.sap_replay.specs.JsonRuns.{IsJsonOf}
use Rattle.sap_run_lines.specs.Spellable.{IsWritableProcess}
use Rattle.sap_run_lines.specs.StepLines.{process_words}
use Rattle.sap_run_texts.specs.RunPrinted.{Each, process_run_text}
use Rattle.sap_run_texts.specs.RunTexts.{IsProcessRunText, IsRunRead, IsHeaded, process_head, rule_head, told_process, told_neither}
use Rattle.sap_run_texts.specs.Writable.{AreNumbered, CanBeNamed}
use Rattle.sap_run_texts.specs.declared.limits.TheConstants.{MOST_PROCESS_STEPS}
use Rattle.sap_run_texts.specs.declared.run.Kinds.{Kinds}
use Rattle.sap_run_texts.specs.declared.run.Kinds.TheVariants.{Either}
use Rattle.sap_run_texts.specs.declared.run.Run.{Run}
use Rattle.sap_run_texts.specs.declared.run.Run.TheVariants as run
use Rattle.sap_run_texts.specs.declared.run_fault.RunFault.{RunFault}
use Rattle.sap_run_texts.specs.declared.run_fault.RunFault.TheVariants as fault
use Rattle.sap_runs.specs.declared.process_step.PStep.{PStep}
use Rattle.sap_runs.specs.declared.process_step.PStep.TheVariants as step
use Rattle.sap_tool.specs.Call.{Call}
use Rattle.sap_tool.specs.Commands.{Command, to_json, Input, alone, and_run, run_alone, Allows}
use Rattle.sap_tool.specs.Answers.{Fetched, WasRunRead}
use Rattle.sap_tool.specs.Promises as promised
use Rattle.sap_tool.specs.PromisesExamples.{json_words, opens, piece, run_bytes, run_json}
use Rattle.sap_tool.specs.ToldAtOnce.{IsToldAtOnce}
use Rattle.sap_tool.proofs.Asked.{one_command}
use Rattle.sap_tool.proofs.HandCalls.{json_untold}

-- the line
abbrev pub one_line : List PStep
one_line = step.In 0 1 ∷ []

run_is_its_text : process_run_text one_line ≡ run_bytes
unfolding digits
run_is_its_text = refl

-- a run is what its text is read as
abbrev pub Printed : Type 0
Printed = (ss : List PStep) → Each IsWritableProcess ss → length ss ≤ MOST_PROCESS_STEPS → IsProcessRunText (process_run_text ss) (Ok ss)

abbrev pub Named : Type 0
Named = (s : PStep) → CanBeNamed s → AreNumbered (process_words s) → IsWritableProcess s

pub line_is_read : Named → Printed → IsProcessRunText run_bytes (Ok one_line)
line_is_read can read =
    subst (λ (z : List ℕ). IsProcessRunText z (Ok one_line)) run_is_its_text
    (read one_line (can (step.In 0 1) tt (tt, (lit< tt, (lit< tt, tt))), tt) (lit≤ tt))

pub run_is_read : IsProcessRunText run_bytes (Ok one_line) → IsRunRead Either run_bytes (Ok (run.Process one_line))
run_is_read read = told_process refl read

pub run_is_answered : IsProcessRunText run_bytes (Ok one_line) → IsRunAnswer Either run_bytes (Ok (run.Process one_line))
run_is_answered read = is_run (lit≤ tt) (run_is_read read)

pub run_is_json : IsProcessRunText run_bytes (Ok one_line) → json_text (run.Process one_line) ≡ run_json → IsJsonOf run_bytes run_json
run_is_json read text = record { lines = run.Process one_line; read = run_is_answered read; layout = sym text }

-- it is read in a piece and an empty one
some_bytes : run_bytes ≢ []
some_bytes e = cc (e)

pub in_two_pieces : ArePieces (run_bytes ∷ [] ∷ [])
in_two_pieces = record {
  before = run_bytes ∷ [];
  last = [];
  parted = refl;
  small = let P : List ℕ → Type 0 = λ piece. length piece ≤ 4096 in All-cons P run_bytes ([] ∷ []) (lit≤ tt) (All-cons P [] [] (lit≤ tt) (All-nil P));
  some = let P : List ℕ → Type 0 = λ piece. piece ≢ [] in All-cons P run_bytes [] some_bytes (All-nil P);
  within = lit≤ tt;
  ends = inl refl;
}

-- what is given where the words ask for a run as JSON
pub record GivenJson (c : Call) : Type 0 where
  pub z : List ℕ
  pub text : List ℕ
  pub read : WasRunRead c (to_json (codes "r")) z
  pub written : IsJsonOf z text
  pub out : Gained c.out (pieces text) text

json_read : (c : Call) (input : Input) (text : List ℕ) → Fetched c (to_json (codes "r")) input → Allows (to_json (codes "r")) input text → Gained c.out (pieces text) text → GivenJson c
json_read c (alone bytes) text f a out = absurd f.0
json_read c (and_run bytes z) text f a out = absurd f.0
json_read c (run_alone z) text f a out = record { z = z; text = text; read = f; written = a; out = out }

pub given_json : (c : Call) → c.words ≡ json_words → promised.Given c ⊎ promised.GivenAtOnce c → GivenJson c
given_json c is (inl g) =
    let same : g.command ≡ to_json (codes "r") = one_command c.words g.command (to_json (codes "r")) g.asked is in
    json_read c g.input g.text (subst (λ (k : Command). Fetched c k g.input) same g.fetched) (subst (λ (k : Command). Allows k g.input g.text) same g.allowed) g.out
given_json c is (inr g) = absurd (json_untold g.text (subst (λ (ws : List (List ℕ)). IsToldAtOnce ws g.text) is g.asked))

-- a run is what its bytes are read as
abbrev pub OneRun : Type 0
OneRun = (k : Kinds) (z : List ℕ) (o r : Result Run RunFault) → IsRunRead k z o → IsRunRead k z r → o ≡ r

module _ (one : OneRun) where
  same_lines : (z : List ℕ) (lines : Run) (o : Result Run RunFault) → IsRunAnswer Either z (Ok lines) → IsRunRead Either z o → ◌≡◌ {A = Result Run RunFault} (Ok lines) o
  same_lines z lines o (is_run l read) other = one Either z (Ok lines) o read other

  -- where the shelf holds the run of one line, it is what was read
  whole : (z : List ℕ) → IsReadUp run_bytes z → run_bytes ≡ z
  whole z up =
      let sizes : 19 ≡ length z + length up.left = ap (λ (x : List ℕ). length x) up.part ∙ length-append z up.left in
      let none : up.left ≡ [] = up.whole (omega (arith, sizes)) in
      up.part ∙ ap (λ (x : List ℕ). z ++ x) none ∙ append-nil z

  pub given_is : (read : IsProcessRunText run_bytes (Ok one_line)) → json_text (run.Process one_line) ≡ run_json → (z text : List ℕ) → IsReadUp run_bytes z → IsJsonOf z text → text ≡ run_json
  given_is read law z text up j =
      let again : IsRunRead Either z (Ok (run.Process one_line)) = subst (λ (x : List ℕ). IsRunRead Either x (Ok (run.Process one_line))) (whole z up) (run_is_read read) in
      let same : ◌≡◌ {A = Result Run RunFault} (Ok j.lines) (Ok (run.Process one_line)) = same_lines z j.lines (Ok (run.Process one_line)) j.read again in
      let is : j.lines ≡ run.Process one_line = cc (same) in
      j.layout ∙ ap json_text is ∙ law

  -- of no bytes nothing is given
  no_process : (body : List ℕ) → IsHeaded process_head body [] → ⊥
  no_process body e = cc (e)

  no_rules : (body : List ℕ) → IsHeaded rule_head body [] → ⊥
  no_rules body e = cc (e)

  pub nothing_given : (z text : List ℕ) → z ≡ [] → IsJsonOf z text → ⊥
  nothing_given z text none j =
      let bad : IsRunRead Either z (Err fault.BadHead) = subst (λ (x : List ℕ). IsRunRead Either x (Err fault.BadHead)) (sym none) (told_neither no_process no_rules) in
      let same : ◌≡◌ {A = Result Run RunFault} (Ok j.lines) (Err fault.BadHead) = same_lines z j.lines (Err fault.BadHead) j.read bad in
      cc (same)

-- one piece alone is empty
no_before : (before : List (List ℕ)) → length before ≡ 0 → before ≡ []
no_before [] e = refl
no_before (x ∷ before) e = cc (e)

one_alone : (ps : List (List ℕ)) → ArePieces ps → length ps ≡ 1 → concat ps ≡ []
one_alone ps a one =
    let sizes : length ps ≡ length a.before + 1 = ap (λ (x : List (List ℕ)). length x) a.parted ∙ length-append a.before (a.last ∷ []) in
    let none : a.before ≡ [] = no_before a.before (omega (arith, sizes, one)) in
    let is : ps ≡ a.last ∷ [] = a.parted ∙ ap (λ (x : List (List ℕ)). x ++ a.last ∷ []) none in
    let small : length a.last ≤ 4096 = All-head (λ (p : List ℕ). length p ≤ 4096) a.last [] (subst (λ (x : List (List ℕ)). All (λ (p : List ℕ). length p ≤ 4096) x) is a.small) in
    ap concat is ∙ append-nil a.last ∙ at is small a.ends
  where
    at : ps ≡ a.last ∷ [] → length a.last ≤ 4096 → (a.last ≡ []) ⊎ (most_run_bytes < length (concat ps)) → a.last ≡ []
    at is small (inl e) = e
    at is small (inr long) =
        let size : length (concat ps) ≡ length a.last + 0 = ap (λ (x : List (List ℕ)). length (concat x)) is ∙ length-append a.last [] in
        absurd (omega (arith, size, small, long))

-- so where one piece was asked for, there are no bytes
pub one_piece : (holds : Option Files) (z : List ℕ) → WasRead holds (codes "r") [] (Some []) (Some (opens (piece ∷ []))) z → z ≡ []
one_piece holds z w =
    let count : 2 ≡ length (for_run (codes "r") (length w.pieces)) = ap (λ (x : List Request). length x) w.asked in
    let asked : length (replicate (length w.pieces) (next 4096)) ≡ length w.pieces = length-replicate (length w.pieces) (next 4096) in
    w.whole ∙ one_alone w.pieces w.are (omega (arith, count, asked))

-- what the shelf holds is read up
pub held_read : (held : Files) (z : List ℕ) (made : List Request) → files.get held (codes "r") ≡ Some run_bytes → WasRead (Some held) (codes "r") [] (Some []) (Some made) z → IsReadUp run_bytes z
held_read held z made is w = subst (λ (o : Option (List ℕ)). IsSomeAnd o (λ file. IsReadUp file z)) is w.joined
