use Rattle.std.proofs.Common.{◌≡◌, ◌≤◌, ◌+◌, ℕ, List, [], ◌∷◌, ◌++◌, take, length, Option, None, Some, refl, sym, ap, subst, ◌∙◌, inl, inr, ◌⊎◌, arith, length-append}
use Rattle.std.specs.FinMap as files
use Rattle.std.specs.Prelude.{codes}
use Rattle.sap_outside.specs.Pieces.{pieces}
use Rattle.sap_outside.specs.Outside.{Files, IsFirstPart}
use Rattle.sap_outside.specs.Requests.{Request, begin, fetch, for_run}
use Rattle.sap_outside.specs.Stream.{Gained, CutShort}
use Rattle.sap_pages.specs.Texts.{version_text}
use Rattle.sap_tool.specs.Call.{Call, AskedFor}
use Rattle.sap_replay.specs.declared.way.Way.TheVariants.{Plain}
use Rattle.sap_replay.specs.declared.task.Task.TheVariants.{Judge}
use Rattle.sap_tool.specs.Commands.{Command, compile, replay, to_json, Input, alone, and_run, run_alone, spelled, AcceptsFile, IsUnknown}
use Rattle.sap_tool.specs.ToldAtOnce.{IsToldAtOnce}
use Rattle.sap_answer.specs.Answer.{Answer, gives, tells, Part, Broken, Starved, CutLast, IsLast, complete, cut, usage_text, read_fault_text, write_fault_text, memory_text}
use Rattle.sap_tool.specs.Answers.{IsAnswer, Fetched, refused, run_refused, to_input, usage, unread, unread_run, FailedOnFile, FailedOnRun, IsRunNext, WasRunGivenUp, WasRunRead, IsBegun, asked_nothing, asked_file, asked_run, asked_both, for_file}
use Rattle.sap_tool.specs.Promises as promised
use Rattle.sap_tool.specs.PromisesExamples.{asking, telling, compile_words, fetches, version_words, json_words, judge_words, unknown_words, run_json, opens, piece, got, failed, untouched}
use Rattle.sap_tool.proofs.Endings.{usage_is}
use Rattle.sap_tool.proofs.AtOnce.{OnePage}
use Rattle.sap_tool.proofs.Asked.{one_command, differ}
use Rattle.sap_tool.proofs.HandCalls.{headerless, headless, given_told, given_asked, refused_is, Unread, of_file, of_run, unread_is, below_seven, version_asks, version_only, version_known, x_unknown}
use Rattle.sap_tool.proofs.HandParts.{on_out, no_two_puts, no_long_put, no_usage}
use Rattle.sap_tool.proofs.HandRuns.{line_is_read, given_json, given_is, held_read, nothing_given, one_piece}
use Rattle.sap_tool.proofs.Refused.{OneReading, not_refused}
use Rattle.sap_tool.proofs.promises_by_hand.promises_are_broken_by_hand.Goals as goal

-- what out gained with status 0, where the words ask for the version
version_given : OnePage → (c : Call) → c.words ≡ version_words → promised.Given c ⊎ promised.GivenAtOnce c
    → (c.after.asked ≡ c.before.asked) × Gained c.out (pieces version_text) version_text × Gained c.err 0 []
version_given only c is (inl g) = absurd (version_asks g.command (sym is ∙ g.asked))
version_given only c is (inr g) =
    let same : g.text ≡ version_text = version_only only g.text (subst (λ (ws : List (List ℕ)). IsToldAtOnce ws g.text) is g.asked) in
    (g.fetched, subst (λ (t : List ℕ). Gained c.out (pieces t) t) same g.out, g.err)

longer : version_text ++ codes "\n" ≡ version_text → ⊥
longer e = let l : 63 ≡ 62 = ap (λ (z : List ℕ). length z) e in omega (arith, l)

pub returns-clause-more : goal.returns-clause-more
returns-clause-more c = λ p. longer (version_given c.one_page.ensures _ refl (p.given refl)).1.0

pub returns-clause-both_sinks : goal.returns-clause-both_sinks
returns-clause-both_sinks c = λ p. usage_is (version_given c.one_page.ensures _ refl (p.given refl)).2.0

none_asked : (r : Request) (made : List Request) → ◌≡◌ {A = Option (List Request)} (Some (r ∷ made)) (Some []) → ⊥
none_asked r made e = cc (e)

no_request : (r : Request) (made : List Request) → r ∷ made ≡ [] → ⊥
no_request r made e = cc (e)

pub returns-clause-asked : goal.returns-clause-asked
returns-clause-asked c = λ p. none_asked _ _ (version_given c.one_page.ensures _ refl (p.given refl)).0

-- what is given as JSON
longer_json : run_json ++ codes "\n" ≡ run_json → ⊥
longer_json e = let l : 45 ≡ 44 = ap (λ (z : List ℕ). length z) e in omega (arith, l)

pub returns-clause-more_json : goal.returns-clause-more_json
returns-clause-more_json c = λ held is p.
    let g = given_json _ refl (p.given refl) in
    let read = line_is_read c.named_steps_can_be_written.ensures.process c.printed_runs_are_read.ensures.process in
    longer_json (g.out.0 ∙ given_is c.one_run.ensures.either read c.arrays_by_hand.ensures.text g.z g.text (held_read held g.z _ is g.read) g.written)

pub returns-clause-both_sinks_json : goal.returns-clause-both_sinks_json
returns-clause-both_sinks_json c = λ p. at (p.given refl) where
  at : promised.Given (asking json_words (opens (piece ∷ piece ∷ [])) 0 (got run_json 1) (got usage_text 1)) ⊎ promised.GivenAtOnce (asking json_words (opens (piece ∷ piece ∷ [])) 0 (got run_json 1) (got usage_text 1)) → ⊥
  at (inl g) = usage_is g.err.0
  at (inr g) = usage_is g.err.0

pub returns-clause-fewer_pieces : goal.returns-clause-fewer_pieces
returns-clause-fewer_pieces c = λ p.
    let g = given_json _ refl (p.given refl) in
    nothing_given c.one_run.ensures.either g.z g.text (one_piece None g.z g.read) g.written

-- a status is another one
abbrev IsNumber : ℕ → ℕ → Type 0
IsNumber n k = n ≡ k

-- a file that the shelf tells it holds is refused for its own cause
pub returns-clause-other_file_cause : goal.returns-clause-other_file_cause
returns-clause-other_file_cause c = λ held is p. at (p.must_refuse (compile Plain (codes "f")) [] (codes "no theory header") refl is headerless) where
  at : (IsNumber 1 1 × (Gained (got (codes "file refused: no process\n") 1) 1 (codes "file refused: no theory header\n"))) ⊎ (IsNumber 1 4 × (1 ≤ 0)) ⊎ (IsNumber 1 5 × (1 ≤ 0)) ⊎ IsNumber 1 6 → ⊥
  at (inl h) = differ (codes "file refused: no process\n") (codes "file refused: no theory header\n") h.1.0 refl refl
  at (inr (inl h)) = omega (arith, h.0)
  at (inr (inr (inl h))) = omega (arith, h.0)
  at (inr (inr (inr h))) = omega (arith, h)

-- and so is a run
pub returns-clause-other_cause : goal.returns-clause-other_cause
returns-clause-other_cause c = λ held is p. at (p.must_refuse_run (to_json (codes "r")) (run_alone (codes "x")) (codes "wrong head") refl (refl, is) headless) where
  at : (IsNumber 2 2 × (Gained (got (codes "run refused: line 1 is not a step\n") 1) 1 (codes "run refused: wrong head\n"))) ⊎ (IsNumber 2 4 × (⊥ ⊎ (1 ≤ 0))) ⊎ (IsNumber 2 5 × (1 ≤ 0)) ⊎ IsNumber 2 6 → ⊥
  at (inl h) = differ (codes "run refused: line 1 is not a step\n") (codes "run refused: wrong head\n") h.1.0 refl refl
  at (inr (inl h)) = omega (arith, h.0)
  at (inr (inr (inl h))) = omega (arith, h.0)
  at (inr (inr (inr h))) = omega (arith, h)

some_out : codes "sapic" ≡ [] → ⊥
some_out e = cc (e)

pub returns-clause-unknown_out : goal.returns-clause-unknown_out
returns-clause-unknown_out c = λ p. some_out (p.nothing_out (promised.unknown x_unknown)).0

-- what status 3 says, where the words ask for no command
usage_said : (c : Call) (n : ℕ) (text : List ℕ) → n ≡ 3 → IsAnswer c (tells n text) → IsUnknown c.words × (c.after.asked ≡ c.before.asked)
usage_said c _ _ e (to_input k input asks f (refused why r)) = absurd (omega (arith, e))
usage_said c _ _ e (to_input k input asks f (run_refused why r)) = absurd (omega (arith, e))
usage_said c _ _ e (usage u none) = (u, none)
usage_said c _ _ e (unread k asks f n) = absurd (omega (arith, e))
usage_said c _ _ e (unread_run k asks next f n) = absurd (omega (arith, e))

pub returns-clause-usage_asked : goal.returns-clause-usage_asked
returns-clause-usage_asked c = λ p. let told = p.usage refl in none_asked _ _ (usage_said _ 3 told.text refl told.cause).1

pub returns-clause-usage_told : goal.returns-clause-usage_told
returns-clause-usage_told c = λ p. let told = p.usage refl in version_known (usage_said _ 3 told.text refl told.cause).0

-- what status 4 says, where the words ask for a run as JSON
run_unread : (c : Call) → c.words ≡ json_words → promised.Told c 4 → FailedOnRun c (to_json (codes "r")) × WasRunGivenUp c (to_json (codes "r"))
run_unread c is told = at (unread_is c 4 told.text refl told.cause) where
  same : (k : Command) → c.words ≡ spelled k → k ≡ to_json (codes "r")
  same k asks = one_command c.words k (to_json (codes "r")) asks is

  at : Unread c → FailedOnRun c (to_json (codes "r")) × WasRunGivenUp c (to_json (codes "r"))
  at (of_file k asks f n) = absurd (subst (λ (m : Command). FailedOnFile c m) (same k asks) f)
  at (of_run k asks f n) = subst (λ (m : Command). FailedOnRun c m × WasRunGivenUp c m) (same k asks) (f, n)

-- the name of a run that is opened first
abbrev first_name : List Request → List ℕ
first_name (begin name ∷ more) = name
first_name made = []

-- the run is opened first
other_begun : (nexts : ℕ) (made : List Request) → begin (codes "s") ∷ made ≡ for_run (codes "r") nexts → ⊥
other_begun nexts made e = differ (codes "s") (codes "r") (ap first_name e) refl refl

pub returns-clause-other_run_given : goal.returns-clause-other_run_given
returns-clause-other_run_given c = λ p. let g = given_json _ refl (p.given refl) in other_begun (length g.read.pieces) _ g.read.asked

pub returns-clause-run_of_another_name : goal.returns-clause-run_of_another_name
returns-clause-run_of_another_name c = λ p. let g = given_json _ refl (p.given refl) in other_begun (length g.read.pieces) _ g.read.asked

-- which file is fetched
abbrev fetched_name : List Request → List ℕ
fetched_name (fetch name limit ∷ more) = name
fetched_name made = []

other_fetched : (made : List Request) → fetch (codes "g") 1048576 ∷ made ≡ fetches → ⊥
other_fetched made e = differ (codes "g") (codes "f") (ap fetched_name e) refl refl

-- the words ask for a theory
compile_same : (k : Command) → compile_words ≡ spelled k → k ≡ compile Plain (codes "f")
compile_same k asks = one_command compile_words k (compile Plain (codes "f")) asks refl

-- what was fetched where it refuses the file
file_asked : (c : Call) (input : Input) → Fetched c (compile Plain (codes "f")) input → AskedFor c fetches
file_asked c (alone bytes) f = f.1
file_asked c (and_run bytes z) f = absurd f.1
file_asked c (run_alone z) f = absurd f

file_refused : (c : Call) → c.words ≡ compile_words → promised.Told c 1 → AskedFor c fetches
file_refused c is told =
    let r = refused_is c 1 told.text (inl refl) told.cause in
    let same : r.0 ≡ compile Plain (codes "f") = one_command c.words r.0 (compile Plain (codes "f")) r.2 is in
    file_asked c r.1 (subst (λ (k : Command). Fetched c k r.1) same r.3)

pub returns-clause-other_file_refused : goal.returns-clause-other_file_refused
returns-clause-other_file_refused c = λ p. other_fetched [] (file_refused _ refl (p.refused refl))

-- what status 4 says, where the words ask for a theory
file_unread : (c : Call) → c.words ≡ compile_words → promised.Told c 4 → AskedFor c fetches
file_unread c is told = at (unread_is c 4 told.text refl told.cause) where
  same : (k : Command) → c.words ≡ spelled k → k ≡ compile Plain (codes "f")
  same k asks = one_command c.words k (compile Plain (codes "f")) asks is

  at : Unread c → AskedFor c fetches
  at (of_file k asks f n) = subst (λ (m : Command). AskedFor c (for_file m)) (same k asks) n
  at (of_run k asks f n) = absurd (subst (λ (m : Command). FailedOnRun c m) (same k asks) f)

pub returns-clause-other_file_first : goal.returns-clause-other_file_first
returns-clause-other_file_first c = λ p. other_fetched fetches (file_unread _ refl (p.unread refl))

pub returns-clause-other_file_unread : goal.returns-clause-other_file_unread
returns-clause-other_file_unread c = λ p. other_fetched [] (file_unread _ refl (p.unread refl))

-- what was asked for where it refuses the run
run_asked : (c : Call) (input : Input) → Fetched c (to_json (codes "r")) input → (z : List ℕ) × WasRunRead c (to_json (codes "r")) z
run_asked c (alone bytes) f = absurd f.0
run_asked c (and_run bytes z) f = absurd f.0
run_asked c (run_alone z) f = (z, f)

run_refused_so : (c : Call) → c.words ≡ json_words → promised.Told c 2 → (z : List ℕ) × WasRunRead c (to_json (codes "r")) z
run_refused_so c is told =
    let r = refused_is c 2 told.text (inr refl) told.cause in
    let same : r.0 ≡ to_json (codes "r") = one_command c.words r.0 (to_json (codes "r")) r.2 is in
    run_asked c r.1 (subst (λ (k : Command). Fetched c k r.1) same r.3)

pub returns-clause-other_run_refused : goal.returns-clause-other_run_refused
returns-clause-other_run_refused c = λ p. let was = run_refused_so _ refl (p.refused_run refl) in other_begun (length was.1.pieces) _ was.1.asked

pub returns-clause-other_first : goal.returns-clause-other_first
returns-clause-other_first c = λ p. let was = (run_unread _ refl (p.unread refl)).1 in other_begun was.nexts _ was.asked

pub returns-clause-other_run_unread : goal.returns-clause-other_run_unread
returns-clause-other_run_unread c = λ p. let was = (run_unread _ refl (p.unread refl)).1 in other_begun was.nexts _ was.asked

pub returns-clause-no_fault : goal.returns-clause-no_fault
returns-clause-no_fault c = λ p. let rose : 1 ≤ 0 = (run_unread _ refl (p.unread refl)).0 in omega (arith, rose)

pub returns-clause-out_unread : goal.returns-clause-out_unread
returns-clause-out_unread c = λ p. some_out (p.unread refl).out.0

-- what status 4 tells
unread_text : (c : Call) (n : ℕ) (text : List ℕ) → n ≡ 4 → IsAnswer c (tells n text) → text ≡ read_fault_text
unread_text c _ _ e (to_input k input asks f (refused why r)) = absurd (omega (arith, e))
unread_text c _ _ e (to_input k input asks f (run_refused why r)) = absurd (omega (arith, e))
unread_text c _ _ e (usage u none) = absurd (omega (arith, e))
unread_text c _ _ e (unread k asks f n) = refl
unread_text c _ _ e (unread_run k asks next f n) = refl

pub returns-clause-other_text_unread : goal.returns-clause-other_text_unread
returns-clause-other_text_unread c = λ p.
    let told = p.unread refl in
    differ usage_text read_fault_text (told.err.0 ∙ unread_text _ 4 told.text refl told.cause) refl refl

-- no put was cut short
never_cut : (bytes : List ℕ) (puts : ℕ) → CutShort (got bytes puts) → ⊥
never_cut bytes puts (inl h) = let l : 1 ≤ 0 = h in omega (arith, l)
never_cut bytes puts (inr h) = let l : 1 ≤ 0 = h in omega (arith, l)

half : codes "write" ≡ write_fault_text → ⊥
half e = cc (e)

pub returns-clause-half_word : goal.returns-clause-half_word
returns-clause-half_word c = λ p. half ((p.last_word (never_cut (codes "write") 1)).0 refl).0

-- a last word that follows a first part of another text on err after one fault is whole, and then it is longer than all that is there
two_words : (taken : ℕ) (text last : List ℕ) → last ≡ write_fault_text → codes "usagewrite" ≡ take taken text ++ last → ⊥
two_words taken text last is e =
    let l : 10 ≡ length (take taken text) + length last = ap (λ (z : List ℕ). length z) e ∙ length-append (take taken text) last in
    let m : length last ≡ 12 = ap (λ (z : List ℕ). length z) is in
    omega (arith, l, m)

once : (bytes : List ℕ) (puts : ℕ) (answer : Answer) (last : List ℕ) (n : ℕ) (text : List ℕ) → answer ≡ tells n text → IsLast (CutLast answer (failed 1 bytes puts)) write_fault_text last → last ≡ write_fault_text
once bytes puts answer _ n text is complete = refl
once bytes puts answer _ n text is (cut k c) = absurd (at (subst (λ (a : Answer). CutLast a (failed 1 bytes puts)) is c)) where
  at : CutLast (tells n text) (failed 1 bytes puts) → ⊥
  at (inl twice) = let l : 2 ≤ 1 = twice in omega (arith, l)
  at (inr (inl both)) = let l : 1 ≤ 0 = both.1 in omega (arith, l)
  at (inr (inr wants)) = let l : 2 ≤ 0 = wants in omega (arith, l)

-- the call
abbrev one : Call
one = asking unknown_words [] 0 untouched (failed 1 (codes "usagewrite") 2)

pub returns-clause-one_fault : goal.returns-clause-one_fault
returns-clause-one_fault c = λ p. let u = p.unwritten refl in at u.answer u.cause u.taken u.last u.part u.word where
  at : (answer : Answer) → IsAnswer one answer → (taken : ℕ) (last : List ℕ) → Part answer taken last one.out one.err
      → IsLast (CutLast answer one.err) write_fault_text last → ⊥
  at (gives text) is taken last part word = x_unknown.no_text text (given_told one text (λ k asks. x_unknown.no_command k asks) is)
  at (tells n text) is taken last part word = two_words taken text last (once (codes "usagewrite") 2 (tells n text) last n text refl word) part.1.0

-- no sink failed
unfailed : (bytes : List ℕ) (puts : ℕ) (a : Answer) → Broken a (got bytes puts) (got write_fault_text 1) → ⊥
unfailed bytes puts (gives text) h = let l : 1 ≤ 0 = h in omega (arith, l)
unfailed bytes puts (tells n text) h = let l : 1 ≤ 0 = h in omega (arith, l)

pub returns-clause-no_write_fault : goal.returns-clause-no_write_fault
returns-clause-no_write_fault c = λ words made faults bytes puts p. let u = p.unwritten refl in unfailed bytes puts u.answer u.broken

pub returns-clause-two_puts : goal.returns-clause-two_puts
returns-clause-two_puts c = λ words made faults bytes few p.
    on_out words made faults (failed 1 bytes 2) (λ text taken is part. no_two_puts bytes few taken text part) (p.unwritten refl)

pub returns-clause-one_put : goal.returns-clause-one_put
returns-clause-one_put c = λ words made faults bytes long p.
    on_out words made faults (failed 1 bytes 1) (λ text taken is part. no_long_put bytes long taken text part) (p.unwritten refl)

pub returns-clause-other_part : goal.returns-clause-other_part
returns-clause-other_part c = λ p.
    on_out version_words [] 0 (failed 1 (codes "usage") 1)
    (λ text taken is part.
    let same : text ≡ version_text = version_only c.one_page.ensures text (given_told _ text version_asks is) in
    no_usage taken (part.gained.0 ∙ ap (λ (t : List ℕ). take taken t) same))
    (p.unwritten refl)

-- the call
abbrev beside : Call
beside = asking json_words (opens []) 1 (got (codes "sapic") 1) (failed 1 (codes "readwrite fault\n") 2)

pub returns-clause-out_unwritten : goal.returns-clause-out_unwritten
returns-clause-out_unwritten c = λ p. let u = p.unwritten refl in at u.answer u.broken u.taken u.last u.part where
  at : (answer : Answer) → Broken answer beside.out beside.err → (taken : ℕ) (last : List ℕ) → Part answer taken last beside.out beside.err → ⊥
  at (gives text) broken taken last part = let l : 1 ≤ 0 = broken in omega (arith, l)
  at (tells n text) broken taken last part = some_out part.0.0

pub returns-clause-asked_unwritten : goal.returns-clause-asked_unwritten
returns-clause-asked_unwritten c = λ p.
    on_out version_words (begin (codes "r") ∷ []) 0 (failed 1 (codes "sapic") 1) (λ text taken is part. none_asked _ _ (given_asked _ text version_asks is)) (p.unwritten refl)

-- the call
abbrev other : Call
other = asking json_words (begin (codes "s") ∷ piece ∷ []) 0 untouched (got memory_text 1)

pub returns-clause-other_run : goal.returns-clause-other_run
returns-clause-other_run c = λ p. at (p.wanting refl) where
  same : (k : Command) → json_words ≡ spelled k → k ≡ to_json (codes "r")
  same k asks = one_command json_words k (to_json (codes "r")) asks refl

  begun : IsBegun other → ⊥
  begun (asked_nothing none) = none_asked _ _ none
  begun (asked_file k asks f) = no_request _ _ (subst (λ (m : Command). AskedFor other (for_file m)) (same k asks) f)
  begun (asked_run k asks next given_up) =
      let was = subst (λ (m : Command). WasRunGivenUp other m) (same k asks) given_up in
      other_begun was.nexts (piece ∷ []) was.asked
  begun (asked_both k z asks next read) =
      let was = subst (λ (m : Command). WasRunRead other m z) (same k asks) read in
      other_begun (length was.pieces) (piece ∷ []) was.asked

  starved_none : (a : Answer) → Starved a other.out other.err → ⊥
  starved_none (gives text) h = let l : 1 ≤ 0 = h in omega (arith, l)
  starved_none (tells n text) h = let l : 1 ≤ 0 = h in omega (arith, l)

  at : promised.Wanting other → ⊥
  at (promised.before_all last b none word l) = begun b
  at (promised.while_put a taken last is h part l) = starved_none a h

-- the call
abbrev other_fetch : Call
other_fetch = asking compile_words (fetch (codes "g") 1048576 ∷ []) 0 untouched (got memory_text 1)

pub returns-clause-other_file : goal.returns-clause-other_file
returns-clause-other_file c = λ p. at (p.wanting refl) where
  begun : IsBegun other_fetch → ⊥
  begun (asked_nothing none) = none_asked _ _ none
  begun (asked_file k asks f) = other_fetched [] (subst (λ (m : Command). AskedFor other_fetch (for_file m)) (compile_same k asks) f)
  begun (asked_run k asks next given_up) = subst (λ (m : Command). WasRunGivenUp other_fetch m) (compile_same k asks) given_up
  begun (asked_both k z asks next read) = subst (λ (m : Command). WasRunRead other_fetch m z) (compile_same k asks) read

  starved_none : (a : Answer) → Starved a other_fetch.out other_fetch.err → ⊥
  starved_none (gives text) h = let l : 1 ≤ 0 = h in omega (arith, l)
  starved_none (tells n text) h = let l : 1 ≤ 0 = h in omega (arith, l)

  at : promised.Wanting other_fetch → ⊥
  at (promised.before_all last b none word l) = begun b
  at (promised.while_put a taken last is h part l) = starved_none a h

-- the call
abbrev behind : Files → Call
behind held = telling held judge_words (fetches ++ opens (piece ∷ [])) untouched (got memory_text 1)

module _ (one : OneReading) (held : Files) (is : files.get held (codes "f") ≡ Some []) where
  same_judged : (k : Command) → judge_words ≡ spelled k → k ≡ replay Judge (codes "f") (codes "r")
  same_judged k asks = one_command judge_words k (replay Judge (codes "f") (codes "r")) asks refl

  -- it isn't the run's turn, since the file is refused
  not_next : IsRunNext (behind held) (replay Judge (codes "f") (codes "r")) → ⊥
  not_next next =
      let none : next.0 ≡ [] = subst (λ (o : Option (List ℕ)). IsFirstPart o 1048576 next.0) is next.1 in
      let accepted : AcceptsFile [] = subst AcceptsFile none next.2 in
      not_refused one [] (codes "no theory header") accepted.0 headerless accepted.1

  never_begun : IsBegun (behind held) → ⊥
  never_begun (asked_nothing none) = none_asked _ _ none
  never_begun (asked_file k asks f) =
      let made : fetches ++ opens (piece ∷ []) ≡ fetches = subst (λ (m : Command). AskedFor (behind held) (for_file m)) (same_judged k asks) f in
      let count : 3 ≡ 1 = ap (λ (rs : List Request). length rs) made in
      omega (arith, count)
  never_begun (asked_run k asks next given_up) = not_next (subst (λ (m : Command). IsRunNext (behind held) m) (same_judged k asks) next)
  never_begun (asked_both k z asks next read) = not_next (subst (λ (m : Command). IsRunNext (behind held) m) (same_judged k asks) next)

  never_wanting : promised.Wanting (behind held) → ⊥
  never_wanting (promised.before_all last b none word l) = never_begun b
  never_wanting (promised.while_put (gives text) taken last is h part l) = let l : 1 ≤ 0 = h in omega (arith, l)
  never_wanting (promised.while_put (tells n text) taken last is h part l) = let l : 1 ≤ 0 = h in omega (arith, l)

pub returns-clause-behind_refused : goal.returns-clause-behind_refused
returns-clause-behind_refused c = λ held is p. never_wanting c.one_file.ensures held is (p.wanting refl)

-- the call
abbrev unstarved : Call
unstarved = asking version_words [] 0 (got (codes "sapic") 1) (got memory_text 1)

pub returns-clause-not_starved : goal.returns-clause-not_starved
returns-clause-not_starved c = λ p. at (p.wanting refl) where
  at : promised.Wanting unstarved → ⊥
  at (promised.before_all last b none word l) = some_out none.0
  at (promised.while_put (gives text) taken last is h part l) = let l : 1 ≤ 0 = h in omega (arith, l)
  at (promised.while_put (tells n text) taken last is h part l) = let l : 1 ≤ 0 = h in omega (arith, l)

pub returns-clause-no_status : goal.returns-clause-no_status
returns-clause-no_status c = λ p. let l = below_seven 7 p.statuses in omega (arith, l)
