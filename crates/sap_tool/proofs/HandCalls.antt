-- Calls whose shelf tells nothing that it holds: what is left of the promises, and which answers there are.
use Rattle.std.proofs.Common.{◌≡◌, ◌<◌, lit≤, ℕ, List, [], ◌∷◌, Option, None, Some, refl, ◌⊎◌, inl, inr, arith}
use Rattle.std.proofs.lemmas.List.Elements.{All-nil, All-cons, All-contains}
use Rattle.std.specs.Prelude.{codes, Contains, All, IsSomeAnd}
use Rattle.sap_grammar.specs.Cut.{Placed, placed, IsHeader}
use Rattle.sap_outside.specs.Pieces.{pieces}
use Rattle.sap_outside.specs.RunPieces.{bad_head}
use Rattle.sap_outside.specs.Requests.{Request}
use Rattle.sap_outside.specs.Stream.{Stream, Gained, Failed, CutShort}
use Rattle.sap_pages.specs.Texts.{version_text}
use Rattle.sap_read.specs.Files.{no_header}
use Rattle.sap_replay.specs.AcceptedFile.{unread as unread_file}
use Rattle.sap_replay.specs.RunRefusals.{no_run}
use Rattle.sap_replay.specs.declared.way.Way.TheVariants.{Plain}
use Rattle.sap_run_texts.specs.RunTexts.{told_neither, IsHeaded, process_head, rule_head}
use Rattle.sap_text.specs.Tokens.{ended}
use Rattle.sap_tool.specs.Call.{Call, AskedFor, Holds}
use Rattle.sap_tool.specs.Commands.{Command, compile, to_json, Input, alone, and_run, run_alone, spelled, file_of, run_of, Refuses, RefusesRun, IsUnknown}
use Rattle.sap_tool.specs.ToldAtOnce.{IsToldAtOnce, help, version}
use Rattle.sap_answer.specs.Answer.{gives, tells, write_fault_text, memory_text}
use Rattle.sap_tool.specs.Answers.{refused, run_refused, Asks, Fetched, for_file, IsAnswer, to_input, told_at_once, usage, unread, unread_run, FailedOnFile, FailedOnRun, WasRunGivenUp}
use Rattle.sap_tool.specs.Promises as promised
use Rattle.sap_tool.specs.PromisesExamples.{asking, compile_words, version_words, json_words, unknown_words}
use Rattle.sap_tool.proofs.AtOnce.{OnePage, one_told}
use Rattle.sap_tool.proofs.Asked.{no_command_is_told, nothing_of_one, unknown_of}

no_file : (o : Option (List ℕ)) (bytes : List ℕ) → IsSomeAnd o (λ name. Holds None name bytes) → ⊥
no_file None bytes h = h
no_file (Some name) bytes h = h

module _ (words : List (List ℕ)) (made : List Request) (faults : ℕ) (out err : Stream) where
  abbrev pub c : Call
  c = asking words made faults out err

  no_input : (k : Command) (input : Input) → promised.HoldsInput c k input → ⊥
  no_input k (alone bytes) h = no_file (file_of k) bytes h.0
  no_input k (and_run bytes z) h = no_file (file_of k) bytes h.0
  no_input k (run_alone z) h = no_file (run_of k) z h.1

  refused_is_unknown : promised.IsRefusedCall c → IsUnknown words
  refused_is_unknown (promised.unknown u) = u
  refused_is_unknown (promised.of_file k bytes why asks h r) = absurd (no_file (file_of k) bytes h)
  refused_is_unknown (promised.of_run k input why asks h r) = absurd (no_input k input h)

  -- who keeps these promises keeps all
  pub untold : (s : ℕ) → Contains (0 ∷ 1 ∷ 2 ∷ 3 ∷ 4 ∷ 5 ∷ 6 ∷ []) s
      → (s ≡ 0 → promised.Given c ⊎ promised.GivenAtOnce c) → (s ≡ 1 → promised.Told c 1) → (s ≡ 2 → promised.Told c 2)
      → (s ≡ 3 → promised.Told c 3) → (s ≡ 4 → promised.Told c 4) → (s ≡ 5 → promised.Unwritten c) → (s ≡ 6 → promised.Wanting c)
      → ((CutShort err → ⊥) → (s ≡ 5 → Gained err 1 write_fault_text) × (s ≡ 6 → Gained err 1 memory_text))
      → (IsUnknown words → ((s ≡ 3) ⊎ ((s ≡ 5) × Failed err) ⊎ (s ≡ 6)) × Gained out 0 [])
      → ((text : List ℕ) → IsToldAtOnce words text → (Failed out → ⊥) → ((s ≡ 0) × Gained out (pieces text) text) ⊎ (s ≡ 6))
      → promised.Promises c s
  untold s statuses given refused_file refused_run usage_told unread_told unwritten wanting last_word of_unknown of_told = record {
    statuses = statuses;
    given = given;
    refused = refused_file;
    refused_run = refused_run;
    usage = usage_told;
    unread = unread_told;
    unwritten = unwritten;
    wanting = wanting;
    last_word = last_word;
    must_tell_usage = λ u. (of_unknown u).0;
    must_refuse = λ k bytes why asks h r. absurd (no_file (file_of k) bytes h);
    must_refuse_run = λ k input why asks h r. absurd (no_input k input h);
    must_answer = λ k input asks h unrefused sound open_out. absurd (no_input k input h);
    must_take = λ k input asks h takes sound open_out. absurd (no_input k input h);
    must_give = λ way file bytes text asks h t sound open_out. absurd h;
    must_tell = of_told;
    nothing_out = λ r. (of_unknown (refused_is_unknown r)).1;
  }

-- the words of the examples
pub version_told : IsToldAtOnce version_words version_text
version_told = help version_text (version refl)

pub version_asks : (k : Command) → version_words ≡ spelled k → ⊥
version_asks k asks = no_command_is_told version_words k version_text asks version_told

pub version_only : OnePage → (text : List ℕ) → IsToldAtOnce version_words text → text ≡ version_text
version_only only text told = one_told only version_words text version_text told version_told

pub version_known : IsUnknown version_words → ⊥
version_known u = u.no_text version_text version_told

pub json_known : IsUnknown json_words → ⊥
json_known u = u.no_command (to_json (codes "r")) refl

pub json_untold : (text : List ℕ) → IsToldAtOnce json_words text → ⊥
json_untold text told = no_command_is_told json_words (to_json (codes "r")) text refl told

pub compile_known : IsUnknown compile_words → ⊥
compile_known u = u.no_command (compile Plain (codes "f")) refl

pub compile_untold : (text : List ℕ) → IsToldAtOnce compile_words text → ⊥
compile_untold text told = no_command_is_told compile_words (compile Plain (codes "f")) text refl told

pub x_unknown : IsUnknown unknown_words
x_unknown = unknown_of unknown_words (nothing_of_one (codes "x") (λ e. cc (e)) (λ e. cc (e)) (λ e. cc (e)))

-- what is given where the words ask for no command
pub given_told : (c : Call) (text : List ℕ) → ((k : Command) → Asks c k → ⊥) → IsAnswer c (gives text) → IsToldAtOnce c.words text
given_told c text never (to_input k input asks f i) = absurd (never k asks)
given_told c _ never (told_at_once text told none) = told

pub given_asked : (c : Call) (text : List ℕ) → ((k : Command) → Asks c k → ⊥) → IsAnswer c (gives text) → c.after.asked ≡ c.before.asked
given_asked c text never (to_input k input asks f i) = absurd (never k asks)
given_asked c _ never (told_at_once text told none) = none

-- what a refusal says was fetched
pub refused_is : (c : Call) (n : ℕ) (text : List ℕ) → (n ≡ 1) ⊎ (n ≡ 2) → IsAnswer c (tells n text) → (k : Command) × (input : Input) × Asks c k × Fetched c k input
refused_is c _ _ e (to_input k input asks f (refused why r)) = (k, input, asks, f)
refused_is c _ _ e (to_input k input asks f (run_refused why r)) = (k, input, asks, f)
refused_is c _ _ (inl e) (usage u none) = absurd (omega (arith, e))
refused_is c _ _ (inr e) (usage u none) = absurd (omega (arith, e))
refused_is c _ _ (inl e) (unread k asks f n) = absurd (omega (arith, e))
refused_is c _ _ (inr e) (unread k asks f n) = absurd (omega (arith, e))
refused_is c _ _ (inl e) (unread_run k asks next f n) = absurd (omega (arith, e))
refused_is c _ _ (inr e) (unread_run k asks next f n) = absurd (omega (arith, e))

-- where status 4 comes from
pub data Unread (c : Call) : Type 0 where
  of_file : (k : Command) → Asks c k → FailedOnFile c k → AskedFor c (for_file k) → Unread c
  of_run : (k : Command) → Asks c k → FailedOnRun c k → WasRunGivenUp c k → Unread c

pub unread_is : (c : Call) (n : ℕ) (text : List ℕ) → n ≡ 4 → IsAnswer c (tells n text) → Unread c
unread_is c _ _ e (to_input k input asks f (refused why r)) = absurd (omega (arith, e))
unread_is c _ _ e (to_input k input asks f (run_refused why r)) = absurd (omega (arith, e))
unread_is c _ _ e (usage u none) = absurd (omega (arith, e))
unread_is c _ _ e (unread k asks f n) = of_file k asks f n
unread_is c _ _ e (unread_run k asks next f n) = of_run k asks f n

-- a status is one of seven
pub below_seven : (s : ℕ) → Contains (0 ∷ 1 ∷ 2 ∷ 3 ∷ 4 ∷ 5 ∷ 6 ∷ []) s → s < 7
below_seven s has = All-contains (λ (n : ℕ). n < 7) (0 ∷ 1 ∷ 2 ∷ 3 ∷ 4 ∷ 5 ∷ 6 ∷ []) s all has where
  all : All (λ (n : ℕ). n < 7) (0 ∷ 1 ∷ 2 ∷ 3 ∷ 4 ∷ 5 ∷ 6 ∷ [])
  all =
      let P : ℕ → Type 0 = λ n. n < 7 in
      All-cons P 0 (1 ∷ 2 ∷ 3 ∷ 4 ∷ 5 ∷ 6 ∷ []) (omega arith) (All-cons P 1 (2 ∷ 3 ∷ 4 ∷ 5 ∷ 6 ∷ []) (omega arith) (All-cons P 2 (3 ∷ 4 ∷ 5 ∷ 6 ∷ []) (omega arith) (All-cons P 3 (4 ∷ 5 ∷ 6 ∷ []) (omega arith) (All-cons P 4 (5 ∷ 6 ∷ []) (omega arith) (All-cons P 5 (6 ∷ []) (omega arith) (All-cons P 6 ([]) (omega arith) (All-nil P)))))))

-- no bytes are a file without a header, and one byte is a run without a head
no_word : (w : Placed) (ws : List Placed) → ◌≡◌ {A = List Placed} [] (w ∷ ws) → ⊥
no_word w ws e = cc (e)

no_header_there : (x : List ℕ) (rest : List Placed) → IsHeader x (placed [] []) rest → ⊥
no_header_there x rest h = no_word _ _ h.spelled

pub headerless : Refuses (compile Plain (codes "f")) [] (codes "no theory header")
headerless = unread_file (lit≤ tt) (no_header ended no_header_there)

no_process : (body : List ℕ) → IsHeaded process_head body (codes "x") → ⊥
no_process body e = cc (e)

no_rules : (body : List ℕ) → IsHeaded rule_head body (codes "x") → ⊥
no_rules body e = cc (e)

pub headless : RefusesRun (to_json (codes "r")) (run_alone (codes "x")) (codes "wrong head")
headless = no_run (bad_head (lit≤ tt) (told_neither no_process no_rules))
