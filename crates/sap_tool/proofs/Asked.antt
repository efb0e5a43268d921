-- The command that words ask for.
use Rattle.std.proofs.Common.{◌≡◌, ℕ, List, [], ◌∷◌, length, Option, None, Some, true, false, refl, sym, ap, subst, ◌∙◌, arith, decimal}
use Rattle.std.specs.Prelude.{codes, if◌then◌else◌}
use Rattle.std.specs.Str.{bytes_eq}
use Rattle.sap_pages.specs.Pages.{IsPageOf}
use Rattle.sap_pages.specs.Texts.{commands_text, version_text}
use Rattle.sap_replay.specs.Sample.{IsSample, sample_words}
use Rattle.sap_tool.specs.ToldAtOnce.{IsHelp, flag, list, page, version, IsToldAtOnce, sample, help}
use Rattle.sap_tool.specs.Commands.{Command, compile, replay, fill, check, to_json, from_json, explain, spelled, file_of, run_of, word_of_way, word_of_task, IsUnknown}
use Rattle.sap_tool.specs.code.Asked.{AsksNothing, on_file, on_run}
use Rattle.sap_tool.specs.declared.command.OnFile.{OnFile}
use Rattle.sap_tool.specs.declared.command.OnFile.TheVariants.{Compile, FromJson, Explain}
use Rattle.sap_tool.specs.declared.command.OnRun.{OnRun}
use Rattle.sap_tool.specs.declared.command.OnRun.TheVariants.{Replay, Fill, Check}
use Rattle.sap_replay.specs.declared.task.Task.TheVariants.{ToRules, ToProcess, Judge, Tell, Chart}
use Rattle.sap_replay.specs.declared.way.Way.TheVariants.{Plain, Inlined, Short}
use Rattle.sap_tool.proofs.Some.{one_some}

-- the command that these words ask for, found by the first of them
abbrev of_two : List ℕ → List ℕ → Option Command
of_two word name =
    if bytes_eq word (codes "compile") then Some (compile Plain name)
    else if bytes_eq word (codes "compile-inline") then Some (compile Inlined name)
    else if bytes_eq word (codes "compile-short") then Some (compile Short name)
    else if bytes_eq word (codes "to-json") then Some (to_json name)
    else if bytes_eq word (codes "from-json") then Some (from_json name)
    else if bytes_eq word (codes "why") then Some (explain name)
    else None

abbrev of_three : List ℕ → List ℕ → List ℕ → Option Command
of_three word name run =
    if bytes_eq word (codes "to-rules") then Some (replay ToRules name run)
    else if bytes_eq word (codes "to-process") then Some (replay ToProcess name run)
    else if bytes_eq word (codes "judge") then Some (replay Judge name run)
    else if bytes_eq word (codes "tell") then Some (replay Tell name run)
    else if bytes_eq word (codes "chart") then Some (replay Chart name run)
    else if bytes_eq word (codes "check-rules") then Some (check name run)
    else if bytes_eq word (codes "fill") then Some (fill name run)
    else None

abbrev command_of : List (List ℕ) → Option Command
command_of (word ∷ name ∷ []) = of_two word name
command_of (word ∷ name ∷ run ∷ []) = of_three word name run
command_of words = None

-- it is found in its words
found : (k : Command) → command_of (spelled k) ≡ Some k
found (compile Plain file) = refl
found (compile Inlined file) = refl
found (compile Short file) = refl
found (replay ToRules file run) = refl
found (replay ToProcess file run) = refl
found (replay Judge file run) = refl
found (replay Tell file run) = refl
found (replay Chart file run) = refl
found (fill file run) = refl
found (check theory run) = refl
found (to_json run) = refl
found (from_json json) = refl
found (explain file) = refl

-- the words ask for one command
pub one_command : (words : List (List ℕ)) (k l : Command) → words ≡ spelled k → words ≡ spelled l → k ≡ l
one_command words k l h e = one_some k l (sym (found k) ∙ ap command_of (sym h ∙ e) ∙ found l)

none_sampled : (n : ℕ) → command_of (sample_words n) ≡ None
none_sampled n = refl

none_is : (k : Command) → ◌≡◌ {A = Option Command} (Some k) None → ⊥
none_is k e = cc

-- who asks for a sample asks for no command
pub no_command_is_sample : (words : List (List ℕ)) (k : Command) (n : ℕ) → words ≡ spelled k → IsSample words n → ⊥
no_command_is_sample words k n asks s =
    none_is k (sym (found k) ∙ ap command_of (sym asks ∙ s.spelled) ∙ none_sampled n)

-- nor does who asks for help
none_paged : (word : List ℕ) → command_of (codes "help" ∷ word ∷ []) ≡ None
none_paged word = refl

pub no_command_is_help : (words : List (List ℕ)) (k : Command) (text : List ℕ) → words ≡ spelled k → IsHelp words text → ⊥
no_command_is_help words k _ asks (flag e) = none_is k (sym (found k) ∙ ap command_of (sym asks ∙ e))
no_command_is_help words k _ asks (list e) = none_is k (sym (found k) ∙ ap command_of (sym asks ∙ e))
no_command_is_help words k _ asks (page word text e p) = none_is k (sym (found k) ∙ ap command_of (sym asks ∙ e) ∙ none_paged word)
no_command_is_help words k _ asks (version e) = none_is k (sym (found k) ∙ ap command_of (sym asks ∙ e))

-- so who asks for what is told at once asks for no command
pub no_command_is_told : (words : List (List ℕ)) (k : Command) (text : List ℕ) → words ≡ spelled k → IsToldAtOnce words text → ⊥
no_command_is_told words k _ asks (sample n s) = no_command_is_sample words k n asks s
no_command_is_told words k text asks (help _ h) = no_command_is_help words k text asks h

-- nor do words that begin as if they asked for a sample
none_begins : (word : List ℕ) → command_of (codes "sample" ∷ word ∷ []) ≡ None
none_begins word = refl

pub no_sample_word : (k : Command) (word : List ℕ) → codes "sample" ∷ word ∷ [] ≡ spelled k → ⊥
no_sample_word k word e = none_is k (sym (found k) ∙ ap command_of (sym e) ∙ none_begins word)

-- words that are not one, not two, and not three, ask for nothing
not_one : (words : List (List ℕ)) (a : List ℕ) → (length words ≡ 1 → ⊥) → words ≡ a ∷ [] → ⊥
not_one words a other e = other (ap (λ (ws : List (List ℕ)). length ws) e)

not_two : (words : List (List ℕ)) (a b : List ℕ) → (length words ≡ 2 → ⊥) → words ≡ a ∷ b ∷ [] → ⊥
not_two words a b other e = other (ap (λ (ws : List (List ℕ)). length ws) e)

not_three : (words : List (List ℕ)) (a b c : List ℕ) → (length words ≡ 3 → ⊥) → words ≡ a ∷ b ∷ c ∷ [] → ⊥
not_three words a b c other e = other (ap (λ (ws : List (List ℕ)). length ws) e)

pub nothing_else : (words : List (List ℕ)) → (length words ≡ 1 → ⊥) → (length words ≡ 2 → ⊥) → (length words ≡ 3 → ⊥) → AsksNothing words
nothing_else words one two three = record { no_command = none; no_sample = λ word e. not_two words (codes "sample") word two e; no_help = no_help } where
  no_help : (text : List ℕ) → IsHelp words text → ⊥
  no_help _ (flag e) = not_one words (codes "--help") one e
  no_help _ (list e) = not_one words (codes "help") one e
  no_help _ (page word text e p) = not_two words (codes "help") word two e
  no_help _ (version e) = not_one words (codes "--version") one e

  none : (k : Command) → words ≡ spelled k → ⊥
  none (compile way file) e = not_two words (word_of_way way) file two e
  none (replay task file run) e = not_three words (word_of_task task) file run three e
  none (fill file run) e = not_three words (codes "fill") file run three e
  none (check theory run) e = not_three words (codes "check-rules") theory run three e
  none (to_json run) e = not_two words (codes "to-json") run two e
  none (from_json json) e = not_two words (codes "from-json") json two e
  none (explain file) e = not_two words (codes "why") file two e

-- the first of words, and the second
abbrev first_of : List (List ℕ) → List ℕ
first_of [] = []
first_of (word ∷ words) = word

abbrev pub second_of : List (List ℕ) → List ℕ
second_of (word ∷ name ∷ words) = name
second_of words = []

-- which help is asked for, as a number: the list 0, a page 2, the version 1; a sample 3
abbrev pub number_of : List (List ℕ) → ℕ
number_of (word ∷ []) = if bytes_eq word (codes "--version") then 1 else 0
number_of (word ∷ name ∷ []) = if bytes_eq word (codes "sample") then 3 else 2
number_of words = 4

-- two numbers that aren't the same tell words apart
pub apart : {R : Type 0} (m n : ℕ) (words a b : List (List ℕ)) → words ≡ a → words ≡ b → number_of a ≡ m → number_of b ≡ n → (m ≡ n → ⊥) → R
apart m n words a b is are of_a of_b other = absurd (other (sym of_a ∙ ap number_of (sym is ∙ are) ∙ of_b))

-- words that a comparison tells apart aren't the same
true_false : true ≡ false → ⊥
true_false e = cc (e)

pub differ : (a b : List ℕ) → a ≡ b → bytes_eq a a ≡ true → bytes_eq a b ≡ false → ⊥
differ a b e same other = true_false (sym same ∙ ap (λ (z : List ℕ). bytes_eq a z) e ∙ other)

-- a word that is none of these asks for nothing
pub nothing_of_one : (word : List ℕ) → (word ≡ codes "--help" → ⊥) → (word ≡ codes "help" → ⊥) → (word ≡ codes "--version" → ⊥) → AsksNothing (word ∷ [])
nothing_of_one word flags lists versions = record { no_command = none; no_sample = λ other e. two (codes "sample") other e; no_help = no_help } where
  two : (a b : List ℕ) → word ∷ [] ≡ a ∷ b ∷ [] → ⊥
  two a b e = let l : 1 ≡ 2 = ap (λ (ws : List (List ℕ)). length ws) e in omega (arith, l)

  three : (a b c : List ℕ) → word ∷ [] ≡ a ∷ b ∷ c ∷ [] → ⊥
  three a b c e = let l : 1 ≡ 3 = ap (λ (ws : List (List ℕ)). length ws) e in omega (arith, l)

  none : (k : Command) → word ∷ [] ≡ spelled k → ⊥
  none (compile way file) e = two (word_of_way way) file e
  none (replay task file run) e = three (word_of_task task) file run e
  none (fill file run) e = three (codes "fill") file run e
  none (check theory run) e = three (codes "check-rules") theory run e
  none (to_json run) e = two (codes "to-json") run e
  none (from_json json) e = two (codes "from-json") json e
  none (explain file) e = two (codes "why") file e

  no_help : (text : List ℕ) → IsHelp (word ∷ []) text → ⊥
  no_help _ (flag e) = flags (ap first_of e)
  no_help _ (list e) = lists (ap first_of e)
  no_help _ (page other text e p) = two (codes "help") other e
  no_help _ (version e) = versions (ap first_of e)

-- two words, the first of which is none of these, ask for nothing
pub nothing_of_two : (word name : List ℕ) → (word ≡ codes "compile" → ⊥) → (word ≡ codes "compile-inline" → ⊥) → (word ≡ codes "compile-short" → ⊥)
    → (word ≡ codes "from-json" → ⊥) → (word ≡ codes "why" → ⊥) → (word ≡ codes "to-json" → ⊥) → (word ≡ codes "sample" → ⊥) → (word ≡ codes "help" → ⊥)
    → AsksNothing (word ∷ name ∷ [])
nothing_of_two word name plain inlined short json why to_run sampled paged = record { no_command = none; no_sample = λ other e. sampled (ap first_of e); no_help = no_help } where
  one : (a : List ℕ) → word ∷ name ∷ [] ≡ a ∷ [] → ⊥
  one a e = let l : 2 ≡ 1 = ap (λ (ws : List (List ℕ)). length ws) e in omega (arith, l)

  no_help : (text : List ℕ) → IsHelp (word ∷ name ∷ []) text → ⊥
  no_help _ (flag e) = one (codes "--help") e
  no_help _ (list e) = one (codes "help") e
  no_help _ (page other text e p) = paged (ap first_of e)
  no_help _ (version e) = one (codes "--version") e

  three : (a b c : List ℕ) → word ∷ name ∷ [] ≡ a ∷ b ∷ c ∷ [] → ⊥
  three a b c e = let l : 2 ≡ 3 = ap (λ (ws : List (List ℕ)). length ws) e in omega (arith, l)

  none : (k : Command) → word ∷ name ∷ [] ≡ spelled k → ⊥
  none (compile Plain file) e = plain (ap first_of e)
  none (compile Inlined file) e = inlined (ap first_of e)
  none (compile Short file) e = short (ap first_of e)
  none (replay task file run) e = three (word_of_task task) file run e
  none (fill file run) e = three (codes "fill") file run e
  none (check theory run) e = three (codes "check-rules") theory run e
  none (to_json run) e = to_run (ap first_of e)
  none (from_json file) e = json (ap first_of e)
  none (explain file) e = why (ap first_of e)

-- so it is with three
pub nothing_of_three : (word name run : List ℕ) → (word ≡ codes "to-rules" → ⊥) → (word ≡ codes "to-process" → ⊥) → (word ≡ codes "judge" → ⊥)
    → (word ≡ codes "tell" → ⊥) → (word ≡ codes "chart" → ⊥) → (word ≡ codes "fill" → ⊥) → (word ≡ codes "check-rules" → ⊥)
    → AsksNothing (word ∷ name ∷ run ∷ [])
nothing_of_three word name run rules process judge tell chart fills checks = record { no_command = none; no_sample = λ other e. two (codes "sample") other e; no_help = no_help } where
  one : (a : List ℕ) → word ∷ name ∷ run ∷ [] ≡ a ∷ [] → ⊥
  one a e = let l : 3 ≡ 1 = ap (λ (ws : List (List ℕ)). length ws) e in omega (arith, l)

  two : (a b : List ℕ) → word ∷ name ∷ run ∷ [] ≡ a ∷ b ∷ [] → ⊥
  two a b e = let l : 3 ≡ 2 = ap (λ (ws : List (List ℕ)). length ws) e in omega (arith, l)

  none : (k : Command) → word ∷ name ∷ run ∷ [] ≡ spelled k → ⊥
  none (compile way file) e = two (word_of_way way) file e
  none (replay ToRules file z) e = rules (ap first_of e)
  none (replay ToProcess file z) e = process (ap first_of e)
  none (replay Judge file z) e = judge (ap first_of e)
  none (replay Tell file z) e = tell (ap first_of e)
  none (replay Chart file z) e = chart (ap first_of e)
  none (fill file z) e = fills (ap first_of e)
  none (check theory z) e = checks (ap first_of e)
  none (to_json z) e = two (codes "to-json") z e
  none (from_json file) e = two (codes "from-json") file e
  none (explain file) e = two (codes "why") file e

  no_help : (text : List ℕ) → IsHelp (word ∷ name ∷ run ∷ []) text → ⊥
  no_help _ (flag e) = one (codes "--help") e
  no_help _ (list e) = one (codes "help") e
  no_help _ (page other text e p) = two (codes "help") other e
  no_help _ (version e) = one (codes "--version") e

-- nor does help of a word that has no page
pub nothing_of_page : (name : List ℕ) → ((text : List ℕ) → IsPageOf name text → ⊥) → AsksNothing (codes "help" ∷ name ∷ [])
nothing_of_page name pageless = record {
  no_command = λ k e. none_is k (sym (found k) ∙ ap command_of (sym e) ∙ none_paged name);
  no_sample = λ word e. apart 2 3 (codes "help" ∷ name ∷ []) (codes "help" ∷ name ∷ []) (codes "sample" ∷ word ∷ []) refl e refl refl (λ d. omega (arith, d));
  no_help = no_help;
} where
  one : (a : List ℕ) → codes "help" ∷ name ∷ [] ≡ a ∷ [] → ⊥
  one a e = let l : 2 ≡ 1 = ap (λ (ws : List (List ℕ)). length ws) e in omega (arith, l)

  no_help : (text : List ℕ) → IsHelp (codes "help" ∷ name ∷ []) text → ⊥
  no_help _ (flag e) = one (codes "--help") e
  no_help _ (list e) = one (codes "help") e
  no_help _ (page other text e p) = pageless text (subst (λ (w : List ℕ). IsPageOf w text) (sym (ap second_of e)) p)
  no_help _ (version e) = one (codes "--version") e

-- these words ask for help
pub asks_flag : (word text : List ℕ) → word ≡ codes "--help" → text ≡ commands_text → IsHelp (word ∷ []) text
asks_flag word text is told = subst (λ (t : List ℕ). IsHelp (word ∷ []) t) (sym told) (flag (ap (λ (w : List ℕ). w ∷ []) is))

pub asks_list : (word text : List ℕ) → word ≡ codes "help" → text ≡ commands_text → IsHelp (word ∷ []) text
asks_list word text is told = subst (λ (t : List ℕ). IsHelp (word ∷ []) t) (sym told) (list (ap (λ (w : List ℕ). w ∷ []) is))

pub asks_version : (word text : List ℕ) → word ≡ codes "--version" → text ≡ version_text → IsHelp (word ∷ []) text
asks_version word text is told = subst (λ (t : List ℕ). IsHelp (word ∷ []) t) (sym told) (version (ap (λ (w : List ℕ). w ∷ []) is))

pub asks_page : (name text : List ℕ) → IsPageOf name text → IsHelp (codes "help" ∷ name ∷ []) text
asks_page name text p = page name text refl p

-- words that ask for nothing are unknown
pub unknown_of : (words : List (List ℕ)) → AsksNothing words → IsUnknown words
unknown_of words none = record { no_command = none.no_command; no_text = no_text } where
  no_text : (text : List ℕ) → IsToldAtOnce words text → ⊥
  no_text _ (sample n s) = none.no_sample (decimal n) s.spelled
  no_text text (help _ h) = none.no_help text h

-- what is fetched first, and the run that is read then
pub file_named : (which : OnFile) (name : List ℕ) → file_of (on_file which name) ≡ Some name
file_named (Compile way) name = refl
file_named FromJson name = refl
file_named Explain name = refl

pub file_of_run : (which : OnRun) (name run : List ℕ) → file_of (on_run which name run) ≡ Some name
file_of_run (Replay task) name run = refl
file_of_run Fill name run = refl
file_of_run Check name run = refl

pub run_named : (which : OnRun) (name run : List ℕ) → run_of (on_run which name run) ≡ Some run
run_named (Replay task) name run = refl
run_named Fill name run = refl
run_named Check name run = refl
