-- Processes with the words that tell their places, by hand: the numbers that they have, and some that they haven't.
use Rattle.std.specs.Prelude.{ℕ, false, true, codes, List, [], ◌∷◌}
use Rattle.sap_terms.specs.declared.var.Sort.TheVariants.{Msg, Fresh}
use Rattle.sap_grammar.specs.Words.{Word, mark, name, number, quoted}
use Rattle.sap_grammar.specs.TermGrammar.{sorted}
use Rattle.sap_grammar.specs.FactGrammar.{fact}
use Rattle.sap_process.specs.Action.{new, send, input, lock, unlock, embedded}
use Rattle.sap_macro.specs.Located.{Located, nil_at, call_at, parallel_at, replicated_at, act_at, test_at, lookup_at}
use Rattle.sap_draft.specs.ProcessGrammar.{var}
use Rattle.sap_draft.specs.ProcessExamples.{a}

-- the name of a process, alone
abbrev pub alone : ℕ → List ℕ → Located
alone k x = call_at k x []

-- of `if 'a' = 'a' then if 'a' = 'a' then P else Q`, 13 words; the last number is that of the `0` that is missing
abbrev pub dangling_with : ℕ → ℕ → ℕ → Located
dangling_with first second missing = test_at first a a (test_at second a a (alone 3 (codes "P")) (alone 1 (codes "Q"))) (nil_at missing)

-- of `if 'a' = 'a' then ( if 'a' = 'a' then P ) else Q`, 15 words; the number is that of the second `if`, which the missing `0` has too
abbrev pub parted_with : ℕ → Located
parted_with second = test_at 15 a a (test_at second a a (alone 4 (codes "P")) (nil_at second)) (alone 1 (codes "Q"))

-- of `P | Q || 0`, 5 words; the numbers are those of the two parallels
abbrev pub parallel_with : ℕ → ℕ → Located
parallel_with first second = parallel_at first (alone 5 (codes "P")) (parallel_at second (alone 3 (codes "Q")) (nil_at 1))

-- `( P | Q ) || 0`
abbrev pub grouped_words : List Word
grouped_words =
    mark (codes "(") ∷ name (codes "P") ∷ mark (codes "|") ∷ name (codes "Q") ∷ mark (codes ")") ∷ mark (codes "||") ∷ number (codes "0") ∷ []

-- of these 7 words; the numbers are those of the two parallels
abbrev pub grouped_with : ℕ → ℕ → Located
grouped_with outer inner = parallel_at outer (parallel_at inner (alone 6 (codes "P")) (alone 4 (codes "Q"))) (nil_at 1)

-- of `new ~x ; out ( ~x , 'a' ) ; ! in ( y )`, 17 words; the last number is that of the `0` that is missing
abbrev pub actions_with : ℕ → ℕ → ℕ → ℕ → Located
actions_with first second copies missing =
    act_at first (new (var Fresh (codes "x"))) (act_at second (send (sorted Fresh (codes "x")) a)
    (replicated_at copies (act_at 4 (input (sorted Msg (codes "y"))) (nil_at missing))))

-- of `[ F ( 'a' ) , ! G ( ) ] --[ E ( ) ]-> [ ]`, 18 words
abbrev pub rule_with : ℕ → ℕ → Located
rule_with first missing =
    act_at first (embedded (fact false (codes "F") (a ∷ []) ∷ fact true (codes "G") [] ∷ []) (fact false (codes "E") [] ∷ []) []) (nil_at missing)

-- of `lookup 'a' as x in lock 'a' else unlock 'a'`, 10 words; the two last are those of the `lock` and the `unlock`, which the missing
-- `0` behind each has too
abbrev pub lookup_with : ℕ → ℕ → ℕ → Located
lookup_with first second third =
    lookup_at first a (var Msg (codes "x")) (act_at second (lock a 0) (nil_at second)) (act_at third (unlock a 0) (nil_at third))

-- `lookup 'a' as x in P`
abbrev pub only_found_words : List Word
only_found_words = mark (codes "lookup") ∷ quoted (codes "a") ∷ mark (codes "as") ∷ name (codes "x") ∷ mark (codes "in") ∷ name (codes "P") ∷ []

-- of these 6 words
abbrev pub only_found_with : ℕ → ℕ → Located
only_found_with first missing = lookup_at first a (var Msg (codes "x")) (alone 1 (codes "P")) (nil_at missing)

-- of `A ( 'a' , ~x ) | P`, 9 words; the numbers are those of the use and of the parallel
abbrev pub use_with : ℕ → ℕ → Located
use_with first both = parallel_at both (call_at first (codes "A") (a ∷ sorted Fresh (codes "x") ∷ [])) (alone 1 (codes "P"))
