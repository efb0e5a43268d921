-- Processes and their words, by hand.
use Rattle.std.specs.Prelude.{true, false, codes, List, [], ◌∷◌}
use Rattle.sap_terms.specs.declared.var.Sort.TheVariants.{Msg, Fresh}
use Rattle.sap_terms.specs.Tree.{Tree, public}
use Rattle.sap_grammar.specs.Words.{Word, mark, name, number, quoted}
use Rattle.sap_grammar.specs.TermGrammar.{sorted}
use Rattle.sap_grammar.specs.FactGrammar.{fact}
use Rattle.sap_draft.specs.ProcessGrammar.{var}
use Rattle.sap_process.specs.Action.{new, send, input, lock, unlock, embedded}
use Rattle.sap_macro.specs.Written.{Written, nil, call, parallel, replicated, act, test, lookup}

-- `'a'`
abbrev pub a : Tree
a = public (codes "a")

-- `'a' = 'a' then`
abbrev pub a_is_a : List Word → List Word
a_is_a ws = quoted (codes "a") ∷ mark (codes "=") ∷ quoted (codes "a") ∷ mark (codes "then") ∷ ws

-- `if 'a' = 'a' then if 'a' = 'a' then P else Q`
abbrev pub dangling_words : List Word
dangling_words =
    mark (codes "if") ∷ a_is_a (mark (codes "if") ∷ a_is_a (name (codes "P") ∷ mark (codes "else") ∷ name (codes "Q") ∷ []))

-- the `else` belongs to the second `if`
abbrev pub dangling_process : Written
dangling_process = test a a (test a a (call (codes "P") []) (call (codes "Q") [])) nil

-- `if 'a' = 'a' then ( if 'a' = 'a' then P ) else Q`
abbrev pub parted_words : List Word
parted_words =
    mark (codes "if") ∷ a_is_a (mark (codes "(") ∷ mark (codes "if") ∷ a_is_a (name (codes "P") ∷ mark (codes ")") ∷ mark (codes "else") ∷ name (codes "Q") ∷ []))

-- the `else` belongs to the first
abbrev pub parted_process : Written
parted_process = test a a (test a a (call (codes "P") []) nil) (call (codes "Q") [])

-- `P | Q || 0`
abbrev pub parallel_words : List Word
parallel_words = name (codes "P") ∷ mark (codes "|") ∷ name (codes "Q") ∷ mark (codes "||") ∷ number (codes "0") ∷ []

abbrev pub parallel_process : Written
parallel_process = parallel (call (codes "P") []) (parallel (call (codes "Q") []) nil)

-- `new ~x ; out ( ~x , 'a' ) ; ! in ( y )`
abbrev pub action_words : List Word
action_words =
    mark (codes "new") ∷ mark (codes "~") ∷ name (codes "x") ∷ mark (codes ";") ∷ mark (codes "out") ∷ mark (codes "(") ∷ mark (codes "~")
    ∷ name (codes "x") ∷ mark (codes ",") ∷ quoted (codes "a") ∷ mark (codes ")") ∷ mark (codes ";") ∷ mark (codes "!") ∷ mark (codes "in")
    ∷ mark (codes "(") ∷ name (codes "y") ∷ mark (codes ")") ∷ []

abbrev pub action_process : Written
action_process = act (new (var Fresh (codes "x"))) (act (send (sorted Fresh (codes "x")) a) (replicated (act (input (sorted Msg (codes "y"))) nil)))

-- `[ F ( 'a' ) , ! G ( ) ] --[ E ( ) ]-> [ ]`
abbrev pub rule_words : List Word
rule_words =
    mark (codes "[") ∷ name (codes "F") ∷ mark (codes "(") ∷ quoted (codes "a") ∷ mark (codes ")") ∷ mark (codes ",") ∷ mark (codes "!")
    ∷ name (codes "G") ∷ mark (codes "(") ∷ mark (codes ")") ∷ mark (codes "]") ∷ mark (codes "--[") ∷ name (codes "E") ∷ mark (codes "(")
    ∷ mark (codes ")") ∷ mark (codes "]->") ∷ mark (codes "[") ∷ mark (codes "]") ∷ []

abbrev pub rule_process : Written
rule_process = act (embedded (fact false (codes "F") (a ∷ []) ∷ fact true (codes "G") [] ∷ []) (fact false (codes "E") [] ∷ []) []) nil

-- `lookup 'a' as x in lock 'a' else unlock 'a'`
abbrev pub lookup_words : List Word
lookup_words =
    mark (codes "lookup") ∷ quoted (codes "a") ∷ mark (codes "as") ∷ name (codes "x") ∷ mark (codes "in") ∷ mark (codes "lock") ∷ quoted (codes "a")
    ∷ mark (codes "else") ∷ mark (codes "unlock") ∷ quoted (codes "a") ∷ []

abbrev pub lookup_process : Written
lookup_process = lookup a (var Msg (codes "x")) (act (lock a 0) nil) (act (unlock a 0) nil)

-- `A ( 'a' , ~x ) | P`
abbrev pub use_words : List Word
use_words =
    name (codes "A") ∷ mark (codes "(") ∷ quoted (codes "a") ∷ mark (codes ",") ∷ mark (codes "~") ∷ name (codes "x") ∷ mark (codes ")") ∷ mark (codes "|")
    ∷ name (codes "P") ∷ []

abbrev pub use_process : Written
use_process = parallel (call (codes "A") (a ∷ sorted Fresh (codes "x") ∷ [])) (call (codes "P") [])

-- `A ( )`
abbrev pub empty_use_words : List Word
empty_use_words = name (codes "A") ∷ mark (codes "(") ∷ mark (codes ")") ∷ []

-- `A ( 'a' , )`
abbrev pub comma_use_words : List Word
comma_use_words = name (codes "A") ∷ mark (codes "(") ∷ quoted (codes "a") ∷ mark (codes ",") ∷ mark (codes ")") ∷ []

-- `( A ) ( 'a' )`
abbrev pub parted_use_words : List Word
parted_use_words =
    mark (codes "(") ∷ name (codes "A") ∷ mark (codes ")") ∷ mark (codes "(") ∷ quoted (codes "a") ∷ mark (codes ")") ∷ []
