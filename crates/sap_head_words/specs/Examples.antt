-- Heads and their words, by hand.
use Rattle.std.specs.Prelude.{ℕ, true, false, codes, List, [], ◌∷◌}
use Rattle.sap_terms.specs.Tree.{Tree, public}
use Rattle.sap_terms.specs.declared.var.Sort.TheVariants.{Msg, Fresh}
use Rattle.sap_grammar.specs.Words.{Word, mark, name, quoted}
use Rattle.sap_grammar.specs.TermGrammar.{sorted, pair}
use Rattle.sap_grammar.specs.FactGrammar.{fact}
use Rattle.sap_process.specs.Action.{Action, new, out, receive, event, insert, lock, embedded}
use Rattle.sap_macro.specs.Located.{Located, nil_at, call_at, parallel_at, replicated_at, act_at, test_at, lookup_at}
use Rattle.sap_draft.specs.ProcessGrammar.{var}

-- `'a'`, `'b'` and `~x`
abbrev pub a : Tree
a = public (codes "a")

abbrev pub b : Tree
b = public (codes "b")

abbrev pub fresh_x : Tree
fresh_x = sorted Fresh (codes "x")

-- an action whose first word has this number, and nothing behind it
abbrev pub doing : ℕ → Action → Located
doing k x = act_at k x (nil_at k)

-- `out ( < 'a' , ~x > )`, 9 words
abbrev pub out_head : Located
out_head = doing 9 (out (pair a fresh_x))

abbrev pub out_words : List Word
out_words =
    mark (codes "out") ∷ mark (codes "(") ∷ mark (codes "<") ∷ quoted (codes "a") ∷ mark (codes ",") ∷ mark (codes "~") ∷ name (codes "x")
    ∷ mark (codes ">") ∷ mark (codes ")") ∷ []

-- `in ( 'a' , ~x )`, 7 words
abbrev pub input_head : Located
input_head = doing 7 (receive a fresh_x)

abbrev pub input_words : List Word
input_words =
    mark (codes "in") ∷ mark (codes "(") ∷ quoted (codes "a") ∷ mark (codes ",") ∷ mark (codes "~") ∷ name (codes "x") ∷ mark (codes ")") ∷ []

-- `[ F ( 'a' ) , ! G ( ~x ) ] --[ E ( ) ]-> [ H ( 'b' ) ]`, 24 words
abbrev pub rule_head : Located
rule_head =
    doing 24 (embedded (fact false (codes "F") (a ∷ []) ∷ fact true (codes "G") (fresh_x ∷ []) ∷ []) (fact false (codes "E") [] ∷ [])
    (fact false (codes "H") (b ∷ []) ∷ []))

abbrev pub rule_words : List Word
rule_words =
    mark (codes "[") ∷ name (codes "F") ∷ mark (codes "(") ∷ quoted (codes "a") ∷ mark (codes ")") ∷ mark (codes ",") ∷ mark (codes "!")
    ∷ name (codes "G") ∷ mark (codes "(") ∷ mark (codes "~") ∷ name (codes "x") ∷ mark (codes ")") ∷ mark (codes "]") ∷ mark (codes "--[")
    ∷ name (codes "E") ∷ mark (codes "(") ∷ mark (codes ")") ∷ mark (codes "]->") ∷ mark (codes "[") ∷ name (codes "H") ∷ mark (codes "(")
    ∷ quoted (codes "b") ∷ mark (codes ")") ∷ mark (codes "]") ∷ []

-- numbers of its nodes: `F`, `'a'`, `G`, `~x`, `E`, `H`, `'b'`
abbrev pub rule_with : ℕ → ℕ → ℕ → ℕ → ℕ → ℕ → ℕ → List ℕ
rule_with f first g x e h second = f ∷ first ∷ g ∷ x ∷ e ∷ h ∷ second ∷ []

-- `[ ] --> [ H ( 'b' ) ]`, 9 words
abbrev pub arrow_head : Located
arrow_head = doing 9 (embedded [] [] (fact false (codes "H") (b ∷ []) ∷ []))

abbrev pub arrow_words : List Word
arrow_words =
    mark (codes "[") ∷ mark (codes "]") ∷ mark (codes "-->") ∷ mark (codes "[") ∷ name (codes "H") ∷ mark (codes "(") ∷ quoted (codes "b")
    ∷ mark (codes ")") ∷ mark (codes "]") ∷ []

-- `new ~x`, 3 words, and `new x`, 2 words
abbrev pub fresh_head : Located
fresh_head = doing 3 (new (var Fresh (codes "x")))

abbrev pub fresh_words : List Word
fresh_words = mark (codes "new") ∷ mark (codes "~") ∷ name (codes "x") ∷ []

abbrev pub new_head : Located
new_head = doing 2 (new (var Msg (codes "x")))

abbrev pub new_words : List Word
new_words = mark (codes "new") ∷ name (codes "x") ∷ []

-- `event E ( 'a' )`, 5 words
abbrev pub event_head : Located
event_head = doing 5 (event (fact false (codes "E") (a ∷ [])))

abbrev pub event_words : List Word
event_words = mark (codes "event") ∷ name (codes "E") ∷ mark (codes "(") ∷ quoted (codes "a") ∷ mark (codes ")") ∷ []

-- `insert 'a' , ~x`, 5 words
abbrev pub insert_head : Located
insert_head = doing 5 (insert a fresh_x)

abbrev pub insert_words : List Word
insert_words = mark (codes "insert") ∷ quoted (codes "a") ∷ mark (codes ",") ∷ mark (codes "~") ∷ name (codes "x") ∷ []

-- `lock ~x`, 3 words
abbrev pub lock_head : Located
lock_head = doing 3 (lock fresh_x 0)

abbrev pub lock_words : List Word
lock_words = mark (codes "lock") ∷ mark (codes "~") ∷ name (codes "x") ∷ []

-- `lookup ~x as y in P`, 7 words
abbrev pub lookup_head : Located
lookup_head = lookup_at 7 fresh_x (var Msg (codes "y")) (call_at 1 (codes "P") []) (nil_at 7)

abbrev pub lookup_words : List Word
lookup_words =
    mark (codes "lookup") ∷ mark (codes "~") ∷ name (codes "x") ∷ mark (codes "as") ∷ name (codes "y") ∷ mark (codes "in") ∷ name (codes "P") ∷ []

-- `if 'a' = ~x then P`, 7 words
abbrev pub test_head : Located
test_head = test_at 7 a fresh_x (call_at 1 (codes "P") []) (nil_at 7)

abbrev pub test_words : List Word
test_words =
    mark (codes "if") ∷ quoted (codes "a") ∷ mark (codes "=") ∷ mark (codes "~") ∷ name (codes "x") ∷ mark (codes "then") ∷ name (codes "P") ∷ []

-- `P ( 'a' , ~x )`, 7 words, and `P`, one word
abbrev pub use_head : Located
use_head = call_at 7 (codes "P") (a ∷ fresh_x ∷ [])

abbrev pub use_words : List Word
use_words =
    name (codes "P") ∷ mark (codes "(") ∷ quoted (codes "a") ∷ mark (codes ",") ∷ mark (codes "~") ∷ name (codes "x") ∷ mark (codes ")") ∷ []

abbrev pub bare_head : Located
bare_head = call_at 1 (codes "P") []

abbrev pub bare_words : List Word
bare_words = name (codes "P") ∷ []

-- the numbers of one node, of two, and of three
abbrev pub one : ℕ → List ℕ
one n = n ∷ []

abbrev pub two : ℕ → ℕ → List ℕ
two n m = n ∷ m ∷ []

abbrev pub three : ℕ → ℕ → ℕ → List ℕ
three n m k = n ∷ m ∷ k ∷ []

-- the name of a process, alone
abbrev pub bare : ℕ → List ℕ → Located
bare k x = call_at k x []

-- `lock 'a' ; if 'a' = 'b' then P else Q | ! lookup 'a' as x in R`
abbrev pub many_places : Located
many_places =
    parallel_at 8 (act_at 18 (lock a 0) (test_at 15 a b (bare 11 (codes "P")) (bare 9 (codes "Q"))))
    (replicated_at 7 (lookup_at 6 a (var Msg (codes "x")) (bare 1 (codes "R")) (nil_at 6)))
