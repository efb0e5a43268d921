-- Rows of words for processes and terms.
use Rattle.std.specs.Prelude.{codes, List, [], ◌∷◌}
use Rattle.sap_cures.specs.Tests.{WordRow, any_name, any_number, any_word, capital_name, no_word, one_of, simple, small_name, this, action_words}

-- of look-ups and conditions
unfoldable pub condition_rows : List WordRow
condition_rows =
    (this (codes "as") ∷ [], one_of (codes "~" ∷ codes "$" ∷ []) ∷ [], codes "Write the name behind as without a sign.") ∷
    (this (codes "as") ∷ [], this (codes "in") ∷ [], codes "Write the name to bind between as and in.") ∷
    (this (codes "as") ∷ any_name ∷ [], one_of (codes ";" ∷ codes "then" ∷ []) ∷ [], codes "Write in behind the name.") ∷
    (this (codes "as") ∷ any_name ∷ [], one_of action_words ∷ [], codes "Write in behind the name.") ∷
    (this (codes "lookup") ∷ simple ∷ [], this (codes "in") ∷ [], codes "Write as and the name to bind before in.") ∷
    (this (codes "lookup") ∷ one_of (codes "~" ∷ codes "$" ∷ []) ∷ any_name ∷ [], this (codes "in") ∷ [], codes "Write as and the name to bind before in.") ∷
    (this (codes ";") ∷ [], this (codes "else") ∷ [], codes "Leave the ; before else out.") ∷
    ([], this (codes "else") ∷ [], codes "Leave else and its process out, or write if t = u then before its first branch.") ∷
    (this (codes "if") ∷ [], this (codes "not") ∷ [], codes "Turn the branches round: if t = u then 0 else P.") ∷
    (this (codes "if") ∷ [], this (codes "(") ∷ [], codes "Leave the parentheses out: a condition is an equation of two terms.") ∷
    (this (codes "if") ∷ capital_name ∷ [], this (codes "(") ∷ [], codes "Write an equation of two terms for the predicate.") ∷
    (this (codes "if") ∷ simple ∷ [], this (codes "then") ∷ [], codes "Write = and a second term before then.") ∷
    (this (codes "if") ∷ one_of (codes "~" ∷ codes "$" ∷ []) ∷ any_name ∷ [], this (codes "then") ∷ [], codes "Write = and a second term before then.") ∷
    (this (codes ")") ∷ [], this (codes "then") ∷ [], codes "Write = and a second term before then.") ∷
    (this (codes "=") ∷ simple ∷ [], this (codes "&") ∷ [], codes "Write an if for each equation, one behind the then of the other.") ∷
    (this (codes "=") ∷ one_of (codes "~" ∷ codes "$" ∷ []) ∷ any_name ∷ [], this (codes "&") ∷ [], codes "Write an if for each equation, one behind the then of the other.") ∷
    (this (codes "if") ∷ simple ∷ this (codes "=") ∷ simple ∷ [], one_of (codes "|" ∷ codes "||" ∷ []) ∷ [], codes "Write an if for each equation, one behind the else of the other.") ∷
    (this (codes "if") ∷ simple ∷ this (codes "=") ∷ simple ∷ [], one_of action_words ∷ [], codes "Write then before it.") ∷
    (this (codes "if") ∷ simple ∷ this (codes "=") ∷ one_of (codes "~" ∷ codes "$" ∷ []) ∷ any_name ∷ [], one_of action_words ∷ [], codes "Write then before it.") ∷
    []

-- of terms, new names and events
unfoldable pub term_rows : List WordRow
term_rows =
    (one_of (codes "(" ∷ codes "<" ∷ codes "," ∷ []) ∷ [], this (codes "=") ∷ [], codes "Leave the = out: a name that is bound above is compared as it stands.") ∷
    (one_of (codes "out" ∷ codes "in" ∷ []) ∷ this (codes "(") ∷ any_word ∷ this (codes ",") ∷ any_word ∷ [], this (codes ",") ∷ [], codes "Write a tuple for more than a channel and a message: out(c, <m, n>).") ∷
    (this (codes "new") ∷ [], this (codes "(") ∷ [], codes "Write new without parentheses: new ~n.") ∷
    (this (codes "new") ∷ [], this (codes "$") ∷ [], codes "Write a fresh name: new ~n.") ∷
    (this (codes "new") ∷ any_name ∷ [], this (codes ",") ∷ [], codes "Write new for each name: new ~n; new ~o.") ∷
    (this (codes "new") ∷ this (codes "~") ∷ any_name ∷ [], this (codes ",") ∷ [], codes "Write new for each name: new ~n; new ~o.") ∷
    (one_of (codes "insert" ∷ codes "delete" ∷ codes "lock" ∷ codes "unlock" ∷ []) ∷ [], this (codes "(") ∷ [], codes "Leave the parentheses out: insert t, u; delete t; lock t; unlock t.") ∷
    (one_of (codes "," ∷ codes "=" ∷ []) ∷ [], this (codes "(") ∷ [], codes "Write <t, u> for a tuple, and a term without parentheses.") ∷
    (one_of (codes "out" ∷ codes "in" ∷ []) ∷ this (codes "(") ∷ [], this (codes "(") ∷ [], codes "Write <t, u> for a tuple, and a term without parentheses.") ∷
    (any_name ∷ this (codes "(") ∷ [], this (codes "(") ∷ [], codes "Write <t, u> for a tuple, and a term without parentheses.") ∷
    (one_of (codes "(" ∷ codes "," ∷ codes "<" ∷ codes "~" ∷ codes "$" ∷ codes "#" ∷ codes "new" ∷ codes "All" ∷ codes "Ex" ∷ []) ∷ any_name ∷ [], this (codes ":") ∷ [], codes "Leave the colon and the type out: a name has a sign at most, as ~x, $x or #i.") ∷
    (this (codes "event") ∷ [], this (codes "!") ∷ [], codes "Leave the ! out: an event has none.") ∷
    (this (codes "event") ∷ [], small_name ∷ [], codes "Begin the name of an event with a capital letter.") ∷
    (this (codes "event") ∷ capital_name ∷ [], any_word ∷ [], codes "Write parentheses behind the name of the event: event A().") ∷
    (this (codes "--[") ∷ [], this (codes "!") ∷ [], codes "Leave the ! out: what a rule shows has none.") ∷
    (one_of (codes "[" ∷ codes "--[" ∷ []) ∷ [], small_name ∷ this (codes "(") ∷ [], codes "Begin the name of a fact with a capital letter.") ∷
    (one_of (codes "(" ∷ codes "," ∷ codes "<" ∷ codes "=" ∷ []) ∷ [], any_number ∷ [], codes "Put the number into quotes: a term has no numbers.") ∷
    (one_of (codes "(" ∷ codes "," ∷ codes "<" ∷ codes "=" ∷ []) ∷ [], this (codes "\"") ∷ [], codes "Put it into single quotes, as 'a'.") ∷
    []

-- of parentheses
unfoldable pub parenthesis_rows : List WordRow
parenthesis_rows =
    (this (codes "as") ∷ any_name ∷ this (codes "in") ∷ this (codes "(") ∷ any_name ∷ [], this (codes ";") ∷ [], codes "Put what follows into the definition: behind the use of a process no other stands.") ∷
    ([], this (codes ",") ∷ one_of action_words ∷ [], codes "Write ; for the comma.") ∷
    (one_of (codes "out" ∷ codes "in" ∷ []) ∷ this (codes "(") ∷ any_name ∷ [], this (codes ";") ∷ [], codes "Write a ) before it: a parenthesis is open.") ∷
    (this (codes "event") ∷ capital_name ∷ this (codes "(") ∷ any_name ∷ [], one_of (codes ";" ∷ codes "end" ∷ []) ∷ [], codes "Write a ) before it: a parenthesis is open.") ∷
    (one_of (codes ";" ∷ codes ":" ∷ codes "|" ∷ codes "||" ∷ codes "then" ∷ codes "else" ∷ codes "!" ∷ []) ∷ any_name ∷ [], this (codes ";") ∷ [], codes "Put what follows into the definition: behind the use of a process no other stands.") ∷
    (this (codes "let") ∷ any_name ∷ this (codes "=") ∷ any_name ∷ [], this (codes ";") ∷ [], codes "Put what follows into the definition: behind the use of a process no other stands.") ∷
    (this (codes "as") ∷ any_name ∷ this (codes "in") ∷ any_name ∷ [], this (codes ";") ∷ [], codes "Put what follows into the definition: behind the use of a process no other stands.") ∷
    (one_of (codes ";" ∷ codes ":" ∷ codes "=" ∷ codes "|" ∷ codes "||" ∷ codes "then" ∷ codes "else" ∷ codes "!" ∷ []) ∷ this (codes "(") ∷ any_name ∷ [], this (codes ";") ∷ [], codes "Put what follows into the definition: behind the use of a process no other stands.") ∷
    (any_number ∷ [], this (codes ";") ∷ [], codes "Leave out the 0, or what follows it: 0 ends a process.") ∷
    (any_number ∷ [], this (codes ")") ∷ [], codes "Leave this ) out: no parenthesis is open.") ∷
    (any_name ∷ this (codes "(") ∷ [], this (codes ")") ∷ [], codes "Leave the empty parentheses out: a process without arguments is its name alone.") ∷
    (this (codes "<") ∷ any_word ∷ this (codes ",") ∷ simple ∷ [], this (codes ")") ∷ [], codes "Write > before it: a tuple is open.") ∷
    (this (codes "<") ∷ any_word ∷ this (codes ",") ∷ one_of (codes "~" ∷ codes "$" ∷ []) ∷ any_name ∷ [], this (codes ")") ∷ [], codes "Write > before it: a tuple is open.") ∷
    (one_of (codes "out" ∷ codes "in" ∷ []) ∷ [], one_of (codes "~" ∷ codes "$" ∷ codes "<" ∷ []) ∷ [], codes "Put the message into parentheses, as out(m) and in(x).") ∷
    (one_of (codes "out" ∷ codes "in" ∷ []) ∷ [], simple ∷ [], codes "Put the message into parentheses, as out(m) and in(x).") ∷
    []

-- of what stands behind a parenthesis that is closed: the words before it are those before the sign that opens it
unfoldable pub closed_rows : List WordRow
closed_rows =
    (one_of (codes ";" ∷ codes ":" ∷ codes "=" ∷ codes "|" ∷ codes "||" ∷ codes "then" ∷ codes "else" ∷ codes "!" ∷ codes "(" ∷ []) ∷ [], this (codes ";") ∷ [], codes "Put what follows into the parentheses: behind them no process stands.") ∷
    (this (codes "as") ∷ any_name ∷ this (codes "in") ∷ [], this (codes ";") ∷ [], codes "Put what follows into the parentheses: behind them no process stands.") ∷
    (one_of (codes ";" ∷ codes ":" ∷ codes "|" ∷ codes "||" ∷ codes "then" ∷ codes "else" ∷ codes "!" ∷ []) ∷ any_name ∷ [], this (codes ";") ∷ [], codes "Put what follows into the definition: behind the use of a process no other stands.") ∷
    (this (codes "let") ∷ any_name ∷ this (codes "=") ∷ any_name ∷ [], this (codes ";") ∷ [], codes "Put what follows into the definition: behind the use of a process no other stands.") ∷
    (this (codes "as") ∷ any_name ∷ this (codes "in") ∷ any_name ∷ [], this (codes ";") ∷ [], codes "Put what follows into the definition: behind the use of a process no other stands.") ∷
    (one_of (codes ";" ∷ codes ":" ∷ codes "=" ∷ codes "|" ∷ codes "||" ∷ codes "then" ∷ codes "else" ∷ codes "!" ∷ []) ∷ this (codes "(") ∷ any_name ∷ [], this (codes ";") ∷ [], codes "Put what follows into the definition: behind the use of a process no other stands.") ∷
    (this (codes "as") ∷ any_name ∷ this (codes "in") ∷ this (codes "(") ∷ any_name ∷ [], this (codes ";") ∷ [], codes "Put what follows into the definition: behind the use of a process no other stands.") ∷
    (this (codes "event") ∷ capital_name ∷ this (codes "(") ∷ small_name ∷ [], this (codes ";") ∷ [], codes "Write a ) before it: a parenthesis is open.") ∷
    (one_of (codes "out" ∷ codes "in" ∷ []) ∷ this (codes "(") ∷ small_name ∷ [], this (codes ";") ∷ [], codes "Write a ) before it: a parenthesis is open.") ∷
    (this (codes "event") ∷ capital_name ∷ [], this (codes ")") ∷ [], codes "Leave this ) out: no parenthesis is open.") ∷
    (one_of (codes "out" ∷ codes "in" ∷ []) ∷ [], this (codes ")") ∷ [], codes "Leave this ) out: no parenthesis is open.") ∷
    (this (codes "event") ∷ capital_name ∷ [], one_of (codes "end" ∷ codes "lemma" ∷ codes "restriction" ∷ codes "let" ∷ []) ∷ [], codes "Write a ) before it: a parenthesis is open.") ∷
    (one_of (codes "out" ∷ codes "in" ∷ []) ∷ [], one_of (codes "end" ∷ codes "lemma" ∷ codes "restriction" ∷ codes "let" ∷ []) ∷ [], codes "Write a ) before it: a parenthesis is open.") ∷
    (this (codes "event") ∷ capital_name ∷ [], one_of action_words ∷ [], codes "Write ; before it.") ∷
    (one_of (codes "out" ∷ codes "in" ∷ []) ∷ [], one_of action_words ∷ [], codes "Write ; before it.") ∷
    []

-- of ends, and of what stands between actions
unfoldable pub end_rows : List WordRow
end_rows =
    (this (codes ";") ∷ [], one_of (codes ")" ∷ codes "|" ∷ codes "||" ∷ codes ";" ∷ codes "end" ∷ codes "builtins" ∷ codes "functions" ∷ codes "process" ∷ codes "restriction" ∷ codes "lemma" ∷ codes "rule" ∷ []) ∷ [], codes "Leave the ; before it out: behind a ; stands a process.") ∷
    (this (codes ";") ∷ [], no_word ∷ [], codes "Leave the ; before it out: behind a ; stands a process.") ∷
    ([], this (codes "in") ∷ one_of (codes "out" ∷ codes "new" ∷ codes "event" ∷ codes "insert" ∷ codes "delete" ∷ codes "lock" ∷ codes "unlock" ∷ codes "if" ∷ codes "lookup" ∷ codes "let" ∷ codes "in" ∷ codes "!" ∷ codes "[" ∷ codes "process" ∷ codes "restriction" ∷ codes "lemma" ∷ codes "builtins" ∷ codes "functions" ∷ codes "end" ∷ []) ∷ [], codes "Leave in out: a let ends with its process.") ∷
    ([], this (codes "in") ∷ any_name ∷ [], codes "Leave in out: a let ends with its process.") ∷
    ([], this (codes "in") ∷ any_number ∷ [], codes "Leave in out: a let ends with its process.") ∷
    (any_number ∷ [], one_of (codes "end" ∷ codes "lemma" ∷ codes "restriction" ∷ codes "let" ∷ []) ∷ [], codes "Write a ) before it: a parenthesis is open.") ∷
    (this (codes "new") ∷ any_name ∷ [], one_of action_words ∷ [], codes "Write ; before it.") ∷
    (this (codes "new") ∷ this (codes "~") ∷ any_name ∷ [], one_of action_words ∷ [], codes "Write ; before it.") ∷
    ([], this (codes "XOR") ∷ [], codes "Write a symbol of a builtin: there is no exclusive or.") ∷
    []
