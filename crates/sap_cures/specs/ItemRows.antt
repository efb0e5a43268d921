-- Rows of words for items.
use Rattle.std.specs.Prelude.{codes, List, [], ◌∷◌}
use Rattle.sap_cures.specs.Tests.{WordRow, any_name, any_number, any_quoted, any_word, capital_name, one_of, small_name, this, reserved_words}

-- of words as names, and of the heads of items
unfoldable pub head_rows : List WordRow
head_rows =
    (one_of (codes "new" ∷ codes "event" ∷ codes "let" ∷ codes "lemma" ∷ codes "restriction" ∷ codes "@" ∷ codes "All" ∷ codes "Ex" ∷ codes "#" ∷ codes "~" ∷ codes "$" ∷ []) ∷ [], one_of reserved_words ∷ [], codes "Take another name: this word is one of the grammar.") ∷
    (one_of (codes "(" ∷ codes "<" ∷ codes "," ∷ []) ∷ [], one_of reserved_words ∷ one_of (codes ")" ∷ codes "," ∷ codes ">" ∷ codes "@" ∷ codes "=" ∷ []) ∷ [], codes "Take another name: this word is one of the grammar.") ∷
    (this (codes "process") ∷ [], any_name ∷ this (codes ":") ∷ [], codes "Write process: without a name, or let P = for a process with one.") ∷
    (one_of (codes "lemma" ∷ codes "restriction" ∷ []) ∷ any_name ∷ [], any_name ∷ [], codes "Write one name before the colon.") ∷
    (this (codes "restriction") ∷ any_name ∷ [], this (codes "[") ∷ [], codes "Leave the brackets out: a restriction has no attributes.") ∷
    (this (codes "lemma") ∷ any_name ∷ this (codes "[") ∷ [], any_name ∷ [], codes "Leave this attribute out: a lemma has reuse, use_induction and sources alone.") ∷
    (one_of (codes "reuse" ∷ codes "use_induction" ∷ codes "sources" ∷ []) ∷ this (codes ",") ∷ [], any_name ∷ [], codes "Leave this attribute out: a lemma has reuse, use_induction and sources alone.") ∷
    (one_of (codes "lemma" ∷ codes "restriction" ∷ []) ∷ any_name ∷ this (codes ":") ∷ [], one_of (codes "All" ∷ codes "Ex" ∷ codes "not" ∷ codes "(" ∷ codes "#" ∷ []) ∷ [], codes "Put the formula into double quotes.") ∷
    (one_of (codes "lemma" ∷ codes "restriction" ∷ []) ∷ any_name ∷ this (codes ":") ∷ [], any_quoted ∷ [], codes "Put the formula into double quotes.") ∷
    (one_of (codes "lemma" ∷ codes "restriction" ∷ []) ∷ any_name ∷ this (codes ":") ∷ [], capital_name ∷ [], codes "Put the formula into double quotes.") ∷
    (this (codes "]") ∷ this (codes ":") ∷ [], one_of (codes "All" ∷ codes "Ex" ∷ codes "not" ∷ codes "(" ∷ codes "#" ∷ []) ∷ [], codes "Put the formula into double quotes.") ∷
    (this (codes "-") ∷ one_of (codes "traces" ∷ codes "trace" ∷ []) ∷ [], one_of (codes "All" ∷ codes "Ex" ∷ codes "not" ∷ codes "(" ∷ codes "#" ∷ []) ∷ [], codes "Put the formula into double quotes.") ∷
    []

-- of builtins and functions
unfoldable pub declaration_rows : List WordRow
declaration_rows =
    (this (codes "builtins") ∷ this (codes ":") ∷ [], any_name ∷ [], codes "Write hashing, signing, symmetric-encryption, asymmetric-encryption or revealing-signing: there is no other builtin.") ∷
    (one_of (codes "hashing" ∷ codes "signing" ∷ codes "encryption" ∷ []) ∷ this (codes ",") ∷ [], any_name ∷ [], codes "Write hashing, signing, symmetric-encryption, asymmetric-encryption or revealing-signing: there is no other builtin.") ∷
    (one_of (codes "hashing" ∷ codes "signing" ∷ codes "encryption" ∷ []) ∷ [], one_of (codes "hashing" ∷ codes "signing" ∷ codes "symmetric" ∷ codes "asymmetric" ∷ codes "revealing" ∷ []) ∷ [], codes "Write a comma between two builtins.") ∷
    (one_of (codes "hashing" ∷ codes "signing" ∷ codes "encryption" ∷ []) ∷ [], this (codes ";") ∷ [], codes "Leave the ; out: nothing stands between two items.") ∷
    (this (codes "/") ∷ any_number ∷ [], this (codes ";") ∷ [], codes "Leave the ; out: nothing stands between two items.") ∷
    (this (codes "/") ∷ [], any_number ∷ [], codes "Give it fewer arguments: a function has 64 at most.") ∷
    (this (codes "functions") ∷ this (codes ":") ∷ [], capital_name ∷ [], codes "Begin the name of a function with a small letter.") ∷
    (this (codes "]") ∷ this (codes ",") ∷ [], capital_name ∷ [], codes "Begin the name of a function with a small letter.") ∷
    (any_number ∷ this (codes ",") ∷ [], capital_name ∷ [], codes "Begin the name of a function with a small letter.") ∷
    (this (codes "functions") ∷ this (codes ":") ∷ small_name ∷ [], this (codes "(") ∷ [], codes "Write the number of arguments for their types, as f/1.") ∷
    (any_number ∷ this (codes ",") ∷ small_name ∷ [], this (codes "(") ∷ [], codes "Write the number of arguments for their types, as f/1.") ∷
    (this (codes "functions") ∷ this (codes ":") ∷ small_name ∷ [], any_word ∷ [], codes "Write the number of arguments behind the name, as f/1.") ∷
    (any_number ∷ this (codes ",") ∷ small_name ∷ [], any_word ∷ [], codes "Write the number of arguments behind the name, as f/1.") ∷
    (any_number ∷ this (codes "[") ∷ [], any_name ∷ [], codes "Write [private] or nothing there: a function has no other attribute.") ∷
    (any_number ∷ this (codes "[") ∷ this (codes "private") ∷ [], this (codes ",") ∷ [], codes "Write [private] or nothing there: a function has no other attribute.") ∷
    []

-- of definitions, and of items that there are not
unfoldable pub other_item_rows : List WordRow
other_item_rows =
    (this (codes "let") ∷ any_name ∷ this (codes "(") ∷ [], this (codes ")") ∷ [], codes "Leave the empty parentheses out: let P = 0.") ∷
    (this (codes "let") ∷ any_name ∷ this (codes "=") ∷ [], one_of (codes "<" ∷ codes "~" ∷ codes "$" ∷ []) ∷ [], codes "Write functions: k/0 for a constant, or the term where it is used: a let names a process.") ∷
    (this (codes "let") ∷ any_name ∷ this (codes "=") ∷ [], any_quoted ∷ [], codes "Write functions: k/0 for a constant, or the term where it is used: a let names a process.") ∷
    (this (codes ";") ∷ [], this (codes "let") ∷ capital_name ∷ [], codes "Leave the ; before it out: behind a ; stands a process.") ∷
    (one_of (codes ";" ∷ codes "(" ∷ codes "|" ∷ codes "||" ∷ codes "then" ∷ codes "else" ∷ codes "!" ∷ codes "in" ∷ codes "=" ∷ codes ":" ∷ []) ∷ [], this (codes "let") ∷ any_name ∷ [], codes "Write the term where its name stands: inside a process no let names one.") ∷
    (one_of (codes ";" ∷ codes "(" ∷ codes "|" ∷ codes "||" ∷ codes "then" ∷ codes "else" ∷ codes "!" ∷ codes "in" ∷ codes "=" ∷ codes ":" ∷ []) ∷ [], this (codes "let") ∷ one_of (codes "<" ∷ codes "~" ∷ codes "$" ∷ codes "(" ∷ []) ∷ [], codes "Write fst and snd where the parts are used: inside a process no let takes a term apart.") ∷
    ([], this (codes "equations") ∷ this (codes ":") ∷ [], codes "Leave this item out: there are no equations but those of the builtins.") ∷
    ([], one_of (codes "predicates" ∷ codes "predicate" ∷ []) ∷ this (codes ":") ∷ [], codes "Leave this item out, and write the condition where it is asked for.") ∷
    ([], one_of (codes "heuristic" ∷ codes "tactic" ∷ codes "configuration" ∷ codes "options" ∷ []) ∷ this (codes ":") ∷ [], codes "Leave this item out: how a prover searches is told to the prover.") ∷
    ([], this (codes "macros") ∷ this (codes ":") ∷ [], codes "Leave this item out, and write the term of a macro where it is used.") ∷
    ([], this (codes "export") ∷ any_name ∷ this (codes ":") ∷ [], codes "Leave this item out: nothing is exported.") ∷
    ([], one_of (codes "function" ∷ codes "builtin" ∷ []) ∷ this (codes ":") ∷ [], codes "Write functions: or builtins: with an s.") ∷
    ([], this (codes "axiom") ∷ any_name ∷ [], codes "Write restriction for axiom.") ∷
    ([], one_of (codes "diffLemma" ∷ codes "equivLemma" ∷ codes "diffEquivLemma" ∷ []) ∷ [], codes "Leave this item out: there is no equivalence.") ∷
    ([], this (codes "rule") ∷ this (codes "(") ∷ [], codes "Write an embedded rule in the process, as ! [ ] --> [ F('a') ]: a file has no rules of its own.") ∷
    ([], this (codes "rule") ∷ any_name ∷ [], codes "Write an embedded rule in the process, as ! [ ] --> [ F('a') ]: a file has no rules of its own.") ∷
    ([], this (codes "#") ∷ one_of (codes "ifdef" ∷ codes "define" ∷ codes "include" ∷ codes "endif" ∷ codes "else" ∷ []) ∷ [], codes "Leave this line out: there is no preprocessor.") ∷
    (this (codes "\"") ∷ [], one_of (codes "by" ∷ codes "simplify" ∷ codes "induction" ∷ codes "solve" ∷ codes "case" ∷ codes "SOLVED" ∷ []) ∷ [], codes "Leave the proof out: a lemma ends behind its formula.") ∷
    ([], any_name ∷ this (codes ":") ∷ [], codes "Leave this item out: items are builtins, functions, let, process, restriction and lemma.") ∷
    []
