-- Words of items round a place, and what to write there, by hand: what a row says, and what looks alike and is said by another or by none.
use Rattle.std.specs.Prelude.{codes, List, [], ◌∷◌, Some, None}
use Rattle.sap_cures.specs.Examples.{WordExample}

abbrev pub reserved_words : List WordExample
reserved_words =
    (codes "~ k ; in ( m ) ; new", codes "rule ; 0", Some (codes "Take another name: this word is one of the grammar."))
    ∷ (codes "k ; in ( m ) ; new ~", codes "lock ; 0", Some (codes "Take another name: this word is one of the grammar."))
    ∷ (codes "new", codes "ruler ; 0", None)
    ∷ (codes "k ; in ( m ) ; in (", codes "rule ) ;", Some (codes "Take another name: this word is one of the grammar."))
    ∷ (codes "; in ( m ) ; out ( <", codes "new , m", Some (codes "Take another name: this word is one of the grammar."))
    ∷ (codes "in (", codes "ruler ) ; 0", None)
    ∷ (codes "(", codes "new ~ n", None)
    ∷ []

abbrev pub heads : List WordExample
heads =
    (codes "theory A begin process", codes "P : 0", Some (codes "Write process: without a name, or let P = for a process with one."))
    ∷ (codes "process", codes "P = 0", None)
    ∷ (codes "theory A begin builtins : hashing lemma a", codes "b : \"", Some (codes "Write one name before the colon."))
    ∷ (codes "process : A", codes "B", None)
    ∷ (codes "theory A begin builtins : hashing restriction r", codes "[ left ]", Some (codes "Leave the brackets out: a restriction has no attributes."))
    ∷ (codes "lemma r", codes "[ reuse ]", None)
    ∷ (codes "theory A begin builtins : hashing lemma a [", codes "heuristic = s", Some (codes "Leave this attribute out: a lemma has reuse, use_induction and sources alone."))
    ∷ (codes "process : [", codes "F ]", None)
    ∷ (codes "begin builtins : hashing lemma a [ reuse ,", codes "hide_lemma = b", Some (codes "Leave this attribute out: a lemma has reuse, use_induction and sources alone."))
    ∷ (codes "out ( reused ,", codes "x )", None)
    ∷ (codes "theory A begin builtins : hashing lemma a :", codes "All x #", Some (codes "Put the formula into double quotes."))
    ∷ (codes "theory A begin builtins : hashing restriction r :", codes "not F process", Some (codes "Put the formula into double quotes."))
    ∷ (codes "functions : f :", codes "( T )", None)
    ∷ (codes "theory A begin builtins : hashing lemma a :", codes "'T' process :", Some (codes "Put the formula into double quotes."))
    ∷ (codes "process :", codes "'T'", None)
    ∷ (codes "theory A begin builtins : hashing restriction r :", codes "T process :", Some (codes "Put the formula into double quotes."))
    ∷ (codes "process :", codes "T", None)
    ∷ (codes "builtins : hashing lemma a [ reuse ] :", codes "All x .", Some (codes "Put the formula into double quotes."))
    ∷ (codes "] ;", codes "All x", None)
    ∷ (codes "builtins : hashing lemma a : exists - trace", codes "Ex x .", Some (codes "Put the formula into double quotes."))
    ∷ (codes ", traces", codes "( x )", None)
    ∷ []

abbrev pub builtins : List WordExample
builtins =
    (codes "theory A begin builtins :", codes "diffie - hellman", Some (codes "Write hashing, signing, symmetric-encryption, asymmetric-encryption or revealing-signing: there is no other builtin."))
    ∷ (codes "functions :", codes "diffie / 2", None)
    ∷ (codes "theory A begin builtins : hashing ,", codes "xor process :", Some (codes "Write hashing, signing, symmetric-encryption, asymmetric-encryption or revealing-signing: there is no other builtin."))
    ∷ (codes "out ( sdec ,", codes "xor )", None)
    ∷ (codes "theory A begin builtins : hashing", codes "signing process :", Some (codes "Write a comma between two builtins."))
    ∷ (codes "hashing", codes "signed", None)
    ∷ (codes "theory A begin builtins : hashing", codes "; process :", Some (codes "Leave the ; out: nothing stands between two items."))
    ∷ (codes ")", codes ";", None)
    ∷ (codes "begin builtins : hashing functions : f / 1", codes "; process :", Some (codes "Leave the ; out: nothing stands between two items."))
    ∷ (codes "/ f", codes ";", None)
    ∷ []

abbrev pub functions : List WordExample
functions =
    (codes "A begin builtins : hashing functions : f /", codes "65 process :", Some (codes "Give it fewer arguments: a function has 64 at most."))
    ∷ (codes "/", codes "f", None)
    ∷ (codes "theory A begin builtins : hashing functions :", codes "F / 1", Some (codes "Begin the name of a function with a small letter."))
    ∷ (codes "functions :", codes "( f", None)
    ∷ (codes "builtins : hashing functions : f / 1 ,", codes "G / 1", Some (codes "Begin the name of a function with a small letter."))
    ∷ (codes "functions : f / 1 [ private ] ,", codes "G / 1", Some (codes "Begin the name of a function with a small letter."))
    ∷ (codes "out ( f ,", codes "( G", Some (codes "Write <t, u> for a tuple, and a term without parentheses."))
    ∷ (codes "theory A begin builtins : hashing functions : f", codes "( bitstring )", Some (codes "Write the number of arguments for their types, as f/1."))
    ∷ (codes "process : f", codes ")", None)
    ∷ (codes ": hashing functions : f / 1 , g", codes "( x )", Some (codes "Write the number of arguments for their types, as f/1."))
    ∷ (codes "x , g", codes ") ", None)
    ∷ []

abbrev pub private_functions : List WordExample
private_functions =
    (codes "theory A begin builtins : hashing functions : f", codes ", g /", Some (codes "Write the number of arguments behind the name, as f/1."))
    ∷ (codes "process : f", codes "g", None)
    ∷ (codes ": hashing functions : f / 1 , g", codes "process : in", Some (codes "Write the number of arguments behind the name, as f/1."))
    ∷ (codes "x , g", codes "h", None)
    ∷ (codes "builtins : hashing functions : f / 1 [", codes "destructor ] process", Some (codes "Write [private] or nothing there: a function has no other attribute."))
    ∷ (codes "; [", codes "F", None)
    ∷ (codes ": hashing functions : f / 1 [ private", codes ", destructor ]", Some (codes "Write [private] or nothing there: a function has no other attribute."))
    ∷ (codes "lemma a [ private", codes "]", None)
    ∷ []

abbrev pub lets : List WordExample
lets =
    (codes "theory A begin builtins : hashing let P (", codes ") = event", Some (codes "Leave the empty parentheses out: let P = 0."))
    ∷ (codes "let P [", codes ")", None)
    ∷ (codes "theory A begin builtins : hashing let k =", codes "'c' process :", Some (codes "Write functions: k/0 for a constant, or the term where it is used: a let names a process."))
    ∷ (codes "theory A begin builtins : hashing let k =", codes "< 'a' ,", Some (codes "Write functions: k/0 for a constant, or the term where it is used: a let names a process."))
    ∷ (codes "if k =", codes ")", None)
    ∷ (codes "( m ) ; out ( m ) ;", codes "let Q =", Some (codes "Leave the ; before it out: behind a ; stands a process."))
    ∷ (codes ")", codes "let Q = 0", None)
    ∷ (codes "new ~ k ; in ( m ) ;", codes "let x =", Some (codes "Write the term where its name stands: inside a process no let names one."))
    ∷ (codes "theory A begin process :", codes "let x =", Some (codes "Write the term where its name stands: inside a process no let names one."))
    ∷ (codes ";", codes "lets x = 'a'", None)
    ∷ (codes "new ~ k ; in ( m ) ;", codes "let < a", Some (codes "Write fst and snd where the parts are used: inside a process no let takes a term apart."))
    ∷ (codes ";", codes "let 'a' = m", None)
    ∷ []

abbrev pub items_left_out : List WordExample
items_left_out =
    (codes "theory A begin builtins : hashing", codes "equations : f", Some (codes "Leave this item out: there are no equations but those of the builtins."))
    ∷ (codes "; equations", codes ":", None)
    ∷ (codes ";", codes "equations ;", None)
    ∷ (codes "theory A begin builtins : hashing", codes "predicates : P", Some (codes "Leave this item out, and write the condition where it is asked for."))
    ∷ (codes ";", codes "predicates ( x )", None)
    ∷ (codes "theory A begin builtins : hashing", codes "heuristic : s", Some (codes "Leave this item out: how a prover searches is told to the prover."))
    ∷ (codes "theory A begin builtins : hashing", codes "tactic : t", Some (codes "Leave this item out: how a prover searches is told to the prover."))
    ∷ (codes "(", codes "heuristic )", None)
    ∷ (codes "theory A begin builtins : hashing", codes "macros : m", Some (codes "Leave this item out, and write the term of a macro where it is used."))
    ∷ (codes ";", codes "macros ;", None)
    ∷ []

abbrev pub items_with_names : List WordExample
items_with_names =
    (codes "theory A begin builtins : hashing", codes "export E :", Some (codes "Leave this item out: nothing is exported."))
    ∷ (codes ";", codes "export E ;", None)
    ∷ (codes "theory A begin builtins : hashing", codes "function : f", Some (codes "Write functions: or builtins: with an s."))
    ∷ (codes ";", codes "function f", None)
    ∷ (codes "theory A begin builtins : hashing", codes "axiom a :", Some (codes "Write restriction for axiom."))
    ∷ (codes ")", codes "axiom ( x )", None)
    ∷ (codes "theory A begin builtins : hashing", codes "diffLemma a :", Some (codes "Leave this item out: there is no equivalence."))
    ∷ (codes ")", codes "diffLemmas", None)
    ∷ (codes "theory A begin builtins : hashing", codes "rule R :", Some (codes "Write an embedded rule in the process, as ! [ ] --> [ F('a') ]: a file has no rules of its own."))
    ∷ (codes "theory A begin builtins : hashing", codes "rule ( modulo", Some (codes "Write an embedded rule in the process, as ! [ ] --> [ F('a') ]: a file has no rules of its own."))
    ∷ (codes ")", codes "rule ;", None)
    ∷ (codes "theory A begin builtins : hashing", codes "# ifdef A", Some (codes "Leave this line out: there is no preprocessor."))
    ∷ (codes ")", codes "# i", None)
    ∷ (codes "builtins : hashing lemma a : \" T \"", codes "by sorry process", Some (codes "Leave the proof out: a lemma ends behind its formula."))
    ∷ (codes ")", codes "by sorry", None)
    ∷ (codes "theory A begin builtins : hashing", codes "verdict : t", Some (codes "Leave this item out: items are builtins, functions, let, process, restriction and lemma."))
    ∷ (codes "(", codes "verdict ;", None)
    ∷ []
