-- Small files, word by word, and where they are wrong.
use Rattle.std.specs.Prelude.{codes, List, [], ◌∷◌}
use Rattle.sap_grammar.specs.Words.{Word, mark, name, number, quoted}

-- `theory T begin`, and these words
abbrev pub headed : List Word → List Word
headed ws = mark (codes "theory") ∷ name (codes "T") ∷ mark (codes "begin") ∷ ws

-- `process :`, and these words
abbrev pub running : List Word → List Word
running ws = headed (mark (codes "process") ∷ mark (codes ":") ∷ ws)

abbrev pub nil : Word
nil = number (codes "0")

-- `( 0 end`: word 7 is the first that is wrong, `end` in place of a parenthesis
abbrev pub unclosed : List Word
unclosed = running (mark (codes "(") ∷ nil ∷ mark (codes "end") ∷ [])

-- `0`, where `end` is missing
abbrev pub endless : List Word
endless = running (nil ∷ [])

-- `event A ( ) , 0 end`, with a comma for a semicolon
abbrev pub with_comma : List Word
with_comma = running
    (mark (codes "event") ∷ name (codes "A") ∷ mark (codes "(") ∷ mark (codes ")")
    ∷ mark (codes ",")
    ∷ nil ∷ mark (codes "end") ∷ [])

-- `if 'a' = 'a' then 0 else 0 else 0 end`, with an `else` too many
abbrev pub two_elses : List Word
two_elses = running
    (mark (codes "if") ∷ quoted (codes "a") ∷ mark (codes "=") ∷ quoted (codes "a")
    ∷ mark (codes "then") ∷ nil
    ∷ mark (codes "else") ∷ nil ∷ mark (codes "else") ∷ nil ∷ mark (codes "end") ∷ [])

-- the same without it
abbrev pub one_else : List Word
one_else = running
    (mark (codes "if") ∷ quoted (codes "a") ∷ mark (codes "=") ∷ quoted (codes "a")
    ∷ mark (codes "then") ∷ nil
    ∷ mark (codes "else") ∷ nil ∷ mark (codes "end") ∷ [])

-- `functions : f / 65 end`, with an arity that is too large
abbrev pub large_arity : List Word
large_arity = headed
    (mark (codes "functions") ∷ mark (codes ":") ∷ name (codes "f") ∷ mark (codes "/")
    ∷ number (codes "65")
    ∷ mark (codes "end") ∷ [])

-- `lemma a : " T <=> T <=> T " end`, with one `<=>` too many
abbrev pub two_equivalences : List Word
two_equivalences = headed
    (mark (codes "lemma") ∷ name (codes "a") ∷ mark (codes ":") ∷ mark (codes "\"")
    ∷ name (codes "T") ∷ mark (codes "<=>")
    ∷ name (codes "T") ∷ mark (codes "<=>") ∷ name (codes "T") ∷ mark (codes "\"")
    ∷ mark (codes "end") ∷ [])

-- `A ( ) end`, with no arguments in parentheses
abbrev pub empty_use : List Word
empty_use = running
    (name (codes "A") ∷ mark (codes "(") ∷ mark (codes ")") ∷ mark (codes "end") ∷ [])

-- `( A ) ( 'a' ) end`, where no name stands before the arguments
abbrev pub name_apart : List Word
name_apart = running
    (mark (codes "(") ∷ name (codes "A") ∷ mark (codes ")") ∷ mark (codes "(")
    ∷ quoted (codes "a")
    ∷ mark (codes ")") ∷ mark (codes "end") ∷ [])

-- `let A ( x , ) = 0 end`, with a comma too many
abbrev pub last_comma : List Word
last_comma = headed
    (mark (codes "let") ∷ name (codes "A") ∷ mark (codes "(") ∷ name (codes "x")
    ∷ mark (codes ",")
    ∷ mark (codes ")") ∷ mark (codes "=") ∷ nil ∷ mark (codes "end") ∷ [])

-- `builtins : hash end`, with a builtin that isn't one of the five
abbrev pub another_builtin : List Word
another_builtin = headed
    (mark (codes "builtins") ∷ mark (codes ":") ∷ name (codes "hash") ∷ mark (codes "end") ∷ [])

-- `functions : F / 1 end`, with a symbol that begins with a capital
abbrev pub capital_symbol : List Word
capital_symbol = headed
    (mark (codes "functions") ∷ mark (codes ":") ∷ name (codes "F") ∷ mark (codes "/")
    ∷ number (codes "1") ∷ mark (codes "end") ∷ [])

-- `functions : f / 1 [ public ] end`
abbrev pub another_privacy : List Word
another_privacy = headed
    (mark (codes "functions") ∷ mark (codes ":") ∷ name (codes "f") ∷ mark (codes "/")
    ∷ number (codes "1") ∷ mark (codes "[") ∷ name (codes "public") ∷ mark (codes "]")
    ∷ mark (codes "end") ∷ [])

-- `event a ( ) end`, with a fact that begins with a small letter
abbrev pub small_event : List Word
small_event = running
    (mark (codes "event") ∷ name (codes "a") ∷ mark (codes "(") ∷ mark (codes ")")
    ∷ mark (codes "end") ∷ [])

-- `new in end`, with a word of the grammar for a name
abbrev pub reserved_name : List Word
reserved_name = running
    (mark (codes "new") ∷ mark (codes "in") ∷ mark (codes "end") ∷ [])

-- `out ( 'a' , 'b' , 'c' ) end`, with a term too many
abbrev pub three_terms : List Word
three_terms = running
    (mark (codes "out") ∷ mark (codes "(") ∷ quoted (codes "a") ∷ mark (codes ",")
    ∷ quoted (codes "b") ∷ mark (codes ",") ∷ quoted (codes "c") ∷ mark (codes ")")
    ∷ mark (codes "end") ∷ [])

-- `[ ] --[ ! E ( ) ]-> [ ] end`, where a fact that is shown has a sign
abbrev pub persistent_act : List Word
persistent_act = running
    (mark (codes "[") ∷ mark (codes "]") ∷ mark (codes "--[") ∷ mark (codes "!")
    ∷ name (codes "E") ∷ mark (codes "(") ∷ mark (codes ")") ∷ mark (codes "]->")
    ∷ mark (codes "[") ∷ mark (codes "]") ∷ mark (codes "end") ∷ [])

-- `lookup 'a' as ~ x in 0 end`, where what is bound has a sign
abbrev pub signed_entry : List Word
signed_entry = running
    (mark (codes "lookup") ∷ quoted (codes "a") ∷ mark (codes "as") ∷ mark (codes "~")
    ∷ name (codes "x") ∷ mark (codes "in") ∷ nil ∷ mark (codes "end") ∷ [])

-- `insert 'a' end`, with a term too few
abbrev pub one_inserted : List Word
one_inserted = running
    (mark (codes "insert") ∷ quoted (codes "a") ∷ mark (codes "end") ∷ [])

-- `out ( < 'a' > ) end`, with a tuple of one part
abbrev pub one_part : List Word
one_part = running
    (mark (codes "out") ∷ mark (codes "(") ∷ mark (codes "<") ∷ quoted (codes "a")
    ∷ mark (codes ">") ∷ mark (codes ")") ∷ mark (codes "end") ∷ [])

-- `0 ; 0 end`, where nothing goes on behind `0`
abbrev pub behind_nil : List Word
behind_nil = running
    (nil ∷ mark (codes ";") ∷ nil ∷ mark (codes "end") ∷ [])

-- `lemma a [ b ] : " T " end`
abbrev pub another_attribute : List Word
another_attribute = headed
    (mark (codes "lemma") ∷ name (codes "a") ∷ mark (codes "[") ∷ name (codes "b")
    ∷ mark (codes "]") ∷ mark (codes ":") ∷ mark (codes "\"") ∷ name (codes "T")
    ∷ mark (codes "\"") ∷ mark (codes "end") ∷ [])

-- `lemma a : " # i = j " end`, where the second time has no sign
abbrev pub two_times : List Word
two_times = headed
    (mark (codes "lemma") ∷ name (codes "a") ∷ mark (codes ":") ∷ mark (codes "\"")
    ∷ mark (codes "#") ∷ name (codes "i") ∷ mark (codes "=") ∷ name (codes "j")
    ∷ mark (codes "\"") ∷ mark (codes "end") ∷ [])

-- `lemma a : " A ( ) " end`, where a fact has no time
abbrev pub no_time : List Word
no_time = headed
    (mark (codes "lemma") ∷ name (codes "a") ∷ mark (codes ":") ∷ mark (codes "\"")
    ∷ name (codes "A") ∷ mark (codes "(") ∷ mark (codes ")") ∷ mark (codes "\"")
    ∷ mark (codes "end") ∷ [])

-- `lemma a : " All . T " end`, where nothing is bound
abbrev pub no_binders : List Word
no_binders = headed
    (mark (codes "lemma") ∷ name (codes "a") ∷ mark (codes ":") ∷ mark (codes "\"")
    ∷ mark (codes "All") ∷ mark (codes ".") ∷ name (codes "T") ∷ mark (codes "\"")
    ∷ mark (codes "end") ∷ [])

-- `let A ( x , y ) = out ( x ) process : A ( 'a' , B ) | A end`
abbrev pub with_arguments : List Word
with_arguments = headed
    (mark (codes "let") ∷ name (codes "A") ∷ mark (codes "(") ∷ name (codes "x")
    ∷ mark (codes ",") ∷ name (codes "y") ∷ mark (codes ")") ∷ mark (codes "=")
    ∷ mark (codes "out") ∷ mark (codes "(") ∷ name (codes "x") ∷ mark (codes ")")
    ∷ mark (codes "process") ∷ mark (codes ":") ∷ name (codes "A") ∷ mark (codes "(")
    ∷ quoted (codes "a") ∷ mark (codes ",") ∷ name (codes "B") ∷ mark (codes ")")
    ∷ mark (codes "|") ∷ name (codes "A") ∷ mark (codes "end") ∷ [])
