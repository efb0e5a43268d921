-- A small file with a definition, to try by hand which names it has.
use Rattle.std.specs.Prelude.{ℕ, codes, List, [], ◌∷◌, filter, not}
use Rattle.std.specs.Str.{bytes_eq}
use Rattle.sap_grammar.specs.Words.{Word, mark, name}
use Rattle.sap_macro.specs.ExpansionExamples.{fresh_of, giving, news, of_name, taking}
use Rattle.sap_macro.specs.NameExamples.{both}
use Rattle.sap_macro.specs.UpToNames.{named}
use Rattle.sap_macro.specs.Written.{Written, call, lookup, nil}
use Rattle.sap_terms.specs.declared.var.Sort.TheVariants.{Msg}
use Rattle.sap_read.specs.CauseExamples.{about, file, let_use, p_name}
use Rattle.sap_read.specs.Item.{Body, Standing, bodies}

-- theory T begin let P(x, w) = in(y); out(<x, y>) process: new ~n; lookup ~n as z in P(u, z) end
abbrev pub file_words : List Word
file_words =
    mark (codes "theory") ∷ name (codes "T") ∷ mark (codes "begin") ∷ mark (codes "let")
    ∷ name (codes "P") ∷ mark (codes "(") ∷ name (codes "x") ∷ mark (codes ",")
    ∷ name (codes "w") ∷ mark (codes ")") ∷ mark (codes "=") ∷ mark (codes "in")
    ∷ mark (codes "(") ∷ name (codes "y") ∷ mark (codes ")") ∷ mark (codes ";")
    ∷ mark (codes "out") ∷ mark (codes "(") ∷ mark (codes "<") ∷ name (codes "x")
    ∷ mark (codes ",") ∷ name (codes "y") ∷ mark (codes ">") ∷ mark (codes ")")
    ∷ mark (codes "process") ∷ mark (codes ":") ∷ mark (codes "new") ∷ mark (codes "~")
    ∷ name (codes "n") ∷ mark (codes ";") ∷ mark (codes "lookup") ∷ mark (codes "~")
    ∷ name (codes "n") ∷ mark (codes "as") ∷ name (codes "z") ∷ mark (codes "in")
    ∷ name (codes "P") ∷ mark (codes "(") ∷ name (codes "u") ∷ mark (codes ",")
    ∷ name (codes "z") ∷ mark (codes ")") ∷ mark (codes "end") ∷ []

-- the definition's body and the process, as they are written
abbrev pub small_body : Written
small_body =
    taking (of_name (codes "y")) (giving (both (of_name (codes "x")) (of_name (codes "y"))))

abbrev pub small_main : Written
small_main =
    news (codes "n")
    (lookup (fresh_of (codes "n")) (named (codes "z") Msg)
    (call p_name (of_name (codes "u") ∷ of_name (codes "z") ∷ [])) nil)

-- the same file by its items
abbrev pub small_file : List Standing
small_file = file (let_use p_name (codes "x" ∷ codes "w" ∷ []) small_body ∷ about small_main ∷ [])

-- what they say of processes
abbrev pub small_bodies : List Body
small_bodies = bodies small_file

-- its identifiers, each where it stands
abbrev pub file_identifiers : List (List ℕ)
file_identifiers =
    codes "T" ∷ codes "P" ∷ codes "x" ∷ codes "w" ∷ codes "y" ∷ codes "x" ∷ codes "y" ∷ codes "n"
    ∷ codes "n" ∷ codes "z" ∷ codes "P" ∷ codes "u" ∷ codes "z" ∷ []

-- the names of its variables: a parameter that is used and one that isn't, what an input, `new` and `lookup` bind, and what nothing binds
abbrev pub variable_names : List (List ℕ)
variable_names =
    codes "x" ∷ codes "w" ∷ codes "y" ∷ codes "n" ∷ codes "z" ∷ codes "u" ∷ []

-- these but for one
abbrev pub names_without : List ℕ → List (List ℕ)
names_without n = filter (λ (m : List ℕ). not (bytes_eq m n)) variable_names

-- a name that stands nowhere in the file, and a word of the grammar that stands there
abbrev pub other_names : List (List ℕ)
other_names = codes "v" ∷ codes "new" ∷ []
