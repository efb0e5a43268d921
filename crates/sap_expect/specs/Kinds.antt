-- Kinds of words, as a text names what may stand in a file.
use Rattle.std.specs.Prelude.{ℕ, Bool, ◌||◌, codes, List, [], ◌∷◌, ◌++◌, map}
use Rattle.std.specs.Prelude.{is_some}
use Rattle.std.specs.List.{list_any}
use Rattle.sap_grammar.specs.Words.{Word, is_lower, is_mark, is_upper}
use Rattle.sap_grammar.specs.Reading.{as_name, as_number, as_quoted, is_name, is_zero}
use Rattle.sap_expect.specs.FileTable.{is_arity, is_such}
use Rattle.sap_expect.specs.declared.kind.WordKind as code
use Rattle.sap_expect.specs.declared.kind.WordKind.TheVariants.{Item, Process, Formula, Term, Name, Lower, Upper, Quoted, Arity, Zero, Mark, Named}

-- the first words of an item, a process, a formula or a term; a name; one that begins with a small letter, or with a capital; a name in
-- quotes; a number up to 64; the number 0; this sign or reserved word; this name
pub data Kind : Type 0 where
  an_item : Kind
  a_process : Kind
  a_formula : Kind
  a_term : Kind
  a_name : Kind
  small_name : Kind
  capital_name : Kind
  quoted_name : Kind
  an_arity : Kind
  a_zero : Kind
  this_mark : List ℕ → Kind
  this_name : List ℕ → Kind

-- the signs and reserved words with which an item begins; a process; a term; a formula, but for those of a term
abbrev pub item_marks : List (List ℕ)
item_marks =
    codes "builtins" ∷ codes "functions" ∷ codes "let" ∷ codes "process" ∷ codes "restriction" ∷ codes "lemma" ∷ []

abbrev pub process_marks : List (List ℕ)
process_marks =
    codes "(" ∷ codes "!" ∷ codes "[" ∷ codes "new" ∷ codes "out" ∷ codes "in" ∷ codes "if" ∷ codes "event" ∷ codes "insert"
    ∷ codes "delete" ∷ codes "lookup" ∷ codes "lock" ∷ codes "unlock" ∷ []

abbrev pub term_marks : List (List ℕ)
term_marks = codes "~" ∷ codes "$" ∷ codes "<" ∷ []

abbrev pub formula_marks : List (List ℕ)
formula_marks = codes "(" ∷ codes "#" ∷ codes "All" ∷ codes "Ex" ∷ codes "not" ∷ []

-- the word is one of these signs
abbrev pub is_one_of : List (List ℕ) → Word → Bool
is_one_of ms w = list_any (λ m. is_mark m w) ms

-- it is a name that begins with a letter
abbrev pub is_lettered_name : Word → Bool
is_lettered_name w = is_such is_lower (as_name w) || is_such is_upper (as_name w)

-- a term begins with it
abbrev pub begins_term : Word → Bool
begins_term w = is_lettered_name w || (is_some (as_quoted w) || is_one_of term_marks w)

-- the word is one of the kind
abbrev pub is_of : Kind → Word → Bool
is_of an_item w = is_one_of item_marks w
is_of a_process w = is_lettered_name w || (is_zero w || is_one_of process_marks w)
is_of a_formula w = begins_term w || is_one_of formula_marks w
is_of a_term w = begins_term w
is_of a_name w = is_lettered_name w
is_of small_name w = is_such is_lower (as_name w)
is_of capital_name w = is_such is_upper (as_name w)
is_of quoted_name w = is_some (as_quoted w)
is_of an_arity w = is_such is_arity (as_number w)
is_of a_zero w = is_zero w
is_of (this_mark m) w = is_mark m w
is_of (this_name x) w = is_name x (as_name w)

-- the signs that may stand somewhere in a file, and the reserved words
abbrev pub file_signs : List (List ℕ)
file_signs =
    codes ":" ∷ codes "," ∷ codes ";" ∷ codes "." ∷ codes "=" ∷ codes "-" ∷ codes "/" ∷ codes "(" ∷ codes ")" ∷ codes "[" ∷ codes "]"
    ∷ codes "<" ∷ codes ">" ∷ codes "\"" ∷ codes "!" ∷ codes "|" ∷ codes "||" ∷ codes "-->" ∷ codes "--[" ∷ codes "]->"
    ∷ codes "~" ∷ codes "$" ∷ codes "#" ∷ codes "@" ∷ codes "&" ∷ codes "==>" ∷ codes "<=>" ∷ []

abbrev pub file_words : List (List ℕ)
file_words =
    codes "theory" ∷ codes "begin" ∷ codes "end" ∷ codes "builtins" ∷ codes "functions" ∷ codes "let" ∷ codes "process"
    ∷ codes "restriction" ∷ codes "lemma" ∷ codes "new" ∷ codes "out" ∷ codes "in" ∷ codes "if" ∷ codes "then" ∷ codes "else"
    ∷ codes "event" ∷ codes "insert" ∷ codes "delete" ∷ codes "lookup" ∷ codes "as" ∷ codes "lock" ∷ codes "unlock"
    ∷ codes "All" ∷ codes "Ex" ∷ codes "not" ∷ []

abbrev pub file_marks : List (List ℕ)
file_marks = file_signs ++ file_words

-- the names that may stand where another mayn't
abbrev pub file_names : List (List ℕ)
file_names =
    codes "hashing" ∷ codes "symmetric" ∷ codes "asymmetric" ∷ codes "signing" ∷ codes "revealing" ∷ codes "encryption"
    ∷ codes "private" ∷ codes "reuse" ∷ codes "use_induction" ∷ codes "sources" ∷ codes "all" ∷ codes "exists" ∷ codes "traces"
    ∷ codes "trace" ∷ []

-- all kinds, the wider first
abbrev pub wide_kinds : List Kind
wide_kinds =
    an_item ∷ a_process ∷ a_formula ∷ a_term ∷ a_name ∷ small_name ∷ capital_name ∷ quoted_name ∷ an_arity ∷ a_zero ∷ []

abbrev pub sign_kinds : List Kind
sign_kinds = map this_mark file_signs

abbrev pub word_kinds : List Kind
word_kinds = map this_mark file_words

abbrev pub name_kinds : List Kind
name_kinds = map this_name file_names

abbrev pub kinds : List Kind
kinds = wide_kinds ++ (sign_kinds ++ (word_kinds ++ name_kinds))

-- the kind that the code has
abbrev pub kind_of : code.WordKind → Kind
kind_of Item = an_item
kind_of Process = a_process
kind_of Formula = a_formula
kind_of Term = a_term
kind_of Name = a_name
kind_of Lower = small_name
kind_of Upper = capital_name
kind_of Quoted = quoted_name
kind_of Arity = an_arity
kind_of Zero = a_zero
kind_of (Mark m) = this_mark m.now
kind_of (Named x) = this_name x.now
