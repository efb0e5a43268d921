-- Words one by one, with levels that are left.
use Rattle.std.specs.Prelude.{ℕ, codes, List, [], ◌∷◌}
use Rattle.sap_grammar.specs.Words.{Word, mark, name, number, quoted}
use Rattle.sap_expect.specs.declared.wanted.Limit.TheVariants.{Same}
use Rattle.sap_expect.specs.declared.wanted.Part.{Part}
use Rattle.sap_expect.specs.declared.wanted.Part.TheVariants.{Equivalence}
use Rattle.sap_expect.specs.FileTable.{Open, part, sign}
use Rattle.sap_expect.specs.Levels.{AreTaken}

-- so where such a part of at most m levels is wanted
abbrev pub MayBegin : Part → ℕ → List Word → Type 0
MayBegin p m ws = (k : ℕ) × (vs : List Open) × AreTaken 0 ((part p Same, m) ∷ []) ws k vs

abbrev pub a : Word
a = quoted (codes "a")

abbrev pub comma : Word
comma = mark (codes ",")

abbrev pub opening : Word
opening = mark (codes "(")

abbrev pub nil : Word
nil = number (codes "0")

abbrev pub truth : Word
truth = name (codes "T")

-- `< 'a' , 'a'`: a pair has two levels
abbrev pub two_parts : List Word
two_parts = mark (codes "<") ∷ a ∷ comma ∷ a ∷ []

-- `< 'a' , 'a' ,`: a tuple of three parts has three
abbrev pub three_parts : List Word
three_parts = mark (codes "<") ∷ a ∷ comma ∷ a ∷ comma ∷ []

-- `< f ( )`: behind a first part stands another, so it has no more levels than the pair, but one
abbrev pub symbol_first : List Word
symbol_first = mark (codes "<") ∷ name (codes "f") ∷ opening ∷ mark (codes ")") ∷ []

-- `f ( )`: a symbol without terms has one level
abbrev pub no_terms : List Word
no_terms = name (codes "f") ∷ opening ∷ mark (codes ")") ∷ []

-- `f ( 'a'`: with one it has two
abbrev pub one_term : List Word
one_term = name (codes "f") ∷ opening ∷ a ∷ []

-- `f ( 'a' , 'a' , 'a' )`: so many terms are no more levels
abbrev pub three_terms : List Word
three_terms = name (codes "f") ∷ opening ∷ a ∷ comma ∷ a ∷ comma ∷ a ∷ mark (codes ")") ∷ []

-- `! 0 |`: what has two levels is joined to one of three
abbrev pub behind_replicated : List Word
behind_replicated = mark (codes "!") ∷ nil ∷ mark (codes "|") ∷ []

-- `0 | 0 |`: parallels group to the right
abbrev pub two_bars : List Word
two_bars = nil ∷ mark (codes "|") ∷ nil ∷ mark (codes "|") ∷ []

-- `new x ; new x`: behind the second action is at least a `0`
abbrev pub two_actions : List Word
two_actions = mark (codes "new") ∷ name (codes "x") ∷ mark (codes ";") ∷ mark (codes "new") ∷ []

-- `if 'a' = 'a' then 0 else !`: a branch has one level fewer
abbrev pub deep_branch : List Word
deep_branch =
    mark (codes "if") ∷ a ∷ mark (codes "=") ∷ a ∷ mark (codes "then") ∷ nil
    ∷ mark (codes "else") ∷ mark (codes "!") ∷ []

-- `T & T &`: `&` groups to the left
abbrev pub two_ands : List Word
two_ands = truth ∷ mark (codes "&") ∷ truth ∷ mark (codes "&") ∷ []

-- `T & ( T`: parentheses are a level
abbrev pub deep_second : List Word
deep_second = truth ∷ mark (codes "&") ∷ opening ∷ truth ∷ []

-- `T ==> T ==>`: `==>` groups to the right
abbrev pub two_implications : List Word
two_implications = truth ∷ mark (codes "==>") ∷ truth ∷ mark (codes "==>") ∷ []

-- `T <=> T`
abbrev pub two_sides : List Word
two_sides = truth ∷ mark (codes "<=>") ∷ truth ∷ []

-- `T <=> T <=>`: there is no third side
abbrev pub three_sides : List Word
three_sides = truth ∷ mark (codes "<=>") ∷ truth ∷ mark (codes "<=>") ∷ []

-- `All x . T <=> T <=>`: nor behind a quantifier
abbrev pub three_in_body : List Word
three_in_body = mark (codes "All") ∷ name (codes "x") ∷ mark (codes ".") ∷ three_sides

-- `not ( T`
abbrev pub not_group : List Word
not_group = mark (codes "not") ∷ opening ∷ truth ∷ []

-- a formula of one level is wanted, and a quotation mark
abbrev pub quoted_formula : List Open
quoted_formula = (part Equivalence Same, 1) ∷ (sign (codes "\""), 0) ∷ []

-- `_ ( ) = 'a' "`: no letter begins the name before the parentheses
abbrev pub letterless : List Word
letterless =
    name (95 ∷ []) ∷ opening ∷ mark (codes ")") ∷ mark (codes "=") ∷ a ∷ mark (codes "\"") ∷ []
