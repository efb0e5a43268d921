-- Which words a file has, by a table: what may stand next, and what has to stand behind it; and with how many levels.
use Rattle.std.specs.Prelude.{◌≡◌, ℕ, ◌+◌, ◌-◌, max, Bool, true, false, nat_le, codes, List, [], ◌∷◌, ◌++◌, map, Option, Some, None, is_some, if◌then◌else◌}
use Rattle.sap_terms.specs.declared.limits.TheConstants.{MOST_ARITY, MOST_PROCESS_LEVELS}
use Rattle.sap_grammar.specs.Words.{Word, is_mark, is_lower, is_upper}
use Rattle.sap_grammar.specs.Reading.{as_name, as_quoted, as_number, is_name, is_zero}
use Rattle.sap_grammar.specs.Declarations.{value}
use Rattle.sap_draft.specs.declared.limits.TheConstants.{FILE_LIMITS}
use Rattle.sap_expect.specs.declared.wanted.Part.{Part}
use Rattle.sap_expect.specs.declared.wanted.Part.TheVariants.{File, Items, Builtin, MoreBuiltins, Function, Privacy, MoreFunctions, Parameters, MoreParameters, Lemma, Attribute, MoreAttributes, Mode, Process, Bars, Sequence, Arguments, Then, Else, NewName, Message, Facts, MoreFacts, Fact, Arrow, Shown, MoreShown, Term, Application, Terms, MoreTerms, Pair, MoreParts, Equivalence, MoreEquivalence, Ended, Implication, MoreImplication, Disjunction, MoreDisjunction, Conjunction, MoreConjunction, Formula, Truth, Atom, UpperAtom, LowerAtom, Times, Time, Binders, MoreBinders}
use Rattle.sap_expect.specs.declared.nested.Nested.{Nested}
use Rattle.sap_expect.specs.declared.nested.Nested.TheVariants.{Term as ATerm, Process as AProcess, Formula as AFormula}
use Rattle.sap_expect.specs.declared.wanted.Limit.{Limit}
use Rattle.sap_expect.specs.declared.wanted.Limit.TheVariants.{Same, Below, OfTerm, OfProcess, OfFormula}
use Rattle.sap_expect.specs.declared.wanted.Change.{Change}
use Rattle.sap_expect.specs.declared.wanted.Change.TheVariants.{Nothing, One, Two, More, Deepest, Joined}
use Rattle.sap_expect.specs.declared.wanted.Test.{Test}
use Rattle.sap_expect.specs.declared.wanted.Test.TheVariants.{Always, Never, HasLevel, HasRoom, GoesOn}

-- what is wanted: this symbol or word of the grammar; this name; any name; one that begins with a small letter, or with a capital; a
-- name in quotes; the number 0; an arity; the words of a part, with the levels that it may have. Or no word: the levels of what ended
-- there change
pub data Wanted : Type 0 where
  sign : List ℕ → Wanted
  word : List ℕ → Wanted
  any_name : Wanted
  small : Wanted
  capital : Wanted
  in_quotes : Wanted
  nil : Wanted
  arity : Wanted
  part : Part → Limit → Wanted
  level : Change → Wanted

-- there is one, and it is such
abbrev pub is_such : (List ℕ → Bool) → Option (List ℕ) → Bool
is_such test None = false
is_such test (Some x) = test x

-- the digits of an arity
abbrev pub is_arity : List ℕ → Bool
is_arity ds = nat_le (value ds) MOST_ARITY

-- the word alone is what is wanted
abbrev pub is_wanted : Wanted → Word → Bool
is_wanted (sign m) w = is_mark m w
is_wanted (word x) w = is_name x (as_name w)
is_wanted any_name w = is_some (as_name w)
is_wanted small w = is_such is_lower (as_name w)
is_wanted capital w = is_such is_upper (as_name w)
is_wanted in_quotes w = is_some (as_quoted w)
is_wanted nil w = is_zero w
is_wanted arity w = is_such is_arity (as_number w)
is_wanted (part p l) w = false
is_wanted (level c) w = false

-- whether a part of at most m levels may begin so: always; never; where it may have a level; where it may have two; where it may have
-- one more than what ended last, with n levels
abbrev pub holds : Test → ℕ → ℕ → Bool
holds Always m n = true
holds Never m n = false
holds HasLevel m n = nat_le 1 m
holds HasRoom m n = nat_le 2 m
holds GoesOn m n = nat_le (n + 1) m

-- what a test counts levels of, in each part that has one: a term, a process or a formula
abbrev pub levels_in : Part → Option Nested
levels_in Bars = Some AProcess
levels_in Sequence = Some AProcess
levels_in Term = Some ATerm
levels_in Terms = Some ATerm
levels_in MoreParts = Some ATerm
levels_in Atom = Some ATerm
levels_in MoreEquivalence = Some AFormula
levels_in MoreImplication = Some AFormula
levels_in MoreDisjunction = Some AFormula
levels_in MoreConjunction = Some AFormula
levels_in Formula = Some AFormula
levels_in p = None

-- which levels count: all; all but those of terms, of processes or of formulas; none
pub data Counting : Type 0 where
  every_level : Counting
  all_but : Nested → Counting
  no_level : Counting

abbrev pub is_this : Nested → Option Nested → Bool
is_this ATerm (Some ATerm) = true
is_this AProcess (Some AProcess) = true
is_this AFormula (Some AFormula) = true
is_this c o = false

-- whether a part may begin so with some levels
abbrev pub may_hold : Test → Bool
may_hold Never = false
may_hold t = true

-- whether it may begin so, where levels count so
abbrev pub passes : Counting → Part → Test → ℕ → ℕ → Bool
passes every_level p t m n = holds t m n
passes (all_but c) p t m n = if is_this c (levels_in p) then may_hold t else holds t m n
passes no_level p t m n = may_hold t

-- a row of the table: a word that a part may begin with, where it may begin so, and what is wanted behind it
abbrev pub Row : Type 0
Row = Wanted × Test × List Wanted

-- the rows of each part
abbrev pub rows : Part → List Row
rows File =
    (sign (codes "theory"), Always, any_name ∷ sign (codes "begin") ∷ part Items Same ∷ []) ∷ []
rows Items = (
  sign (codes "builtins"),
  Always,
  sign (codes ":") ∷ part Builtin Same ∷ part MoreBuiltins Same ∷ [],
)
    ∷ (sign (codes "functions"), Always, sign (codes ":") ∷ part Function Same ∷ [])
    ∷ (
      sign (codes "let"),
      Always,
      any_name ∷ part Parameters Same ∷ part Process OfProcess ∷ part Items Same ∷ [],
    )
    ∷ (
      sign (codes "process"),
      Always,
      sign (codes ":") ∷ part Process OfProcess ∷ part Items Same ∷ [],
    )
    ∷ (
      sign (codes "restriction"),
      Always,
      any_name ∷ sign (codes ":") ∷ sign (codes "\"") ∷ part Equivalence OfFormula
          ∷ sign (codes "\"") ∷ part Items Same ∷ [],
    )
    ∷ (sign (codes "lemma"), Always, any_name ∷ part Lemma Same ∷ part Items Same ∷ [])
    ∷ (sign (codes "end"), Always, []) ∷ []
rows Builtin =
    (word (codes "hashing"), Always, [])
    ∷ (word (codes "symmetric"), Always, sign (codes "-") ∷ word (codes "encryption") ∷ [])
    ∷ (word (codes "asymmetric"), Always, sign (codes "-") ∷ word (codes "encryption") ∷ [])
    ∷ (word (codes "signing"), Always, [])
    ∷ (word (codes "revealing"), Always, sign (codes "-") ∷ word (codes "signing") ∷ []) ∷ []
rows MoreBuiltins = (sign (codes ","), Always, part Builtin Same ∷ part MoreBuiltins Same ∷ []) ∷ []
rows Function = (small, Always, sign (codes "/") ∷ arity ∷ part Privacy Same ∷ []) ∷ []
rows Privacy = (
  sign (codes "["),
  Always,
  word (codes "private") ∷ sign (codes "]") ∷ part MoreFunctions Same ∷ [],
) ∷ []
rows MoreFunctions = (sign (codes ","), Always, part Function Same ∷ []) ∷ []
rows Parameters =
    (sign (codes "="), Always, [])
    ∷ (sign (codes "("), Always, any_name ∷ part MoreParameters Same ∷ sign (codes "=") ∷ []) ∷ []
rows MoreParameters =
    (sign (codes ")"), Always, [])
    ∷ (sign (codes ","), Always, any_name ∷ part MoreParameters Same ∷ []) ∷ []
rows Lemma = (
  sign (codes "["),
  Always,
  part Attribute Same ∷ part MoreAttributes Same ∷ sign (codes ":") ∷ part Mode Same
      ∷ [],
)
    ∷ (sign (codes ":"), Always, part Mode Same ∷ []) ∷ []
rows Attribute =
    (word (codes "reuse"), Always, [])
    ∷ (word (codes "use_induction"), Always, [])
    ∷ (word (codes "sources"), Always, []) ∷ []
rows MoreAttributes =
    (sign (codes ","), Always, part Attribute Same ∷ part MoreAttributes Same ∷ [])
    ∷ (sign (codes "]"), Always, []) ∷ []
rows Mode =
    (sign (codes "\""), Always, part Equivalence OfFormula ∷ sign (codes "\"") ∷ [])
    ∷ (
      word (codes "all"),
      Always,
      sign (codes "-") ∷ word (codes "traces") ∷ sign (codes "\"")
          ∷ part Equivalence OfFormula ∷ sign (codes "\"") ∷ [],
    )
    ∷ (
      word (codes "exists"),
      Always,
      sign (codes "-") ∷ word (codes "trace") ∷ sign (codes "\"")
          ∷ part Equivalence OfFormula ∷ sign (codes "\"") ∷ [],
    ) ∷ []
rows Process = []
rows Bars =
    (sign (codes "|"), GoesOn, part Process Below ∷ level Joined ∷ [])
    ∷ (sign (codes "||"), GoesOn, part Process Below ∷ level Joined ∷ []) ∷ []
rows Sequence =
    (nil, Always, level One ∷ [])
    ∷ (any_name, Always, part Arguments Same ∷ [])
    ∷ (sign (codes "("), HasRoom, part Process Below ∷ sign (codes ")") ∷ level More ∷ [])
    ∷ (sign (codes "!"), HasRoom, part Sequence Below ∷ level More ∷ [])
    ∷ (sign (codes "new"), HasRoom, part NewName Same ∷ part Then Same ∷ [])
    ∷ (
      sign (codes "out"),
      HasRoom,
      sign (codes "(") ∷ part Term OfTerm ∷ part Message Same ∷ part Then Same ∷ [],
    )
    ∷ (
      sign (codes "in"),
      HasRoom,
      sign (codes "(") ∷ part Term OfTerm ∷ part Message Same ∷ part Then Same ∷ [],
    )
    ∷ (
      sign (codes "event"),
      HasRoom,
      capital ∷ sign (codes "(") ∷ part Terms OfTerm ∷ part Then Same ∷ [],
    )
    ∷ (
      sign (codes "insert"),
      HasRoom,
      part Term OfTerm ∷ sign (codes ",") ∷ part Term OfTerm ∷ part Then Same ∷ [],
    )
    ∷ (sign (codes "delete"), HasRoom, part Term OfTerm ∷ part Then Same ∷ [])
    ∷ (sign (codes "lock"), HasRoom, part Term OfTerm ∷ part Then Same ∷ [])
    ∷ (sign (codes "unlock"), HasRoom, part Term OfTerm ∷ part Then Same ∷ [])
    ∷ (sign (codes "["), HasRoom, part Facts Same ∷ part Arrow Same ∷ part Then Same ∷ [])
    ∷ (
      sign (codes "if"),
      HasRoom,
      part Term OfTerm ∷ sign (codes "=") ∷ part Term OfTerm ∷ sign (codes "then")
          ∷ part Sequence Below ∷ part Else Same ∷ [],
    )
    ∷ (
      sign (codes "lookup"),
      HasRoom,
      part Term OfTerm ∷ sign (codes "as") ∷ any_name ∷ sign (codes "in")
          ∷ part Sequence Below ∷ part Else Same ∷ [],
    ) ∷ []
rows Arguments =
    (sign (codes "("), Always, part Term OfTerm ∷ part MoreTerms OfTerm ∷ level One ∷ []) ∷ []
rows Then = (sign (codes ";"), Always, part Sequence Below ∷ level More ∷ []) ∷ []
rows Else = (sign (codes "else"), Always, part Sequence Below ∷ level Joined ∷ []) ∷ []
rows NewName =
    (sign (codes "~"), Always, any_name ∷ [])
    ∷ (any_name, Always, []) ∷ []
rows Message =
    (sign (codes ")"), Always, [])
    ∷ (sign (codes ","), Always, part Term OfTerm ∷ sign (codes ")") ∷ []) ∷ []
rows Facts = (sign (codes "]"), Always, []) ∷ []
rows MoreFacts =
    (sign (codes "]"), Always, [])
    ∷ (sign (codes ","), Always, part Fact Same ∷ part MoreFacts Same ∷ []) ∷ []
rows Fact =
    (capital, Always, sign (codes "(") ∷ part Terms OfTerm ∷ [])
    ∷ (sign (codes "!"), Always, capital ∷ sign (codes "(") ∷ part Terms OfTerm ∷ []) ∷ []
rows Arrow =
    (sign (codes "-->"), Always, sign (codes "[") ∷ part Facts Same ∷ [])
    ∷ (sign (codes "--["), Always, part Shown Same ∷ sign (codes "[") ∷ part Facts Same ∷ []) ∷ []
rows Shown =
    (sign (codes "]->"), Always, [])
    ∷ (capital, Always, sign (codes "(") ∷ part Terms OfTerm ∷ part MoreShown Same ∷ []) ∷ []
rows MoreShown =
    (sign (codes "]->"), Always, [])
    ∷ (
      sign (codes ","),
      Always,
      capital ∷ sign (codes "(") ∷ part Terms OfTerm ∷ part MoreShown Same ∷ [],
    ) ∷ []
rows Term =
    (in_quotes, Always, level One ∷ [])
    ∷ (small, Always, part Application Same ∷ [])
    ∷ (any_name, Always, level One ∷ [])
    ∷ (sign (codes "~"), Always, any_name ∷ level One ∷ [])
    ∷ (sign (codes "$"), Always, any_name ∷ level One ∷ [])
    ∷ (sign (codes "<"), HasRoom, part Term Below ∷ part Pair Same ∷ []) ∷ []
rows Application = (sign (codes "("), Always, part Terms Below ∷ level More ∷ []) ∷ []
rows Terms = (sign (codes ")"), Always, level Nothing ∷ []) ∷ []
rows MoreTerms =
    (sign (codes ")"), Always, [])
    ∷ (sign (codes ","), Always, part Term Same ∷ level Deepest ∷ part MoreTerms Same ∷ []) ∷ []
rows Pair =
    (sign (codes ","), Always, part Term Below ∷ part MoreParts Below ∷ level Joined ∷ []) ∷ []
rows MoreParts =
    (sign (codes ">"), Always, [])
    ∷ (sign (codes ","), GoesOn, part Term Below ∷ part MoreParts Below ∷ level Joined ∷ []) ∷ []
rows Equivalence = []
rows MoreEquivalence =
    (sign (codes "<=>"), GoesOn, part Implication Below ∷ level Joined ∷ part Ended Same ∷ []) ∷ []
rows Ended = (sign (codes "<=>"), Never, []) ∷ []
rows Implication = []
rows MoreImplication = (sign (codes "==>"), GoesOn, part Implication Below ∷ level Joined ∷ []) ∷ []
rows Disjunction = []
rows MoreDisjunction = (
  sign (codes "|"),
  GoesOn,
  part Conjunction Below ∷ level Joined ∷ part MoreDisjunction Same ∷ [],
) ∷ []
rows Conjunction = []
rows MoreConjunction = (
  sign (codes "&"),
  GoesOn,
  part Formula Below ∷ level Joined ∷ part MoreConjunction Same ∷ [],
) ∷ []
rows Formula =
    (word (codes "T"), Always, part Truth Same ∷ [])
    ∷ (word (codes "F"), Always, part Truth Same ∷ [])
    ∷ (sign (codes "not"), HasRoom, part Formula Below ∷ level More ∷ [])
    ∷ (sign (codes "All"), HasRoom, part Binders Same ∷ part Equivalence Below ∷ level More ∷ [])
    ∷ (sign (codes "Ex"), HasRoom, part Binders Same ∷ part Equivalence Below ∷ level More ∷ [])
    ∷ (sign (codes "("), HasRoom, part Equivalence Below ∷ sign (codes ")") ∷ level More ∷ []) ∷ []
rows Truth = (
  sign (codes "("),
  Always,
  part Terms OfTerm ∷ sign (codes "@") ∷ part Time Same ∷ level One ∷ [],
) ∷ []
rows Atom =
    (capital, Always, part UpperAtom Same ∷ [])
    ∷ (any_name, Always, part LowerAtom Same ∷ [])
    ∷ (sign (codes "#"), Always, any_name ∷ part Times Same ∷ [])
    ∷ (in_quotes, Always, sign (codes "=") ∷ part Term Same ∷ [])
    ∷ (sign (codes "~"), Always, any_name ∷ sign (codes "=") ∷ part Term Same ∷ [])
    ∷ (sign (codes "$"), Always, any_name ∷ sign (codes "=") ∷ part Term Same ∷ [])
    ∷ (
      sign (codes "<"),
      HasRoom,
      part Term Below ∷ part Pair Same ∷ sign (codes "=") ∷ part Term Same ∷ [],
    ) ∷ []
rows UpperAtom =
    (sign (codes "("), Always, part Terms Same ∷ sign (codes "@") ∷ part Time Same ∷ [])
    ∷ (sign (codes "="), Always, part Term Same ∷ [])
    ∷ (sign (codes "<"), Always, part Time Same ∷ []) ∷ []
rows LowerAtom =
    (sign (codes "("), Always, part Terms Below ∷ sign (codes "=") ∷ part Term Same ∷ [])
    ∷ (sign (codes "="), Always, part Term Same ∷ [])
    ∷ (sign (codes "<"), Always, part Time Same ∷ []) ∷ []
rows Times =
    (sign (codes "="), Always, sign (codes "#") ∷ any_name ∷ [])
    ∷ (sign (codes "<"), Always, part Time Same ∷ []) ∷ []
rows Time =
    (any_name, Always, [])
    ∷ (sign (codes "#"), Always, any_name ∷ []) ∷ []
rows Binders =
    (any_name, Always, part MoreBinders Same ∷ [])
    ∷ (sign (codes "~"), Always, any_name ∷ part MoreBinders Same ∷ [])
    ∷ (sign (codes "$"), Always, any_name ∷ part MoreBinders Same ∷ [])
    ∷ (sign (codes "#"), Always, any_name ∷ part MoreBinders Same ∷ []) ∷ []
rows MoreBinders = (sign (codes "."), Always, []) ∷ []

-- what is wanted, and whether it may stand here
abbrev pub Turn : Type 0
Turn = Test × List Wanted

-- what a part is where the next word begins none of its rows: nothing, but for its levels; the items behind it; a list of one or more;
-- what is joined with others of its kind; an atom; or nothing of this kind, and the word is wrong
abbrev pub otherwise : Part → Option Turn
otherwise MoreBuiltins = Some (Always, part Items Same ∷ [])
otherwise MoreFunctions = Some (Always, part Items Same ∷ [])
otherwise Privacy = Some (Always, part MoreFunctions Same ∷ [])
otherwise Process = Some (Always, part Sequence Same ∷ part Bars Same ∷ [])
otherwise Bars = Some (Always, [])
otherwise Arguments = Some (Always, level One ∷ [])
otherwise Then = Some (Always, level Two ∷ [])
otherwise Else = Some (Always, level More ∷ [])
otherwise Facts = Some (Always, part Fact Same ∷ part MoreFacts Same ∷ [])
otherwise Application = Some (Always, level One ∷ [])
otherwise Terms = Some (HasLevel, part Term Same ∷ part MoreTerms Same ∷ [])
otherwise Equivalence = Some (Always, part Implication Same ∷ part MoreEquivalence Same ∷ [])
otherwise MoreEquivalence = Some (Always, [])
otherwise Ended = Some (Always, [])
otherwise Implication = Some (Always, part Disjunction Same ∷ part MoreImplication Same ∷ [])
otherwise MoreImplication = Some (Always, [])
otherwise Disjunction = Some (Always, part Conjunction Same ∷ part MoreDisjunction Same ∷ [])
otherwise MoreDisjunction = Some (Always, [])
otherwise Conjunction = Some (Always, part Formula Same ∷ part MoreConjunction Same ∷ [])
otherwise MoreConjunction = Some (Always, [])
otherwise Formula = Some (Always, part Atom OfTerm ∷ level One ∷ [])
otherwise Truth = Some (Always, level One ∷ [])
otherwise MoreBinders = Some (Always, part Binders Same ∷ [])
otherwise p = None

-- what is wanted behind this word, by the first of the rows that it begins
abbrev pub row_among : List Row → Word → Option Turn
row_among [] w = None
row_among (r ∷ rs) w = if is_wanted r.0 w then Some (r.1, r.2) else row_among rs w

abbrev pub row : Part → Word → Option Turn
row p w = row_among (rows p) w

-- the most levels of a part that stands in one of at most m: as many; one fewer; those of a file's terms, processes or formulas
abbrev pub limit : Limit → ℕ → ℕ
limit Same m = m
limit Below m = m - 1
limit OfTerm m = FILE_LIMITS.term_levels
limit OfProcess m = MOST_PROCESS_LEVELS
limit OfFormula m = FILE_LIMITS.formula_levels

-- the levels of what ended, where n are those of what ended last, and k of what had ended when this was noted: none, one, two; one more;
-- as many as the deeper has; one more than the deeper
abbrev pub changed : Change → ℕ → ℕ → ℕ
changed Nothing n k = 0
changed One n k = 1
changed Two n k = 2
changed More n k = n + 1
changed Deepest n k = max k n
changed Joined n k = max k n + 1

-- what is wanted, with a number: of a part, how many levels it may have; of a change, how many what had ended before has
abbrev pub Open : Type 0
Open = Wanted × ℕ

-- the number of what is wanted in a part of at most m levels, where what ended last has n
abbrev pub number : Wanted → ℕ → ℕ → ℕ
number (part p l) m n = limit l m
number (level c) m n = n
number v m n = 0

abbrev pub opened : ℕ → ℕ → Wanted → Open
opened m n v = (v, number v m n)

abbrev pub all_opened : ℕ → ℕ → List Wanted → List Open
all_opened m n vs = map (opened m n) vs

-- what ended last has so many levels, and this is wanted: the word may stand next where levels count so, and behind it the levels are
-- these, and this is wanted. The word is what is wanted first; a row of the part that is wanted first begins with it, and may; none
-- does, and the word may stand where what the part is otherwise is wanted; or levels change first
pub data TakesBy (s : Counting) : ℕ → List Open → Word → ℕ → List Open → Type 0 where
  takes_word : {n k : ℕ} {v : Wanted} {vs : List Open} {w : Word} → is_wanted v w ≡ true
      → TakesBy s n ((v, k) ∷ vs) w n vs
  takes_row : {n m : ℕ} {p : Part} {l : Limit} {t : Test} {rest : List Wanted} {vs : List Open} {w : Word}
      → row p w ≡ Some (t, rest) → passes s p t m n ≡ true
      → TakesBy s n ((part p l, m) ∷ vs) w n (all_opened m n rest ++ vs)
  takes_other : {n m n' : ℕ} {p : Part} {l : Limit} {t : Test} {other : List Wanted} {vs next : List Open} {w : Word}
      → row p w ≡ None → otherwise p ≡ Some (t, other) → passes s p t m n ≡ true
      → TakesBy s n (all_opened m n other ++ vs) w n' next
      → TakesBy s n ((part p l, m) ∷ vs) w n' next
  takes_level : {n k n' : ℕ} {c : Change} {vs next : List Open} {w : Word}
      → TakesBy s (changed c n k) vs w n' next
      → TakesBy s n ((level c, k) ∷ vs) w n' next

-- where all levels count
abbrev pub Takes : ℕ → List Open → Word → ℕ → List Open → Type 0
Takes = TakesBy every_level

-- the words are all that is wanted, each where it may stand
pub data Reads : ℕ → List Open → List Word → Type 0 where
  reads_end : {n : ℕ} → Reads n [] []
  reads_word : {n k : ℕ} {vs next : List Open} {w : Word} {ws : List Word} → Takes n vs w k next
      → Reads k next ws → Reads n vs (w ∷ ws)

-- a file is wanted
abbrev pub file : List Open
file = (part File Same, 0) ∷ []

-- the words of a file, by the table
abbrev pub FollowsTable : List Word → Type 0
FollowsTable ws = Reads 0 file ws
