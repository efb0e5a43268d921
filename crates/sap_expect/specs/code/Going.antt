-- What may stand, as the walk tries it: by words that stand for all of their kind.
use Rattle.std.specs.Prelude.{◌≡◌, ℕ, Bool, true, ◌&&◌, codes, length, List, [], ◌∷◌, ◌++◌, map, take}
use Rattle.std.specs.Borrow.{Bor}
use Rattle.std.specs.List.{filter, list_all, list_any}
use Rattle.std.specs.Str.{bytes_eq}
use Rattle.sap_text.specs.declared.token.Kind.{Kind as TokenKind}
use Rattle.sap_grammar.specs.Words.{Word, mark, name, number, quoted, word_of}
use Rattle.sap_expect.specs.FileTable.{Counting, Open, TakesBy, Wanted, every_level, file, sign, word}
use Rattle.sap_expect.specs.Kinds.{Kind, a_formula, a_name, a_process, a_term, a_zero, an_arity, an_item, capital_name, file_marks, file_names, formula_marks, is_of, item_marks, kind_of, process_marks, quoted_name, small_name, term_marks, this_mark, this_name}
use Rattle.sap_expect.specs.Letters.{IsLettered}
use Rattle.sap_expect.specs.Levels.{AreTaken}
use Rattle.sap_expect.specs.MayStand.{MayStand}
use Rattle.sap_expect.specs.declared.kind.WordKind as code

-- so of each of them
abbrev pub Each : {X : Type 0} → (X → Type 0) → List X → Type 0
Each Is [] = Unit {0}
Each Is (x ∷ xs) = Is x × Each Is xs

-- the word is taken, where levels count so
abbrev pub CanGoBy : Counting → ℕ → List Open → Word → Type 0
CanGoBy s n vs w = (k : ℕ) × (next : List Open) × TakesBy s n vs w k next

-- where all count
abbrev pub CanGo : ℕ → List Open → Word → Type 0
CanGo = CanGoBy every_level

-- words of a kind that stand for all
abbrev pub small_one : Word
small_one = name (codes "x")

abbrev pub capital_one : Word
capital_one = name (codes "X")

abbrev pub quoted_one : Word
quoted_one = quoted (codes "x")

abbrev pub witnesses : Kind → List Word
witnesses an_item = map mark item_marks
witnesses a_process = small_one ∷ capital_one ∷ number (codes "0") ∷ map mark process_marks
witnesses a_formula = small_one ∷ capital_one ∷ quoted_one ∷ (map mark term_marks ++ map mark formula_marks)
witnesses a_term = small_one ∷ capital_one ∷ quoted_one ∷ map mark term_marks
witnesses a_name = small_one ∷ capital_one ∷ []
witnesses small_name = small_one ∷ []
witnesses capital_name = capital_one ∷ []
witnesses quoted_name = quoted_one ∷ []
witnesses an_arity = number (codes "1") ∷ []
witnesses a_zero = number (codes "0") ∷ []
witnesses (this_mark m) = mark m ∷ []
witnesses (this_name x) = name x ∷ []

-- each word of the first is one of the second, by those
abbrev pub is_within : Kind → Kind → Bool
is_within k j = list_all (is_of j) (witnesses k)

-- a kind with the words that stand for its own, and those for each kind before it of which it is part
abbrev pub KindRow : Type 0
KindRow = Kind × List Word × List (List Word)

abbrev pub kind_row : List Kind → Kind → KindRow
kind_row before k = (k, witnesses k, map witnesses (filter (is_within k) before))

abbrev pub kind_rows : List Kind → List Kind → List KindRow
kind_rows before [] = []
kind_rows before (k ∷ ks) = kind_row before k ∷ kind_rows (before ++ k ∷ []) ks

-- what the code has for them
abbrev pub witness_of : (TokenKind × Bor (List ℕ)) → Word
witness_of p = word_of p.1.now (record { kind = p.0; from = 0; to = length p.1.now; line = 1 })

abbrev pub witnesses_of : List (TokenKind × Bor (List ℕ)) → List Word
witnesses_of ps = map witness_of ps

-- so of a kind that has more than one word; of others none
abbrev pub wide_words : Kind → List Word
wide_words (this_mark m) = []
wide_words (this_name x) = []
wide_words k = witnesses k

abbrev pub many_of : List code.WordKind → List (List Word)
many_of ks = map (λ k. wide_words (kind_of k)) ks

abbrev pub kind_row_of : (code.WordKind × Bor (List (TokenKind × Bor (List ℕ))) × Bor (List code.WordKind)) → KindRow
kind_row_of r = (kind_of r.0, witnesses_of r.1.now, many_of r.2.now)

-- the kind is named by what is taken
abbrev pub IsRowNamed : ℕ → List Open → KindRow → Type 0
IsRowNamed n vs r = Each (CanGo n vs) r.1 × Each (λ ws. Each (CanGo n vs) ws → ⊥) r.2

-- those of the rows that are such, in their order
pub data AreRowsNamed (n : ℕ) (vs : List Open) : List KindRow → List Kind → Type 0 where
  no_row : AreRowsNamed n vs [] []
  row_is : {r : KindRow} {rs : List KindRow} {those : List Kind} → IsRowNamed n vs r → AreRowsNamed n vs rs those
      → AreRowsNamed n vs (r ∷ rs) (r.0 ∷ those)
  row_isnt : {r : KindRow} {rs : List KindRow} {those : List Kind} → (IsRowNamed n vs r → ⊥) → AreRowsNamed n vs rs those
      → AreRowsNamed n vs (r ∷ rs) those

-- what is named of the rows that are left comes behind
abbrev pub Behind : ℕ → List Open → List KindRow → List KindRow → List Kind → Type 0
Behind n vs all rest those = (more : List Kind) → AreRowsNamed n vs rest more → AreRowsNamed n vs all (those ++ more)

-- what is wanted is of the words that the table has
abbrev pub is_listed : Wanted → Bool
is_listed (sign m) = list_any (bytes_eq m) file_marks
is_listed (word x) = list_any (bytes_eq x) file_names
is_listed v = true

abbrev pub listed : List Open → Bool
listed [] = true
listed (v ∷ vs) = is_listed v.0 && listed vs

-- the words that may stand behind these are the words that are taken
pub record StandsAt (ws : List Word) (n : ℕ) (vs : List Open) : Type 0 where
  pub only_listed : listed vs ≡ true
  pub on : (w : Word) → IsLettered w → CanGo n vs w → MayStand ws w
  pub back : (w : Word) → MayStand ws w → CanGo n vs w

-- so of the first words of these, and they are taken
abbrev pub StandsBehind : List Word → ℕ → ℕ → List Open → Type 0
StandsBehind ws k n vs = StandsAt (take k ws) n vs × AreTaken 0 file (take k ws) n vs
