-- The parts of a formula that words spell, in reading order, each with the words that are left from the one that tells it: of a fact and
-- of a variable its name, behind `#`, `@` and signs; of a symbol in a term the word of its node.
use Rattle.std.specs.Prelude.{◌≡◌, ℕ, suc, codes, List, [], ◌∷◌, ◌++◌, length}
use Rattle.sap_terms.specs.declared.fact.Fact.{Fact}
use Rattle.sap_terms.specs.Signature.{Sig}
use Rattle.sap_terms.specs.Tree.{Tree, variable, public, fresh, apply, trees_of}
use Rattle.sap_terms.specs.Equations.{pair_name}
use Rattle.sap_formula.specs.Form.{Form}
use Rattle.sap_formula.specs.Parts.{Part, symbol, part_name}
use Rattle.sap_formula.specs.declared.binder.Binder.{Binder}
use Rattle.sap_grammar.specs.Words.{Word, mark, name}
use Rattle.sap_grammar.specs.TermGrammar.{IsTerm, IsRest, IsArgs}
use Rattle.sap_grammar.specs.FactGrammar.{IsFact, fact_linear, fact_persistent}
use Rattle.sap_formula_grammar.specs.FormulaGrammar.{IsTime, time_signed, time_plain, IsAtom, atom_true, atom_false, atom_action, atom_equal, atom_same, atom_earlier, IsBinder, binds_message, binds_fresh, binds_pub, binds_time, AreBinders, binders_last, binders_more, Reach, IsUn, IsAnd, IsOr, IsImp, IsIff, un_atom, un_not, un_every, un_exists, un_parentheses, and_one, and_more, or_one, or_more, imp_one, imp_more, iff_one, iff_more}
use Rattle.sap_node_words.specs.NodeWords.{term_words, args_words, nodes, nodes_of}

-- of nodes and their numbers the numbers of those that are parts of a formula: all but constants without a symbol
abbrev pub of_parts : List Tree → List ℕ → List ℕ
of_parts (variable v ∷ us) (n ∷ ns) = n ∷ of_parts us ns
of_parts (public s ∷ us) (n ∷ ns) = of_parts us ns
of_parts (fresh k ∷ us) (n ∷ ns) = of_parts us ns
of_parts (apply f ts ∷ us) (n ∷ ns) = n ∷ of_parts us ns
of_parts [] ns = []
of_parts (u ∷ us) [] = []

-- the numbers of the parts of a term
abbrev pub term_part_words : {g : Sig} {t : Tree} {a b : List Word} → IsTerm g t a b → List ℕ
term_part_words {t = t} r = of_parts (nodes t) (term_words r)

-- of arguments
abbrev pub args_part_words : {g : Sig} {ts : List Tree} {a b : List Word} → IsArgs g ts a b → List ℕ
args_part_words {ts = ts} r = of_parts (nodes_of (trees_of ts)) (args_words r)

-- of a fact: its name, its arguments
abbrev pub fact_part_words : {g : Sig} {f : Fact} {a b : List Word} → IsFact g f a b → List ℕ
fact_part_words (fact_linear {a = a} up r) = suc (suc (length a)) ∷ args_part_words r
fact_part_words (fact_persistent {a = a} up r) = suc (suc (length a)) ∷ args_part_words r

-- of a time variable
abbrev pub time_word : {i : List ℕ} {a b : List Word} → IsTime i a b → ℕ
time_word (time_signed {a = a}) = suc (length a)
time_word (time_plain {a = a}) = suc (length a)

-- of a formula without parts of its own kind
abbrev pub atom_part_words : {g : Sig} {f : Form} {a b : List Word} → IsAtom g f a b → List ℕ
atom_part_words (atom_true e) = []
atom_part_words (atom_false e) = []
atom_part_words (atom_action r p t) = fact_part_words r ++ time_word t ∷ []
atom_part_words (atom_equal plain r s) = term_part_words r ++ term_part_words s
atom_part_words (atom_same {a = a}) = suc (suc (suc (suc (length a)))) ∷ suc (length a) ∷ []
atom_part_words (atom_earlier plain r s) = time_word r ∷ time_word s ∷ []

-- of a variable of a quantifier
abbrev pub binder_word : {v : Binder} {a b : List Word} → IsBinder v a b → ℕ
binder_word (binds_message {a = a}) = suc (length a)
binder_word (binds_fresh {a = a}) = suc (length a)
binder_word (binds_pub {a = a}) = suc (length a)
binder_word (binds_time {a = a}) = suc (length a)

-- of all of them
abbrev pub binder_words : {vs : List Binder} {a b : List Word} → AreBinders vs a b → List ℕ
binder_words (binders_last r) = binder_word r ∷ []
binder_words (binders_more r s) = binder_word r ∷ binder_words s

-- of a formula of each strength
abbrev mutual
  pub un_words : {g : Sig} {e : Reach} {f : Form} {n : ℕ} {a b : List Word} → IsUn g e f n a b → List ℕ
  un_words (un_atom r) = atom_part_words r
  un_words (un_not r) = un_words r
  un_words (un_every r s) = binder_words r ++ part_words s
  un_words (un_exists r s) = binder_words r ++ part_words s
  un_words (un_parentheses r) = part_words r

  pub and_words : {g : Sig} {e : Reach} {f : Form} {n : ℕ} {a b : List Word} → IsAnd g e f n a b → List ℕ
  and_words (and_one r) = un_words r
  and_words (and_more r s) = and_words r ++ un_words s

  pub or_words : {g : Sig} {e : Reach} {f : Form} {n : ℕ} {a b : List Word} → IsOr g e f n a b → List ℕ
  or_words (or_one r) = and_words r
  or_words (or_more r s) = or_words r ++ and_words s

  pub imp_words : {g : Sig} {e : Reach} {f : Form} {n : ℕ} {a b : List Word} → IsImp g e f n a b → List ℕ
  imp_words (imp_one r) = or_words r
  imp_words (imp_more r s) = or_words r ++ imp_words s

  -- of a formula: of each part the number of words from its own on, to the end of all words
  pub part_words : {g : Sig} {e : Reach} {f : Form} {n : ℕ} {a b : List Word} → IsIff g e f n a b → List ℕ
  part_words (iff_one r) = imp_words r
  part_words (iff_more r s) = imp_words r ++ imp_words s

-- all of the words spell this formula, and its parts have these numbers
pub record HasPartWords (g : Sig) (f : Form) (a : List Word) (ns : List ℕ) : Type 0 where
  pub reach : Reach
  pub levels : ℕ
  pub spelled : IsIff g reach f levels a []
  pub numbers : part_words spelled ≡ ns

-- which words a part has from its own on: its name first; of the symbol of a tuple its `<`; of the pair behind a comma those of its first
-- part, the comma, and the rest of the tuple
pub data IsPartAt (g : Sig) : Part → List Word → Type 0 where
  part_named : {p : Part} {a : List Word} → IsPartAt g p (name (part_name p) ∷ a)
  part_tuple : {a : List Word} → IsPartAt g (symbol pair_name 2) (mark (codes "<") ∷ a)
  part_rest : {t u : Tree} {a b c : List Word} → IsTerm g t a (mark (codes ",") ∷ b) → IsRest g u b c
      → IsPartAt g (symbol pair_name 2) a
