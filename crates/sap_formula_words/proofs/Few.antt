-- A formula has no more parts than words.
use Rattle.std.proofs.Common.{◌≤◌, ◌+◌, ℕ, List, [], ◌∷◌, length, arith}
use Rattle.std.proofs.lemmas.List.{length-append}
use Rattle.sap_terms.specs.Signature.{Sig}
use Rattle.sap_terms.specs.Tree.{Tree, variable, public, fresh, apply, trees_of}
use Rattle.sap_terms.specs.declared.fact.Fact.{Fact}
use Rattle.sap_formula.specs.Form.{Form}
use Rattle.sap_formula.specs.declared.binder.Binder.{Binder}
use Rattle.sap_grammar.specs.Words.{Word}
use Rattle.sap_grammar.specs.TermGrammar.{IsTerm, IsArgs}
use Rattle.sap_grammar.specs.FactGrammar.{IsFact, fact_linear, fact_persistent}
use Rattle.sap_formula_grammar.specs.FormulaGrammar.{IsAtom, atom_true, atom_false, atom_action, atom_equal, atom_same, atom_earlier, AreBinders, binders_last, binders_more, Reach, IsUn, IsAnd, IsOr, IsImp, IsIff, un_atom, un_not, un_every, un_exists, un_parentheses, and_one, and_more, or_one, or_more, imp_one, imp_more, iff_one, iff_more}
use Rattle.sap_node_words.specs.NodeWords.{term_words, args_words, nodes, nodes_of}
use Rattle.sap_formula_words.specs.PartWords.{of_parts, term_part_words, args_part_words, fact_part_words, time_word, atom_part_words, binder_words, un_words, and_words, or_words, imp_words, part_words}
use Rattle.sap_formula_words.proofs.Bounds.{term_few, args_few}
use Rattle.sap_formula_words.proofs.Counts.{time_shorter, binder_shorter}
use Rattle.sap_formula_words.proofs.Seeking.{nodes_count, all_count}

no_more : (us : List Tree) (ns : List ℕ) → length (of_parts us ns) ≤ length us
no_more [] ns = omega arith
no_more (u ∷ us) [] = omega arith
no_more (variable v ∷ us) (n ∷ ns) = omega (arith, no_more us ns)
no_more (public s ∷ us) (n ∷ ns) = omega (arith, no_more us ns)
no_more (fresh i ∷ us) (n ∷ ns) = omega (arith, no_more us ns)
no_more (apply f ts ∷ us) (n ∷ ns) = omega (arith, no_more us ns)

-- so many parts between two places
abbrev pub Fit : List ℕ → List Word → List Word → Type 0
Fit ns a b = length ns + length b ≤ length a

term_fit : {g : Sig} {t : Tree} {a b : List Word} (r : IsTerm g t a b) → Fit (term_part_words r) a b
term_fit {t = t} r = omega (arith, no_more (nodes t) (term_words r), nodes_count t, term_few r)

args_fit : {g : Sig} {ts : List Tree} {a b : List Word} (r : IsArgs g ts a b) → Fit (args_part_words r) a b
args_fit {ts = ts} r = omega (arith, no_more (nodes_of (trees_of ts)) (args_words r), all_count (trees_of ts), args_few r)

fact_fit : {g : Sig} {f : Fact} {a b : List Word} (r : IsFact g f a b) → Fit (fact_part_words r) a b
fact_fit (fact_linear up r) = omega (arith, args_fit r)
fact_fit (fact_persistent up r) = omega (arith, args_fit r)

atom_fit : {g : Sig} {f : Form} {a b : List Word} (r : IsAtom g f a b) → Fit (atom_part_words r) a b
atom_fit (atom_true e) = omega arith
atom_fit (atom_false e) = omega arith
atom_fit (atom_action r p t) = omega (arith, length-append (fact_part_words r) (time_word t ∷ []), fact_fit r, time_shorter t)
atom_fit (atom_equal plain r s) = omega (arith, length-append (term_part_words r) (term_part_words s), term_fit r, term_fit s)
atom_fit atom_same = omega arith
atom_fit (atom_earlier plain r s) = omega (arith, time_shorter r, time_shorter s)

binders_fit : {vs : List Binder} {a b : List Word} (r : AreBinders vs a b) → Fit (binder_words r) a b
binders_fit (binders_last r) = omega (arith, binder_shorter r)
binders_fit (binders_more r s) = omega (arith, binder_shorter r, binders_fit s)

mutual
  un_fit : {g : Sig} {e : Reach} {f : Form} {n : ℕ} {a b : List Word} (r : IsUn g e f n a b) → Fit (un_words r) a b
  un_fit (un_atom r) = atom_fit r
  un_fit (un_not r) = omega (arith, un_fit r)
  un_fit (un_every r s) = omega (arith, length-append (binder_words r) (part_words s), binders_fit r, part_fit s)
  un_fit (un_exists r s) = omega (arith, length-append (binder_words r) (part_words s), binders_fit r, part_fit s)
  un_fit (un_parentheses r) = omega (arith, part_fit r)

  and_fit : {g : Sig} {e : Reach} {f : Form} {n : ℕ} {a b : List Word} (r : IsAnd g e f n a b) → Fit (and_words r) a b
  and_fit (and_one r) = un_fit r
  and_fit (and_more r s) = omega (arith, length-append (and_words r) (un_words s), and_fit r, un_fit s)

  or_fit : {g : Sig} {e : Reach} {f : Form} {n : ℕ} {a b : List Word} (r : IsOr g e f n a b) → Fit (or_words r) a b
  or_fit (or_one r) = and_fit r
  or_fit (or_more r s) = omega (arith, length-append (or_words r) (and_words s), or_fit r, and_fit s)

  imp_fit : {g : Sig} {e : Reach} {f : Form} {n : ℕ} {a b : List Word} (r : IsImp g e f n a b) → Fit (imp_words r) a b
  imp_fit (imp_one r) = or_fit r
  imp_fit (imp_more r s) = omega (arith, length-append (or_words r) (imp_words s), or_fit r, imp_fit s)

  pub part_fit : {g : Sig} {e : Reach} {f : Form} {n : ℕ} {a b : List Word} (r : IsIff g e f n a b) → Fit (part_words r) a b
  part_fit (iff_one r) = imp_fit r
  part_fit (iff_more r s) = omega (arith, length-append (imp_words r) (imp_words s), imp_fit r, imp_fit s)
