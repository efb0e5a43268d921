-- A name that begins with no letter before parentheses: what the table takes in a formula, and the grammar doesn't.
use Rattle.std.proofs.Common.{◌≡◌, ◌||◌, ℕ, Bool, true, false, List, [], ◌∷◌, refl}
use Rattle.std.specs.Prelude.{codes}
use Rattle.sap_terms.specs.declared.fact.Fact.{Fact}
use Rattle.sap_terms.specs.Signature.{Sig}
use Rattle.sap_terms.specs.Tree.{Tree}
use Rattle.sap_formula.specs.Form.{Form}
use Rattle.sap_grammar.specs.declared.limits.Limits.{Limits}
use Rattle.sap_grammar.specs.Words.{Word, is_lower, is_mark, is_upper, mark, name, quoted, starts}
use Rattle.sap_grammar.specs.TermGrammar.{IsTerm, term_constant, term_fresh, term_message, term_pub, term_quoted, term_symbol, term_tuple}
use Rattle.sap_grammar.specs.FactGrammar.{IsFact, fact_linear, fact_persistent}
use Rattle.sap_formula_grammar.specs.FormulaGrammar.{IsAnd, IsAtom, IsIff, IsImp, IsOr, IsShortFormula, IsTime, IsUn, Reach, and_more, and_one, atom_action, atom_earlier, atom_equal, atom_false, atom_same, atom_true, iff_more, iff_one, imp_more, imp_one, or_more, or_one, time_plain, time_signed, un_atom, un_every, un_exists, un_not, un_parentheses}
use Rattle.sap_expect.specs.FileTable.{Reads, reads_end}
use Rattle.sap_expect.specs.Letters.{IsLettered}
use Rattle.sap_expect.specs.LevelExamples.{letterless, quoted_formula}
use Rattle.sap_expect.proofs.Reaching.{reach_goes}

-- where a parenthesis opens behind the first word, a name there begins with a letter
abbrev Begins : List Word → Type 0
Begins [] = Unit {0}
Begins (w ∷ []) = Unit {0}
Begins (w ∷ v ∷ ws) = is_mark (codes "(") v ≡ true → IsLettered w

by_mark : (m : List ℕ) (a : List Word) → Begins (mark m ∷ a)
by_mark m [] = tt
by_mark m (v ∷ a) = λ e. tt

by_quoted : (x : List ℕ) (a : List Word) → Begins (quoted x ∷ a)
by_quoted x [] = tt
by_quoted x (v ∷ a) = λ e. tt

by_free : (w : Word) (a : List Word) → starts (codes "(") a ≡ false → Begins (w ∷ a)
by_free w [] n = tt
by_free w (v ∷ a) n = λ e. absurd (cc (n, e))

by_letter : (x : List ℕ) (a : List Word) → (is_lower x || is_upper x) ≡ true → Begins (name x ∷ a)
by_letter x [] l = tt
by_letter x (v ∷ a) l = λ e. l

low : (x : List ℕ) → is_lower x ≡ true → (is_lower x || is_upper x) ≡ true
low x e = rw e refl

up : (x : List ℕ) → is_upper x ≡ true → (is_lower x || is_upper x) ≡ true
up x e = by (is_lower x)
  where
    by : (b : Bool) → (b || is_upper x) ≡ true
    by true = refl
    by false = e

term_begins : {g : Sig} {t : Tree} {a b : List Word} → IsTerm g t a b → starts (codes "(") b ≡ false → Begins a
term_begins (term_constant {x = x} {a = a} is) n = by_free (name x) a n
term_begins (term_message {x = x} {a = a} free) n = by_free (name x) a n
term_begins (term_fresh {x = x} {a = a}) n = by_mark (codes "~") (name x ∷ a)
term_begins (term_pub {x = x} {a = a}) n = by_mark (codes "$") (name x ∷ a)
term_begins (term_quoted {s = x} {a = a}) n = by_quoted x a
term_begins (term_symbol {f = x} {a = a} l s) n = by_letter x (mark (codes "(") ∷ a) (low x l)
term_begins (term_tuple {a = a} s q) n = by_mark (codes "<") a

fact_begins : {g : Sig} {f : Fact} {a b : List Word} → IsFact g f a b → Begins a
fact_begins (fact_linear {f = x} {a = a} u s) = by_letter x (mark (codes "(") ∷ a) (up x u)
fact_begins (fact_persistent {f = x} {a = a} u s) = by_mark (codes "!") (name x ∷ mark (codes "(") ∷ a)

time_begins : {i : List ℕ} {a b : List Word} → IsTime i a b → starts (codes "(") b ≡ false → Begins a
time_begins (time_signed {i = i} {a = a}) n = by_mark (codes "#") (name i ∷ a)
time_begins (time_plain {i = i} {a = a}) n = by_free (name i) a n

atom_begins : {g : Sig} {f : Form} {a b : List Word} → IsAtom g f a b → Begins a
atom_begins (atom_true {a = a} n) = by_free (name (codes "T")) a n
atom_begins (atom_false {a = a} n) = by_free (name (codes "F")) a n
atom_begins (atom_action s p t) = fact_begins s
atom_begins (atom_equal n s q) = term_begins s refl
atom_begins (atom_same {i = i} {j = j} {a = a}) = by_mark (codes "#") (name i ∷ mark (codes "=") ∷ mark (codes "#") ∷ name j ∷ a)
atom_begins (atom_earlier n s q) = time_begins s refl

un_begins : {g : Sig} {e : Reach} {f : Form} {n : ℕ} {a b : List Word} → IsUn g e f n a b → Begins a
un_begins (un_atom s) = atom_begins s
un_begins (un_not {a = a} s) = by_mark (codes "not") a
un_begins (un_every {a = a} s q) = by_mark (codes "All") a
un_begins (un_exists {a = a} s q) = by_mark (codes "Ex") a
un_begins (un_parentheses {a = a} s) = by_mark (codes "(") a

and_begins : {g : Sig} {e : Reach} {f : Form} {n : ℕ} {a b : List Word} → IsAnd g e f n a b → Begins a
and_begins (and_one s) = un_begins s
and_begins (and_more s q) = and_begins s

or_begins : {g : Sig} {e : Reach} {f : Form} {n : ℕ} {a b : List Word} → IsOr g e f n a b → Begins a
or_begins (or_one s) = and_begins s
or_begins (or_more s q) = or_begins s

imp_begins : {g : Sig} {e : Reach} {f : Form} {n : ℕ} {a b : List Word} → IsImp g e f n a b → Begins a
imp_begins (imp_one s) = or_begins s
imp_begins (imp_more s q) = or_begins s

iff_begins : {g : Sig} {e : Reach} {f : Form} {n : ℕ} {a b : List Word} → IsIff g e f n a b → Begins a
iff_begins (iff_one s) = imp_begins s
iff_begins (iff_more s q) = imp_begins s

pub letterless_follows : Reads 0 quoted_formula letterless
letterless_follows = (reach_goes (0, quoted_formula) letterless (1, []) refl).on [] reads_end

pub letterless_none : (g : Sig) (m : Limits) (f : Form) (b : List Word) → IsShortFormula g m f letterless b → ⊥
letterless_none g m f b s =
    let no : false ≡ true = iff_begins s.spelled refl in
    absurd (cc (no))
