-- What words spell a formula they spell it before any others that don't go on with it.
use Rattle.std.proofs.Common.{◌≡◌, ℕ, Bool, true, false, List, [], ◌∷◌, ◌++◌, append_assoc, refl, sym, ap, subst, ◌∙◌}
use Rattle.std.specs.Prelude.{codes, not, ◌&&◌}
use Rattle.sap_terms.specs.Signature.{Sig}
use Rattle.sap_formula.specs.Form.{Form}
use Rattle.sap_formula.specs.declared.binder.Binder.{Binder}
use Rattle.sap_grammar.specs.declared.limits.Limits.{Limits}
use Rattle.sap_grammar.specs.Words.{Word, mark, name, starts}
use Rattle.sap_formula_grammar.specs.FormulaGrammar.{AreBinders, IsAnd, IsAtom, IsBinder, IsIff, IsImp, IsOr, IsShortFormula, IsTime, IsUn, Reach, and_more, and_one, atom_action, atom_earlier, atom_equal, atom_false, atom_same, atom_true, begins_truth, binders_last, binders_more, binds_fresh, binds_message, binds_pub, binds_time, iff_more, iff_one, imp_more, imp_one, or_more, or_one, time_plain, time_signed, un_atom, un_every, un_exists, un_not, un_parentheses}
use Rattle.sap_expect.proofs.Fronts.{Before, Both, Front, Spelling, alone, before, both, fact_front, front, term_front}

-- words up to those behind, that spell the same before any others that begin with no parenthesis
pub record FrontOf (X : Spelling) (a b : List Word) : Type 0 where
  pub words : List Word
  pub is : a ≡ words ++ b
  pub all : (c : List Word) → starts (codes "(") c ≡ false → X (words ++ c) c

of_front : {X : Spelling} {a b : List Word} → Front X a b → FrontOf X a b
of_front f = record { words = f.words; is = f.is; all = λ c o. f.all c }

alone_of : {Y : Spelling} {a : List Word} (ps : List Word) → ((c : List Word) → starts (codes "(") c ≡ false → Y (ps ++ c) c) → FrontOf Y (ps ++ a) a
alone_of ps g = record { words = ps; is = refl; all = g }

front_of : {X Y : Spelling} {a b : List Word} (ps : List Word) → FrontOf X a b → ((c d : List Word) → X c d → Y (ps ++ c) d) → FrontOf Y (ps ++ a) b
front_of {Y = Y} {b = b} ps f g = record {
  words = ps ++ f.words;
  is = ap (λ (x : List Word). ps ++ x) f.is ∙ sym (append_assoc ps f.words b);
  all = λ c o. subst (λ (x : List Word). Y x c) (sym (append_assoc ps f.words c)) (g (f.words ++ c) c (f.all c o));
}

-- with a sign behind that is no parenthesis
before_sign : {X : Spelling} {a b : List Word} (w : Word) → ((c : List Word) → starts (codes "(") (w ∷ c) ≡ false) → FrontOf X a (w ∷ b) → Front (Before X w) a b
before_sign {X = X} {b = b} w o f = record {
  words = f.words ++ (w ∷ []);
  is = f.is ∙ sym (append_assoc f.words (w ∷ []) b);
  all = λ c. subst (λ (x : List Word). X x (w ∷ c)) (sym (append_assoc f.words (w ∷ []) c)) (f.all (w ∷ c) (o c));
}

both_of : {X Y : Spelling} {a b c : List Word} → Front X a b → FrontOf Y b c → FrontOf (Both X Y) a c
both_of {X = X} {c = c} x y = record {
  words = x.words ++ y.words;
  is = x.is ∙ (ap (λ (v : List Word). x.words ++ v) y.is ∙ sym (append_assoc x.words y.words c));
  all = λ d o. (y.words ++ d, subst (λ (v : List Word). X v (y.words ++ d)) (sym (append_assoc x.words y.words d)) (x.all (y.words ++ d)), y.all d o);
}

time_front : {i : List ℕ} {a b : List Word} → IsTime i a b → Front (IsTime i) a b
time_front (time_signed {i = i}) = alone (mark (codes "#") ∷ name i ∷ []) (λ c. time_signed)
time_front (time_plain {i = i}) = alone (name i ∷ []) (λ c. time_plain)

binder_front : {v : Binder} {a b : List Word} → IsBinder v a b → Front (IsBinder v) a b
binder_front (binds_message {x = x}) = alone (name x ∷ []) (λ c. binds_message)
binder_front (binds_fresh {x = x}) = alone (mark (codes "~") ∷ name x ∷ []) (λ c. binds_fresh)
binder_front (binds_pub {x = x}) = alone (mark (codes "$") ∷ name x ∷ []) (λ c. binds_pub)
binder_front (binds_time {i = i}) = alone (mark (codes "#") ∷ name i ∷ []) (λ c. binds_time)

binders_front : {vs : List Binder} {a b : List Word} → AreBinders vs a b → Front (AreBinders vs) a b
binders_front (binders_last s) = front [] (before (mark (codes ".")) (binder_front s)) (λ c d p. binders_last p)
binders_front (binders_more s q) = front [] (both (binder_front s) (binders_front q)) (λ c d p. binders_more p.1 p.2)

-- whether words before a sign begin with a truth value they say without what is behind the sign
and_false : (b : Bool) → (b && false) ≡ false
and_false true = refl
and_false false = refl

same_begin : (u : List Word) (m : List ℕ) (v z : List Word) → begins_truth (u ++ (mark m ∷ v)) ≡ false → begins_truth (u ++ (mark m ∷ z)) ≡ false
same_begin [] m v z e = and_false (not (starts (codes "(") z))
same_begin (w ∷ []) m v z e = e
same_begin (w ∷ x ∷ u) m v z e = e

-- two parts with a sign between them, whose words begin with no truth value
parted_front : {X Y Z : Spelling} {a b c : List Word} (m : List ℕ) → begins_truth a ≡ false → Front X a (mark m ∷ b) → Front Y b c
    → ((d e f : List Word) → begins_truth d ≡ false → X d (mark m ∷ e) → Y e f → Z d f) → Front Z a c
parted_front {X = X} {Z = Z} {a = a} {b = b} {c = c} m e x y g = record {
  words = x.words ++ (mark m ∷ y.words);
  is = x.is ∙ (ap (λ (v : List Word). x.words ++ (mark m ∷ v)) y.is ∙ sym (append_assoc x.words (mark m ∷ y.words) c));
  all = λ d.
      subst (λ (v : List Word). Z v d) (sym (append_assoc x.words (mark m ∷ y.words) d))
      (g (x.words ++ (mark m ∷ (y.words ++ d))) (y.words ++ d) d (same_begin x.words m b (y.words ++ d) (subst (λ (v : List Word). begins_truth v ≡ false) x.is e)) (x.all (mark m ∷ (y.words ++ d))) (y.all d));
}

atom_front : {g : Sig} {f : Form} {a b : List Word} → IsAtom g f a b → FrontOf (IsAtom g f) a b
atom_front (atom_true e) = alone_of (name (codes "T") ∷ []) (λ c o. atom_true o)
atom_front (atom_false e) = alone_of (name (codes "F") ∷ []) (λ c o. atom_false o)
atom_front (atom_action s e t) = of_front (front [] (both (before (mark (codes "@")) (fact_front s)) (time_front t)) (λ c d p. atom_action p.1 e p.2))
atom_front (atom_equal e s q) = of_front (parted_front (codes "=") e (term_front s) (term_front q) (λ d e f o x y. atom_equal o x y))
atom_front (atom_same {i = i} {j = j}) = of_front (alone (mark (codes "#") ∷ name i ∷ mark (codes "=") ∷ mark (codes "#") ∷ name j ∷ []) (λ c. atom_same))
atom_front (atom_earlier e s q) = of_front (parted_front (codes "<") e (time_front s) (time_front q) (λ d e f o x y. atom_earlier o x y))

mutual
  un_front : {g : Sig} {e : Reach} {f : Form} {k : ℕ} {a b : List Word} → IsUn g e f k a b → FrontOf (IsUn g e f k) a b
  un_front (un_atom s) = front_of [] (atom_front s) (λ c d p. un_atom p)
  un_front (un_not s) = front_of (mark (codes "not") ∷ []) (un_front s) (λ c d p. un_not p)
  un_front (un_every s q) = front_of (mark (codes "All") ∷ []) (both_of (binders_front s) (iff_front q)) (λ c d p. un_every p.1 p.2)
  un_front (un_exists s q) = front_of (mark (codes "Ex") ∷ []) (both_of (binders_front s) (iff_front q)) (λ c d p. un_exists p.1 p.2)
  un_front (un_parentheses s) = of_front (front (mark (codes "(") ∷ []) (before_sign (mark (codes ")")) (λ c. refl) (iff_front s)) (λ c d p. un_parentheses p))

  and_front : {g : Sig} {e : Reach} {f : Form} {k : ℕ} {a b : List Word} → IsAnd g e f k a b → FrontOf (IsAnd g e f k) a b
  and_front (and_one s) = front_of [] (un_front s) (λ c d p. and_one p)
  and_front (and_more s q) = front_of [] (both_of (before_sign (mark (codes "&")) (λ c. refl) (and_front s)) (un_front q)) (λ c d p. and_more p.1 p.2)

  or_front : {g : Sig} {e : Reach} {f : Form} {k : ℕ} {a b : List Word} → IsOr g e f k a b → FrontOf (IsOr g e f k) a b
  or_front (or_one s) = front_of [] (and_front s) (λ c d p. or_one p)
  or_front (or_more s q) = front_of [] (both_of (before_sign (mark (codes "|")) (λ c. refl) (or_front s)) (and_front q)) (λ c d p. or_more p.1 p.2)

  imp_front : {g : Sig} {e : Reach} {f : Form} {k : ℕ} {a b : List Word} → IsImp g e f k a b → FrontOf (IsImp g e f k) a b
  imp_front (imp_one s) = front_of [] (or_front s) (λ c d p. imp_one p)
  imp_front (imp_more s q) = front_of [] (both_of (before_sign (mark (codes "==>")) (λ c. refl) (or_front s)) (imp_front q)) (λ c d p. imp_more p.1 p.2)

  iff_front : {g : Sig} {e : Reach} {f : Form} {k : ℕ} {a b : List Word} → IsIff g e f k a b → FrontOf (IsIff g e f k) a b
  iff_front (iff_one s) = front_of [] (imp_front s) (λ c d p. iff_one p)
  iff_front (iff_more s q) = front_of [] (both_of (before_sign (mark (codes "<=>")) (λ c. refl) (imp_front s)) (imp_front q)) (λ c d p. iff_more p.1 p.2)

-- a formula up to its closing quotation mark
pub quoted_front : {g : Sig} {m : Limits} {f : Form} {a b : List Word} → IsShortFormula g m f a (mark (codes "\"") ∷ b) → Front (Before (IsShortFormula g m f) (mark (codes "\""))) a b
quoted_front {g = g} {m = m} {f = f} s =
    before_sign {X = IsShortFormula g m f} (mark (codes "\"")) (λ c. refl)
    (front_of [] (iff_front s.spelled) (λ c d p. record { reach = s.reach; levels = s.levels; spelled = p; few_levels = s.few_levels; small = s.small }))
