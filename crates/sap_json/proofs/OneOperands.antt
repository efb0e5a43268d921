-- Data are one thing's at most.
use Rattle.std.proofs.Common.{◌≡◌, ◌==◌, ℕ, Bool, true, false, List, [], ◌∷◌, map, Option, Some, None, refl, sym, ap, ap₂, subst, ◌∙◌, arith}
use Rattle.std.specs.Prelude.{if◌then◌else◌}
use Rattle.std.specs.Char.{is_ascii_alphabetic}
use Rattle.std.proofs.lemmas.Bool.{eqb-true}
use Rattle.serde_json.specs.Data.{Data, null, boolean, string, array, object, unsigned, Num}
use Rattle.serde_json.specs.Data as datum
use Rattle.sap_text.specs.declared.token.Kind.TheVariants as kind
use Rattle.sap_text.specs.Tokens.{IsToken, ident}
use Rattle.sap_terms.specs.declared.binding.Binding.{Binding}
use Rattle.sap_terms.specs.declared.var.Var.{Var}
use Rattle.sap_terms.specs.Tree.{Tree}
use Rattle.sap_terms.specs.View.{term, term-tree}
use Rattle.sap_run_lines.specs.RunTerms.{IsRunTerm}
use Rattle.sap_run_lines.specs.LineWords.{LineWord, identifier, number, fresh_name, public_name, bound}
use Rattle.sap_run_lines.specs.StepLines.{bound_word}
use Rattle.sap_run_lines.specs.WholeWords.{IsFreshName, IsPublicName, IsRunVariable}
use Rattle.sap_json.specs.declared.operands.Operands.{Operands}
use Rattle.sap_json.specs.declared.operands.Operands.TheVariants as op
use Rattle.sap_json.specs.Arrays.{Cell, one, many, AreEach, IsWordData, IsCellData}
use Rattle.sap_json.specs.code.Operands.{operand_cells, AreOperands}
use Rattle.sap_json.specs.code.Reading.{list_in, pair_in}
use Rattle.sap_json.proofs.Each.{list_back, one_each}

-- which word it is: an identifier, a number, a fresh name, a public name, a binding
abbrev class_of : LineWord → ℕ
class_of (identifier x) = 0
class_of (number n) = 1
class_of (fresh_name n) = 2
class_of (public_name s) = 3
class_of (bound v t) = 4

-- by the first byte of a string
abbrev text_class : List ℕ → ℕ
text_class [] = 5
text_class (b ∷ z) = if b == 126 then 2 else if b == 39 then 3 else 0

abbrev class_in : Data → ℕ
class_in null = 5
class_in (boolean b) = 5
class_in (datum.number n) = 1
class_in (string z) = text_class z
class_in (array is) = 4
class_in (object ms) = 5

no_letter : (b c : ℕ) → is_ascii_alphabetic b ≡ true → is_ascii_alphabetic c ≡ false → (b == c) ≡ false
no_letter b c l o = at (b == c) refl where
  at : (e : Bool) → (b == c) ≡ e → e ≡ false
  at false e = refl
  at true e = let same : b ≡ c = eqb-true b c e in absurd (cc)

token_class : (x : List ℕ) → IsToken kind.Ident x → text_class x ≡ 0
token_class _ (ident {b = b} {z = z} l all) = rw (no_letter b 126 l refl, no_letter b 39 l refl) refl

class_is : (w : LineWord) (d : Data) → IsWordData w d → class_in d ≡ class_of w
class_is (identifier x) d h = ap class_in h.1 ∙ token_class x h.0
class_is (number n) d h = ap class_in h.1
class_is (fresh_name n) d h = ap class_in h.2 ∙ ap text_class h.1.1
class_is (public_name s) d h = ap class_in h.2 ∙ ap text_class h.1.1
class_is (bound v t) d h = ap class_in h.4

same_class : (w u : LineWord) (d : Data) → IsWordData w d → IsWordData u d → class_of w ≡ class_of u
same_class w u d h k = sym (class_is w d h) ∙ class_is u d k

abbrev text_in : Data → List ℕ
text_in null = []
text_in (boolean b) = []
text_in (datum.number n) = []
text_in (string z) = z
text_in (array is) = []
text_in (object ms) = []

abbrev number_in : Data → ℕ
number_in (datum.number (unsigned n)) = n
number_in _ = 0

-- the words of arrays of numbers and of bindings
abbrev numbers_in : List LineWord → List ℕ
numbers_in [] = []
numbers_in (number n ∷ ws) = n ∷ numbers_in ws
numbers_in (w ∷ ws) = numbers_in ws

abbrev bounds_in : List LineWord → List Binding
bounds_in [] = []
bounds_in (bound v t ∷ ws) = record { var = v; term = term t } ∷ bounds_in ws
bounds_in (w ∷ ws) = bounds_in ws

numbers_back : (ns : List ℕ) → numbers_in (map number ns) ≡ ns
numbers_back [] = refl
numbers_back (n ∷ ns) = ap (λ l. n ∷ l) (numbers_back ns)

bounds_back : (bs : List Binding) → bounds_in (map bound_word bs) ≡ bs
bounds_back [] = refl
bounds_back (b ∷ bs) = ap₂ (λ (t : _) (l : List Binding). record { var = b.var; term = t } ∷ l) (term-tree b.term) (bounds_back bs)

-- what these items are behind the first word
abbrev operands_in : List Cell → Option Operands
operands_in (one (number n) ∷ []) = Some (op.Number n)
operands_in (one (number n) ∷ one (number m) ∷ []) = Some (op.Numbers n m)
operands_in (one (number n) ∷ one (fresh_name m) ∷ []) = Some (op.NumberAndFresh n m)
operands_in (one (fresh_name n) ∷ []) = Some (op.Fresh n)
operands_in (one (public_name s) ∷ []) = Some (op.Public s)
operands_in (one (identifier f) ∷ many ks ∷ []) = Some (op.Applied f (numbers_in ks))
operands_in (one (number n) ∷ many fs ∷ many bs ∷ []) = Some (op.Embedded n (numbers_in fs) (bounds_in bs))
operands_in (one (identifier f) ∷ many fs ∷ many bs ∷ []) = Some (op.Named f (numbers_in fs) (bounds_in bs))
operands_in _ = None

operands_back : (o : Operands) → operands_in (operand_cells o) ≡ Some o
operands_back (op.Number n) = refl
operands_back (op.Numbers n m) = refl
operands_back (op.NumberAndFresh n m) = refl
operands_back (op.Fresh n) = refl
operands_back (op.Public s) = refl
operands_back (op.Applied f ks) = ap (λ l. Some (op.Applied f l)) (numbers_back ks)
operands_back (op.Embedded n fs bs) = ap₂ (λ l m. Some (op.Embedded n l m)) (numbers_back fs) (bounds_back bs)
operands_back (op.Named f fs bs) = ap₂ (λ l m. Some (op.Named f l m)) (numbers_back fs) (bounds_back bs)

pub some_one : {A : Type 0} (x y : A) → Some x ≡ Some y → x ≡ y
some_one x y e = cc

module _ (one_term : (t u : Tree) (z : List ℕ) → IsRunTerm t z [] → IsRunTerm u z [] → t ≡ u)
    (one_fresh : (n m : ℕ) (z : List ℕ) → IsFreshName n z → IsFreshName m z → n ≡ m)
    (one_public : (s u : List ℕ) (z : List ℕ) → IsPublicName s z → IsPublicName u z → s ≡ u)
    (one_variable : (v w : Var) (z : List ℕ) → IsRunVariable v z → IsRunVariable w z → v ≡ w) where
  one_bound : (v w : Var) (t u : Tree) (d : Data) → IsWordData (bound v t) d → IsWordData (bound w u) d → bound v t ≡ bound w u
  one_bound v w t u d h k =
      let same : Some (h.0, h.1) ≡ Some (k.0, k.1) = sym (ap pair_in h.4) ∙ ap pair_in k.4 in
      let pairs : ◌≡◌ {A = List ℕ × List ℕ} (h.0, h.1) (k.0, k.1) = some_one _ _ same in
      let names : h.0 ≡ k.0 = ap (λ (p : List ℕ × List ℕ). p.0) pairs in
      let texts : h.1 ≡ k.1 = ap (λ (p : List ℕ × List ℕ). p.1) pairs in
      ap₂ bound (one_variable v w k.0 (subst (IsRunVariable v) names h.2) k.2) (one_term t u k.1 (subst (λ (z : List ℕ). IsRunTerm t z []) texts h.3.0) k.3.0)

  one_word : (w u : LineWord) (d : Data) → IsWordData w d → IsWordData u d → w ≡ u
  one_word (identifier x) (identifier y) d h k = ap identifier (sym (ap text_in h.1) ∙ ap text_in k.1)
  one_word (identifier x) (number m) d h k = absurd (omega (arith, same_class (identifier x) (number m) d h k))
  one_word (identifier x) (fresh_name m) d h k = absurd (omega (arith, same_class (identifier x) (fresh_name m) d h k))
  one_word (identifier x) (public_name r) d h k = absurd (omega (arith, same_class (identifier x) (public_name r) d h k))
  one_word (identifier x) (bound a b) d h k = absurd (omega (arith, same_class (identifier x) (bound a b) d h k))
  one_word (number n) (identifier y) d h k = absurd (omega (arith, same_class (number n) (identifier y) d h k))
  one_word (number n) (number m) d h k = ap number (sym (ap number_in h.1) ∙ ap number_in k.1)
  one_word (number n) (fresh_name m) d h k = absurd (omega (arith, same_class (number n) (fresh_name m) d h k))
  one_word (number n) (public_name r) d h k = absurd (omega (arith, same_class (number n) (public_name r) d h k))
  one_word (number n) (bound a b) d h k = absurd (omega (arith, same_class (number n) (bound a b) d h k))
  one_word (fresh_name n) (identifier y) d h k = absurd (omega (arith, same_class (fresh_name n) (identifier y) d h k))
  one_word (fresh_name n) (number m) d h k = absurd (omega (arith, same_class (fresh_name n) (number m) d h k))
  one_word (fresh_name n) (fresh_name m) d h k = ap fresh_name (one_fresh n m k.0 (subst (IsFreshName n) (sym (ap text_in h.2) ∙ ap text_in k.2) h.1) k.1)
  one_word (fresh_name n) (public_name r) d h k = absurd (omega (arith, same_class (fresh_name n) (public_name r) d h k))
  one_word (fresh_name n) (bound a b) d h k = absurd (omega (arith, same_class (fresh_name n) (bound a b) d h k))
  one_word (public_name s) (identifier y) d h k = absurd (omega (arith, same_class (public_name s) (identifier y) d h k))
  one_word (public_name s) (number m) d h k = absurd (omega (arith, same_class (public_name s) (number m) d h k))
  one_word (public_name s) (fresh_name m) d h k = absurd (omega (arith, same_class (public_name s) (fresh_name m) d h k))
  one_word (public_name s) (public_name r) d h k = ap public_name (one_public s r k.0 (subst (IsPublicName s) (sym (ap text_in h.2) ∙ ap text_in k.2) h.1) k.1)
  one_word (public_name s) (bound a b) d h k = absurd (omega (arith, same_class (public_name s) (bound a b) d h k))
  one_word (bound v t) (identifier y) d h k = absurd (omega (arith, same_class (bound v t) (identifier y) d h k))
  one_word (bound v t) (number m) d h k = absurd (omega (arith, same_class (bound v t) (number m) d h k))
  one_word (bound v t) (fresh_name m) d h k = absurd (omega (arith, same_class (bound v t) (fresh_name m) d h k))
  one_word (bound v t) (public_name r) d h k = absurd (omega (arith, same_class (bound v t) (public_name r) d h k))
  one_word (bound v t) (bound a b) d h k = one_bound v a t b d h k

  one_cell : (c b : Cell) (d : Data) → IsCellData c d → IsCellData b d → c ≡ b
  one_cell (one (identifier x)) (one (identifier y)) d h k = ap one (one_word (identifier x) (identifier y) d h k)
  one_cell (one (identifier x)) (one (number m)) d h k = ap one (one_word (identifier x) (number m) d h k)
  one_cell (one (identifier x)) (one (fresh_name m)) d h k = ap one (one_word (identifier x) (fresh_name m) d h k)
  one_cell (one (identifier x)) (one (public_name r)) d h k = ap one (one_word (identifier x) (public_name r) d h k)
  one_cell (one (identifier x)) (one (bound a b)) d h k = absurd k
  one_cell (one (number n)) (one (identifier y)) d h k = ap one (one_word (number n) (identifier y) d h k)
  one_cell (one (number n)) (one (number m)) d h k = ap one (one_word (number n) (number m) d h k)
  one_cell (one (number n)) (one (fresh_name m)) d h k = ap one (one_word (number n) (fresh_name m) d h k)
  one_cell (one (number n)) (one (public_name r)) d h k = ap one (one_word (number n) (public_name r) d h k)
  one_cell (one (number n)) (one (bound a b)) d h k = absurd k
  one_cell (one (fresh_name n)) (one (identifier y)) d h k = ap one (one_word (fresh_name n) (identifier y) d h k)
  one_cell (one (fresh_name n)) (one (number m)) d h k = ap one (one_word (fresh_name n) (number m) d h k)
  one_cell (one (fresh_name n)) (one (fresh_name m)) d h k = ap one (one_word (fresh_name n) (fresh_name m) d h k)
  one_cell (one (fresh_name n)) (one (public_name r)) d h k = ap one (one_word (fresh_name n) (public_name r) d h k)
  one_cell (one (fresh_name n)) (one (bound a b)) d h k = absurd k
  one_cell (one (public_name s)) (one (identifier y)) d h k = ap one (one_word (public_name s) (identifier y) d h k)
  one_cell (one (public_name s)) (one (number m)) d h k = ap one (one_word (public_name s) (number m) d h k)
  one_cell (one (public_name s)) (one (fresh_name m)) d h k = ap one (one_word (public_name s) (fresh_name m) d h k)
  one_cell (one (public_name s)) (one (public_name r)) d h k = ap one (one_word (public_name s) (public_name r) d h k)
  one_cell (one (public_name s)) (one (bound a b)) d h k = absurd k
  one_cell (one (bound v t)) (one (identifier y)) d h k = absurd h
  one_cell (one (bound v t)) (one (number m)) d h k = absurd h
  one_cell (one (bound v t)) (one (fresh_name m)) d h k = absurd h
  one_cell (one (bound v t)) (one (public_name r)) d h k = absurd h
  one_cell (one (bound v t)) (one (bound a b)) d h k = absurd h
  one_cell (one (identifier x)) (many us) d h k = absurd (omega (arith, sym (class_is (identifier x) d h) ∙ ap class_in k.1))
  one_cell (many us) (one (identifier x)) d h k = absurd (omega (arith, sym (class_is (identifier x) d k) ∙ ap class_in h.1))
  one_cell (one (number n)) (many us) d h k = absurd (omega (arith, sym (class_is (number n) d h) ∙ ap class_in k.1))
  one_cell (many us) (one (number n)) d h k = absurd (omega (arith, sym (class_is (number n) d k) ∙ ap class_in h.1))
  one_cell (one (fresh_name n)) (many us) d h k = absurd (omega (arith, sym (class_is (fresh_name n) d h) ∙ ap class_in k.1))
  one_cell (many us) (one (fresh_name n)) d h k = absurd (omega (arith, sym (class_is (fresh_name n) d k) ∙ ap class_in h.1))
  one_cell (one (public_name s)) (many us) d h k = absurd (omega (arith, sym (class_is (public_name s) d h) ∙ ap class_in k.1))
  one_cell (many us) (one (public_name s)) d h k = absurd (omega (arith, sym (class_is (public_name s) d k) ∙ ap class_in h.1))
  one_cell (one (bound v t)) (many us) d h k = absurd h
  one_cell (many us) (one (bound v t)) d h k = absurd k
  one_cell (many ws) (many us) d h k =
      let same : h.0 ≡ k.0 = sym (list_back h.0) ∙ some_one _ _ (sym (ap list_in h.1) ∙ ap list_in k.1) ∙ list_back k.0 in
      ap many (one_each IsWordData one_word ws us k.0 (subst (AreEach IsWordData ws) same h.2) k.2)

  pub one_operands : (o p : Operands) (ds : List Data) → AreOperands o ds → AreOperands p ds → o ≡ p
  one_operands o p ds h k =
      some_one o p (sym (operands_back o) ∙ ap operands_in (one_each IsCellData one_cell (operand_cells o) (operand_cells p) ds h.1 k.1) ∙ operands_back p)
