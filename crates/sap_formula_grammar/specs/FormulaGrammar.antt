-- Which words spell a formula under a signature: the formula as written, the levels of its text, the words from its first on,
-- the words behind its last.
use Rattle.std.specs.Prelude.{◌≡◌, ◌≤◌, ℕ, ◌+◌, max, Bool, true, false, not, ◌&&◌, ◌||◌, codes, List, [], ◌∷◌, length, drop}
use Rattle.std.specs.Str.{bytes_eq}
use Rattle.sap_terms.specs.declared.fact.Fact.{Fact}
use Rattle.sap_terms.specs.declared.var.Sort.TheVariants.{Msg, Fresh, Pub}
use Rattle.sap_terms.specs.Tree.{Tree}
use Rattle.sap_terms.specs.Signature.{Sig}
use Rattle.sap_formula.specs.Form.{Form, truth, falsity, action, equal, same_time, earlier, negation, both, either, implies, equivalent, every, exists}
use Rattle.sap_formula.specs.declared.binder.Binder.{Binder}
use Rattle.sap_formula.specs.declared.binder.Binder.TheVariants.{Message, Time}
use Rattle.sap_grammar.specs.Words.{Word, mark, name, number, quoted, starts}
use Rattle.sap_grammar.specs.TermGrammar.{IsTerm}
use Rattle.sap_grammar.specs.FactGrammar.{IsFact}
use Rattle.sap_grammar.specs.Sizes.{AreSmall, IsSmall}
use Rattle.sap_grammar.specs.declared.limits.Limits.{Limits}
use Rattle.sap_terms.specs.declared.var.Sort.{Sort}
use Rattle.sap_terms.specs.declared.var.Var.{Var}

-- the variable of this name and sort
abbrev pub var : Sort → List ℕ → Var
var s x = record { name = x; sort = s }

-- the name of a truth value
abbrev pub is_truth_name : List ℕ → Bool
is_truth_name x = bytes_eq x (codes "T") || bytes_eq x (codes "F")

-- the word is such a name
abbrev pub is_truth : Word → Bool
is_truth (mark s) = false
is_truth (name s) = is_truth_name s
is_truth (number s) = false
is_truth (quoted s) = false

-- the name of a truth value stands first, and no opening parenthesis behind it
abbrev pub begins_truth : List Word → Bool
begins_truth [] = false
begins_truth (w ∷ ws) = not (starts (codes "(") ws) && is_truth w

-- a time variable, behind its sign or without one
pub data IsTime : List ℕ → List Word → List Word → Type 0 where
  time_signed : {i : List ℕ} {a : List Word} → IsTime i (mark (codes "#") ∷ name i ∷ a) a
  time_plain : {i : List ℕ} {a : List Word} → IsTime i (name i ∷ a) a

-- a formula without parts; one that begins with `T` or `F` and no parenthesis behind is a truth value
pub data IsAtom (g : Sig) : Form → List Word → List Word → Type 0 where
  atom_true : {a : List Word} → starts (codes "(") a ≡ false
      → IsAtom g truth (name (codes "T") ∷ a) a
  atom_false : {a : List Word} → starts (codes "(") a ≡ false
      → IsAtom g falsity (name (codes "F") ∷ a) a
  atom_action : {f : Fact} {i : List ℕ} {a b c : List Word} → IsFact g f a (mark (codes "@") ∷ b)
      → f.persistent ≡ false → IsTime i b c
      → IsAtom g (action f i) a c
  atom_equal : {t u : Tree} {a b c : List Word} → begins_truth a ≡ false
      → IsTerm g t a (mark (codes "=") ∷ b) → IsTerm g u b c
      → IsAtom g (equal t u) a c
  atom_same : {i j : List ℕ} {a : List Word}
      → IsAtom g (same_time i j)
      (mark (codes "#") ∷ name i ∷ mark (codes "=") ∷ mark (codes "#") ∷ name j ∷ a) a
  atom_earlier : {i j : List ℕ} {a b c : List Word} → begins_truth a ≡ false
      → IsTime i a (mark (codes "<") ∷ b) → IsTime j b c
      → IsAtom g (earlier i j) a c

-- a bound variable with its sign
pub data IsBinder : Binder → List Word → List Word → Type 0 where
  binds_message : {x : List ℕ} {a : List Word} → IsBinder (Message (var Msg x)) (name x ∷ a) a
  binds_fresh : {x : List ℕ} {a : List Word}
      → IsBinder (Message (var Fresh x)) (mark (codes "~") ∷ name x ∷ a) a
  binds_pub : {x : List ℕ} {a : List Word}
      → IsBinder (Message (var Pub x)) (mark (codes "$") ∷ name x ∷ a) a
  binds_time : {i : List ℕ} {a : List Word} → IsBinder (Time i) (mark (codes "#") ∷ name i ∷ a) a

-- bound variables, one or more, and the dot behind them
pub data AreBinders : List Binder → List Word → List Word → Type 0 where
  binders_last : {v : Binder} {a b : List Word} → IsBinder v a (mark (codes ".") ∷ b)
      → AreBinders (v ∷ []) a b
  binders_more : {v : Binder} {vs : List Binder} {a b c : List Word} → IsBinder v a b
      → AreBinders vs b c → AreBinders (v ∷ vs) a c

-- how the words of a formula end: in the body of a quantifier, which reaches as far as it can, or not
pub data Reach : Type 0 where
  closed : Reach
  reaching : Reach

mutual
  -- a formula that no connective without parentheses joins
  pub data IsUn (g : Sig) : Reach → Form → ℕ → List Word → List Word → Type 0 where
    un_atom : {f : Form} {a b : List Word} → IsAtom g f a b → IsUn g closed f 1 a b
    un_not : {e : Reach} {f : Form} {n : ℕ} {a b : List Word} → IsUn g e f n a b
        → IsUn g e (negation f) (n + 1) (mark (codes "not") ∷ a) b
    un_every : {e : Reach} {vs : List Binder} {f : Form} {n : ℕ} {a b c : List Word}
        → AreBinders vs a b → IsIff g e f n b c
        → IsUn g reaching (every vs f) (n + 1) (mark (codes "All") ∷ a) c
    un_exists : {e : Reach} {vs : List Binder} {f : Form} {n : ℕ} {a b c : List Word}
        → AreBinders vs a b → IsIff g e f n b c
        → IsUn g reaching (exists vs f) (n + 1) (mark (codes "Ex") ∷ a) c
    un_parentheses : {e : Reach} {f : Form} {n : ℕ} {a b : List Word}
        → IsIff g e f n a (mark (codes ")") ∷ b)
        → IsUn g closed f (n + 1) (mark (codes "(") ∷ a) b

  -- `&` groups to the left
  pub data IsAnd (g : Sig) : Reach → Form → ℕ → List Word → List Word → Type 0 where
    and_one : {e : Reach} {f : Form} {n : ℕ} {a b : List Word} → IsUn g e f n a b
        → IsAnd g e f n a b
    and_more : {e : Reach} {f h : Form} {n k : ℕ} {a b c : List Word}
        → IsAnd g closed f n a (mark (codes "&") ∷ b) → IsUn g e h k b c
        → IsAnd g e (both f h) (max n k + 1) a c

  -- so does `|`
  pub data IsOr (g : Sig) : Reach → Form → ℕ → List Word → List Word → Type 0 where
    or_one : {e : Reach} {f : Form} {n : ℕ} {a b : List Word} → IsAnd g e f n a b → IsOr g e f n a b
    or_more : {e : Reach} {f h : Form} {n k : ℕ} {a b c : List Word}
        → IsOr g closed f n a (mark (codes "|") ∷ b) → IsAnd g e h k b c
        → IsOr g e (either f h) (max n k + 1) a c

  -- `==>` groups to the right
  pub data IsImp (g : Sig) : Reach → Form → ℕ → List Word → List Word → Type 0 where
    imp_one : {e : Reach} {f : Form} {n : ℕ} {a b : List Word} → IsOr g e f n a b
        → IsImp g e f n a b
    imp_more : {e : Reach} {f h : Form} {n k : ℕ} {a b c : List Word}
        → IsOr g closed f n a (mark (codes "==>") ∷ b) → IsImp g e h k b c
        → IsImp g e (implies f h) (max n k + 1) a c

  -- a formula; `<=>` stands once at most
  pub data IsIff (g : Sig) : Reach → Form → ℕ → List Word → List Word → Type 0 where
    iff_one : {e : Reach} {f : Form} {n : ℕ} {a b : List Word} → IsImp g e f n a b
        → IsIff g e f n a b
    iff_more : {e : Reach} {f h : Form} {n k : ℕ} {a b c : List Word}
        → IsImp g closed f n a (mark (codes "<=>") ∷ b) → IsImp g e h k b c
        → IsIff g e (equivalent f h) (max n k + 1) a c

-- each of its terms is within the limits
abbrev pub IsSmallForm : Limits → Form → Type 0
IsSmallForm m truth = Unit {0}
IsSmallForm m falsity = Unit {0}
IsSmallForm m (action f i) = AreSmall m f.args
IsSmallForm m (equal t u) = IsSmall m t × IsSmall m u
IsSmallForm m (same_time i j) = Unit {0}
IsSmallForm m (earlier i j) = Unit {0}
IsSmallForm m (negation f) = IsSmallForm m f
IsSmallForm m (both f h) = IsSmallForm m f × IsSmallForm m h
IsSmallForm m (either f h) = IsSmallForm m f × IsSmallForm m h
IsSmallForm m (implies f h) = IsSmallForm m f × IsSmallForm m h
IsSmallForm m (equivalent f h) = IsSmallForm m f × IsSmallForm m h
IsSmallForm m (every vs f) = IsSmallForm m f
IsSmallForm m (exists vs f) = IsSmallForm m f

-- a formula within the limits: the levels of its text, and each of its terms
pub record IsShortFormula (g : Sig) (m : Limits) (f : Form) (a b : List Word) : Type 0 where
  pub reach : Reach
  pub levels : ℕ
  pub spelled : IsIff g reach f levels a b
  pub few_levels : levels ≤ m.formula_levels
  pub small : IsSmallForm m f

-- nothing goes on with a formula that ends here
pub record EndsFormula (b : List Word) : Type 0 where
  pub no_parenthesis : starts (codes "(") b ≡ false
  pub no_and : starts (codes "&") b ≡ false
  pub no_or : starts (codes "|") b ≡ false
  pub no_imp : starts (codes "==>") b ≡ false
  pub no_iff : starts (codes "<=>") b ≡ false

-- the words from number `at` up to the one before number e spell the formula within the limits, and word e is a closing quotation
-- mark
pub record IsFormulaAt (m : Limits) (g : Sig) (ws : List Word) (at : ℕ) (f : Form)
    (e : ℕ) : Type 0 where
  pub inside : e ≤ length ws
  pub short : IsShortFormula g m f (drop at ws) (drop e ws)
  pub ends : starts (codes "\"") (drop e ws) ≡ true
