-- What the words of formulas are that the table takes: n are the levels of what ended before them, k those of what ended last then.
use Rattle.std.proofs.Common.{◌≡◌, ◌≤◌, ◌+◌, ◌-◌, ℕ, Bool, true, false, List, ◌∷◌, refl, arith}
use Rattle.std.specs.Prelude.{codes, max, ◌&&◌}
use Rattle.sap_terms.specs.Signature.{Sig}
use Rattle.sap_terms.specs.Tree.{Tree}
use Rattle.sap_formula.specs.Form.{Form, equal, negation, both, either, implies, equivalent, every, exists}
use Rattle.sap_formula.specs.declared.binder.Binder.{Binder}
use Rattle.sap_grammar.specs.Sizes.{AreSmall}
use Rattle.sap_grammar.specs.Words.{Word, is_lower, is_upper, mark, name, starts}
use Rattle.sap_grammar.specs.TermGrammar.{IsArgs}
use Rattle.sap_grammar.specs.FactGrammar.{fact_linear}
use Rattle.sap_formula_grammar.specs.FormulaGrammar.{AreBinders, IsAnd, IsAtom, IsBinder, IsIff, IsImp, IsOr, IsSmallForm, IsTime, IsUn, Reach, and_more, and_one, atom_action, atom_equal, atom_false, atom_true, begins_truth, binders_last, binders_more, closed, iff_more, iff_one, imp_more, imp_one, is_truth, or_more, or_one, reaching, un_atom, un_every, un_exists, un_not, un_parentheses}
use Rattle.sap_draft.specs.declared.limits.TheConstants.{FILE_LIMITS}
use Rattle.sap_expect.proofs.MeantTerms.{IsBetween, SomeArgs, SomeTerm}
use Rattle.sap_expect.proofs.FactRows.{small_args, small_of}

-- no sign stands next that joins two formulas: no `&`; nor `|`; nor `==>`; nor `<=>`
abbrev pub NoAnd : List Word → Type 0
NoAnd b = starts (codes "&") b ≡ false

abbrev pub NoOr : List Word → Type 0
NoOr b = NoAnd b × (starts (codes "|") b ≡ false)

abbrev pub NoImp : List Word → Type 0
NoImp b = NoOr b × (starts (codes "==>") b ≡ false)

abbrev pub NoIff : List Word → Type 0
NoIff b = NoImp b × (starts (codes "<=>") b ≡ false)

-- no sign joins what stands behind the body of a quantifier, which would have gone on with it
abbrev pub EndsSo : Reach → List Word → Type 0
EndsSo closed b = Unit {0}
EndsSo reaching b = NoIff b

-- a kind of formulas: those that no connective joins; those that `&` may join; and so on
abbrev pub KindOf : Type 1
KindOf = Reach → Form → ℕ → List Word → List Word → Type 0

-- one of k levels
pub record Some (R : KindOf) (a : List Word) (k : ℕ) (b : List Word) : Type 0 where
  pub reach : Reach
  pub form : Form
  pub is : R reach form k a b
  pub small : IsSmallForm FILE_LIMITS form
  pub ends : EndsSo reach b

-- of at most m, with no sign behind that would go on with it
abbrev pub Whole : KindOf → (List Word → Type 0) → ℕ → List Word → ℕ → List Word → Type 0
Whole R No m a k b = Some R a k b × IsBetween m k × No b

-- what goes on with one of n levels
abbrev pub GoesOn : KindOf → KindOf → (List Word → Type 0) → ℕ → ℕ → List Word → ℕ → List Word → Type 0
GoesOn R S No m n a k b = ((x : List Word) → Some R x n a → Some S x k b) × IsBetween m k × No b

-- a whole one of what begins it and what goes on with it
pub whole_of : (No : List Word → Type 0) {R S : KindOf} {m j k : ℕ} {a b c : List Word} → Some R a j b → GoesOn R S No m j b k c → Whole S No m a k c
whole_of No s h = (h.0 _ s, h.1, h.2)

-- nothing goes on with it
pub and_alone : {g : Sig} {m n : ℕ} {a : List Word} → IsBetween m n → NoAnd a → GoesOn (IsAnd g) (IsAnd g) NoAnd m n a n a
and_alone i free = (λ x s. s, i, free)

pub or_alone : {g : Sig} {m n : ℕ} {a : List Word} → IsBetween m n → NoOr a → GoesOn (IsOr g) (IsOr g) NoOr m n a n a
or_alone i free = (λ x s. s, i, free)

pub imp_alone : {g : Sig} {m n : ℕ} {a : List Word} → IsBetween m n → NoImp a → GoesOn (IsOr g) (IsImp g) NoImp m n a n a
imp_alone i free = (λ x s. record { reach = s.reach; form = s.form; is = imp_one s.is; small = s.small; ends = s.ends }, i, free)

pub iff_alone : {g : Sig} {m n : ℕ} {a : List Word} → IsBetween m n → NoIff a → GoesOn (IsImp g) (IsIff g) NoIff m n a n a
iff_alone i free = (λ x s. record { reach = s.reach; form = s.form; is = iff_one s.is; small = s.small; ends = s.ends }, i, free)

pub one_and : {g : Sig} {a : List Word} {k : ℕ} {b : List Word} → Some (IsUn g) a k b → Some (IsAnd g) a k b
one_and s = record { reach = s.reach; form = s.form; is = and_one s.is; small = s.small; ends = s.ends }

pub one_or : {g : Sig} {a : List Word} {k : ℕ} {b : List Word} → Some (IsAnd g) a k b → Some (IsOr g) a k b
one_or s = record { reach = s.reach; form = s.form; is = or_one s.is; small = s.small; ends = s.ends }

-- a sign joins two
with_and : {g : Sig} {n j : ℕ} {x b c : List Word} → Some (IsAnd g) x n (mark (codes "&") ∷ b) → Some (IsUn g) b j c → Some (IsAnd g) x (max n j + 1) c
with_and {g = g} {n = n} {j = j} {x = x} {b = b} {c = c} l s = by l.reach l.is l.ends
  where
    by : (e : Reach) → IsAnd g e l.form n x (mark (codes "&") ∷ b) → EndsSo e (mark (codes "&") ∷ b) → Some (IsAnd g) x (max n j + 1) c
    by closed is ends = record { reach = s.reach; form = both l.form s.form; is = and_more is s.is; small = (l.small, s.small); ends = s.ends }
    by reaching is ends = absurd (true_false ends.0.0.0)
      where
        true_false : true ≡ false → ⊥
        true_false e = absurd (cc)

with_or : {g : Sig} {n j : ℕ} {x b c : List Word} → Some (IsOr g) x n (mark (codes "|") ∷ b) → Some (IsAnd g) b j c → Some (IsOr g) x (max n j + 1) c
with_or {g = g} {n = n} {j = j} {x = x} {b = b} {c = c} l s = by l.reach l.is l.ends
  where
    by : (e : Reach) → IsOr g e l.form n x (mark (codes "|") ∷ b) → EndsSo e (mark (codes "|") ∷ b) → Some (IsOr g) x (max n j + 1) c
    by closed is ends = record { reach = s.reach; form = either l.form s.form; is = or_more is s.is; small = (l.small, s.small); ends = s.ends }
    by reaching is ends = absurd (true_false ends.0.0.1)
      where
        true_false : true ≡ false → ⊥
        true_false e = absurd (cc)

with_imp : {g : Sig} {n j : ℕ} {x b c : List Word} → Some (IsOr g) x n (mark (codes "==>") ∷ b) → Some (IsImp g) b j c → Some (IsImp g) x (max n j + 1) c
with_imp {g = g} {n = n} {j = j} {x = x} {b = b} {c = c} l s = by l.reach l.is l.ends
  where
    by : (e : Reach) → IsOr g e l.form n x (mark (codes "==>") ∷ b) → EndsSo e (mark (codes "==>") ∷ b) → Some (IsImp g) x (max n j + 1) c
    by closed is ends = record { reach = s.reach; form = implies l.form s.form; is = imp_more is s.is; small = (l.small, s.small); ends = s.ends }
    by reaching is ends = absurd (true_false ends.0.1)
      where
        true_false : true ≡ false → ⊥
        true_false e = absurd (cc)

with_iff : {g : Sig} {n j : ℕ} {x b c : List Word} → Some (IsImp g) x n (mark (codes "<=>") ∷ b) → Some (IsImp g) b j c → Some (IsIff g) x (max n j + 1) c
with_iff {g = g} {n = n} {j = j} {x = x} {b = b} {c = c} l s = by l.reach l.is l.ends
  where
    by : (e : Reach) → IsImp g e l.form n x (mark (codes "<=>") ∷ b) → EndsSo e (mark (codes "<=>") ∷ b) → Some (IsIff g) x (max n j + 1) c
    by closed is ends = record { reach = s.reach; form = equivalent l.form s.form; is = iff_more is s.is; small = (l.small, s.small); ends = s.ends }
    by reaching is ends = absurd (true_false ends.1)
      where
        true_false : true ≡ false → ⊥
        true_false e = absurd (cc)

pub and_next : {g : Sig} {m n j k : ℕ} {b c d : List Word} → Some (IsUn g) b j c → GoesOn (IsAnd g) (IsAnd g) NoAnd m (max n j + 1) c k d → GoesOn (IsAnd g) (IsAnd g) NoAnd m n (mark (codes "&") ∷ b) k d
and_next s h = (λ x l. h.0 x (with_and l s), h.1, h.2)

pub or_next : {g : Sig} {m n j k : ℕ} {b c d : List Word} → Some (IsAnd g) b j c → GoesOn (IsOr g) (IsOr g) NoOr m (max n j + 1) c k d → GoesOn (IsOr g) (IsOr g) NoOr m n (mark (codes "|") ∷ b) k d
or_next s h = (λ x l. h.0 x (with_or l s), h.1, h.2)

pub imp_next : {g : Sig} {m n j : ℕ} {b c : List Word} → Whole (IsImp g) NoImp (m - 1) b j c → n + 1 ≤ m → GoesOn (IsOr g) (IsImp g) NoImp m n (mark (codes "==>") ∷ b) (max n j + 1) c
imp_next h le =
    let few = h.1.1 in
    (λ x l. with_imp l h.0, (omega arith, omega (arith, few, le)), h.2)

pub iff_next : {g : Sig} {m n j : ℕ} {b c : List Word} → Whole (IsImp g) NoImp (m - 1) b j c → NoIff c → n + 1 ≤ m → GoesOn (IsImp g) (IsIff g) NoIff m n (mark (codes "<=>") ∷ b) (max n j + 1) c
iff_next h free le =
    let few = h.1.1 in
    (λ x l. with_iff l h.0, (omega arith, omega (arith, few, le)), free)

-- nothing goes on with the second side of an equivalence
pub data IsEnded (n : ℕ) (a : List Word) : ℕ → List Word → Type 0 where
  ended : NoIff a → IsEnded n a n a

abbrev pub SomeBinders : List Word → List Word → Type 0
SomeBinders a b = (vs : List Binder) × AreBinders vs a b

pub data AreMoreBinders : List Word → List Word → Type 0 where
  binders_end : {a : List Word} → AreMoreBinders (mark (codes ".") ∷ a) a
  binders_next : {vs : List Binder} {a b : List Word} → AreBinders vs a b → AreMoreBinders a b

pub binders_of : {v : Binder} {a b c : List Word} → IsBinder v a b → AreMoreBinders b c → SomeBinders a c
binders_of s binders_end = (_, binders_last s)
binders_of s (binders_next q) = (_, binders_more s q)

-- `not`, a quantifier, parentheses before one of fewer levels
pub not_of : {g : Sig} {a : List Word} {k : ℕ} {b : List Word} → Some (IsUn g) a k b → Some (IsUn g) (mark (codes "not") ∷ a) (k + 1) b
not_of s = record { reach = s.reach; form = negation s.form; is = un_not s.is; small = s.small; ends = s.ends }

pub every_of : {g : Sig} {m : ℕ} {vs : List Binder} {a b : List Word} {k : ℕ} {c : List Word} → AreBinders vs a b → Whole (IsIff g) NoIff m b k c → Some (IsUn g) (mark (codes "All") ∷ a) (k + 1) c
every_of {vs = vs} v h = record { reach = reaching; form = every vs h.0.form; is = un_every v h.0.is; small = h.0.small; ends = h.2 }

pub exists_of : {g : Sig} {m : ℕ} {vs : List Binder} {a b : List Word} {k : ℕ} {c : List Word} → AreBinders vs a b → Whole (IsIff g) NoIff m b k c → Some (IsUn g) (mark (codes "Ex") ∷ a) (k + 1) c
exists_of {vs = vs} v h = record { reach = reaching; form = exists vs h.0.form; is = un_exists v h.0.is; small = h.0.small; ends = h.2 }

pub group_of : {g : Sig} {a : List Word} {k : ℕ} {b : List Word} → Some (IsIff g) a k (mark (codes ")") ∷ b) → Some (IsUn g) (mark (codes "(") ∷ a) (k + 1) b
group_of s = record { reach = closed; form = s.form; is = un_parentheses s.is; small = s.small; ends = tt }

abbrev pub SomeTime : List Word → List Word → Type 0
SomeTime a b = (i : List ℕ) × IsTime i a b

abbrev pub SomeAtom : Sig → List Word → List Word → Type 0
SomeAtom g a b = (f : Form) × IsAtom g f a b × IsSmallForm FILE_LIMITS f

pub atom_of : {g : Sig} {a b : List Word} → SomeAtom g a b → Some (IsUn g) a 1 b
atom_of s = record { reach = closed; form = s.0; is = un_atom s.1; small = s.2; ends = tt }

-- behind `T` or `F`
pub data IsBehindTruth (g : Sig) : List Word → ℕ → List Word → Type 0 where
  truth_alone : {a : List Word} → starts (codes "(") a ≡ false → IsBehindTruth g a 1 a
  truth_fact : {ts : List Tree} {i : List ℕ} {a b c : List Word} → IsArgs g ts a (mark (codes "@") ∷ b) → AreSmall FILE_LIMITS ts → IsTime i b c → IsBehindTruth g (mark (codes "(") ∷ a) 1 c

pub true_of : {g : Sig} {m : ℕ} {a : List Word} {k : ℕ} {b : List Word} → 1 ≤ m → IsBehindTruth g a k b → Some (IsUn g) (name (codes "T") ∷ a) k b × IsBetween m k
true_of le (truth_alone n) = (atom_of (_, atom_true n, tt), (omega arith, le))
true_of le (truth_fact s q t) = (atom_of (_, atom_action (fact_linear refl s) refl t, q), (omega arith, le))

pub false_of : {g : Sig} {m : ℕ} {a : List Word} {k : ℕ} {b : List Word} → 1 ≤ m → IsBehindTruth g a k b → Some (IsUn g) (name (codes "F") ∷ a) k b × IsBetween m k
false_of le (truth_alone n) = (atom_of (_, atom_false n, tt), (omega arith, le))
false_of le (truth_fact s q t) = (atom_of (_, atom_action (fact_linear refl s) refl t, q), (omega arith, le))

pub no_truth : (b c : Bool) → c ≡ false → (b && c) ≡ false
no_truth true c e = e
no_truth false c e = refl

-- an equation of terms within a file's limits
pub equal_atom : {g : Sig} {m m' i j : ℕ} {a b c : List Word} → m ≤ FILE_LIMITS.term_levels → m' ≤ FILE_LIMITS.term_levels → begins_truth a ≡ false
    → SomeTerm g m a i (mark (codes "=") ∷ b) → SomeTerm g m' b j c → SomeAtom g a c
equal_atom le le' n s q =
    let t = small_of s le in
    let u = small_of q le' in
    (equal t.0 u.0, atom_equal n t.1.spelled u.1.spelled, (t.1.small, u.1.small))

pub action_atom : {g : Sig} {x i : List ℕ} {m k : ℕ} {a b c : List Word} → m ≤ FILE_LIMITS.term_levels → is_upper x ≡ true → SomeArgs g m a k (mark (codes "@") ∷ b) → IsTime i b c
    → SomeAtom g (name x ∷ mark (codes "(") ∷ a) c
action_atom le up s t = (_, atom_action (fact_linear up s.are) refl t, small_args s le)

-- behind a name that begins with a capital; behind any other
abbrev pub IsBehindUpper : Sig → List Word → List Word → Type 0
IsBehindUpper g a b = (x : List ℕ) → is_upper x ≡ true → is_truth (name x) ≡ false → SomeAtom g (name x ∷ a) b

abbrev pub IsBehindLower : Sig → List Word → List Word → Type 0
IsBehindLower g a b = (x : List ℕ) → is_lower x ≡ true → is_truth (name x) ≡ false → SomeAtom g (name x ∷ a) b

-- behind a time variable with its sign
abbrev pub IsBehindTime : Sig → List Word → List Word → Type 0
IsBehindTime g a b = (i : List ℕ) → SomeAtom g (mark (codes "#") ∷ name i ∷ a) b
