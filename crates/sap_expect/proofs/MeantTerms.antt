-- What the words of terms are that the table takes: n are the levels of what ended before them, k those of what ended last then.
use Rattle.std.proofs.Common.{◌≡◌, ◌≤◌, ◌+◌, ◌-◌, ℕ, zero, suc, true, List, ◌∷◌, Option, Some, None, refl, arith}
use Rattle.std.specs.Prelude.{codes, max}
use Rattle.sap_terms.specs.Signature.{Sig, arity_of}
use Rattle.sap_terms.specs.Tree.{Tree, level_count, trees_levels, trees_of}
use Rattle.sap_grammar.specs.Words.{Word, is_lower, mark, name}
use Rattle.sap_grammar.specs.TermGrammar.{IsArgs, IsConstant, IsList, IsRest, IsTerm, args_some, list_more, pair, rest_more, term_constant, term_message, term_symbol, term_tuple}

-- what has k levels has one, and at most m
abbrev pub IsBetween : ℕ → ℕ → Type 0
IsBetween m k = (1 ≤ k) × (k ≤ m)

-- a term of k levels, and of at most m
pub record SomeTerm (g : Sig) (m : ℕ) (a : List Word) (k : ℕ) (b : List Word) : Type 0 where
  pub tree : Tree
  pub is : IsTerm g tree a b
  pub levels : level_count tree ≡ k
  pub fits : IsBetween m k

-- terms with their closing parenthesis
pub record SomeArgs (g : Sig) (m : ℕ) (a : List Word) (k : ℕ) (b : List Word) : Type 0 where
  pub trees : List Tree
  pub are : IsArgs g trees a b
  pub levels : trees_levels (trees_of trees) ≡ k
  pub few : k ≤ m

-- behind the name of a symbol
abbrev pub IsBehindName : Sig → ℕ → List Word → ℕ → List Word → Type 0
IsBehindName g m a k b = (x : List ℕ) → is_lower x ≡ true → SomeTerm g m (name x ∷ a) k b

-- behind one of a list of terms, those up to it of n levels
pub record AreMoreTerms (g : Sig) (m n : ℕ) (a : List Word) (k : ℕ) (b : List Word) : Type 0 where
  pub trees : List Tree
  pub are : {t : Tree} {x : List Word} → IsTerm g t x a → IsList g (t ∷ trees) x b
  pub levels : max n (trees_levels (trees_of trees)) ≡ k
  pub fits : IsBetween m k

-- behind the first part of a tuple, of n levels
pub record IsBehindFirst (g : Sig) (m n : ℕ) (a : List Word) (k : ℕ) (b : List Word) : Type 0 where
  pub tree : Tree
  pub is : {t : Tree} {x : List Word} → IsTerm g t x a → IsTerm g (pair t tree) (mark (codes "<") ∷ x) b
  pub levels : max n (level_count tree) + 1 ≡ k
  pub fits : IsBetween m k

-- behind another, of n levels: what it is with those behind it
pub record AreMoreParts (g : Sig) (m n : ℕ) (a : List Word) (k : ℕ) (b : List Word) : Type 0 where
  pub tree : Tree → Tree
  pub are : {t : Tree} {x : List Word} → IsTerm g t x a → IsRest g (tree t) x b
  pub levels : (t : Tree) → level_count t ≡ n → level_count (tree t) ≡ k
  pub fits : IsBetween m k

-- any name is a term
pub name_term : {g : Sig} (x : List ℕ) {m : ℕ} {b : List Word} → 1 ≤ m → SomeTerm g m (name x ∷ b) 1 b
name_term {g = g} x {m = m} {b = b} le = by (arity_of g x) refl
  where
    by : (o : Option ℕ) → arity_of g x ≡ o → SomeTerm g m (name x ∷ b) 1 b
    by None e = record { tree = _; is = term_message (λ (c : IsConstant g x). absurd (cc (e, c))); levels = refl; fits = (omega arith, le) }
    by (Some zero) e = record { tree = _; is = term_constant e; levels = refl; fits = (omega arith, le) }
    by (Some (suc n)) e = record { tree = _; is = term_message (λ (c : IsConstant g x). absurd (cc (e, c))); levels = refl; fits = (omega arith, le) }

-- so is a symbol with terms behind it, which have fewer levels
pub symbol_term : {g : Sig} {x : List ℕ} {m k : ℕ} {a b : List Word} → is_lower x ≡ true → 1 ≤ m → SomeArgs g (m - 1) a k b → SomeTerm g m (name x ∷ mark (codes "(") ∷ a) (k + 1) b
symbol_term {m = m} {k = k} low le s =
    let few = s.few in
    let levels = s.levels in
    record { tree = _; is = term_symbol low s.are; levels = omega (arith, levels); fits = (omega arith, omega (arith, few, le)) }

pub tuple_term : {g : Sig} {m n k : ℕ} {a b c : List Word} → SomeTerm g m a n b → {m' : ℕ} → IsBehindFirst g m' n b k c → SomeTerm g m' (mark (codes "<") ∷ a) k c
tuple_term s h =
    let levels = h.levels in
    let first = s.levels in
    record { tree = _; is = h.is s.is; levels = omega (arith, levels, first); fits = h.fits }

pub more_parts : {g : Sig} {m n j i : ℕ} {a b c : List Word} → SomeTerm g m a j b → AreMoreParts g m j b i c → {m' : ℕ} → n ≤ m → m + 1 ≤ m' → AreMoreParts g m' n (mark (codes ",") ∷ a) (max n i + 1) c
more_parts {n = n} {i = i} s h {m' = m'} le lt =
    let rest = h.levels s.tree s.levels in
    let few = h.fits.1 in record {
      tree = λ t. pair t (h.tree s.tree);
      are = λ q. rest_more q (h.are s.is);
      levels = λ t e. omega (arith, rest, e);
      fits = (omega arith, omega (arith, few, le, lt));
    }

pub behind_first : {g : Sig} {m n j i : ℕ} {a b c : List Word} → SomeTerm g m a j b → AreMoreParts g m j b i c → {m' : ℕ} → n ≤ m → m + 1 ≤ m' → IsBehindFirst g m' n (mark (codes ",") ∷ a) (max n i + 1) c
behind_first {n = n} {i = i} s h {m' = m'} le lt =
    let rest = h.levels s.tree s.levels in
    let few = h.fits.1 in record {
      tree = h.tree s.tree;
      is = λ q. term_tuple q (h.are s.is);
      levels = omega (arith, rest);
      fits = (omega arith, omega (arith, few, le, lt));
    }

pub more_terms : {g : Sig} {m n j k : ℕ} {a b c : List Word} → SomeTerm g m a j b → AreMoreTerms g m (max n j) b k c → AreMoreTerms g m n (mark (codes ",") ∷ a) k c
more_terms s h =
    let levels = h.levels in
    let first = s.levels in
    record { trees = s.tree ∷ h.trees; are = λ q. list_more q (h.are s.is); levels = omega (arith, levels, first); fits = h.fits }

pub some_args : {g : Sig} {m j k : ℕ} {a b c : List Word} → SomeTerm g m a j b → AreMoreTerms g m j b k c → SomeArgs g m a k c
some_args s h =
    let levels = h.levels in
    let first = s.levels in
    record { trees = s.tree ∷ h.trees; are = args_some (h.are s.is); levels = omega (arith, levels, first); few = h.fits.1 }
