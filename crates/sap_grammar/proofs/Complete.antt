-- What is spelled so is read.
use Rattle.std.proofs.Common.{rules, ◌≡◌, ◌≤◌, ◌<◌, max, ℕ, zero, suc, false, List, length, Option, Some, None, refl, sym, ap, ◌∙◌, arith}
use Rattle.std.specs.Prelude.{codes, ◌==◌, if◌then◌else◌}
use Rattle.sap_terms.specs.declared.fact.Fact.{Fact}
use Rattle.sap_terms.specs.declared.var.Sort.TheVariants.{Msg}
use Rattle.sap_terms.specs.Tree.{Tree, variable, public, fresh, apply, none, trees_of, level_count, trees_levels}
use Rattle.sap_terms.specs.Signature.{Sig, arity_of}
use Rattle.sap_grammar.specs.Words.{Word, starts}
use Rattle.sap_grammar.specs.TermGrammar.{IsTerm, IsRest, IsList, IsArgs, IsConstant, sorted, args_none, args_some, list_last, list_more, rest_last, rest_more, term_constant, term_fresh, term_message, term_pub, term_quoted, term_symbol, term_tuple}
use Rattle.sap_grammar.specs.FactGrammar.{IsFact, fact_levels, fact_linear, fact_persistent}
use Rattle.sap_grammar.specs.Reading.{Read, after, given, list_of}
use Rattle.sap_grammar.specs.TermReading.{is_no_arity, plain, args, term, rest, fact_at}
use Rattle.sap_grammar.proofs.ReadingLaws.Ends.{term_shorter}

some_levels : (t : Tree) → 1 ≤ level_count t
some_levels (variable v) = omega arith
some_levels (public n) = omega arith
some_levels (fresh k) = omega arith
some_levels (apply f ts) = omega arith

-- no term begins with a closing parenthesis
term_begins : {g : Sig} {t : Tree} {a b : List Word} → IsTerm g t a b → starts (codes ")") a ≡ false
term_begins (term_constant is) = refl
term_begins (term_message is) = refl
term_begins term_fresh = refl
term_begins term_pub = refl
term_begins term_quoted = refl
term_begins (term_symbol low r) = refl
term_begins (term_tuple r s) = refl

list_begins : {g : Sig} {ts : List Tree} {a b : List Word} → IsList g ts a b → starts (codes ")") a ≡ false
list_begins (list_last r) = term_begins r
list_begins (list_more r s) = term_begins r

pub no_zero : (n : ℕ) → (suc n == 0) ≡ false
no_zero n = search rules

-- what an identifier without sign is read as
plain_constant : (g : Sig) (x : List ℕ) → IsConstant g x → plain g x ≡ apply x none
plain_constant g x is = go (arity_of g x) is
  where
    go : (o : Option ℕ) → o ≡ Some 0 → (if is_no_arity o then apply x none else sorted Msg x) ≡ apply x none
    go o e = rw e refl

plain_message : (g : Sig) (x : List ℕ) → (IsConstant g x → ⊥) → plain g x ≡ sorted Msg x
plain_message g x not_held = go (arity_of g x) not_held
  where
    go : (o : Option ℕ) → (o ≡ Some 0 → ⊥) → (if is_no_arity o then apply x none else sorted Msg x) ≡ sorted Msg x
    go None f = refl
    go (Some zero) f = absurd (f refl)
    go (Some (suc n)) f = rw (no_zero n) refl

mutual
  unfolding term rest after given

  pub term_read : {g : Sig} {t : Tree} {a b : List Word} → IsTerm g t a b → (d : ℕ) → level_count t ≤ d → starts (codes "(") b ≡ false → term g d a ≡ Some (t, b)
  term_read (term_constant is) zero le follows = absurd (omega (arith, le))
  term_read (term_message is) zero le follows = absurd (omega (arith, le))
  term_read term_fresh zero le follows = absurd (omega (arith, le))
  term_read term_pub zero le follows = absurd (omega (arith, le))
  term_read term_quoted zero le follows = absurd (omega (arith, le))
  term_read (term_symbol low r) zero le follows = absurd (omega (arith, le))
  term_read (term_tuple r s) zero le follows = absurd (omega (arith, le))
  term_read {g = g} (term_constant {x = x} {a = a} is) (suc d) le follows = rw follows (ap (λ (t : Tree). Some (t, a)) (plain_constant g x is))
  term_read {g = g} (term_message {x = x} {a = a} is) (suc d) le follows = rw follows (ap (λ (t : Tree). Some (t, a)) (plain_message g x is))
  term_read term_fresh (suc d) le follows = refl
  term_read term_pub (suc d) le follows = refl
  term_read term_quoted (suc d) le follows = refl
  term_read (term_symbol low r) (suc d) le follows = rw (low, args_read r d (omega (arith, le))) refl
  term_read (term_tuple r s) (suc d) le follows = rw (term_read r d (omega (arith, le)) refl, rest_read s d (omega (arith, le))) refl

  rest_read : {g : Sig} {t : Tree} {a b : List Word} → IsRest g t a b → (d : ℕ) → level_count t ≤ d → rest g d a ≡ Some (t, b)
  rest_read (rest_last {t = t} r) zero le = absurd (omega (arith, le, some_levels t))
  rest_read (rest_more r s) zero le = absurd (omega (arith, le))
  rest_read (rest_last r) (suc d) le = rw (term_read r (suc d) le refl) refl
  rest_read (rest_more r s) (suc d) le = rw (term_read r (suc d) (omega (arith, le)) refl, rest_read s d (omega (arith, le))) refl

  list_read : {g : Sig} {ts : List Tree} {a b : List Word} → IsList g ts a b → (d n : ℕ) → trees_levels (trees_of ts) ≤ d → length a ≤ n → list_of (codes ")") (term g d) n a ≡ Some (ts, b)
  list_read (list_last r) d zero le long = absurd (omega (arith, long, term_shorter r))
  list_read (list_more r s) d zero le long = absurd (omega (arith, long, term_shorter r))
  list_read (list_last r) d (suc n) le long = rw (term_read r d (omega (arith, le)) refl) refl
  list_read (list_more r s) d (suc n) le long =
      rw (term_read r d (omega (arith, le)) refl, list_read s d n (omega (arith, le)) (omega (arith, long, term_shorter r))) refl

  pub args_read : {g : Sig} {ts : List Tree} {a b : List Word} → IsArgs g ts a b → (d : ℕ) → trees_levels (trees_of ts) ≤ d → args (term g d) a ≡ Some (ts, b)
  args_read args_none d le = refl
  args_read (args_some {a = a} r) d le = rw (list_begins r) (list_read r d (length a) le (omega arith))

pub fact_read : {g : Sig} {f : Fact} {a b : List Word} → IsFact g f a b → (d : ℕ) → fact_levels f ≤ d → fact_at (term g d) a ≡ Some (f, b)
unfolding after given
fact_read (fact_linear up r) d le = rw (up, args_read r d le) refl
fact_read (fact_persistent up r) d le = rw (up, args_read r d le) refl

-- from one place words spell at most one term that no opening parenthesis follows
pub one_term : (g : Sig) (t u : Tree) (a b c : List Word) → IsTerm g t a b → IsTerm g u a c → starts (codes "(") b ≡ false → starts (codes "(") c ≡ false → (t ≡ u) × (b ≡ c)
one_term g t u a b c r s e f =
    let d = max (level_count t) (level_count u) in
    let same : ◌≡◌ {A = Read Tree} (Some (t, b)) (Some (u, c)) = sym (term_read r d (omega arith) e) ∙ term_read s d (omega arith) f in
    let both : ◌≡◌ {A = Tree × List Word} (t, b) (u, c) = cc in
    (ap (λ x. x.0) both, ap (λ x. x.1) both)

pub one_fact : (g : Sig) (f h : Fact) (a b c : List Word) → IsFact g f a b → IsFact g h a c → (f ≡ h) × (b ≡ c)
one_fact g f h a b c r s =
    let d = max (fact_levels f) (fact_levels h) in
    let same : ◌≡◌ {A = Read Fact} (Some (f, b)) (Some (h, c)) = sym (fact_read r d (omega arith)) ∙ fact_read s d (omega arith) in
    let both : ◌≡◌ {A = Fact × List Word} (f, b) (h, c) = cc in
    (ap (λ x. x.0) both, ap (λ x. x.1) both)
