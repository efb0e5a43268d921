-- Rows of the table for facts, backwards; terms, facts and lists of terms within a file's limits.
use Rattle.std.proofs.Common.{◌≡◌, ◌≤◌, ℕ, Bool, true, false, inl, inr, List, [], ◌∷◌, refl, arith}
use Rattle.std.specs.Prelude.{codes}
use Rattle.std.proofs.lemmas.List.Elements.{All-nil, All-cons}
use Rattle.sap_terms.specs.declared.fact.Fact.{Fact}
use Rattle.sap_terms.specs.Signature.{Sig}
use Rattle.sap_terms.specs.Tree.{Tree, level_count, trees_levels, trees_of}
use Rattle.sap_grammar.specs.Sizes.{AreSmall, IsSmall}
use Rattle.sap_grammar.specs.Words.{Word, is_upper, mark, name}
use Rattle.sap_grammar.specs.TermGrammar.{IsList, IsShort}
use Rattle.sap_grammar.specs.FactGrammar.{AreFacts, AreSomeFacts, IsShortFact, fact_linear, fact_persistent, facts_last, facts_more, facts_none, facts_some}
use Rattle.sap_draft.specs.declared.limits.TheConstants.{FILE_LIMITS}
use Rattle.sap_expect.specs.declared.wanted.Part.TheVariants.{Fact as AFact, Facts, MoreFacts, MoreShown, Shown}
use Rattle.sap_expect.specs.FileTable.{otherwise, rows}
use Rattle.sap_expect.proofs.Meant.{AreOther, AreRow, Meaning, first, is_capital, is_sign, same}
use Rattle.sap_expect.proofs.MeantTerms.{IsBetween, AreMoreTerms, SomeArgs, SomeTerm}
use Rattle.sap_expect.proofs.TermRows.{of_terms}

-- the most levels of a file's terms
abbrev most : ℕ
most = FILE_LIMITS.term_levels

small_term : (t : Tree) → level_count t ≤ most → IsSmall FILE_LIMITS t
small_term t le = record { few_levels = le; few_nodes = tt }

small_terms : (ts : List Tree) → trees_levels (trees_of ts) ≤ most → AreSmall FILE_LIMITS ts
small_terms [] le = All-nil (IsSmall FILE_LIMITS)
small_terms (t ∷ ts) le = All-cons (IsSmall FILE_LIMITS) t ts (small_term t (omega (arith, le))) (small_terms ts (omega (arith, le)))

-- a term that the table takes is within the limits; so are its arguments, and a list
pub small_of : {g : Sig} {m k : ℕ} {a b : List Word} → SomeTerm g m a k b → m ≤ most → (t : Tree) × IsShort g FILE_LIMITS t a b
small_of s le =
    let few = s.fits.1 in
    let levels = s.levels in
    (s.tree, record { spelled = s.is; small = small_term s.tree (omega (arith, levels, few, le)) })

pub short_of : {g : Sig} {k : ℕ} {a b : List Word} → (1 ≤ FILE_LIMITS.term_levels → SomeTerm g FILE_LIMITS.term_levels a k b) → (t : Tree) × IsShort g FILE_LIMITS t a b
short_of s = small_of (s (omega arith)) (omega arith)

pub small_args : {g : Sig} {m k : ℕ} {a b : List Word} (s : SomeArgs g m a k b) → m ≤ most → AreSmall FILE_LIMITS s.trees
small_args s le =
    let few = s.few in
    let levels = s.levels in
    small_terms s.trees (omega (arith, levels, few, le))

pub small_list : {g : Sig} {j k : ℕ} {a b c : List Word} → (1 ≤ FILE_LIMITS.term_levels → SomeTerm g FILE_LIMITS.term_levels a j b)
    → (IsBetween FILE_LIMITS.term_levels j → AreMoreTerms g FILE_LIMITS.term_levels j b k c) → (ts : List Tree) × IsList g ts a c × AreSmall FILE_LIMITS ts
small_list s more =
    let t = s (omega arith) in
    let q = more t.fits in
    let first = t.levels in
    let levels = q.levels in
    let few = q.fits.1 in
    (t.tree ∷ q.trees, q.are t.is, small_terms (t.tree ∷ q.trees) (omega (arith, first, levels, few)))

-- a fact on terms within the limits
pub linear_fact : {g : Sig} {x : List ℕ} {k : ℕ} {a b : List Word} (o : Bool) → is_upper x ≡ true → SomeArgs g FILE_LIMITS.term_levels a k b
    → (f : Fact) × IsShortFact g FILE_LIMITS o f (name x ∷ mark (codes "(") ∷ a) b
linear_fact o up s = (_, record { spelled = fact_linear up s.are; small = small_args s (omega arith); sign = λ e. absurd (false_true e) })
  where
    false_true : false ≡ true → ⊥
    false_true e = absurd (cc)

persistent_fact : {g : Sig} {x : List ℕ} {k : ℕ} {a b : List Word} → is_upper x ≡ true → SomeArgs g FILE_LIMITS.term_levels a k b
    → (f : Fact) × IsShortFact g FILE_LIMITS true f (mark (codes "!") ∷ name x ∷ mark (codes "(") ∷ a) b
persistent_fact up s = (_, record { spelled = fact_persistent up s.are; small = small_args s (omega arith); sign = λ e. refl })

-- behind one of a list of facts
pub record AreMoreFacts (g : Sig) (o : Bool) (closing : List ℕ) (a b : List Word) : Type 0 where
  pub facts : List Fact
  pub are : {f : Fact} {x : List Word} → IsShortFact g FILE_LIMITS o f x a → AreSomeFacts g FILE_LIMITS o closing (f ∷ facts) x b

no_more_facts : {g : Sig} {o : Bool} {closing : List ℕ} {a : List Word} → AreMoreFacts g o closing (mark closing ∷ a) a
no_more_facts = record { facts = []; are = λ s. facts_last s }

more_facts : {g : Sig} {o : Bool} {closing : List ℕ} {f : Fact} {a b c : List Word} → IsShortFact g FILE_LIMITS o f a b → AreMoreFacts g o closing b c → AreMoreFacts g o closing (mark (codes ",") ∷ a) c
more_facts {f = f} s q = record { facts = f ∷ q.facts; are = λ h. facts_more h (q.are s) }

abbrev pub of_facts : Sig → Meaning
of_facts g AFact m n a k b = (f : Fact) × IsShortFact g FILE_LIMITS true f a b
of_facts g Facts m n a k b = (fs : List Fact) × AreFacts g FILE_LIMITS true (codes "]") fs a b
of_facts g MoreFacts m n a k b = AreMoreFacts g true (codes "]") a b
of_facts g Shown m n a k b = (fs : List Fact) × AreFacts g FILE_LIMITS false (codes "]->") fs a b
of_facts g MoreShown m n a k b = AreMoreFacts g false (codes "]->") a b
of_facts g p m n a k b = of_terms g p m n a k b

pub fact_row : {g : Sig} (m n : ℕ) {w : Word} {a : List Word} {k : ℕ} {b : List Word} → AreRow (of_facts g) (rows AFact) m n w a k b → (f : Fact) × IsShortFact g FILE_LIMITS true f (w ∷ a) b
fact_row m n (inl (is_capital up, _, (_, _, first is_sign, (_, _, s, same)))) = linear_fact true up s
fact_row m n (inr (_, inl (is_sign, _, (_, _, first (is_capital up), (_, _, first is_sign, (_, _, s, same)))))) = persistent_fact up s
fact_row m n (inr (_, inr (_, h))) = absurd h

pub facts_row : {g : Sig} (m n : ℕ) {w : Word} {a : List Word} {k : ℕ} {b : List Word} → AreRow (of_facts g) (rows Facts) m n w a k b → (fs : List Fact) × AreFacts g FILE_LIMITS true (codes "]") fs (w ∷ a) b
facts_row m n (inl (is_sign, _, same)) = (_, facts_none)
facts_row m n (inr (_, h)) = absurd h

pub facts_other : {g : Sig} (m n : ℕ) {w : Word} {a : List Word} {k : ℕ} {b : List Word} → AreOther (of_facts g) (otherwise Facts) m n (w ∷ a) k b
    → (fs : List Fact) × AreFacts g FILE_LIMITS true (codes "]") fs (w ∷ a) b
facts_other m n (_, (_, _, s, (_, _, q, same))) = (_, facts_some (q.are s.1))

pub more_facts_row : {g : Sig} (m n : ℕ) {w : Word} {a : List Word} {k : ℕ} {b : List Word} → AreRow (of_facts g) (rows MoreFacts) m n w a k b → AreMoreFacts g true (codes "]") (w ∷ a) b
more_facts_row m n (inl (is_sign, _, same)) = no_more_facts
more_facts_row m n (inr (_, inl (is_sign, _, (_, _, s, (_, _, q, same))))) = more_facts s.1 q
more_facts_row m n (inr (_, inr (_, h))) = absurd h

pub shown_row : {g : Sig} (m n : ℕ) {w : Word} {a : List Word} {k : ℕ} {b : List Word} → AreRow (of_facts g) (rows Shown) m n w a k b
    → (fs : List Fact) × AreFacts g FILE_LIMITS false (codes "]->") fs (w ∷ a) b
shown_row m n (inl (is_sign, _, same)) = (_, facts_none)
shown_row m n (inr (_, inl (is_capital up, _, (_, _, first is_sign, (_, _, s, (_, _, q, same)))))) = (_, facts_some (q.are (linear_fact false up s).1))
shown_row m n (inr (_, inr (_, h))) = absurd h

pub more_shown_row : {g : Sig} (m n : ℕ) {w : Word} {a : List Word} {k : ℕ} {b : List Word} → AreRow (of_facts g) (rows MoreShown) m n w a k b → AreMoreFacts g false (codes "]->") (w ∷ a) b
more_shown_row m n (inl (is_sign, _, same)) = no_more_facts
more_shown_row m n (inr (_, inl (is_sign, _, (_, _, first (is_capital up), (_, _, first is_sign, (_, _, s, (_, _, q, same))))))) = more_facts (linear_fact false up s).1 q
more_shown_row m n (inr (_, inr (_, h))) = absurd h
