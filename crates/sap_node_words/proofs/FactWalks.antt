-- The walk through facts comes to the words that their derivations tell.
use Rattle.std.proofs.Common.{◌≡◌, ℕ, zero, suc, Bool, false, List, [], ◌∷◌, ◌+◌, length, Result, Ok, Err, refl, sym, ap, ◌∙◌, arith}
use Rattle.std.specs.Prelude.{codes}
use Rattle.std.specs.Borrow.{Bor}
use Rattle.sap_text.specs.declared.token.Token.{Token}
use Rattle.sap_terms.specs.declared.fact.Fact.{Fact}
use Rattle.sap_terms.specs.Signature.{Sig}
use Rattle.sap_terms.specs.Tree.{Tree, trees_of}
use Rattle.sap_grammar.specs.Words.{Word, mark, name, starts, words_of}
use Rattle.sap_grammar.specs.declared.limits.Limits.{Limits}
use Rattle.sap_grammar.specs.TermGrammar.{IsTerm, IsArgs}
use Rattle.sap_grammar.specs.FactGrammar.{IsFact, AreSomeFacts, AreFacts, fact_linear, fact_persistent, facts_last, facts_more, facts_none, facts_some}
use Rattle.sap_node_words.specs.NodeWords.{term_words, args_words}
use Rattle.sap_node_words.specs.FactWords.{fact_words, some_facts_words, facts_words}
use Rattle.sap_node_words.specs.Past.{IsPast}
use Rattle.sap_node_words.specs.code.Walk.{Walk, Comes, onward, found, args_walk, fact_walk, facts_walk, all_facts_walk}
use Rattle.sap_node_words.proofs.Walks.{sought, then_sought, past_sought, node_sought, found_sought, same_items, term_goes, args_go}

pub fact_goes : {g : Sig} {f : Fact} {a b : List Word} (r : IsFact g f a b) (k : ℕ) → fact_walk f.args k a ≡ sought (fact_words r) k b
unfolding fact_walk
fact_goes (fact_linear {f = f} {ts = ts} {a = a} {b = b} up r) k =
    node_sought (args_words r) k (name f ∷ mark (codes "(") ∷ a) a b (args_walk (trees_of ts)) (λ j. args_go r j)
fact_goes (fact_persistent {f = f} {ts = ts} {a = a} {b = b} up r) k =
    node_sought (args_words r) k (name f ∷ mark (codes "(") ∷ a) a b (args_walk (trees_of ts)) (λ j. args_go r j)

alone : (ns : List ℕ) (k : ℕ) (b : List Word) → onward (sought ns k b) (facts_walk []) ≡ sought ns k b
unfolding onward facts_walk
alone [] k b = refl
alone (n ∷ ns) zero b = refl
alone (n ∷ ns) (suc k) b = alone ns k b

some_facts_go : {g : Sig} {m : Limits} {s : Bool} {w : List ℕ} {fs : List Fact} {a b : List Word} (r : AreSomeFacts g m s w fs a b) (k : ℕ)
    → facts_walk fs k a ≡ sought (some_facts_words r) k b
unfolding facts_walk
some_facts_go (facts_last {f = f} {a = a} {b = b} r) k =
    rw (fact_goes r.spelled k, past_sought (fact_words r.spelled) k (mark _) b) (alone (fact_words r.spelled) k b)
some_facts_go (facts_more {f = f} {fs = fs} {a = a} {b = b} {c = c} r s) k =
    rw (fact_goes r.spelled k, past_sought (fact_words r.spelled) k (mark (codes ",")) b)
    (then_sought (fact_words r.spelled) (some_facts_words s) k b c (facts_walk fs) (λ j. some_facts_go s j))

some_are : {g : Sig} {m : Limits} {s : Bool} {w : List ℕ} {fs : List Fact} {a b : List Word} → AreSomeFacts g m s w fs a b → (k : ℕ)
    → all_facts_walk fs k a ≡ facts_walk fs k a
some_are (facts_last r) k = refl
some_are (facts_more r s) k = refl

pub facts_go : {g : Sig} {m : Limits} {s : Bool} {w : List ℕ} {fs : List Fact} {a b : List Word} (r : AreFacts g m s w fs a b) (k : ℕ)
    → all_facts_walk fs k a ≡ sought (facts_words r) k b
facts_go facts_none k = refl
facts_go (facts_some r) k = some_are r k ∙ some_facts_go r k

-- how many nodes are still before, and the words behind
left : Walk → ℕ
left (Err n) = 0
left (Ok p) = p.0

behind : Walk → List Word
behind (Err n) = []
behind (Ok p) = p.1

-- past all nodes
sought_ends : (ns : List ℕ) (k j : ℕ) (b c : List Word) → sought ns k b ≡ Ok (j, c) → (j + length ns ≡ k) × (c ≡ b)
unfolding left behind
sought_ends [] k j b c e =
    let is : k ≡ j = ap left e in
    let also : b ≡ c = ap behind e in
    (omega (arith, is), sym also)
sought_ends (n ∷ ns) zero j b c e = absurd (cc (e))
sought_ends (n ∷ ns) (suc k) j b c e =
    let h = sought_ends ns k j b c e in
    (omega (arith, h.0), h.1)

all_sought : (ns : List ℕ) (b : List Word) → sought ns (length ns) b ≡ Ok (0, b)
all_sought [] b = refl
all_sought (n ∷ ns) b = all_sought ns b

-- what the walk comes to, where it passes nodes with these numbers
pub past_is : (bytes ns : List ℕ) (k : ℕ) (b : List Word) (o : Result (ℕ × Bor (List Token)) ℕ) (walk : Walk) → Comes bytes o walk → walk ≡ sought ns k b
    → IsPast bytes ns k b o
past_is bytes ns k b (Err n) walk c e = sym (found_sought ns k b) ∙ ap found (sym e ∙ c)
past_is bytes ns k b (Ok p) walk c e = sought_ends ns k p.0 b (words_of bytes p.1.now) (sym e ∙ c)

-- two walks that go the same pass the same numbers, and end at the same words
same_walk : (ns ms : List ℕ) (b c : List Word) → ((k : ℕ) → sought ns k b ≡ sought ms k c) → (ns ≡ ms) × (b ≡ c)
same_walk ns ms b c h =
    let same = same_items ns ms (λ k. sym (found_sought ns k b) ∙ (ap found (h k) ∙ found_sought ms k c)) in
    let ends = sought_ends ms (length ns) 0 c b (sym (h (length ns)) ∙ all_sought ns b) in
    (same, ends.1)

pub same_args : {g h : Sig} {ts : List Tree} {a b c : List Word} (r : IsArgs g ts a b) (s : IsArgs h ts a c) → (args_words r ≡ args_words s) × (b ≡ c)
same_args {b = b} {c = c} r s = same_walk (args_words r) (args_words s) b c (λ k. sym (args_go r k) ∙ args_go s k)

pub same_fact : {g h : Sig} {f : Fact} {a b c : List Word} (r : IsFact g f a b) (s : IsFact h f a c) → (fact_words r ≡ fact_words s) × (b ≡ c)
same_fact {b = b} {c = c} r s = same_walk (fact_words r) (fact_words s) b c (λ k. sym (fact_goes r k) ∙ fact_goes s k)

pub same_facts : {g h : Sig} {m l : Limits} {s u : Bool} {w v : List ℕ} {fs : List Fact} {a b c : List Word} (r : AreFacts g m s w fs a b) (o : AreFacts h l u v fs a c)
    → (facts_words r ≡ facts_words o) × (b ≡ c)
same_facts {b = b} {c = c} r o = same_walk (facts_words r) (facts_words o) b c (λ k. sym (facts_go r k) ∙ facts_go o k)

-- a term that no parenthesis follows ends at one place
pub same_end : {g h : Sig} {t : Tree} {a b c : List Word} (r : IsTerm g t a b) (s : IsTerm h t a c) → starts (codes "(") b ≡ false → starts (codes "(") c ≡ false
    → (term_words r ≡ term_words s) × (b ≡ c)
same_end {b = b} {c = c} r s e f = same_walk (term_words r) (term_words s) b c (λ k. sym (term_goes r k e) ∙ term_goes s k f)
