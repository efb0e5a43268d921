-- The nodes of a head have the same numbers, however its words spell it.
use Rattle.std.proofs.Common.{◌≡◌, ℕ, Bool, true, false, List, [], ◌∷◌, ◌++◌, length, drop, sym, ap, subst, ◌∙◌}
use Rattle.std.specs.Prelude.{codes}
use Rattle.sap_terms.specs.declared.fact.Fact.{Fact}
use Rattle.sap_terms.specs.Signature.{Sig}
use Rattle.sap_terms.specs.Tree.{Tree}
use Rattle.sap_grammar.specs.Words.{Word, starts}
use Rattle.sap_grammar.specs.declared.limits.Limits.{Limits}
use Rattle.sap_grammar.specs.TermGrammar.{IsTerm, IsArgs}
use Rattle.sap_grammar.specs.FactGrammar.{IsFact, AreFacts}
use Rattle.sap_node_words.specs.NodeWords.{term_words, args_words}
use Rattle.sap_node_words.specs.FactWords.{fact_words, facts_words}
use Rattle.sap_process.specs.Action.{Action, new, out, send, input, receive, event, insert, delete, lock, unlock, embedded}
use Rattle.sap_macro.specs.Located.{Located, nil_at, call_at, parallel_at, replicated_at, act_at, test_at, lookup_at}
use Rattle.sap_head_words.specs.HeadWords.{HeadWords}
use Rattle.sap_head_words.specs.code.Shapes.{Shape, OneTerm, TwoTerms, TermAndName, UseOf, OneFact, FactsUpTo, RightSide, Shown, ArrowIs, ThreeSides}
use Rattle.sap_head_words.proofs.Shaped.{act_shape, test_shape, lookup_shape, use_shape, nil_shape, parallel_shape, replicated_shape}

-- what is known of terms, arguments and facts that the same words spell
pub record AreSame : Type 0 where
  pub term : (g h : Sig) (t : Tree) (a b c : List Word) (r : IsTerm g t a b) (s : IsTerm h t a c) → term_words r ≡ term_words s
  pub ended : (g h : Sig) (t : Tree) (a b c : List Word) (r : IsTerm g t a b) (s : IsTerm h t a c) → starts (codes "(") b ≡ false → starts (codes "(") c ≡ false
      → (term_words r ≡ term_words s) × (b ≡ c)
  pub arguments : (g h : Sig) (ts : List Tree) (a b c : List Word) (r : IsArgs g ts a b) (s : IsArgs h ts a c) → (args_words r ≡ args_words s) × (b ≡ c)
  pub fact : (g h : Sig) (f : Fact) (a b c : List Word) (r : IsFact g f a b) (s : IsFact h f a c) → (fact_words r ≡ fact_words s) × (b ≡ c)
  pub facts : (g h : Sig) (m l : Limits) (s u : Bool) (w v : List ℕ) (fs : List Fact) (a b c : List Word) (r : AreFacts g m s w fs a b) (o : AreFacts h l u v fs a c)
      → (facts_words r ≡ facts_words o) × (b ≡ c)

both : {ns ms us vs : List ℕ} → ns ≡ ms → us ≡ vs → ns ++ us ≡ ms ++ vs
both {ms = ms} {us = us} e f = ap (λ xs. xs ++ us) e ∙ ap (λ xs. ms ++ xs) f

one_term : AreSame → {g h : Sig} {t : Tree} {a : List Word} {ns ms : List ℕ} → OneTerm g t a ns → OneTerm h t a ms → ns ≡ ms
one_term l {g} {h} {t} {a} r s = sym r.numbers ∙ (l.term g h t a r.behind s.behind r.spelled s.spelled ∙ s.numbers)

-- a second term, from the same words on
second_term : AreSame → {g h : Sig} {t : Tree} {a b c d : List Word} → a ≡ b → (r : IsTerm g t a c) (s : IsTerm h t b d) → term_words r ≡ term_words s
second_term l {g} {h} {t} {a} {b} {c} {d} e r s =
    subst (λ z. (s : IsTerm h t z d) → term_words r ≡ term_words s) e (λ s. l.term g h t a c d r s) s

two_terms : AreSame → {g h : Sig} {t u : Tree} {a : List Word} {ns ms : List ℕ} → TwoTerms g t u a ns → TwoTerms h t u a ms → ns ≡ ms
two_terms l {g} {h} {t} {u} {a} r s =
    let first = l.ended g h t a (r.word ∷ r.middle) (s.word ∷ s.middle) r.first s.first r.apart s.apart in
    let middle : r.middle ≡ s.middle = ap (λ ws. drop 1 ws) first.1 in
    sym r.numbers ∙ (both first.0 (second_term l middle r.second s.second) ∙ s.numbers)

term_and_name : AreSame → {g h : Sig} {t : Tree} {a : List Word} {ns ms : List ℕ} → TermAndName g t a ns → TermAndName h t a ms → ns ≡ ms
term_and_name l {g} {h} {t} {a} r s =
    let first = l.ended g h t a (r.word ∷ r.middle) (s.word ∷ s.middle) r.first s.first r.apart s.apart in
    let middle : r.middle ≡ s.middle = ap (λ ws. drop 1 ws) first.1 in
    sym r.numbers ∙ (both first.0 (ap (λ ws. length ws ∷ []) middle) ∙ s.numbers)

one_use : AreSame → (g h : Sig) (ts : List Tree) (a : List Word) {ns ms : List ℕ} → UseOf g ts a ns → UseOf h ts a ms → ns ≡ ms
one_use l g h [] a r s = r ∙ sym s
one_use l g h (t ∷ ts) a r s = sym r.numbers ∙ ((l.arguments g h (t ∷ ts) (drop 2 a) r.behind s.behind r.spelled s.spelled).0 ∙ s.numbers)

one_fact : AreSame → {g h : Sig} {f : Fact} {a : List Word} {ns ms : List ℕ} → OneFact g f a ns → OneFact h f a ms → ns ≡ ms
one_fact l {g} {h} {f} {a} r s = sym r.numbers ∙ ((l.fact g h f a r.behind s.behind r.spelled s.spelled).0 ∙ s.numbers)

facts_up_to : AreSame → {g h : Sig} {fs : List Fact} {a b c : List Word} {ns ms : List ℕ} → FactsUpTo g fs a b ns → FactsUpTo h fs a c ms → (ns ≡ ms) × (b ≡ c)
facts_up_to l {g} {h} {fs} {a} {b} {c} r s =
    let same = l.facts g h r.limits s.limits r.allowed s.allowed r.closing s.closing fs a b c r.spelled s.spelled in
    (sym r.numbers ∙ (same.0 ∙ s.numbers), same.1)

right_side : AreSame → {g h : Sig} {fs : List Fact} {a b : List Word} {ns ms : List ℕ} → a ≡ b → RightSide g fs a ns → RightSide h fs b ms → ns ≡ ms
right_side l {g} {h} {fs} {a} {b} {ns} {ms} e r s =
    subst (λ z. RightSide h fs z ms → ns ≡ ms) e (λ s. (facts_up_to l r.facts s.facts).0) s

shown : AreSame → {g h : Sig} {e r : List Fact} {a b : List Word} {ns ms : List ℕ} → a ≡ b → Shown g e r a ns → Shown h e r b ms → ns ≡ ms
shown l {g} {h} {e} {r} {a} {b} {ns} {ms} same p q = subst (λ z. Shown h e r z ms → ns ≡ ms) same at q
  where
    at : Shown h e r a ms → ns ≡ ms
    at q =
        let first = facts_up_to l p.shown q.shown in
        sym p.numbers ∙ (both first.0 (right_side l (ap (λ ws. drop 1 ws) first.1) p.added q.added) ∙ q.numbers)

arrow : AreSame → (g h : Sig) (e r : List Fact) {a b : List Word} {ns ms : List ℕ} → a ≡ b → (x : Bool) → ArrowIs x g e r a ns → ArrowIs x h e r b ms → ns ≡ ms
arrow l g h e r same true p q = right_side l (ap (λ ws. drop 2 ws) same) p q
arrow l g h e r same false p q = shown l (ap (λ ws. drop 1 ws) same) p q

three_sides : AreSame → {g h : Sig} {f e r : List Fact} {a : List Word} {ns ms : List ℕ} → ThreeSides g f e r a ns → ThreeSides h f e r a ms → ns ≡ ms
three_sides l {g} {h} {f} {e} {r} p q =
    let first = facts_up_to l p.taken q.taken in
    let others : ArrowIs (starts (codes "-->") p.middle) h e r q.middle q.after = subst (λ z. ArrowIs (starts (codes "-->") z) h e r q.middle q.after) (sym first.1) q.others in
    sym p.numbers ∙ (both first.0 (arrow l g h e r first.1 (starts (codes "-->") p.middle) p.others others) ∙ q.numbers)

one_shape : AreSame → (g h : Sig) (x : Action) (a : List Word) {ns ms : List ℕ} → Shape g x a ns → Shape h x a ms → ns ≡ ms
one_shape l g h (new x) a r s = r ∙ sym s
one_shape l g h (out t) a r s = one_term l r s
one_shape l g h (send t u) a r s = two_terms l r s
one_shape l g h (input t) a r s = one_term l r s
one_shape l g h (receive t u) a r s = two_terms l r s
one_shape l g h (event f) a r s = one_fact l r s
one_shape l g h (insert t u) a r s = two_terms l r s
one_shape l g h (delete t) a r s = one_term l r s
one_shape l g h (lock t n) a r s = one_term l r s
one_shape l g h (unlock t n) a r s = one_term l r s
one_shape l g h (embedded f e r) a p q = three_sides l p q

pub one_head : AreSame → (g h : Sig) (q : Located) (a : List Word) {ns ms : List ℕ} → HeadWords g q a ns → HeadWords h q a ms → ns ≡ ms
one_head l g h (nil_at k) a r s = nil_shape r ∙ sym (nil_shape s)
one_head l g h (call_at k f ts) a r s = one_use l g h ts a (use_shape r) (use_shape s)
one_head l g h (parallel_at k p q) a r s = parallel_shape r ∙ sym (parallel_shape s)
one_head l g h (replicated_at k p) a r s = replicated_shape r ∙ sym (replicated_shape s)
one_head l g h (act_at k x p) a r s = one_shape l g h x a (act_shape r) (act_shape s)
one_head l g h (test_at k t u p q) a r s = two_terms l (test_shape r) (test_shape s)
one_head l g h (lookup_at k t x p q) a r s = term_and_name l (lookup_shape r) (lookup_shape s)
