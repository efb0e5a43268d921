-- Each place that words spell has a head that they begin with, from its own word on.
use Rattle.std.proofs.Common.{◌≡◌, ℕ, suc, Bool, List, [], ◌∷◌, ◌++◌, length, refl, sym, ap, subst, ◌∙◌, arith}
use Rattle.std.specs.Prelude.{codes, sum_by}
use Rattle.std.proofs.lemmas.List.{length-append}
use Rattle.std.proofs.lemmas.List.Concat.{length-flat_map}
use Rattle.std.proofs.lemmas.List.Sums.{sum_by-cons}
use Rattle.sap_terms.specs.declared.fact.Fact.{Fact}
use Rattle.sap_terms.specs.declared.var.Sort.TheVariants.{Msg}
use Rattle.sap_terms.specs.Signature.{Sig}
use Rattle.sap_terms.specs.Tree as tree
use Rattle.sap_terms.specs.Tree.{Tree, Trees, none, more, trees_of, node_count, trees_count}
use Rattle.sap_grammar.specs.Words.{Word, mark}
use Rattle.sap_grammar.specs.declared.limits.Limits.{Limits}
use Rattle.sap_grammar.specs.TermGrammar.{IsTerm, IsArgs, args_some}
use Rattle.sap_grammar.specs.FactGrammar.{IsFact, AreFacts}
use Rattle.sap_grammar.proofs.ReadingLaws.Ends.{IsEnd, one_more, mark_end, then_end, term_end}
use Rattle.sap_node_words.specs.NodeWords.{term_words, list_words, args_words, last_words}
use Rattle.sap_node_words.specs.FactWords.{fact_count, fact_words, facts_words}
use Rattle.sap_nodes.specs.HeadNodes.{tree_nodes, trees_nodes, fact_nodes, facts_nodes, action_nodes, binder}
use Rattle.sap_nodes.specs.declared.part.Part.{Part}
use Rattle.sap_nodes.specs.declared.part.Part.TheVariants.{Pattern, Shown, Given}
use Rattle.sap_process.specs.Action.{Action}
use Rattle.sap_macro.specs.Located.{Located, nil_at, call_at, parallel_at, replicated_at, act_at, test_at, lookup_at}
use Rattle.sap_macro.specs.Written.{Written}
use Rattle.sap_origin.specs.Reached.{number_of}
use Rattle.sap_draft.specs.LocatedProcesses.{seq_located, par_located}
use Rattle.sap_draft.specs.ProcessGrammar.{var, Ending, IsAction, IsSeq, IsPar, action_new, action_new_fresh, action_out, action_send, action_input, action_receive, action_event, action_insert, action_delete, action_lock, action_unlock, action_rule, action_acts, seq_nil, seq_call, seq_use, seq_parentheses, seq_replicated, seq_action, seq_then, seq_if, seq_if_else, seq_lookup, seq_lookup_else, par_one, par_more}
use Rattle.sap_head_words.specs.HeadWords.{HeadWords, action_words, words_nil, words_call, words_use, words_parallel, words_replicated, words_act, words_test, words_lookup}
use Rattle.sap_head_words.specs.HasHead.{HasHead}
use Rattle.sap_stems.specs.WrittenNodes.{written_nodes}
use Rattle.sap_stems.specs.WrittenPlaces.{IsPlaceIn, place_itself, place_left, place_right, place_copy, place_behind, place_then, place_else, place_found, place_missing}
use Rattle.sap_head_words.proofs.WordEnds.{action_end, seq_end, all_words, no_longer, last_of_end}

-- what is known of the numbers of terms, arguments and facts
pub record AreCounted : Type 0 where
  pub term : (g : Sig) (t : Tree) (a b : List Word) (r : IsTerm g t a b) → length (term_words r) ≡ node_count t
  pub arguments : (g : Sig) (ts : List Tree) (a b : List Word) (r : IsArgs g ts a b) → length (args_words r) ≡ trees_count (trees_of ts)
  pub fact : (g : Sig) (f : Fact) (a b : List Word) (r : IsFact g f a b) → length (fact_words r) ≡ fact_count f
  pub facts : (g : Sig) (m : Limits) (s : Bool) (w : List ℕ) (fs : List Fact) (a b : List Word) (r : AreFacts g m s w fs a b) → length (facts_words r) ≡ sum_by fact_count fs

mutual
  tree_nodes_count : (x : Part) (t : Tree) → length (tree_nodes x t) ≡ node_count t
  tree_nodes_count x (tree.variable v) = refl
  tree_nodes_count x (tree.public n) = refl
  tree_nodes_count x (tree.fresh k) = refl
  tree_nodes_count x (tree.apply f ts) = omega (arith, trees_nodes_count x ts)

  trees_nodes_count : (x : Part) (ts : Trees) → length (trees_nodes x ts) ≡ trees_count ts
  trees_nodes_count x none = refl
  trees_nodes_count x (more t ts) = omega (arith, length-append (tree_nodes x t) (trees_nodes x ts), tree_nodes_count x t, trees_nodes_count x ts)

fact_nodes_count : (x : Part) (f : Fact) → length (fact_nodes x f) ≡ fact_count f
fact_nodes_count x f = omega (arith, trees_nodes_count x (trees_of f.args))

same_sums : (f h : Fact → ℕ) → ((x : Fact) → f x ≡ h x) → (xs : List Fact) → sum_by f xs ≡ sum_by h xs
same_sums f h e [] = refl
same_sums f h e (x ∷ xs) = omega (arith, sum_by-cons f x xs, sum_by-cons h x xs, e x, same_sums f h e xs)

facts_nodes_count : (x : Part) (fs : List Fact) → length (facts_nodes x fs) ≡ sum_by fact_count fs
facts_nodes_count x fs = length-flat_map (fact_nodes x) fs ∙ same_sums (λ f. length (fact_nodes x f)) fact_count (fact_nodes_count x) fs

both_long : {A B : Type 0} (ns ms : List A) (us vs : List B) → length ns ≡ length us → length ms ≡ length vs → length (ns ++ ms) ≡ length (us ++ vs)
both_long ns ms us vs e f = omega (arith, length-append ns ms, length-append us vs, e, f)

module _ (l : AreCounted) where
  one_long : (x : Part) {g : Sig} {t : Tree} {a b : List Word} (r : IsTerm g t a b) → length (term_words r) ≡ length (tree_nodes x t)
  one_long x {g} {t} {a} {b} r = l.term g t a b r ∙ sym (tree_nodes_count x t)

  two_long : (x y : Part) {g : Sig} {t u : Tree} {a b c d : List Word} (r : IsTerm g t a b) (s : IsTerm g u c d)
      → length (term_words r ++ term_words s) ≡ length (tree_nodes x t ++ tree_nodes y u)
  two_long x y {t = t} {u = u} r s = both_long (term_words r) (term_words s) (tree_nodes x t) (tree_nodes y u) (one_long x r) (one_long y s)

  fact_long : (x : Part) {g : Sig} {f : Fact} {a b : List Word} (r : IsFact g f a b) → length (fact_words r) ≡ length (fact_nodes x f)
  fact_long x {g} {f} {a} {b} r = l.fact g f a b r ∙ sym (fact_nodes_count x f)

  facts_long : (x : Part) {g : Sig} {m : Limits} {s : Bool} {w : List ℕ} {fs : List Fact} {a b : List Word} (r : AreFacts g m s w fs a b)
      → length (facts_words r) ≡ length (facts_nodes x fs)
  facts_long x {g} {m} {s} {w} {fs} {a} {b} r = l.facts g m s w fs a b r ∙ sym (facts_nodes_count x fs)

  action_long : {g : Sig} {m : Limits} {x : Action} {a b : List Word} (r : IsAction g m x a b) → length (action_words r) ≡ length (action_nodes x)
  action_long action_new = refl
  action_long action_new_fresh = refl
  action_long (action_out r) = one_long Given r.spelled
  action_long (action_send r s) = two_long Given Given r.spelled s.spelled
  action_long (action_input r) = one_long Pattern r.spelled
  action_long (action_receive r s) = two_long Given Pattern r.spelled s.spelled
  action_long (action_event r) = fact_long Shown r.spelled
  action_long (action_insert r s) = two_long Given Given r.spelled s.spelled
  action_long (action_delete r) = one_long Given r.spelled
  action_long (action_lock r) = one_long Given r.spelled
  action_long (action_unlock r) = one_long Given r.spelled
  action_long (action_rule {l = f} {r = h} r s) = both_long (facts_words r) (facts_words s) (facts_nodes Pattern f) (facts_nodes Given h) (facts_long Pattern r) (facts_long Given s)
  action_long (action_acts {l = f} {e = e} {r = h} r s o) =
      both_long (facts_words r) (facts_words s ++ facts_words o) (facts_nodes Pattern f) (facts_nodes Shown e ++ facts_nodes Given h) (facts_long Pattern r)
      (both_long (facts_words s) (facts_words o) (facts_nodes Shown e) (facts_nodes Given h) (facts_long Shown s) (facts_long Given o))

-- so it is at each place
abbrev pub Every : (Located → Type 0) → Located → Type 0
Every P (nil_at k) = P (nil_at k)
Every P (call_at k f ts) = P (call_at k f ts)
Every P (parallel_at k p q) = P (parallel_at k p q) × (Every P p × Every P q)
Every P (replicated_at k p) = P (replicated_at k p) × Every P p
Every P (act_at k x p) = P (act_at k x p) × Every P p
Every P (test_at k t u p q) = P (test_at k t u p q) × (Every P p × Every P q)
Every P (lookup_at k t x p q) = P (lookup_at k t x p q) × (Every P p × Every P q)

here : (P : Located → Type 0) (w : Located) → Every P w → P w
here P (nil_at k) e = e
here P (call_at k f ts) e = e
here P (parallel_at k p q) e = e.0
here P (replicated_at k p) e = e.0
here P (act_at k x p) e = e.0
here P (test_at k t u p q) e = e.0
here P (lookup_at k t x p q) e = e.0

pub at_place : {q w : Located} → IsPlaceIn q w → (P : Located → Type 0) → Every P w → P q
at_place (place_itself {q = q}) P e = here P q e
at_place (place_left h) P e = at_place h P e.1.0
at_place (place_right h) P e = at_place h P e.1.1
at_place (place_copy h) P e = at_place h P e.1
at_place (place_behind h) P e = at_place h P e.1
at_place (place_then h) P e = at_place h P e.1.0
at_place (place_else h) P e = at_place h P e.1.1
at_place (place_found h) P e = at_place h P e.1.0
at_place (place_missing h) P e = at_place h P e.1.1

weaker : (P Q : Located → Type 0) → ((q : Located) → P q → Q q) → (w : Located) → Every P w → Every Q w
weaker P Q f (nil_at k) e = f (nil_at k) e
weaker P Q f (call_at k g ts) e = f (call_at k g ts) e
weaker P Q f (parallel_at k p q) e = (f (parallel_at k p q) e.0, (weaker P Q f p e.1.0, weaker P Q f q e.1.1))
weaker P Q f (replicated_at k p) e = (f (replicated_at k p) e.0, weaker P Q f p e.1)
weaker P Q f (act_at k x p) e = (f (act_at k x p) e.0, weaker P Q f p e.1)
weaker P Q f (test_at k t u p q) e = (f (test_at k t u p q) e.0, (weaker P Q f p e.1.0, weaker P Q f q e.1.1))
weaker P Q f (lookup_at k t x p q) e = (f (lookup_at k t x p q) e.0, (weaker P Q f p e.1.0, weaker P Q f q e.1.1))

-- at the first word
at_first : (g : Sig) (a : List Word) (q : Located) (ns : List ℕ) → number_of q ≡ length a → HeadWords g q a ns → length ns ≡ length (written_nodes q) → HasHead g a q
at_first g a q ns e h long =
    record {
      numbers = ns;
      within = omega (arith, e);
      words = subst (λ z. HeadWords g q z ns) (sym (ap (λ k. last_words k a) e ∙ all_words a)) h;
      each = long;
    }

-- at a word further on
later : (g : Sig) (a b : List Word) → IsEnd a b → (q : Located) → HasHead g b q → HasHead g a q
later g a b ends q h =
    record {
      numbers = h.numbers;
      within = omega (arith, no_longer ends, h.within);
      words = subst (λ z. HeadWords g q z h.numbers) (last_of_end a b (number_of q) ends h.within) h.words;
      each = h.each;
    }

all_later : (g : Sig) (a b : List Word) → IsEnd a b → (w : Located) → Every (HasHead g b) w → Every (HasHead g a) w
all_later g a b ends w e = weaker (HasHead g b) (HasHead g a) (later g a b ends) w e

-- what is missing
missing : (g : Sig) (a : List Word) → HasHead g a (nil_at (length a))
missing g a = record { numbers = []; within = omega arith; words = words_nil; each = refl }

next : {w : Word} {a : List Word} → IsEnd (w ∷ a) a
next = (1, omega arith, omega arith, refl)

module _ (l : AreCounted) where
  mutual
    pub seq_heads : {g : Sig} {m : Limits} {e : Ending} {p : Written} {n : ℕ} {a b : List Word} (r : IsSeq g m e p n a b) → Every (HasHead g a) (seq_located r)
    seq_heads {g = g} (seq_nil {a = a}) = at_first g _ (nil_at (suc (length a))) [] refl words_nil refl
    seq_heads {g = g} (seq_call {x = x} {a = a}) = at_first g _ (call_at (suc (length a)) x []) [] refl words_call refl
    seq_heads {g = g} (seq_use {x = x} {ts = ts} {a = a} {b = b} r small) =
        at_first g _ (call_at (suc (suc (length a))) x ts) (list_words r) refl (words_use r) (l.arguments g ts a b (args_some r) ∙ sym (trees_nodes_count Given (trees_of ts)))
    seq_heads {g = g} (seq_parentheses {a = a} r) = all_later g (mark (codes "(") ∷ a) a next (par_located r) (par_heads r)
    seq_heads {g = g} (seq_replicated {a = a} r) =
        (at_first g _ (replicated_at (suc (length a)) (seq_located r)) [] refl words_replicated refl, all_later g (mark (codes "!") ∷ a) a next (seq_located r) (seq_heads r))
    seq_heads {g = g} (seq_action {x = x} {a = a} r) = (at_first g a (act_at (length a) x (nil_at (length a))) (action_words r) refl (words_act r) (action_long l r), missing g a)
    seq_heads {g = g} (seq_then {x = x} {a = a} {b = b} r s) =
        (at_first g a (act_at (length a) x (seq_located s)) (action_words r) refl (words_act r) (action_long l r), all_later g a b (mark_end (action_end r)) (seq_located s) (seq_heads s))
    seq_heads {g = g} (seq_if {t = t} {u = u} {a = a} {c = c} f r s) = (
      at_first g _ (test_at (suc (length a)) t u (seq_located s) (nil_at (suc (length a)))) (term_words f.spelled ++ term_words r.spelled) refl (words_test f.spelled r.spelled)
          (two_long l Given Given f.spelled r.spelled),
      (all_later g (mark (codes "if") ∷ a) c (one_more (then_end (term_end f.spelled) (mark_end (term_end r.spelled)))) (seq_located s) (seq_heads s), missing g (mark (codes "if") ∷ a)),
    )
    seq_heads {g = g} (seq_if_else {t = t} {u = u} {a = a} {c = c} {d = d} f r s o) = (
      at_first g _ (test_at (suc (length a)) t u (seq_located s) (seq_located o)) (term_words f.spelled ++ term_words r.spelled) refl (words_test f.spelled r.spelled)
          (two_long l Given Given f.spelled r.spelled),
      (
        all_later g (mark (codes "if") ∷ a) c (one_more (then_end (term_end f.spelled) (mark_end (term_end r.spelled)))) (seq_located s) (seq_heads s),
        all_later g (mark (codes "if") ∷ a) d (one_more (then_end (term_end f.spelled) (then_end (term_end r.spelled) (mark_end (seq_end s))))) (seq_located o) (seq_heads o),
      ),
    )
    seq_heads {g = g} (seq_lookup {t = t} {x = x} {a = a} {b = b} r s) = (
      at_first g _ (lookup_at (suc (length a)) t (var Msg x) (seq_located s) (nil_at (suc (length a)))) (term_words r.spelled ++ suc (suc (length b)) ∷ []) refl (words_lookup r.spelled)
          (both_long (term_words r.spelled) (suc (suc (length b)) ∷ []) (tree_nodes Given t) (binder _ ∷ []) (one_long l Given r.spelled) refl),
      (all_later g (mark (codes "lookup") ∷ a) b (one_more (mark_end (mark_end (mark_end (term_end r.spelled))))) (seq_located s) (seq_heads s), missing g (mark (codes "lookup") ∷ a)),
    )
    seq_heads {g = g} (seq_lookup_else {t = t} {x = x} {a = a} {b = b} {c = c} r s o) = (
      at_first g _ (lookup_at (suc (length a)) t (var Msg x) (seq_located s) (seq_located o)) (term_words r.spelled ++ suc (suc (length b)) ∷ []) refl (words_lookup r.spelled)
          (both_long (term_words r.spelled) (suc (suc (length b)) ∷ []) (tree_nodes Given t) (binder _ ∷ []) (one_long l Given r.spelled) refl),
      (
        all_later g (mark (codes "lookup") ∷ a) b (one_more (mark_end (mark_end (mark_end (term_end r.spelled))))) (seq_located s) (seq_heads s),
        all_later g (mark (codes "lookup") ∷ a) c (one_more (then_end (mark_end (mark_end (term_end r.spelled))) (mark_end (seq_end s)))) (seq_located o) (seq_heads o),
      ),
    )

    pub par_heads : {g : Sig} {m : Limits} {p : Written} {n : ℕ} {a b : List Word} (r : IsPar g m p n a b) → Every (HasHead g a) (par_located r)
    par_heads (par_one r) = seq_heads r
    par_heads {g = g} (par_more {w = w} {a = a} {b = b} bar r s) = (
      later g a (mark w ∷ b) (seq_end r) (parallel_at (suc (length b)) (seq_located r) (par_located s)) (at_first g (mark w ∷ b) (parallel_at (suc (length b)) (seq_located r) (par_located s)) [] refl (words_parallel bar) refl),
      (seq_heads r, all_later g a b (mark_end (seq_end r)) (par_located s) (par_heads s)),
    )

pub seq_place : AreCounted → {g : Sig} {m : Limits} {e : Ending} {p : Written} {n : ℕ} {a b : List Word} (r : IsSeq g m e p n a b) {q : Located} → IsPlaceIn q (seq_located r) → HasHead g a q
seq_place l {g} {a = a} r h = at_place h (HasHead g a) (seq_heads l r)

pub par_place : AreCounted → {g : Sig} {m : Limits} {p : Written} {n : ℕ} {a b : List Word} (r : IsPar g m p n a b) {q : Located} → IsPlaceIn q (par_located r) → HasHead g a q
par_place l {g} {a = a} r h = at_place h (HasHead g a) (par_heads l r)
