-- Each number of a head is that of the word at which its node stands.
use Rattle.std.proofs.Common.{◌≡◌, ◌≤◌, ◌<◌, ℕ, suc, Bool, List, [], ◌∷◌, ◌++◌, length, refl, sym, ap, subst, ◌∙◌, arith}
use Rattle.std.specs.Prelude.{codes, All, map}
use Rattle.std.specs.List.{AllZip}
use Rattle.std.proofs.lemmas.List.{append-nil}
use Rattle.std.proofs.lemmas.List.Elements.{All-head, All-tail}
use Rattle.sap_terms.specs.declared.fact.Fact.{Fact}
use Rattle.sap_terms.specs.declared.var.Sort.TheVariants.{Msg, Fresh}
use Rattle.sap_terms.specs.Signature.{Sig}
use Rattle.sap_terms.specs.Tree as tree
use Rattle.sap_terms.specs.Tree.{Tree, Trees, none, more, trees_of}
use Rattle.sap_grammar.specs.Words.{Word, mark, name}
use Rattle.sap_grammar.specs.declared.limits.Limits.{Limits}
use Rattle.sap_grammar.specs.TermGrammar.{IsTerm, IsArgs, args_some}
use Rattle.sap_grammar.specs.FactGrammar.{IsFact, AreSomeFacts, AreFacts, fact_linear, fact_persistent, facts_last, facts_more, facts_none, facts_some}
use Rattle.sap_grammar.proofs.ReadingLaws.Ends.{IsEnd, one_more, mark_end, end_end, then_end, term_end, fact_end}
use Rattle.sap_node_words.specs.NodeWords.{term_words, list_words, args_words, nodes, nodes_of, StandsAt, last_words}
use Rattle.sap_node_words.specs.FactWords.{fact_words, some_facts_words, facts_words}
use Rattle.sap_nodes.specs.HeadNodes.{Node, binder, fact, tree_nodes, trees_nodes, fact_nodes, facts_nodes, action_nodes}
use Rattle.sap_nodes.specs.declared.part.Part.{Part}
use Rattle.sap_nodes.specs.declared.part.Part.TheVariants.{Pattern, Shown, Given}
use Rattle.sap_process.specs.Action.{Action}
use Rattle.sap_process.specs.Sites.{message_var}
use Rattle.sap_macro.specs.Located.{Located}
use Rattle.sap_draft.specs.ProcessGrammar.{var, IsAction, action_new, action_new_fresh, action_out, action_send, action_input, action_receive, action_event, action_insert, action_delete, action_lock, action_unlock, action_rule, action_acts}
use Rattle.sap_head_words.specs.HeadWords.{HeadWords, action_words, words_nil, words_call, words_use, words_parallel, words_replicated, words_act, words_test, words_lookup}
use Rattle.sap_head_words.specs.NodeStands.{NodeStands, node_of, stands_binder, stands_fact, stands_term}
use Rattle.sap_stems.specs.WrittenNodes.{written_nodes}
use Rattle.sap_head_words.proofs.WordEnds.{all_words, facts_end, no_longer, last_of_end}

-- what is known of the words of terms and arguments
pub record AreStanding : Type 0 where
  pub term_within : (g : Sig) (t : Tree) (a b : List Word) (r : IsTerm g t a b) → All (λ n. (length b < n) × (n ≤ length a)) (term_words r)
  pub term : (g : Sig) (t : Tree) (a b : List Word) (r : IsTerm g t a b) → AllZip (λ u n. StandsAt g u (last_words n a)) (nodes t) (term_words r)
  pub arguments_within : (g : Sig) (ts : List Tree) (a b : List Word) (r : IsArgs g ts a b) → All (λ n. (length b < n) × (n ≤ length a)) (args_words r)
  pub arguments : (g : Sig) (ts : List Tree) (a b : List Word) (r : IsArgs g ts a b) → AllZip (λ u n. StandsAt g u (last_words n a)) (nodes_of (trees_of ts)) (args_words r)

mapped : {A B : Type 0} (f : A → B) (xs ys : List A) → map f (xs ++ ys) ≡ map f xs ++ map f ys
mapped f [] ys = refl
mapped f (x ∷ xs) ys = ap (λ zs. f x ∷ zs) (mapped f xs ys)

mutual
  tree_nodes_are : (x : Part) (t : Tree) → map (node_of x) (nodes t) ≡ tree_nodes x t
  tree_nodes_are x (tree.variable v) = refl
  tree_nodes_are x (tree.public n) = refl
  tree_nodes_are x (tree.fresh k) = refl
  tree_nodes_are x (tree.apply f ts) = ap (λ ns. node_of x (tree.apply f ts) ∷ ns) (trees_nodes_are x ts)

  trees_nodes_are : (x : Part) (ts : Trees) → map (node_of x) (nodes_of ts) ≡ trees_nodes x ts
  trees_nodes_are x none = refl
  trees_nodes_are x (more t ts) =
      mapped (node_of x) (nodes t) (nodes_of ts) ∙ (ap (λ ns. ns ++ map (node_of x) (nodes_of ts)) (tree_nodes_are x t) ∙ ap (λ ns. tree_nodes x t ++ ns) (trees_nodes_are x ts))

-- a node stands at one of these words, which so many words are left from
Here : Sig → List Word → Node → ℕ → Type 0
Here g a u n = (n ≤ length a) × NodeStands g u (last_words n a)

AllHere : Sig → List Word → List Node → List ℕ → Type 0
AllHere g a us ns = AllZip (Here g a) us ns

-- the nodes of terms stand so
put : (g : Sig) (a b : List Word) (x : Part) (us : List Tree) (ns : List ℕ) → AllZip (λ u n. StandsAt g u (last_words n a)) us ns → All (λ n. (length b < n) × (n ≤ length a)) ns
    → AllHere g a (map (node_of x) us) ns
unfolding AllHere Here
put g a b x [] [] h w = tt
put g a b x [] (n ∷ ns) h w = absurd h
put g a b x (u ∷ us) [] h w = absurd h
put g a b x (u ∷ us) (n ∷ ns) h w = (
  ((All-head (λ n. (length b < n) × (n ≤ length a)) n ns w).1, stands_term {t = u} x refl h.0),
  put g a b x us ns h.1 (All-tail (λ n. (length b < n) × (n ≤ length a)) n ns w),
)

joined : (g : Sig) (a : List Word) (us vs : List Node) (ns ms : List ℕ) → AllHere g a us ns → AllHere g a vs ms → AllHere g a (us ++ vs) (ns ++ ms)
unfolding AllHere
joined g a [] vs [] ms h k = k
joined g a [] vs (n ∷ ns) ms h k = absurd h
joined g a (u ∷ us) vs [] ms h k = absurd h
joined g a (u ∷ us) vs (n ∷ ns) ms h k = (h.0, joined g a us vs ns ms h.1 k)

later : (g : Sig) (a b : List Word) → IsEnd a b → (us : List Node) (ns : List ℕ) → AllHere g b us ns → AllHere g a us ns
unfolding AllHere Here
later g a b ends [] [] h = tt
later g a b ends [] (n ∷ ns) h = absurd h
later g a b ends (u ∷ us) [] h = absurd h
later g a b ends (u ∷ us) (n ∷ ns) h =
    ((omega (arith, no_longer ends, h.0.0), subst (NodeStands g u) (last_of_end a b n ends h.0.0) h.0.1), later g a b ends us ns h.1)

-- at the first of the words
first : (g : Sig) (a : List Word) (u : Node) (us : List Node) (ns : List ℕ) → NodeStands g u a → AllHere g a us ns → AllHere g a (u ∷ us) (length a ∷ ns)
unfolding AllHere Here
first g a u us ns h others = ((omega arith, subst (NodeStands g u) (sym (all_words a)) h), others)

nothing : (g : Sig) (a : List Word) → AllHere g a [] []
unfolding AllHere
nothing g a = tt

next : {w : Word} {a : List Word} → IsEnd (w ∷ a) a
next = (1, omega arith, omega arith, refl)

module _ (l : AreStanding) where
  term_here : (x : Part) {g : Sig} {t : Tree} {a b : List Word} (r : IsTerm g t a b) → AllHere g a (tree_nodes x t) (term_words r)
  term_here x {g} {t} {a} {b} r =
      subst (λ us. AllHere g a us (term_words r)) (tree_nodes_are x t) (put g a b x (nodes t) (term_words r) (l.term g t a b r) (l.term_within g t a b r))

  args_here : (x : Part) {g : Sig} {ts : List Tree} {a b : List Word} (r : IsArgs g ts a b) → AllHere g a (trees_nodes x (trees_of ts)) (args_words r)
  args_here x {g} {ts} {a} {b} r =
      subst (λ us. AllHere g a us (args_words r)) (trees_nodes_are x (trees_of ts)) (put g a b x (nodes_of (trees_of ts)) (args_words r) (l.arguments g ts a b r) (l.arguments_within g ts a b r))

  fact_here : (x : Part) {g : Sig} {f : Fact} {a b : List Word} (r : IsFact g f a b) → AllHere g a (fact_nodes x f) (fact_words r)
  fact_here x {g} (fact_linear {f = f} {ts = ts} {a = a} up r) =
      first g (name f ∷ mark (codes "(") ∷ a) (fact x _) (trees_nodes x (trees_of ts)) (args_words r) stands_fact (later g _ a (one_more next) (trees_nodes x (trees_of ts)) (args_words r) (args_here x r))
  fact_here x {g} (fact_persistent {f = f} {ts = ts} {a = a} up r) =
      later g (mark (codes "!") ∷ name f ∷ mark (codes "(") ∷ a) (name f ∷ mark (codes "(") ∷ a) next (fact x _ ∷ trees_nodes x (trees_of ts)) (suc (suc (length a)) ∷ args_words r)
      (first g (name f ∷ mark (codes "(") ∷ a) (fact x _) (trees_nodes x (trees_of ts)) (args_words r) stands_fact (later g _ a (one_more next) (trees_nodes x (trees_of ts)) (args_words r) (args_here x r)))

  some_here : (x : Part) {g : Sig} {m : Limits} {s : Bool} {w : List ℕ} {fs : List Fact} {a b : List Word} (r : AreSomeFacts g m s w fs a b)
      → AllHere g a (facts_nodes x fs) (some_facts_words r)
  some_here x {g} (facts_last {f = f} {a = a} r) =
      subst (λ us. AllHere g a us (fact_words r.spelled)) (sym (append-nil (fact_nodes x f))) (fact_here x r.spelled)
  some_here x {g} (facts_more {f = f} {fs = fs} {a = a} {b = b} r s) =
      joined g a (fact_nodes x f) (facts_nodes x fs) (fact_words r.spelled) (some_facts_words s) (fact_here x r.spelled)
      (later g a b (mark_end (fact_end r.spelled)) (facts_nodes x fs) (some_facts_words s) (some_here x s))

  facts_here : (x : Part) {g : Sig} {m : Limits} {s : Bool} {w : List ℕ} {fs : List Fact} {a b : List Word} (r : AreFacts g m s w fs a b)
      → AllHere g a (facts_nodes x fs) (facts_words r)
  facts_here x {g} (facts_none {a = a}) = nothing g _
  facts_here x (facts_some r) = some_here x r

  -- behind the first words, and two terms
  within : (x : Part) {g : Sig} {t : Tree} (a : List Word) {b c : List Word} → IsEnd a b → (r : IsTerm g t b c) → AllHere g a (tree_nodes x t) (term_words r)
  within x {g} {t} a {b} ends r = later g a b ends (tree_nodes x t) (term_words r) (term_here x r)

  two_here : (x y : Part) {g : Sig} {t u : Tree} (a : List Word) {w : Word} {b c d : List Word} → IsEnd a b → (r : IsTerm g t b (w ∷ c)) (s : IsTerm g u c d)
      → AllHere g a (tree_nodes x t ++ tree_nodes y u) (term_words r ++ term_words s)
  two_here x y {g} {t} {u} a ends r s =
      joined g a (tree_nodes x t) (tree_nodes y u) (term_words r) (term_words s) (within x a ends r) (within y a (end_end ends (mark_end (term_end r))) s)

  facts_within : (x : Part) {g : Sig} {m : Limits} {s : Bool} {w : List ℕ} {fs : List Fact} (a : List Word) {b c : List Word} → IsEnd a b → (r : AreFacts g m s w fs b c)
      → AllHere g a (facts_nodes x fs) (facts_words r)
  facts_within x {g} {fs = fs} a {b} ends r = later g a b ends (facts_nodes x fs) (facts_words r) (facts_here x r)

  action_here : {g : Sig} {m : Limits} {x : Action} {a b : List Word} (r : IsAction g m x a b) → AllHere g a (action_nodes x) (action_words r)
  action_here {g = g} (action_new {x = x} {a = a}) =
      later g (mark (codes "new") ∷ name x ∷ a) (name x ∷ a) next (binder (var Msg x) ∷ []) (suc (length a) ∷ []) (first g (name x ∷ a) (binder (var Msg x)) [] [] stands_binder (nothing g _))
  action_here {g = g} (action_new_fresh {x = x} {a = a}) =
      later g (mark (codes "new") ∷ mark (codes "~") ∷ name x ∷ a) (name x ∷ a) (one_more next) (binder (var Fresh x) ∷ []) (suc (length a) ∷ []) (first g (name x ∷ a) (binder (var Fresh x)) [] [] stands_binder (nothing g _))
  action_here (action_out r) = within Given _ (one_more next) r.spelled
  action_here (action_send r s) = two_here Given Given _ (one_more next) r.spelled s.spelled
  action_here (action_input r) = within Pattern _ (one_more next) r.spelled
  action_here (action_receive r s) = two_here Given Pattern _ (one_more next) r.spelled s.spelled
  action_here {g = g} (action_event {f = f} {a = a} r) = later g _ a next (fact_nodes Shown f) (fact_words r.spelled) (fact_here Shown r.spelled)
  action_here (action_insert r s) = two_here Given Given _ next r.spelled s.spelled
  action_here (action_delete r) = within Given _ next r.spelled
  action_here (action_lock r) = within Given _ next r.spelled
  action_here (action_unlock r) = within Given _ next r.spelled
  action_here {g = g} (action_rule {l = f} {r = h} r s) =
      joined g _ (facts_nodes Pattern f) (facts_nodes Given h) (facts_words r) (facts_words s) (facts_within Pattern _ next r)
      (facts_within Given _ (one_more (mark_end (mark_end (facts_end r)))) s)
  action_here {g = g} (action_acts {l = f} {e = e} {r = h} r s o) =
      joined g _ (facts_nodes Pattern f) (facts_nodes Shown e ++ facts_nodes Given h) (facts_words r) (facts_words s ++ facts_words o) (facts_within Pattern _ next r)
      (joined g _ (facts_nodes Shown e) (facts_nodes Given h) (facts_words s) (facts_words o) (facts_within Shown _ (one_more (mark_end (facts_end r))) s)
      (facts_within Given _ (one_more (then_end (facts_end r) (mark_end (facts_end s)))) o))

  head_here : {g : Sig} {q : Located} {a : List Word} {ns : List ℕ} → HeadWords g q a ns → AllHere g a (written_nodes q) ns
  head_here {g = g} words_nil = nothing g _
  head_here {g = g} words_call = nothing g _
  head_here {g = g} (words_use {ts = ts} {a = a} r) = later g _ a (one_more next) (trees_nodes Given (trees_of ts)) (list_words r) (args_here Given (args_some r))
  head_here {g = g} (words_parallel bar) = nothing g _
  head_here {g = g} words_replicated = nothing g _
  head_here (words_act r) = action_here r
  head_here (words_test r s) = two_here Given Given _ next r s
  head_here {g = g} (words_lookup {t = t} {x = x} {a = a} {b = b} r) =
      joined g _ (tree_nodes Given t) (binder (message_var (var Msg x)) ∷ []) (term_words r) (suc (suc (length b)) ∷ []) (within Given _ next r)
      (later g _ (name x ∷ mark (codes "in") ∷ b) (one_more (mark_end (term_end r))) (binder (message_var (var Msg x)) ∷ []) (suc (suc (length b)) ∷ [])
      (first g (name x ∷ mark (codes "in") ∷ b) (binder (message_var (var Msg x))) [] [] stands_binder (nothing g _)))

without_bounds : (g : Sig) (a : List Word) (us : List Node) (ns : List ℕ) → AllHere g a us ns → AllZip (λ u n. NodeStands g u (last_words n a)) us ns
unfolding AllHere Here
without_bounds g a [] [] h = tt
without_bounds g a [] (n ∷ ns) h = absurd h
without_bounds g a (u ∷ us) [] h = absurd h
without_bounds g a (u ∷ us) (n ∷ ns) h = (h.0.1, without_bounds g a us ns h.1)

pub head_stands : AreStanding → {g : Sig} {q : Located} {a : List Word} {ns : List ℕ} → HeadWords g q a ns → AllZip (λ u n. NodeStands g u (last_words n a)) (written_nodes q) ns
head_stands l {g} {q} {a} {ns} h = without_bounds g a (written_nodes q) ns (head_here l h)
