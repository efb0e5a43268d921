-- The facts at a head are those of its nodes, and a fact that clashes is the fact of a node that does.
use Rattle.std.proofs.Common.{◌≡◌, ℕ, zero, suc, List, [], ◌∷◌, ◌++◌, Some, inl, inr, refl, sym, ap, subst, ◌∙◌}
use Rattle.std.specs.Prelude.{◌⊎◌, Contains, slice_get, take}
use Rattle.std.specs.List.{flat_map}
use Rattle.std.proofs.lemmas.List.{append-nil}
use Rattle.std.proofs.lemmas.List.Concat.{flat_map-append}
use Rattle.sap_terms.specs.Tree as tree
use Rattle.sap_terms.specs.Tree.{Tree, Trees, none, more, trees_of, list_of}
use Rattle.sap_terms.specs.declared.fact.Fact.{Fact}
use Rattle.sap_terms.specs.declared.var.Var.{Var}
use Rattle.sap_process.specs.Action.{new, out, send, input, receive, event, insert, delete, lock, unlock, embedded}
use Rattle.sap_process.specs.Flaws.{HasClash, HasOtherArity, HasOtherForm}
use Rattle.sap_process.specs.Heads.{stored_facts, shown_facts}
use Rattle.sap_process.specs.Proc.{Proc, nil, parallel, replicated, act, test, lookup}
use Rattle.sap_process.specs.Sites.{Site}
use Rattle.sap_nodes.specs.HeadNodes as node
use Rattle.sap_nodes.specs.HeadNodes.{Node, tree_nodes, trees_nodes, fact_nodes, facts_nodes, head_nodes}
use Rattle.sap_nodes.specs.FlawNodes.{Differs, stored_of, shown_of, IsClashingNode}
use Rattle.sap_nodes.specs.declared.part.Part.{Part}
use Rattle.sap_nodes.specs.declared.part.Part.TheVariants.{Pattern, Shown, Given}

-- nodes of terms have no such facts, and those of facts have them by their part
record OfFacts (φ : Node → List Fact) : Type 0 where
  variable : (v : Var) → φ (node.variable v) ≡ []
  public : (n : List ℕ) → φ (node.public n) ≡ []
  fresh : (k : ℕ) → φ (node.fresh k) ≡ []
  symbol : (a : Part) (f : List ℕ) (k : ℕ) → φ (node.symbol a f k) ≡ []
  few : (n : Node) → (φ n ≡ []) ⊎ ((f : Fact) × (φ n ≡ f ∷ []))

mutual
  none_in : (φ : Node → List Fact) → OfFacts φ → (a : Part) (t : Tree) → flat_map φ (tree_nodes a t) ≡ []
  none_in φ o a (tree.variable v) = rw (o.variable v) refl
  none_in φ o a (tree.public n) = rw (o.public n) refl
  none_in φ o a (tree.fresh k) = rw (o.fresh k) refl
  none_in φ o a (tree.apply f ts) = ap (λ xs. xs ++ flat_map φ (trees_nodes a ts)) (o.symbol a f _) ∙ none_in_all φ o a ts

  none_in_all : (φ : Node → List Fact) → OfFacts φ → (a : Part) (ts : Trees) → flat_map φ (trees_nodes a ts) ≡ []
  none_in_all φ o a none = refl
  none_in_all φ o a (more t ts) =
      flat_map-append φ (tree_nodes a t) (trees_nodes a ts) ∙ ap (λ xs. xs ++ flat_map φ (trees_nodes a ts)) (none_in φ o a t) ∙ none_in_all φ o a ts

none_in_two : (φ : Node → List Fact) → OfFacts φ → (a b : Part) (t u : Tree) → flat_map φ (tree_nodes a t ++ tree_nodes b u) ≡ []
none_in_two φ o a b t u =
    flat_map-append φ (tree_nodes a t) (tree_nodes b u) ∙ ap (λ xs. xs ++ flat_map φ (tree_nodes b u)) (none_in φ o a t) ∙ none_in φ o b u

of_fact : (φ : Node → List Fact) → OfFacts φ → (a : Part) (f : Fact) → flat_map φ (fact_nodes a f) ≡ φ (node.fact a f)
of_fact φ o a f = ap (λ xs. φ (node.fact a f) ++ xs) (none_in_all φ o a (trees_of f.args)) ∙ append-nil (φ (node.fact a f))

all_of : (φ : Node → List Fact) → OfFacts φ → (a : Part) → ((f : Fact) → φ (node.fact a f) ≡ f ∷ []) → (fs : List Fact) → flat_map φ (facts_nodes a fs) ≡ fs
all_of φ o a e [] = refl
all_of φ o a e (f ∷ fs) =
    flat_map-append φ (fact_nodes a f) (facts_nodes a fs) ∙ ap (λ xs. xs ++ flat_map φ (facts_nodes a fs)) (of_fact φ o a f ∙ e f) ∙ ap (λ xs. f ∷ xs) (all_of φ o a e fs)

none_of_all : (φ : Node → List Fact) → OfFacts φ → (a : Part) → ((f : Fact) → φ (node.fact a f) ≡ []) → (fs : List Fact) → flat_map φ (facts_nodes a fs) ≡ []
none_of_all φ o a e [] = refl
none_of_all φ o a e (f ∷ fs) =
    flat_map-append φ (fact_nodes a f) (facts_nodes a fs) ∙ ap (λ xs. xs ++ flat_map φ (facts_nodes a fs)) (of_fact φ o a f ∙ e f) ∙ none_of_all φ o a e fs

-- those of the three sides of a rule
of_rule : (φ : Node → List Fact) (l e r : List Fact) (xs ys zs : List Fact) → flat_map φ (facts_nodes Pattern l) ≡ xs → flat_map φ (facts_nodes Shown e) ≡ ys
    → flat_map φ (facts_nodes Given r) ≡ zs → flat_map φ (facts_nodes Pattern l ++ (facts_nodes Shown e ++ facts_nodes Given r)) ≡ xs ++ (ys ++ zs)
of_rule φ l e r xs ys zs hl he hr =
    flat_map-append φ (facts_nodes Pattern l) (facts_nodes Shown e ++ facts_nodes Given r)
    ∙ ap (λ us. us ++ flat_map φ (facts_nodes Shown e ++ facts_nodes Given r)) hl
    ∙ ap (λ us. xs ++ us) (flat_map-append φ (facts_nodes Shown e) (facts_nodes Given r) ∙ ap (λ us. us ++ flat_map φ (facts_nodes Given r)) he ∙ ap (λ us. ys ++ us) hr)

of_stored : OfFacts stored_of
of_stored = record { variable = λ v. refl; public = λ n. refl; fresh = λ k. refl; symbol = λ a f k. refl; few = few } where
  few : (n : Node) → (stored_of n ≡ []) ⊎ ((f : Fact) × (stored_of n ≡ f ∷ []))
  few (node.fact Pattern f) = inr (f, refl)
  few (node.fact Given f) = inr (f, refl)
  few (node.fact Shown f) = inl refl
  few (node.binder v) = inl refl
  few (node.variable v) = inl refl
  few (node.public n) = inl refl
  few (node.fresh k) = inl refl
  few (node.symbol a f k) = inl refl

of_shown : OfFacts shown_of
of_shown = record { variable = λ v. refl; public = λ n. refl; fresh = λ k. refl; symbol = λ a f k. refl; few = few } where
  few : (n : Node) → (shown_of n ≡ []) ⊎ ((f : Fact) × (shown_of n ≡ f ∷ []))
  few (node.fact Shown f) = inr (f, refl)
  few (node.fact Pattern f) = inl refl
  few (node.fact Given f) = inl refl
  few (node.binder v) = inl refl
  few (node.variable v) = inl refl
  few (node.public n) = inl refl
  few (node.fresh k) = inl refl
  few (node.symbol a f k) = inl refl

pub stored : (p : Proc) → flat_map stored_of (head_nodes p) ≡ stored_facts p
stored nil = refl
stored (parallel p q) = refl
stored (replicated p) = refl
stored (act (new x) p) = refl
stored (act (out t) p) = none_in stored_of of_stored Given t
stored (act (send t u) p) = none_in_two stored_of of_stored Given Given t u
stored (act (input t) p) = none_in stored_of of_stored Pattern t
stored (act (receive t u) p) = none_in_two stored_of of_stored Given Pattern t u
stored (act (event f) p) = of_fact stored_of of_stored Shown f
stored (act (insert t u) p) = none_in_two stored_of of_stored Given Given t u
stored (act (delete t) p) = none_in stored_of of_stored Given t
stored (act (lock t n) p) = none_in stored_of of_stored Given t
stored (act (unlock t n) p) = none_in stored_of of_stored Given t
stored (act (embedded l e r) p) =
    of_rule stored_of l e r l [] r (all_of stored_of of_stored Pattern (λ f. refl) l) (none_of_all stored_of of_stored Shown (λ f. refl) e)
    (all_of stored_of of_stored Given (λ f. refl) r)
stored (test t u p q) = none_in_two stored_of of_stored Given Given t u
stored (lookup t x p q) =
    flat_map-append stored_of (tree_nodes Given t) _ ∙ ap (λ xs. xs ++ []) (none_in stored_of of_stored Given t)

pub shown : (p : Proc) → flat_map shown_of (head_nodes p) ≡ shown_facts p
shown nil = refl
shown (parallel p q) = refl
shown (replicated p) = refl
shown (act (new x) p) = refl
shown (act (out t) p) = none_in shown_of of_shown Given t
shown (act (send t u) p) = none_in_two shown_of of_shown Given Given t u
shown (act (input t) p) = none_in shown_of of_shown Pattern t
shown (act (receive t u) p) = none_in_two shown_of of_shown Given Pattern t u
shown (act (event f) p) = of_fact shown_of of_shown Shown f
shown (act (insert t u) p) = none_in_two shown_of of_shown Given Given t u
shown (act (delete t) p) = none_in shown_of of_shown Given t
shown (act (lock t n) p) = none_in shown_of of_shown Given t
shown (act (unlock t n) p) = none_in shown_of of_shown Given t
shown (act (embedded l e r) p) =
    of_rule shown_of l e r [] e [] (none_of_all shown_of of_shown Pattern (λ f. refl) l) (all_of shown_of of_shown Shown (λ f. refl) e)
    (none_of_all shown_of of_shown Given (λ f. refl) r) ∙ append-nil e
shown (test t u p q) = none_in_two shown_of of_shown Given Given t u
shown (lookup t x p q) =
    flat_map-append shown_of (tree_nodes Given t) _ ∙ ap (λ xs. xs ++ []) (none_in shown_of of_shown Given t)

-- the node of a fact at an index, and the facts in front of it
record Picked (φ : Node → List Fact) (ns : List Node) (at : ℕ) (f : Fact) : Type 0 where
  place : ℕ
  chosen : Node
  stands : slice_get ns place ≡ Some chosen
  is : φ chosen ≡ f ∷ []
  front : flat_map φ (take place ns) ≡ take at (flat_map φ ns)

picked : (φ : Node → List Fact) → ((n : Node) → (φ n ≡ []) ⊎ ((f : Fact) × (φ n ≡ f ∷ []))) → (ns : List Node) (at : ℕ) (f : Fact)
    → slice_get (flat_map φ ns) at ≡ Some f → Picked φ ns at f
picked φ few [] at f h = cc
picked φ few (n ∷ ns) at f h = by (few n) (λ j k. picked φ few ns j f k) where
  past : φ n ≡ [] → Picked φ ns at f → Picked φ (n ∷ ns) at f
  past e r = record {
    place = suc r.place;
    chosen = r.chosen;
    stands = r.stands;
    is = r.is;
    front = ap (λ xs. xs ++ flat_map φ (take r.place ns)) e ∙ r.front ∙ sym (ap (λ xs. take at (xs ++ flat_map φ ns)) e);
  }

  on : (g : Fact) → φ n ≡ g ∷ [] → (k : ℕ) → slice_get (g ∷ flat_map φ ns) k ≡ Some f → ((j : ℕ) → slice_get (flat_map φ ns) j ≡ Some f → Picked φ ns j f) → Picked φ (n ∷ ns) k f
  on g e zero m later = record {
    place = 0;
    chosen = n;
    stands = refl;
    is = e ∙ ap (λ x. x ∷ []) (same g f m);
    front = sym (ap (λ xs. take 0 (xs ++ flat_map φ ns)) e);
  } where
    same : (x y : Fact) → Some x ≡ Some y → x ≡ y
    same x y k = cc
  on g e (suc j) m later = let r = later j m in record {
    place = suc r.place;
    chosen = r.chosen;
    stands = r.stands;
    is = r.is;
    front = ap (λ xs. xs ++ flat_map φ (take r.place ns)) e ∙ ap (λ xs. g ∷ xs) r.front ∙ sym (ap (λ xs. take (suc j) (xs ++ flat_map φ ns)) e);
  }

  by : (φ n ≡ []) ⊎ ((g : Fact) × (φ n ≡ g ∷ [])) → ((j : ℕ) → slice_get (flat_map φ ns) j ≡ Some f → Picked φ ns j f) → Picked φ (n ∷ ns) at f
  by (inl e) later = past e (later at (ap (λ xs. slice_get (xs ++ flat_map φ ns) at) (sym e) ∙ h))
  by (inr m) later = on m.0 m.1 at (ap (λ xs. slice_get (xs ++ flat_map φ ns) at) (sym m.1) ∙ h) later

some_fact : (x y : Fact) → (x ∷ []) ≡ (y ∷ []) → x ≡ y
some_fact x y e = cc

no_fact : (y : Fact) → [] ≡ (y ∷ []) → ⊥
no_fact y e = cc

-- the earlier fact stands at a place before or at a node in front
differs : (differ : Fact → Fact → Type 0) (before front : List Fact) (fs : List Fact) (c : HasClash differ before fs) (f : Fact)
    → front ≡ take c.at fs → f ≡ c.fact → Differs differ (before ++ front) f
differs differ before front fs c f e d = record {
  other = c.earlier;
  stands = subst (λ xs. Contains (before ++ xs) c.earlier) (sym e) c.before;
  name = c.name ∙ ap (λ (x : Fact). x.name) (sym d);
  differs = subst (differ c.earlier) (sym d) c.other;
}

abbrev stored_before : List Site → List Fact
stored_before before = flat_map (λ (b : Site). stored_facts b.body) before

abbrev shown_before : List Site → List Fact
shown_before before = flat_map (λ (b : Site). shown_facts b.body) before

clashing_stored : (before : List Site) (s : Site) → HasClash HasOtherForm (stored_before before) (stored_facts s.body)
    → (k : ℕ) × (n : Node) × (slice_get (head_nodes s.body) k ≡ Some n) × IsClashingNode before (take k (head_nodes s.body)) n
clashing_stored before s c = by (picked stored_of of_stored.few (head_nodes s.body) c.at c.fact (ap (λ fs. slice_get fs c.at) (stored s.body) ∙ c.stands)) where
  is : (k : ℕ) (n : Node) → stored_of n ≡ c.fact ∷ [] → flat_map stored_of (take k (head_nodes s.body)) ≡ take c.at (stored_facts s.body)
      → IsClashingNode before (take k (head_nodes s.body)) n
  is k (node.fact Pattern f) e front =
      differs HasOtherForm (stored_before before) (flat_map stored_of (take k (head_nodes s.body))) (stored_facts s.body) c f front (some_fact f c.fact e)
  is k (node.fact Given f) e front =
      differs HasOtherForm (stored_before before) (flat_map stored_of (take k (head_nodes s.body))) (stored_facts s.body) c f front (some_fact f c.fact e)
  is k (node.fact Shown f) e front = absurd (no_fact c.fact e)
  is k (node.binder v) e front = absurd (no_fact c.fact e)
  is k (node.variable v) e front = absurd (no_fact c.fact e)
  is k (node.public n) e front = absurd (no_fact c.fact e)
  is k (node.fresh j) e front = absurd (no_fact c.fact e)
  is k (node.symbol a f j) e front = absurd (no_fact c.fact e)

  by : Picked stored_of (head_nodes s.body) c.at c.fact
      → (k : ℕ) × (n : Node) × (slice_get (head_nodes s.body) k ≡ Some n) × IsClashingNode before (take k (head_nodes s.body)) n
  by r = (r.place, r.chosen, r.stands, is r.place r.chosen r.is (r.front ∙ ap (take c.at) (stored s.body)))

clashing_shown : (before : List Site) (s : Site) → HasClash HasOtherArity (shown_before before) (shown_facts s.body)
    → (k : ℕ) × (n : Node) × (slice_get (head_nodes s.body) k ≡ Some n) × IsClashingNode before (take k (head_nodes s.body)) n
clashing_shown before s c = by (picked shown_of of_shown.few (head_nodes s.body) c.at c.fact (ap (λ fs. slice_get fs c.at) (shown s.body) ∙ c.stands)) where
  is : (k : ℕ) (n : Node) → shown_of n ≡ c.fact ∷ [] → flat_map shown_of (take k (head_nodes s.body)) ≡ take c.at (shown_facts s.body)
      → IsClashingNode before (take k (head_nodes s.body)) n
  is k (node.fact Shown f) e front =
      differs HasOtherArity (shown_before before) (flat_map shown_of (take k (head_nodes s.body))) (shown_facts s.body) c f front (some_fact f c.fact e)
  is k (node.fact Pattern f) e front = absurd (no_fact c.fact e)
  is k (node.fact Given f) e front = absurd (no_fact c.fact e)
  is k (node.binder v) e front = absurd (no_fact c.fact e)
  is k (node.variable v) e front = absurd (no_fact c.fact e)
  is k (node.public n) e front = absurd (no_fact c.fact e)
  is k (node.fresh j) e front = absurd (no_fact c.fact e)
  is k (node.symbol a f j) e front = absurd (no_fact c.fact e)

  by : Picked shown_of (head_nodes s.body) c.at c.fact
      → (k : ℕ) × (n : Node) × (slice_get (head_nodes s.body) k ≡ Some n) × IsClashingNode before (take k (head_nodes s.body)) n
  by r = (r.place, r.chosen, r.stands, is r.place r.chosen r.is (r.front ∙ ap (take c.at) (shown s.body)))

-- a fact that clashes is the fact of a node that does
pub clashing_node : (before : List Site) (s : Site)
    → HasClash HasOtherForm (stored_before before) (stored_facts s.body) ⊎ HasClash HasOtherArity (shown_before before) (shown_facts s.body)
    → (k : ℕ) × (n : Node) × (slice_get (head_nodes s.body) k ≡ Some n) × IsClashingNode before (take k (head_nodes s.body)) n
clashing_node before s (inl c) = clashing_stored before s c
clashing_node before s (inr c) = clashing_shown before s c
