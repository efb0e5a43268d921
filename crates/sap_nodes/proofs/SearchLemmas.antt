-- Searches through nodes, and what they find.
use Rattle.std.proofs.Common.{◌≡◌, ℕ, zero, suc, ◌+◌, ◌<◌, ◌≤◌, List, [], ◌∷◌, ◌++◌, Bool, true, false, Option, Some, None, length, get_or, drop, inl, inr, arith, refl, sym, ap, subst, ◌∙◌}
use Rattle.std.specs.Prelude.{◌⊎◌, not, min, slice_get, take, if◌then◌else◌}
use Rattle.std.proofs.lemmas.Bool.Decides.{Decides-eqb}
use Rattle.std.proofs.lemmas.Option.{slice_get_read}
use Rattle.sap_terms.specs.Same.{same_sort}
use Rattle.sap_terms.specs.Signature.{Sig, arity_of, is_destructor_of}
use Rattle.sap_terms.specs.TermTests.{has_arity}
use Rattle.sap_terms.specs.Tree.{Tree, trees_of, list_of-trees_of}
use Rattle.sap_terms.specs.declared.fact.Fact.{Fact}
use Rattle.sap_terms.specs.declared.var.Sort.{Sort}
use Rattle.sap_terms.specs.declared.var.Sort.TheVariants.{Msg}
use Rattle.sap_terms.proofs.PlainLaws.Lists.{drop_got}
use Rattle.sap_terms.proofs.PlainLaws.Tests.{and_true, and_left, and_right}
use Rattle.sap_terms.proofs.PlainLaws.Trees.{item_le-trees_count}
use Rattle.sap_process.specs.Proc.{Proc}
use Rattle.sap_process.specs.Sites.{Site}
use Rattle.sap_process.specs.declared.flaw.Flaw.{Flaw}
use Rattle.sap_process.specs.declared.flaw.Flaw.TheVariants.{BadFunction, ReservedVar, ReservedFact, FactClash, PatternDestructor, Unbound, Rebound, SortClash, ScopeFull}
use Rattle.sap_nodes.specs.HeadNodes.{Node, binder, variable, public, fresh, symbol, fact, tree_nodes, trees_nodes, fact_nodes, facts_nodes, head_nodes}
use Rattle.sap_nodes.specs.FlawNodes.{IsFlawedNode, IsFlawedAt, IsOfWords, IsTold}
use Rattle.sap_nodes.specs.code.NodeTests.{is_such}
use Rattle.sap_nodes.specs.code.Searches.{most, visited, after, at_first, found_at}
use Rattle.sap_nodes.specs.declared.finding.Search.{Search}
use Rattle.sap_nodes.specs.declared.part.Part.{Part}
use Rattle.sap_nodes.specs.declared.part.Part.TheVariants.{Pattern, Shown, Given}

pub after_append : (test : Node → Bool) (a : Search) (ms ns : List Node) → after test a (ms ++ ns) ≡ after test (after test a ms) ns
after_append test a [] ns = refl
after_append test a (m ∷ ms) ns = after_append test (visited (test m) a) ms ns

pub ruleset search_laws = (after_append, list_of-trees_of, item_le-trees_count)

-- where one is found, nothing changes
stays : (test : Node → Bool) (at : ℕ) (ns : List Node) → after test (record { at = at; found = true }) ns ≡ record { at = at; found = true }
stays test at [] = refl
stays test at (n ∷ ns) = stays test at ns

-- the first of the nodes that passes is found, where so many stand in front of them
record Hit (test : Node → Bool) (ns : List Node) (at : ℕ) (r : Search) : Type 0 where
  place : ℕ
  node : Node
  stands : slice_get ns place ≡ Some node
  such : test node ≡ true
  first : (j : ℕ) (m : Node) → j < place → slice_get ns j ≡ Some m → test m ≡ false
  found : r.found ≡ true
  counted : r.at ≡ min (at + place) most

-- none passes, and none is found
record Miss (test : Node → Bool) (ns : List Node) (r : Search) : Type 0 where
  each : (j : ℕ) (m : Node) → slice_get ns j ≡ Some m → test m ≡ false
  found : r.found ≡ false

one_of : (m n : Node) → Some m ≡ Some n → m ≡ n
one_of m n e = cc

outcome : (test : Node → Bool) (ns : List Node) (at : ℕ) → at ≤ most
    → Hit test ns at (after test (record { at = at; found = false }) ns) ⊎ Miss test ns (after test (record { at = at; found = false }) ns)
outcome test [] at l = inr (record { each = λ j m e. cc; found = refl })
outcome test (n ∷ ns) at l = by (test n) refl (outcome test ns (min (at + 1) most) (omega arith)) where
  here : test n ≡ true → Hit test (n ∷ ns) at (record { at = at; found = true })
  here e = record {
    place = 0;
    node = n;
    stands = refl;
    such = e;
    first = λ j m l h. absurd (omega (arith, l));
    found = refl;
    counted = omega arith;
  }

  each : test n ≡ false → ((j : ℕ) (m : Node) → slice_get ns j ≡ Some m → test m ≡ false) → (j : ℕ) (m : Node) → slice_get (n ∷ ns) j ≡ Some m → test m ≡ false
  each e h zero m k = subst (λ x. test x ≡ false) (one_of n m k) e
  each e h (suc j) m k = h j m k

  ahead : (p : ℕ) → test n ≡ false → ((j : ℕ) (m : Node) → j < p → slice_get ns j ≡ Some m → test m ≡ false) → (j : ℕ) (m : Node) → j < suc p → slice_get (n ∷ ns) j ≡ Some m
      → test m ≡ false
  ahead p e h zero m l k = subst (λ x. test x ≡ false) (one_of n m k) e
  ahead p e h (suc j) m l k = h j m (omega (arith, l)) k

  past : (r : Search) → test n ≡ false → Hit test ns (min (at + 1) most) r → Hit test (n ∷ ns) at r
  past r e h = record {
    place = suc h.place;
    node = h.node;
    stands = h.stands;
    such = h.such;
    first = ahead h.place e h.first;
    found = h.found;
    counted = let c = h.counted in omega (arith, c);
  }

  by : (b : Bool) → test n ≡ b
      → Hit test ns (min (at + 1) most) (after test (record { at = min (at + 1) most; found = false }) ns)
      ⊎ Miss test ns (after test (record { at = min (at + 1) most; found = false }) ns)
      → Hit test (n ∷ ns) at (after test (visited b (record { at = at; found = false })) ns)
      ⊎ Miss test (n ∷ ns) (after test (visited b (record { at = at; found = false })) ns)
  by true e later = inl (subst (Hit test (n ∷ ns) at) (sym (stays test at ns)) (here e))
  by false e (inl h) = inl (past (after test (record { at = min (at + 1) most; found = false }) ns) e h)
  by false e (inr h) = inr (record { each = each e h.each; found = h.found })

-- the tests tell what the definitions say

arity_there : (o : Option ℕ) (k : ℕ) → has_arity o k ≡ true → o ≡ Some k
arity_there None k h = cc
arity_there (Some n) k h = ap Some ((Decides-eqb n k).0 h)

arity_tested : (o : Option ℕ) (k : ℕ) → o ≡ Some k → has_arity o k ≡ true
arity_tested o k h = rw h ((Decides-eqb k k).1 refl)

sort_plain : (s : Sort) → same_sort s Msg ≡ true → s ≡ Msg
sort_plain Msg h = refl
sort_plain _ h = cc

sort_tested : (s : Sort) → s ≡ Msg → same_sort s Msg ≡ true
sort_tested s e = rw e refl

not_held : (o : Option ℕ) (k : ℕ) → not (has_arity o k) ≡ true → o ≡ Some k → ⊥
not_held o k h e = let t = arity_tested o k e in cc

held_not : (o : Option ℕ) (k : ℕ) → ¬ (o ≡ Some k) → not (has_arity o k) ≡ true
held_not o k h = by (has_arity o k) refl where
  by : (b : Bool) → has_arity o k ≡ b → not b ≡ true
  by true e = absurd (h (arity_there o k e))
  by false e = refl

-- a test that passes exactly where it is so
abbrev Tells : Bool → Type 0 → Type 0
Tells b P = (b ≡ true → P) × (P → b ≡ true)

nothing_told : Tells false ⊥
nothing_told = (λ e. cc, λ h. absurd h)

same_told : (b : Bool) → Tells b (b ≡ true)
same_told b = (λ e. e, λ e. e)

tells : (g : Sig) (before : List Site) (s : Site) (w : Flaw) → IsOfWords w → (front : List Node) (n : Node) → Tells (is_such g w n) (IsFlawedNode g before s w front n)
tells g before s BadFunction o front (symbol a f k) = (not_held (arity_of g f) k, held_not (arity_of g f) k)
tells g before s BadFunction o front (binder v) = (
  λ e. (
    sort_plain v.sort (and_left (same_sort v.sort Msg) (has_arity (arity_of g v.name) 0) e),
    arity_there (arity_of g v.name) 0 (and_right (same_sort v.sort Msg) (has_arity (arity_of g v.name) 0) e),
  ),
  λ h. and_true (same_sort v.sort Msg) (has_arity (arity_of g v.name) 0) (sort_tested v.sort h.0) (arity_tested (arity_of g v.name) 0 h.1),
)
tells g before s BadFunction o front (variable v) = nothing_told
tells g before s BadFunction o front (public n) = nothing_told
tells g before s BadFunction o front (fresh k) = nothing_told
tells g before s BadFunction o front (fact a f) = nothing_told
tells g before s ReservedVar o front (variable v) = same_told _
tells g before s ReservedVar o front (binder v) = same_told _
tells g before s ReservedVar o front (symbol a f k) = nothing_told
tells g before s ReservedVar o front (public n) = nothing_told
tells g before s ReservedVar o front (fresh k) = nothing_told
tells g before s ReservedVar o front (fact a f) = nothing_told
tells g before s ReservedFact o front (fact a f) = same_told _
tells g before s ReservedFact o front (variable v) = nothing_told
tells g before s ReservedFact o front (binder v) = nothing_told
tells g before s ReservedFact o front (symbol a f k) = nothing_told
tells g before s ReservedFact o front (public n) = nothing_told
tells g before s ReservedFact o front (fresh k) = nothing_told
tells g before s PatternDestructor o front (symbol Pattern f k) = same_told (is_destructor_of g f)
tells g before s PatternDestructor o front (symbol Shown f k) = nothing_told
tells g before s PatternDestructor o front (symbol Given f k) = nothing_told
tells g before s PatternDestructor o front (fact a f) = nothing_told
tells g before s PatternDestructor o front (variable v) = nothing_told
tells g before s PatternDestructor o front (binder v) = nothing_told
tells g before s PatternDestructor o front (public n) = nothing_told
tells g before s PatternDestructor o front (fresh k) = nothing_told
tells g before s FactClash o front n = absurd o
tells g before s Unbound o front n = absurd o
tells g before s Rebound o front n = absurd o
tells g before s SortClash o front n = absurd o
tells g before s ScopeFull o front n = absurd o

-- a search through the nodes of a head tells of which the flaw speaks
told_of : (g : Sig) (before : List Site) (s : Site) (w : Flaw) → IsOfWords w → IsTold g before s w (found_at (after (is_such g w) at_first (head_nodes s.body)))
told_of g before s w o = by (outcome (is_such g w) (head_nodes s.body) 0 (omega arith)) where
  fails : (k : ℕ) (h : IsFlawedAt g before s w k) → is_such g w h.node ≡ false → ⊥
  fails k h e = let t = (tells g before s w o (take k (head_nodes s.body)) h.node).1 h.flaw in cc

  by : Hit (is_such g w) (head_nodes s.body) 0 (after (is_such g w) at_first (head_nodes s.body))
      ⊎ Miss (is_such g w) (head_nodes s.body) (after (is_such g w) at_first (head_nodes s.body))
      → IsTold g before s w (found_at (after (is_such g w) at_first (head_nodes s.body)))
  by (inl h) = subst (IsTold g before s w)
      (sym (ap (λ (b : Bool). if b then Some (after (is_such g w) at_first (head_nodes s.body)).at else None) h.found)) (
        h.place,
        record {
          here = record {
            node = h.node;
            stands = h.stands;
            flaw = (tells g before s w o (take h.place (head_nodes s.body)) h.node).0 h.such;
          };
          first = λ j l f. fails j f (h.first j f.node l f.stands);
        },
        let c = h.counted in omega (arith, c),
      )
  by (inr h) = subst (IsTold g before s w)
      (sym (ap (λ (b : Bool). if b then Some (after (is_such g w) at_first (head_nodes s.body)).at else None) h.found))
      (λ k f. fails k f.here (h.each k f.here.node f.here.stands))

pub told_node : (g : Sig) (before : List Site) (s : Site) (p : Proc) (w : Flaw) → IsOfWords w → s.body ≡ p
    → IsTold g before s w (found_at (after (is_such g w) at_first (head_nodes p)))
told_node g before s p w o e = subst (λ q. IsTold g before s w (found_at (after (is_such g w) at_first (head_nodes q)))) e (told_of g before s w o)

-- one term more, and one fact more
pub term_step : (test : Node → Bool) (a : Search) (part : Part) (ts : List Tree) (k : ℕ) (t : Tree) → slice_get ts k ≡ Some t
    → after test (after test a (tree_nodes part t)) (trees_nodes part (trees_of (drop (k + 1) ts))) ≡ after test a (trees_nodes part (trees_of (drop k ts)))
term_step test a part ts k t e =
    sym (after_append test a (tree_nodes part t) (trees_nodes part (trees_of (drop (k + 1) ts))))
    ∙ sym (ap (λ us. after test a (trees_nodes part (trees_of us))) (drop_got ts k t e))

pub fact_step : (test : Node → Bool) (a : Search) (part : Part) (fs : List Fact) (k : ℕ) (f : Fact) → slice_get fs k ≡ Some f
    → after test (after test a (fact_nodes part f)) (facts_nodes part (drop (k + 1) fs)) ≡ after test a (facts_nodes part (drop k fs))
fact_step test a part fs k f e =
    sym (after_append test a (fact_nodes part f) (facts_nodes part (drop (k + 1) fs))) ∙ sym (ap (λ hs. after test a (facts_nodes part hs)) (drop_got fs k f e))

-- the item of a loop
pub item_got : {X : Type 0} (xs : List X) (k : ℕ) (x : X) → k < length xs → x ≡ get_or xs k x → slice_get xs k ≡ Some x
item_got xs k x l e = slice_get_read xs (length xs) k x refl l e
