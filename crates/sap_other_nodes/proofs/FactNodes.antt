-- The facts of a head by their nodes, and which of them differ.
use Rattle.std.proofs.Common.{◌≡◌, ℕ, zero, suc, ◌+◌, ◌<◌, List, [], ◌∷◌, ◌++◌, Option, Some, None, Bool, true, false, cond, length, inl, inr, arith, refl, sym, ap, subst, ◌∙◌}
use Rattle.std.specs.Prelude.{◌⊎◌, Contains, min, nat_eq, not, ◌&&◌, ◌||◌, slice_get}
use Rattle.std.specs.List.{find}
use Rattle.std.specs.Str.{bytes_eq}
use Rattle.std.proofs.lemmas.Bool.Decides.{Decides-eqb}
use Rattle.std.specs.Option.{option_or}
use Rattle.std.proofs.lemmas.List.Folds.{find-append}
use Rattle.std.proofs.lemmas.Slice.Eq.{bytes_eq-Decides}
use Rattle.sap_terms.specs.Signature.{same_bool}
use Rattle.sap_terms.specs.Tree as tree
use Rattle.sap_terms.specs.Tree.{Tree, Trees, none, more, trees_count, trees_of, node_count, list_of}
use Rattle.sap_terms.specs.declared.fact.Fact.{Fact}
use Rattle.sap_terms.proofs.PlainLaws.Items.{first_item, item_cases}
use Rattle.sap_terms.proofs.PlainLaws.Tests.{and_left, and_right}
use Rattle.sap_process.specs.Action.{Action, new, out, send, input, receive, event, insert, delete, lock, unlock, embedded}
use Rattle.sap_process.specs.Flaws.{HasOtherArity, HasOtherForm}
use Rattle.sap_process.specs.Proc.{Proc, nil, parallel, replicated, act, test, lookup}
use Rattle.sap_process.specs.Sites.{message_var}
use Rattle.sap_nodes.specs.FlawNodes.{shown_of, stored_of}
use Rattle.sap_nodes.specs.HeadNodes.{Node, binder, variable, public, fresh, symbol, fact, tree_nodes, trees_nodes, fact_nodes, facts_nodes, action_nodes, head_nodes}
use Rattle.sap_nodes.specs.declared.part.Part.{Part}
use Rattle.sap_nodes.specs.declared.part.Part.TheVariants.{Pattern, Shown, Given}
use Rattle.sap_other_nodes.specs.OtherFacts.{AreDiffering, Differ}
use Rattle.sap_other_nodes.specs.code.FactSearches.{Numbered, action_facts, differs, fact_size, head_facts, is_shown, most, numbered, numbered_facts, past}

-- the facts among nodes, where so many stand in front of them

abbrev pub listed : ℕ → Node → List Numbered
listed r (fact a f) = numbered (min r most) a f ∷ []
listed r _ = []

abbrev pub facts_among : ℕ → List Node → List Numbered
facts_among r [] = []
facts_among r (n ∷ ns) = listed r n ++ facts_among (r + 1) ns

pub among_append : (r : ℕ) (ms ns : List Node) → facts_among r (ms ++ ns) ≡ facts_among r ms ++ facts_among (r + length ms) ns
among_append r [] ns = ap (λ k. facts_among k ns) (omega arith)
among_append r (m ∷ ms) ns = by (among_append (r + 1) ms ns ∙ ap (λ k. facts_among (r + 1) ms ++ facts_among k ns) (omega arith)) m
  where
    by : facts_among (r + 1) (ms ++ ns) ≡ facts_among (r + 1) ms ++ facts_among (r + length (m ∷ ms)) ns → (x : Node)
        → listed r x ++ facts_among (r + 1) (ms ++ ns) ≡ (listed r x ++ facts_among (r + 1) ms) ++ facts_among (r + length (m ∷ ms)) ns
    by later (fact a f) = ap (λ (xs : List Numbered). numbered (min r most) a f ∷ xs) later
    by later (binder v) = later
    by later (variable v) = later
    by later (public n) = later
    by later (fresh k) = later
    by later (symbol a f k) = later

-- terms have none

mutual
  none_in_tree : (r : ℕ) (a : Part) (t : Tree) → facts_among r (tree_nodes a t) ≡ []
  none_in_tree r a (tree.variable v) = refl
  none_in_tree r a (tree.public n) = refl
  none_in_tree r a (tree.fresh k) = refl
  none_in_tree r a (tree.apply f ts) = none_in_trees (r + 1) a ts

  none_in_trees : (r : ℕ) (a : Part) (ts : Trees) → facts_among r (trees_nodes a ts) ≡ []
  none_in_trees r a none = refl
  none_in_trees r a (more t ts) =
      among_append r (tree_nodes a t) (trees_nodes a ts)
      ∙ ap (λ (xs : List Numbered). xs ++ facts_among (r + length (tree_nodes a t)) (trees_nodes a ts)) (none_in_tree r a t)
      ∙ none_in_trees (r + length (tree_nodes a t)) a ts

none_in_both : (r : ℕ) (a b : Part) (t u : Tree) → facts_among r (tree_nodes a t ++ tree_nodes b u) ≡ []
none_in_both r a b t u =
    among_append r (tree_nodes a t) (tree_nodes b u)
    ∙ ap (λ (xs : List Numbered). xs ++ facts_among (r + length (tree_nodes a t)) (tree_nodes b u)) (none_in_tree r a t)
    ∙ none_in_tree (r + length (tree_nodes a t)) b u

length_both : (ms ns : List Node) → length (ms ++ ns) ≡ length ms + length ns
length_both [] ns = omega arith
length_both (m ∷ ms) ns = let e = length_both ms ns in omega (arith, e)

mutual
  tree_length : (a : Part) (t : Tree) → length (tree_nodes a t) ≡ node_count t
  tree_length a (tree.variable v) = refl
  tree_length a (tree.public n) = refl
  tree_length a (tree.fresh k) = refl
  tree_length a (tree.apply f ts) = let e = trees_length a ts in omega (arith, e)

  trees_length : (a : Part) (ts : Trees) → length (trees_nodes a ts) ≡ trees_count ts
  trees_length a none = refl
  trees_length a (more t ts) = let e = tree_length a t in let f = trees_length a ts in let g = length_both (tree_nodes a t) (trees_nodes a ts) in omega (arith, e, f, g)

fact_length : (a : Part) (f : Fact) → length (fact_nodes a f) ≡ fact_size f
fact_length a f = let e = trees_length a (trees_of f.args) in omega (arith, e)

-- facts one after another are numbered as the code numbers them

fact_listed : (r : ℕ) (a : Part) (f : Fact) → facts_among r (fact_nodes a f) ≡ numbered (min r most) a f ∷ []
fact_listed r a f = ap (λ (xs : List Numbered). numbered (min r most) a f ∷ xs) (none_in_trees (r + 1) a (trees_of f.args))

next_number : (r : ℕ) (a : Part) (f : Fact) → min (r + length (fact_nodes a f)) most ≡ min (min r most + fact_size f) most
next_number r a f = let e = fact_length a f in omega (arith, e)

facts_listed : (r : ℕ) (a : Part) (fs : List Fact) → facts_among r (facts_nodes a fs) ≡ numbered_facts (min r most) a fs
facts_listed r a [] = refl
facts_listed r a (f ∷ fs) =
    among_append r (fact_nodes a f) (facts_nodes a fs)
    ∙ ap (λ (xs : List Numbered). xs ++ facts_among (r + length (fact_nodes a f)) (facts_nodes a fs)) (fact_listed r a f)
    ∙ ap (λ (xs : List Numbered). numbered (min r most) a f ∷ xs) (facts_listed (r + length (fact_nodes a f)) a fs ∙ ap (λ k. numbered_facts k a fs) (next_number r a f))

past_is : (r : ℕ) (a : Part) (fs : List Fact) → past (min r most) fs ≡ min (r + length (facts_nodes a fs)) most
past_is r a [] = ap (λ k. min k most) (omega arith)
past_is r a (f ∷ fs) =
    ap (λ k. past k fs) (sym (next_number r a f))
    ∙ past_is (r + length (fact_nodes a f)) a fs
    ∙ ap (λ k. min k most) (let e = length_both (fact_nodes a f) (facts_nodes a fs) in omega (arith, e))

rule_listed : (l e r : List Fact) → facts_among 0 (action_nodes (embedded l e r)) ≡ action_facts (embedded l e r)
rule_listed l e r =
    among_append 0 (facts_nodes Pattern l) (facts_nodes Shown e ++ facts_nodes Given r)
    ∙ ap (λ (xs : List Numbered). xs ++ facts_among i (facts_nodes Shown e ++ facts_nodes Given r)) (facts_listed 0 Pattern l)
    ∙ ap (λ (xs : List Numbered). numbered_facts 0 Pattern l ++ xs) behind
  where
    i : ℕ
    i = 0 + length (facts_nodes Pattern l)

    at_i : min i most ≡ past 0 l
    at_i = sym (past_is 0 Pattern l)

    j : ℕ
    j = i + length (facts_nodes Shown e)

    at_j : min j most ≡ past (past 0 l) e
    at_j = sym (past_is i Shown e) ∙ ap (λ k. past k e) at_i

    behind : facts_among i (facts_nodes Shown e ++ facts_nodes Given r) ≡ numbered_facts (past 0 l) Shown e ++ numbered_facts (past (past 0 l) e) Given r
    behind =
        among_append i (facts_nodes Shown e) (facts_nodes Given r)
        ∙ ap (λ (xs : List Numbered). xs ++ facts_among j (facts_nodes Given r)) (facts_listed i Shown e ∙ ap (λ k. numbered_facts k Shown e) at_i)
        ∙ ap (λ (xs : List Numbered). numbered_facts (past 0 l) Shown e ++ xs) (facts_listed j Given r ∙ ap (λ k. numbered_facts k Given r) at_j)

action_listed : (x : Action) → facts_among 0 (action_nodes x) ≡ action_facts x
action_listed (new x) = refl
action_listed (out t) = none_in_tree 0 Given t
action_listed (send t u) = none_in_both 0 Given Given t u
action_listed (input t) = none_in_tree 0 Pattern t
action_listed (receive t u) = none_in_both 0 Given Pattern t u
action_listed (event f) = fact_listed 0 Shown f
action_listed (insert t u) = none_in_both 0 Given Given t u
action_listed (delete t) = none_in_tree 0 Given t
action_listed (lock t n) = none_in_tree 0 Given t
action_listed (unlock t n) = none_in_tree 0 Given t
action_listed (embedded l e r) = rule_listed l e r

pub head_listed : (p : Proc) → facts_among 0 (head_nodes p) ≡ head_facts p
head_listed nil = refl
head_listed (parallel p q) = refl
head_listed (replicated p) = refl
head_listed (act x p) = action_listed x
head_listed (test t u p q) = none_in_both 0 Given Given t u
head_listed (lookup t x p q) =
    among_append 0 (tree_nodes Given t) (binder (message_var x) ∷ [])
    ∙ ap (λ (xs : List Numbered). xs ++ []) (none_in_tree 0 Given t)

-- the first of the facts that passes

-- node j is it, and none in front of it passes
pub record IsHit (pass : Numbered → Bool) (r : ℕ) (ns : List Node) (x : Numbered) : Type 0 where
  pub index : ℕ
  pub is : slice_get ns index ≡ Some (fact x.part x.fact)
  pub number : x.node ≡ min (r + index) most
  pub passes : pass x ≡ true
  pub first : (i : ℕ) (a : Part) (f : Fact) → i < index → slice_get ns i ≡ Some (fact a f) → pass (numbered (min (r + i) most) a f) ≡ false

-- none passes
abbrev pub IsMiss : (Numbered → Bool) → ℕ → List Node → Type 0
IsMiss pass r ns = (i : ℕ) (a : Part) (f : Fact) → slice_get ns i ≡ Some (fact a f) → pass (numbered (min (r + i) most) a f) ≡ false

abbrev pub IsFound : (Numbered → Bool) → ℕ → List Node → Option Numbered → Type 0
IsFound pass r ns None = IsMiss pass r ns
IsFound pass r ns (Some x) = IsHit pass r ns x

one_of : (m n : Node) → ◌≡◌ {A = Option Node} (Some m) (Some n) → m ≡ n
one_of m n e = cc

-- with a node in front that doesn't pass
miss_more : (pass : Numbered → Bool) (r : ℕ) (n : Node) (ns : List Node) → ((a : Part) (f : Fact) → n ≡ fact a f → pass (numbered (min r most) a f) ≡ false) → (o : Option Numbered)
    → IsFound pass (r + 1) ns o → IsFound pass r (n ∷ ns) o
miss_more pass r n ns here None h = each
  where
    each : IsMiss pass r (n ∷ ns)
    each zero a f e = ap (λ k. pass (numbered (min k most) a f)) (omega arith) ∙ here a f (one_of n (fact a f) e)
    each (suc i) a f e = ap (λ k. pass (numbered (min k most) a f)) (omega arith) ∙ h i a f e
miss_more pass r n ns here (Some x) h = record {
  index = suc h.index;
  is = h.is;
  number = h.number ∙ ap (λ k. min k most) (omega arith);
  passes = h.passes;
  first = front;
}
  where
    front : (i : ℕ) (a : Part) (f : Fact) → i < suc h.index → slice_get (n ∷ ns) i ≡ Some (fact a f) → pass (numbered (min (r + i) most) a f) ≡ false
    front zero a f l e = ap (λ k. pass (numbered (min k most) a f)) (omega arith) ∙ here a f (one_of n (fact a f) e)
    front (suc i) a f l e = ap (λ k. pass (numbered (min k most) a f)) (omega arith) ∙ h.first i a f (omega (arith, l)) e

abbrev is_fact : Node → Bool
is_fact (fact a f) = true
is_fact _ = false

no_fact : (n : Node) (a : Part) (f : Fact) → is_fact n ≡ false → n ≡ fact a f → ⊥
no_fact n a f e h = let t : is_fact n ≡ true = ap is_fact h in cc

pub same_fact : (a b : Part) (f h : Fact) → fact a f ≡ fact b h → (a ≡ b) × (f ≡ h)
same_fact a b f h e = (ap part_in e, ap fact_in e)
  where
    part_in : Node → Part
    part_in (fact c g) = c
    part_in _ = a

    fact_in : Node → Fact
    fact_in (fact c g) = g
    fact_in _ = f

pub found_is : (pass : Numbered → Bool) (r : ℕ) (ns : List Node) → IsFound pass r ns (find pass (facts_among r ns))
found_is pass r [] = λ i a f e. cc
found_is pass r (fact b h ∷ ns) = by (found_is pass (r + 1) ns) (pass (numbered (min r most) b h)) refl
  where
    by : IsFound pass (r + 1) ns (find pass (facts_among (r + 1) ns)) → (c : Bool) → pass (numbered (min r most) b h) ≡ c → IsFound pass r (fact b h ∷ ns) (cond c (Some (numbered (min r most) b h)) (find pass (facts_among (r + 1) ns)))
    by later true e = record {
      index = 0;
      is = refl;
      number = ap (λ k. min k most) (omega arith);
      passes = e;
      first = λ i a f l g. absurd (omega (arith, l));
    }
    by later false e = miss_more pass r (fact b h) ns (λ a f g. let s = same_fact b a h f g in subst (λ z. pass (numbered (min r most) z f) ≡ false) s.0 (subst (λ z. pass (numbered (min r most) b z) ≡ false) s.1 e)) (find pass (facts_among (r + 1) ns)) later
found_is pass r (binder v ∷ ns) = miss_more pass r (binder v) ns (λ a f e. absurd (no_fact (binder v) a f refl e)) (find pass (facts_among (r + 1) ns)) (found_is pass (r + 1) ns)
found_is pass r (variable v ∷ ns) = miss_more pass r (variable v) ns (λ a f e. absurd (no_fact (variable v) a f refl e)) (find pass (facts_among (r + 1) ns)) (found_is pass (r + 1) ns)
found_is pass r (public n ∷ ns) = miss_more pass r (public n) ns (λ a f e. absurd (no_fact (public n) a f refl e)) (find pass (facts_among (r + 1) ns)) (found_is pass (r + 1) ns)
found_is pass r (fresh k ∷ ns) = miss_more pass r (fresh k) ns (λ a f e. absurd (no_fact (fresh k) a f refl e)) (find pass (facts_among (r + 1) ns)) (found_is pass (r + 1) ns)
found_is pass r (symbol b h k ∷ ns) = miss_more pass r (symbol b h k) ns (λ a f e. absurd (no_fact (symbol b h k) a f refl e)) (find pass (facts_among (r + 1) ns)) (found_is pass (r + 1) ns)

pub head_found : (pass : Numbered → Bool) (p : Proc) → IsFound pass 0 (head_nodes p) (find pass (head_facts p))
head_found pass p = subst (λ xs. IsFound pass 0 (head_nodes p) (find pass xs)) (head_listed p) (found_is pass 0 (head_nodes p))

-- of three lists one after another

pub find_first : (pass : Numbered → Bool) (xs ys zs : List Numbered) (x : Numbered) → Some x ≡ find pass xs → Some x ≡ find pass (xs ++ (ys ++ zs))
find_first pass xs ys zs x e = sym (find-append pass xs (ys ++ zs) ∙ ap (λ o. option_or o (find pass (ys ++ zs))) (sym e))

pub find_second : (pass : Numbered → Bool) (xs ys zs : List Numbered) (x : Numbered) → None ≡ find pass xs → Some x ≡ find pass ys → Some x ≡ find pass (xs ++ (ys ++ zs))
find_second pass xs ys zs x n e =
    sym (find-append pass xs (ys ++ zs) ∙ ap (λ o. option_or o (find pass (ys ++ zs))) (sym n) ∙ find-append pass ys zs ∙ ap (λ o. option_or o (find pass zs)) (sym e))

pub find_third : (pass : Numbered → Bool) (xs ys zs : List Numbered) (o : Option Numbered) → None ≡ find pass xs → None ≡ find pass ys → o ≡ find pass zs → o ≡ find pass (xs ++ (ys ++ zs))
find_third pass xs ys zs o n m e =
    sym (find-append pass xs (ys ++ zs) ∙ ap (λ q. option_or q (find pass (ys ++ zs))) (sym n) ∙ find-append pass ys zs ∙ ap (λ q. option_or q (find pass zs)) (sym m) ∙ sym e)

-- the test tells whether facts differ

either : (x y : Bool) → x || y ≡ true → (x ≡ true) ⊎ (y ≡ true)
either true y e = inl refl
either false y e = inr e

left_is : (x y : Bool) → x ≡ true → x || y ≡ true
left_is true y e = refl
left_is false y e = cc

right_is : (x y : Bool) → y ≡ true → x || y ≡ true
right_is true y e = refl
right_is false y e = e

and_is : (x y : Bool) → x ≡ true → y ≡ true → x && y ≡ true
and_is true y e f = f
and_is false y e f = cc

other_number : (m n : ℕ) → not (nat_eq m n) ≡ true → ¬ (m ≡ n)
other_number m n e h = let t : nat_eq m n ≡ true = (Decides-eqb m n).1 h in cc

number_apart : (m n : ℕ) → ¬ (m ≡ n) → not (nat_eq m n) ≡ true
number_apart m n h = by (nat_eq m n) refl
  where
    by : (b : Bool) → nat_eq m n ≡ b → not b ≡ true
    by true e = absurd (h ((Decides-eqb m n).0 e))
    by false e = refl

other_form : (x y : Bool) → not (same_bool x y) ≡ true → ¬ (x ≡ y)
other_form true true e h = cc
other_form true false e h = cc
other_form false true e h = cc
other_form false false e h = cc

form_apart : (x y : Bool) → ¬ (x ≡ y) → not (same_bool x y) ≡ true
form_apart true true h = absurd (h refl)
form_apart true false h = refl
form_apart false true h = refl
form_apart false false h = absurd (h refl)

name_is : (x y : List ℕ) → bytes_eq x y ≡ true → x ≡ y
name_is x y e = (bytes_eq-Decides x y).0 e

abbrev has_arity_apart : Fact → Fact → Bool
has_arity_apart f h = not (nat_eq (length h.args) (length f.args))

abbrev has_form_apart : Fact → Fact → Bool
has_form_apart f h = not (same_bool h.persistent f.persistent)

shown_differ : (f h : Fact) → bytes_eq h.name f.name && (has_arity_apart f h || false) ≡ true → AreDiffering HasOtherArity shown_of (fact Shown f) (fact Shown h)
shown_differ f h e = record {
  fact = f;
  is = first_item f [];
  another = h;
  is_another = first_item h [];
  name = name_is h.name f.name (and_left (bytes_eq h.name f.name) (has_arity_apart f h || false) e);
  differs = elim (either (has_arity_apart f h) false (and_right (bytes_eq h.name f.name) (has_arity_apart f h || false) e)) as (λ _. HasOtherArity h f) [
    | inl t ↦ other_number (length h.args) (length f.args) t
    | inr t ↦ absurd (cc)
  ];
}

stored_differ : (m n : Node) (f h : Fact) → Contains (stored_of m) f → Contains (stored_of n) h → bytes_eq h.name f.name && (has_arity_apart f h || has_form_apart f h) ≡ true
    → AreDiffering HasOtherForm stored_of m n
stored_differ m n f h c d e = record {
  fact = f;
  is = c;
  another = h;
  is_another = d;
  name = name_is h.name f.name (and_left (bytes_eq h.name f.name) (has_arity_apart f h || has_form_apart f h) e);
  differs = elim (either (has_arity_apart f h) (has_form_apart f h) (and_right (bytes_eq h.name f.name) (has_arity_apart f h || has_form_apart f h) e)) as (λ _. HasOtherForm h f) [
    | inl t ↦ inl (other_number (length h.args) (length f.args) t)
    | inr t ↦ inr (other_form h.persistent f.persistent t)
  ];
}

pub differ_by : (a b : Part) (f h : Fact) → differs a f b h ≡ true → Differ (fact a f) (fact b h)
differ_by Shown Shown f h e = inl (shown_differ f h e)
differ_by Shown Pattern f h e = cc
differ_by Shown Given f h e = cc
differ_by Pattern Shown f h e = cc
differ_by Given Shown f h e = cc
differ_by Pattern Pattern f h e = inr (stored_differ (fact Pattern f) (fact Pattern h) f h (first_item f []) (first_item h []) e)
differ_by Pattern Given f h e = inr (stored_differ (fact Pattern f) (fact Given h) f h (first_item f []) (first_item h []) e)
differ_by Given Pattern f h e = inr (stored_differ (fact Given f) (fact Pattern h) f h (first_item f []) (first_item h []) e)
differ_by Given Given f h e = inr (stored_differ (fact Given f) (fact Given h) f h (first_item f []) (first_item h []) e)

none_in : {X : Type 0} (x : X) → Contains [] x → ⊥
none_in x h = let few = h.1 in omega (arith, few)

shown_is : (n : Node) (f : Fact) → Contains (shown_of n) f → n ≡ fact Shown f
shown_is (fact Shown h) f c = ap (fact Shown) (item_cases h f c)
shown_is _ f c = absurd (none_in f c)

stored_is : (n : Node) (f : Fact) → Contains (stored_of n) f → (a : Part) × (n ≡ fact a f) × (is_shown a ≡ false)
stored_is (fact Pattern h) f c = (Pattern, ap (fact Pattern) (item_cases h f c), refl)
stored_is (fact Given h) f c = (Given, ap (fact Given) (item_cases h f c), refl)
stored_is _ f c = absurd (none_in f c)

-- nodes that differ are facts for which the test passes
pub record AreTested (told other : Node) : Type 0 where
  pub part : Part
  pub item : Fact
  pub told_is : told ≡ fact part item
  pub other_part : Part
  pub other_item : Fact
  pub other_is : other ≡ fact other_part other_item
  pub passes : differs part item other_part other_item ≡ true

tested_arity : (f h : Fact) → h.name ≡ f.name → HasOtherArity h f → differs Shown f Shown h ≡ true
tested_arity f h e o =
    and_is (bytes_eq h.name f.name) (has_arity_apart f h || false) ((bytes_eq-Decides h.name f.name).1 e)
    (left_is (has_arity_apart f h) false (number_apart (length h.args) (length f.args) o))

tested_form : (a b : Part) (f h : Fact) → is_shown a ≡ false → is_shown b ≡ false → h.name ≡ f.name → HasOtherForm h f → differs a f b h ≡ true
tested_form a b f h x y e o = rw (x, y) (and_is (bytes_eq h.name f.name) (has_arity_apart f h || has_form_apart f h) ((bytes_eq-Decides h.name f.name).1 e) (apart o))
  where
    apart : HasOtherForm h f → has_arity_apart f h || has_form_apart f h ≡ true
    apart (inl n) = left_is (has_arity_apart f h) (has_form_apart f h) (number_apart (length h.args) (length f.args) n)
    apart (inr n) = right_is (has_arity_apart f h) (has_form_apart f h) (form_apart h.persistent f.persistent n)

pub tested : (told other : Node) → Differ told other → AreTested told other
tested told other (inl d) = record {
  part = Shown;
  item = d.fact;
  told_is = shown_is told d.fact d.is;
  other_part = Shown;
  other_item = d.another;
  other_is = shown_is other d.another d.is_another;
  passes = tested_arity d.fact d.another d.name d.differs;
}
tested told other (inr d) =
    let r = stored_is told d.fact d.is in
    let o = stored_is other d.another d.is_another in record {
      part = r.0;
      item = d.fact;
      told_is = r.1;
      other_part = o.0;
      other_item = d.another;
      other_is = o.1;
      passes = tested_form r.0 o.0 d.fact d.another r.2 o.2 d.name d.differs;
    }
