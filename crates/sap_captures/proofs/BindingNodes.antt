-- The nodes that are noted of a head are those of the kind.
use Rattle.std.proofs.Common.{◌≡◌, ◌<◌, ◌+◌, ◌⊎◌, ◌↔◌, ◌||◌, inl, inr, ℕ, zero, suc, Bool, true, false, List, [], ◌∷◌, ◌++◌, length, Option, Some, None, refl, sym, ap, ◌∙◌, subst, arith}
use Rattle.std.proofs.lemmas.List.{length-append, append-nil}
use Rattle.std.proofs.lemmas.List.Elements.{Contains-append_cases, Contains-append_left, Contains-append_right}
use Rattle.std.specs.Option.{option_to_list}
use Rattle.std.proofs.lemmas.Grind.{flat_map-append}
use Rattle.std.specs.Prelude.{Contains, if◌then◌else◌, slice_get}
use Rattle.std.specs.Str.{bytes_eq}
use Rattle.sap_terms.specs.Tree as tree
use Rattle.sap_terms.specs.Tree.{Tree, Trees, none, more, node_count, trees_count, trees_of}
use Rattle.sap_terms.specs.Variables.{facts_vars, is_known, trees_vars}
use Rattle.sap_terms.specs.declared.fact.Fact.{Fact}
use Rattle.sap_terms.specs.declared.var.Var.{Var}
use Rattle.sap_process.specs.Action.{new, out, send, input, receive, event, insert, delete, lock, unlock, embedded}
use Rattle.sap_process.specs.Flaws.{scope_at}
use Rattle.sap_process.specs.Places.{place}
use Rattle.sap_process.specs.Proc.{Proc, nil, parallel, replicated, act, test, lookup}
use Rattle.sap_process.specs.Sites.{Site, above_of, var_names}
use Rattle.sap_nodes.specs.FullScope.{front_nodes}
use Rattle.sap_nodes.specs.HeadNodes.{Node, binder, variable, public, fresh, symbol, fact, facts_nodes, tree_nodes, trees_nodes}
use Rattle.sap_nodes.specs.declared.part.Part.{Part}
use Rattle.sap_nodes.specs.declared.part.Part.TheVariants.{Pattern, Shown, Given}
use Rattle.sap_captures.specs.Patterns.{IsBindingNode, IsComparedNode, input_pattern, pattern_nodes}
use Rattle.sap_captures.specs.code.Bindings.{bound_all, passed, taken}
use Rattle.sap_captures.specs.code.Heads.{bound_head, bound_rule, compared_at, started, whole_at}
use Rattle.sap_captures.specs.declared.binding.Binding.{Binding}
use Rattle.sap_captures.proofs.BoundNodes.{and_new, bound_append, facts_node_vars, node_vars, scope_behind, tree_node_vars, vars_append}
use Rattle.sap_terms.proofs.PlainLaws.Known.{apart, clash, two_names}
use Rattle.sap_terms.proofs.PlainLaws.Items.{contains_got, item_cases, none_contained}

-- ---- nodes that are noted of a pattern

-- node i of these binds, where this is in scope
record Binds (scope : List Var) (ns : List Node) (i : ℕ) : Type 0 where
  var : Var
  stands : slice_get ns i ≡ Some (variable var)
  new : is_known (var_names scope) var.name ≡ false
  first : (j : ℕ) (v : Var) → j < i → slice_get ns j ≡ Some (variable v) → ¬ (v.name ≡ var.name)

-- it was noted before, or one of these nodes has its number and binds
abbrev IsNoted : Binding → List Node → ℕ → Type 0
IsNoted b ns k = Contains b.nodes k ⊎ ((i : ℕ) × (k ≡ b.at + i) × Binds b.scope ns i)

some_same : {A : Type 0} {a b : A} → ◌≡◌ {A = Option A} (Some a) (Some b) → a ≡ b
some_same e = cc (e)

later : (scope : List Var) (n : Node) (ns : List Node) (i : ℕ) (b : Binds scope ns i) → ((v : Var) → n ≡ variable v → ¬ (v.name ≡ b.var.name)) → Binds scope (n ∷ ns) (suc i)
later scope n ns i b other = record { var = b.var; stands = b.stands; new = b.new; first = before } where
  before : (j : ℕ) (v : Var) → j < suc i → slice_get (n ∷ ns) j ≡ Some (variable v) → ¬ (v.name ≡ b.var.name)
  before zero v low e = other v (some_same e)
  before (suc j) v low e = b.first j v (omega (arith, low)) e

sooner : (scope : List Var) (n : Node) (ns : List Node) (i : ℕ) → Binds scope (n ∷ ns) (suc i) → Binds scope ns i
sooner scope n ns i b = record { var = b.var; stands = b.stands; new = b.new; first = λ j v low e. b.first (suc j) v (omega (arith, low)) e }

names_append : (vs ws : List Var) → var_names (vs ++ ws) ≡ var_names vs ++ var_names ws
names_append [] ws = refl
names_append (v ∷ vs) ws = ap (λ (ns : List (List ℕ)). v.name ∷ ns) (names_append vs ws)

known_last : (xs : List (List ℕ)) (n m : List ℕ) → is_known (xs ++ n ∷ []) m ≡ (is_known xs m || bytes_eq n m)
known_last [] n m = by (bytes_eq n m) where
  by : (b : Bool) → (b || false) ≡ b
  by true = refl
  by false = refl
known_last (x ∷ xs) n m = by (bytes_eq x m) (known_last xs n m) where
  by : (b : Bool) → is_known (xs ++ n ∷ []) m ≡ (is_known xs m || bytes_eq n m) → (b || is_known (xs ++ n ∷ []) m) ≡ ((b || is_known xs m) || bytes_eq n m)
  by true h = refl
  by false h = h

neither : (b c : Bool) → (b || c) ≡ false → (b ≡ false) × (c ≡ false)
neither true c h = absurd (cc (h))
neither false c h = (refl, h)

known_or : (scope : List Var) (v : Var) (n : List ℕ) → is_known (var_names (scope ++ v ∷ [])) n ≡ (is_known (var_names scope) n || bytes_eq v.name n)
known_or scope v n = ap (λ (ns : List (List ℕ)). is_known ns n) (names_append scope (v ∷ [])) ∙ known_last (var_names scope) v.name n

variable_is : {v w : Var} → variable v ≡ variable w → v ≡ w
variable_is e = cc (e)

skip : (b : Binding) (n : Node) (ns : List Node) (k : ℕ) → ((v : Var) → n ≡ variable v → ⊥) → IsNoted (passed b) ns k → IsNoted b (n ∷ ns) k
skip b n ns k other (inl c) = inl c
skip b n ns k other (inr (i, e, r)) = inr (suc i, omega (arith, e), later b.scope n ns i r (λ v h. absurd (other v h)))

skip_known : (b : Binding) (v : Var) (ns : List Node) (k : ℕ) → is_known (var_names b.scope) v.name ≡ true → IsNoted (passed b) ns k → IsNoted b (variable v ∷ ns) k
skip_known b v ns k known (inl c) = inl c
skip_known b v ns k known (inr (i, e, r)) =
    inr (
      suc i,
      omega (arith, e),
      later b.scope (variable v) ns i r (λ w h same.
          clash (is_known (var_names b.scope) r.var.name)
          (ap (λ (n : List ℕ). is_known (var_names b.scope) n) (sym (ap (λ (u : Var). u.name) (variable_is h) ∙ same)) ∙ known) r.new),
    )

skip_new : (b : Binding) (v : Var) (ns : List Node) (k : ℕ) → is_known (var_names b.scope) v.name ≡ false → IsNoted (taken Pattern b v) ns k → IsNoted b (variable v ∷ ns) k
skip_new b v ns k unknown (inl c) = by (Contains-append_cases b.nodes (b.at ∷ []) k c) where
  by : Contains b.nodes k ⊎ Contains (b.at ∷ []) k → IsNoted b (variable v ∷ ns) k
  by (inl h) = inl h
  by (inr h) =
      let same : b.at ≡ k = item_cases b.at k h in
      inr (zero, omega (arith, same), record { var = v; stands = refl; new = unknown; first = λ j w low e. absurd (omega (arith, low)) })
skip_new b v ns k unknown (inr (i, e, r)) =
    let both = neither (is_known (var_names b.scope) r.var.name) (bytes_eq v.name r.var.name) (sym (known_or b.scope v r.var.name) ∙ r.new) in
    let here : Binds b.scope ns i = record { var = r.var; stands = r.stands; new = both.0; first = r.first } in
    inr (
      suc i,
      omega (arith, e),
      later b.scope (variable v) ns i here (λ w h same.
          two_names v.name r.var.name both.1 (ap (λ (u : Var). u.name) (variable_is h) ∙ same)),
    )

noted_to : (b : Binding) (ns : List Node) (k : ℕ) → Contains (bound_all Pattern b ns).nodes k → IsNoted b ns k
noted_to b [] k c = inl c
noted_to b (binder v ∷ ns) k c = skip b (binder v) ns k (λ w e. cc (e)) (noted_to (passed b) ns k c)
noted_to b (public n ∷ ns) k c = skip b (public n) ns k (λ w e. cc (e)) (noted_to (passed b) ns k c)
noted_to b (fresh j ∷ ns) k c = skip b (fresh j) ns k (λ w e. cc (e)) (noted_to (passed b) ns k c)
noted_to b (symbol a f j ∷ ns) k c = skip b (symbol a f j) ns k (λ w e. cc (e)) (noted_to (passed b) ns k c)
noted_to b (fact a f ∷ ns) k c = skip b (fact a f) ns k (λ w e. cc (e)) (noted_to (passed b) ns k c)
noted_to b (variable v ∷ ns) k c = by (is_known (var_names b.scope) v.name) refl c (noted_to (passed b) ns k) (noted_to (taken Pattern b v) ns k) where
  by : (known : Bool) → is_known (var_names b.scope) v.name ≡ known → Contains (bound_all Pattern (if known then passed b else taken Pattern b v) ns).nodes k
      → (Contains (bound_all Pattern (passed b) ns).nodes k → IsNoted (passed b) ns k) → (Contains (bound_all Pattern (taken Pattern b v) ns).nodes k → IsNoted (taken Pattern b v) ns k) → IsNoted b (variable v ∷ ns) k
  by true e c one two = skip_known b v ns k e (one c)
  by false e c one two = skip_new b v ns k e (two c)

kept : (b : Binding) (ns : List Node) (k : ℕ) → Contains b.nodes k → Contains (bound_all Pattern b ns).nodes k
kept b [] k c = c
kept b (binder v ∷ ns) k c = kept (passed b) ns k c
kept b (public n ∷ ns) k c = kept (passed b) ns k c
kept b (fresh j ∷ ns) k c = kept (passed b) ns k c
kept b (symbol a f j ∷ ns) k c = kept (passed b) ns k c
kept b (fact a f ∷ ns) k c = kept (passed b) ns k c
kept b (variable v ∷ ns) k c = by (is_known (var_names b.scope) v.name) (kept (passed b) ns k c) (kept (taken Pattern b v) ns k (Contains-append_left b.nodes (b.at ∷ []) k c)) where
  by : (known : Bool) → Contains (bound_all Pattern (passed b) ns).nodes k → Contains (bound_all Pattern (taken Pattern b v) ns).nodes k
      → Contains (bound_all Pattern (if known then passed b else taken Pattern b v) ns).nodes k
  by true one two = one
  by false one two = two

abbrev Numbered : Binding → List Node → ℕ → Type 0
Numbered b ns k = Contains (bound_all Pattern b ns).nodes k

one_further : (b : Binding) (ns : List Node) (i k : ℕ) → Numbered b ns ((k + 1) + i) → Numbered b ns (k + suc i)
one_further b ns i k c = subst (λ (n : ℕ). Numbered b ns n) (omega arith) c

noted_here : (b : Binding) (v : Var) (ns : List Node) → is_known (var_names b.scope) v.name ≡ false → Numbered b (variable v ∷ ns) (b.at + 0)
noted_here b v ns unknown = by (is_known (var_names b.scope) v.name) unknown where
  last : Contains (b.nodes ++ b.at ∷ []) (b.at + 0)
  last = subst (λ (n : ℕ). Contains (b.nodes ++ b.at ∷ []) n) (omega arith) (Contains-append_right b.nodes (b.at ∷ []) b.at (contains_got (b.at ∷ []) b.at 0 refl))

  by : (known : Bool) → known ≡ false → Contains (bound_all Pattern (if known then passed b else taken Pattern b v) ns).nodes (b.at + 0)
  by true h = absurd (cc (h))
  by false h = kept (taken Pattern b v) ns (b.at + 0) last

behind_it : (b : Binding) (v : Var) (ns : List Node) (i : ℕ) → Binds b.scope (variable v ∷ ns) (suc i) → Binds (b.scope ++ v ∷ []) ns i
behind_it b v ns i r = record {
  var = r.var;
  stands = r.stands;
  new = known_or b.scope v r.var.name ∙ ap (λ (x : Bool). x || bytes_eq v.name r.var.name) r.new ∙ apart v.name r.var.name (r.first zero v (omega arith) refl);
  first = λ j w low e. r.first (suc j) w (omega (arith, low)) e;
}

noted_later : (b : Binding) (v : Var) (ns : List Node) (i : ℕ) → Numbered (passed b) ns ((b.at + 1) + i) → Numbered (taken Pattern b v) ns ((b.at + 1) + i) → Numbered b (variable v ∷ ns) (b.at + suc i)
noted_later b v ns i one two = by (is_known (var_names b.scope) v.name) where
  by : (known : Bool) → Contains (bound_all Pattern (if known then passed b else taken Pattern b v) ns).nodes (b.at + suc i)
  by true = one_further (passed b) ns i b.at one
  by false = one_further (taken Pattern b v) ns i b.at two

noted_from : (b : Binding) (ns : List Node) (i : ℕ) → Binds b.scope ns i → Numbered b ns (b.at + i)
noted_from b [] i r = absurd (cc (r.stands))
noted_from b (n ∷ ns) zero r = subst (λ (m : Node). Numbered b (m ∷ ns) (b.at + 0)) (sym (some_same r.stands)) (noted_here b r.var ns r.new)
noted_from b (binder v ∷ ns) (suc i) r = one_further (passed b) ns i b.at (noted_from (passed b) ns i (sooner b.scope (binder v) ns i r))
noted_from b (public n ∷ ns) (suc i) r = one_further (passed b) ns i b.at (noted_from (passed b) ns i (sooner b.scope (public n) ns i r))
noted_from b (fresh j ∷ ns) (suc i) r = one_further (passed b) ns i b.at (noted_from (passed b) ns i (sooner b.scope (fresh j) ns i r))
noted_from b (symbol a f j ∷ ns) (suc i) r = one_further (passed b) ns i b.at (noted_from (passed b) ns i (sooner b.scope (symbol a f j) ns i r))
noted_from b (fact a f ∷ ns) (suc i) r = one_further (passed b) ns i b.at (noted_from (passed b) ns i (sooner b.scope (fact a f) ns i r))
noted_from b (variable v ∷ ns) (suc i) r =
    noted_later b v ns i (noted_from (passed b) ns i (sooner b.scope (variable v) ns i r)) (noted_from (taken Pattern b v) ns i (behind_it b v ns i r))

-- ---- nothing is noted of other parts

shown_same : (b : Binding) (ns : List Node) → (bound_all Shown b ns).nodes ≡ b.nodes
shown_same b [] = refl
shown_same b (binder v ∷ ns) = shown_same (passed b) ns
shown_same b (public n ∷ ns) = shown_same (passed b) ns
shown_same b (fresh j ∷ ns) = shown_same (passed b) ns
shown_same b (symbol a f j ∷ ns) = shown_same (passed b) ns
shown_same b (fact a f ∷ ns) = shown_same (passed b) ns
shown_same b (variable v ∷ ns) = by (is_known (var_names b.scope) v.name) (shown_same (passed b) ns) (shown_same (taken Shown b v) ns) where
  by : (known : Bool) → (bound_all Shown (passed b) ns).nodes ≡ b.nodes → (bound_all Shown (taken Shown b v) ns).nodes ≡ b.nodes → (bound_all Shown (if known then passed b else taken Shown b v) ns).nodes ≡ b.nodes
  by true one two = one
  by false one two = two

given_same : (b : Binding) (ns : List Node) → (bound_all Given b ns).nodes ≡ b.nodes
given_same b [] = refl
given_same b (binder v ∷ ns) = given_same (passed b) ns
given_same b (public n ∷ ns) = given_same (passed b) ns
given_same b (fresh j ∷ ns) = given_same (passed b) ns
given_same b (symbol a f j ∷ ns) = given_same (passed b) ns
given_same b (fact a f ∷ ns) = given_same (passed b) ns
given_same b (variable v ∷ ns) = by (is_known (var_names b.scope) v.name) (given_same (passed b) ns) (given_same (taken Given b v) ns) where
  by : (known : Bool) → (bound_all Given (passed b) ns).nodes ≡ b.nodes → (bound_all Given (taken Given b v) ns).nodes ≡ b.nodes → (bound_all Given (if known then passed b else taken Given b v) ns).nodes ≡ b.nodes
  by true one two = one
  by false one two = two

-- ---- those of a head

mutual
  tree_length : (a : Part) (t : Tree) → length (tree_nodes a t) ≡ node_count t
  tree_length a (tree.variable v) = refl
  tree_length a (tree.public n) = refl
  tree_length a (tree.fresh k) = refl
  tree_length a (tree.apply f ts) = let rest = trees_length a ts in omega (arith, rest)

  trees_length : (a : Part) (ts : Trees) → length (trees_nodes a ts) ≡ trees_count ts
  trees_length a none = refl
  trees_length a (more t ts) =
      let here = tree_length a t in let rest = trees_length a ts in let long = length-append (tree_nodes a t) (trees_nodes a ts) in omega (arith, here, rest, long)

module _ (path : List ℕ) (locks : ℕ) (b : Binding) where
  abbrev here : Proc → Site
  here p = place path (above_of b.scope locks) p

  module _ (p : Proc) (at : ℕ) (front : at ≡ length (front_nodes p)) where
    to_binding : (k : ℕ) → Contains (bound_all Pattern (started at b) (pattern_nodes p)).nodes k → IsBindingNode (here p) k
    to_binding k c = by (noted_to (started at b) (pattern_nodes p) k c) where
      by : IsNoted (started at b) (pattern_nodes p) k → IsBindingNode (here p) k
      by (inl h) = absurd (none_contained h)
      by (inr (i, e, r)) =
          record { index = i; at = e ∙ ap (λ (n : ℕ). n + i) front; var = r.var; stands = r.stands; new = r.new; first = r.first }

    from_binding : (k : ℕ) → IsBindingNode (here p) k → Contains (bound_all Pattern (started at b) (pattern_nodes p)).nodes k
    from_binding k r =
        let s : Binds b.scope (pattern_nodes p) r.index = record { var = r.var; stands = r.stands; new = r.new; first = r.first } in
        subst (λ (n : ℕ). Numbered (started at b) (pattern_nodes p) n) (ap (λ (n : ℕ). n + r.index) front ∙ sym r.at) (noted_from (started at b) (pattern_nodes p) r.index s)

    both : (k : ℕ) → Contains (bound_all Pattern (started at b) (pattern_nodes p)).nodes k ↔ IsBindingNode (here p) k
    both k = (to_binding k, from_binding k)

  -- a head without a pattern
  no_pattern : (p : Proc) → pattern_nodes p ≡ [] → (k : ℕ) → Contains [] k ↔ IsBindingNode (here p) k
  no_pattern p e k = (
    λ c. absurd (none_contained c),
    λ r.
        let gone : slice_get [] r.index ≡ Some (variable r.var) = subst (λ (ns : List Node). slice_get ns r.index ≡ Some (variable r.var)) e r.stands in absurd (cc (gone)),
  )

  -- of an embedded rule the nodes of its left side alone
  rule_nodes : (l e r : List Fact) → (bound_rule (started 0 b) l e r).nodes ≡ (bound_all Pattern (started 0 b) (facts_nodes Pattern l)).nodes
  rule_nodes l e r =
      given_same (bound_all Shown (bound_all Pattern (started 0 b) (facts_nodes Pattern l)) (facts_nodes Shown e)) (facts_nodes Given r)
      ∙ shown_same (bound_all Pattern (started 0 b) (facts_nodes Pattern l)) (facts_nodes Shown e)

  pub captured_nodes : (p : Proc) (k : ℕ) → Contains (bound_head b p).nodes k ↔ IsBindingNode (here p) k
  captured_nodes nil k = no_pattern nil refl k
  captured_nodes (parallel p q) k = no_pattern (parallel p q) refl k
  captured_nodes (replicated p) k = no_pattern (replicated p) refl k
  captured_nodes (act (new x) p) k = no_pattern (act (new x) p) refl k
  captured_nodes (act (out t) p) k = no_pattern (act (out t) p) refl k
  captured_nodes (act (send t u) p) k = no_pattern (act (send t u) p) refl k
  captured_nodes (act (input t) p) k = both (act (input t) p) 0 refl k
  captured_nodes (act (receive t u) p) k = both (act (receive t u) p) (node_count t) (sym (tree_length Given t)) k
  captured_nodes (act (event f) p) k = no_pattern (act (event f) p) refl k
  captured_nodes (act (insert t u) p) k = no_pattern (act (insert t u) p) refl k
  captured_nodes (act (delete t) p) k = no_pattern (act (delete t) p) refl k
  captured_nodes (act (lock t n) p) k = no_pattern (act (lock t n) p) refl k
  captured_nodes (act (unlock t n) p) k = no_pattern (act (unlock t n) p) refl k
  captured_nodes (act (embedded l e r) p) k =
      subst (λ (ks : List ℕ). Contains ks k ↔ IsBindingNode (here (act (embedded l e r) p)) k) (sym (rule_nodes l e r)) (both (act (embedded l e r) p) 0 refl k)
  captured_nodes (test t u p q) k = no_pattern (test t u p q) refl k
  captured_nodes (lookup t x p q) k = no_pattern (lookup t x p q) refl k

  -- ---- those that are compared

  no_input : (p : Proc) (k : ℕ) → ((v : Var) → ¬ (input_pattern p ≡ Some (tree.variable v))) → Contains (option_to_list None) k ↔ IsComparedNode (here p) k
  no_input p k other = (λ c. absurd (none_contained c), λ r. absurd (other r.var r.whole))

  input_to : (p : Proc) (at : ℕ) (t : Tree) → input_pattern p ≡ Some t → at ≡ length (front_nodes p) → (k : ℕ) → Contains (option_to_list (whole_at b.scope at t)) k → IsComparedNode (here p) k
  input_to p at (tree.variable v) e front k c = by (is_known (var_names b.scope) v.name) refl c where
    by : (known : Bool) → is_known (var_names b.scope) v.name ≡ known → Contains (option_to_list (if known then Some at else None)) k → IsComparedNode (here p) k
    by true h c = record { at = sym (item_cases at k c) ∙ front; var = v; whole = e; known = h }
    by false h c = absurd (none_contained c)
  input_to p at (tree.public n) e front k c = absurd (none_contained c)
  input_to p at (tree.fresh n) e front k c = absurd (none_contained c)
  input_to p at (tree.apply f ts) e front k c = absurd (none_contained c)

  input_from : (p : Proc) (at : ℕ) (t : Tree) → input_pattern p ≡ Some t → at ≡ length (front_nodes p) → (k : ℕ) → IsComparedNode (here p) k → Contains (option_to_list (whole_at b.scope at t)) k
  input_from p at t e front k r =
      let same : t ≡ tree.variable r.var = some_same (sym e ∙ r.whole) in
      subst (λ (u : Tree). Contains (option_to_list (whole_at b.scope at u)) k) (sym same) (by (is_known (var_names b.scope) r.var.name) r.known) where
        by : (known : Bool) → known ≡ true → Contains (option_to_list (if known then Some at else None)) k
        by true h = subst (λ (n : ℕ). Contains (at ∷ []) n) (front ∙ sym r.at) (contains_got (at ∷ []) at 0 refl)
        by false h = absurd (cc (h))

  pub compared_nodes : (p : Proc) (k : ℕ) → Contains (option_to_list (compared_at b.scope p)) k ↔ IsComparedNode (here p) k
  compared_nodes nil k = no_input nil k (λ v e. cc (e))
  compared_nodes (parallel p q) k = no_input (parallel p q) k (λ v e. cc (e))
  compared_nodes (replicated p) k = no_input (replicated p) k (λ v e. cc (e))
  compared_nodes (act (new x) p) k = no_input (act (new x) p) k (λ v e. cc (e))
  compared_nodes (act (out t) p) k = no_input (act (out t) p) k (λ v e. cc (e))
  compared_nodes (act (send t u) p) k = no_input (act (send t u) p) k (λ v e. cc (e))
  compared_nodes (act (input t) p) k = (input_to (act (input t) p) 0 t refl refl k, input_from (act (input t) p) 0 t refl refl k)
  compared_nodes (act (receive t u) p) k =
      (input_to (act (receive t u) p) (node_count t) u refl (sym (tree_length Given t)) k, input_from (act (receive t u) p) (node_count t) u refl (sym (tree_length Given t)) k)
  compared_nodes (act (event f) p) k = no_input (act (event f) p) k (λ v e. cc (e))
  compared_nodes (act (insert t u) p) k = no_input (act (insert t u) p) k (λ v e. cc (e))
  compared_nodes (act (delete t) p) k = no_input (act (delete t) p) k (λ v e. cc (e))
  compared_nodes (act (lock t n) p) k = no_input (act (lock t n) p) k (λ v e. cc (e))
  compared_nodes (act (unlock t n) p) k = no_input (act (unlock t n) p) k (λ v e. cc (e))
  compared_nodes (act (embedded l e r) p) k = no_input (act (embedded l e r) p) k (λ v e. cc (e))
  compared_nodes (test t u p q) k = no_input (test t u p q) k (λ v e. cc (e))
  compared_nodes (lookup t x p q) k = no_input (lookup t x p q) k (λ v e. cc (e))

-- ---- what is in scope behind it

abbrev as_variables : List Var → List Node
as_variables [] = []
as_variables (v ∷ vs) = variable v ∷ as_variables vs

vars_back : (vs : List Var) → node_vars (as_variables vs) ≡ vs
vars_back [] = refl
vars_back (v ∷ vs) = ap (λ (ws : List Var). v ∷ ws) (vars_back vs)

new_append : (scope xs ys : List Var) → and_new (and_new scope xs) ys ≡ and_new scope (xs ++ ys)
new_append scope xs ys =
    let b : Binding = record { scope = scope; at = 0; nodes = [] } in
    let one : (bound_all Pattern b (as_variables xs)).scope ≡ and_new scope xs = scope_behind Pattern b (as_variables xs) ∙ ap (and_new scope) (vars_back xs) in
    let two : (bound_all Pattern (bound_all Pattern b (as_variables xs)) (as_variables ys)).scope ≡ and_new (and_new scope xs) ys =
    scope_behind Pattern (bound_all Pattern b (as_variables xs)) (as_variables ys) ∙ ap (and_new (bound_all Pattern b (as_variables xs)).scope) (vars_back ys) ∙ ap (λ (vs : List Var). and_new vs ys) one in
    let all : (bound_all Pattern b (as_variables xs ++ as_variables ys)).scope ≡ and_new scope (xs ++ ys) =
    scope_behind Pattern b (as_variables xs ++ as_variables ys)
    ∙ ap (and_new scope) (vars_append (as_variables xs) (as_variables ys) ∙ ap (λ (vs : List Var). vs ++ node_vars (as_variables ys)) (vars_back xs) ∙ ap (λ (vs : List Var). xs ++ vs) (vars_back ys)) in
    sym two ∙ ap (λ (c : Binding). c.scope) (sym (bound_append Pattern b (as_variables xs) (as_variables ys))) ∙ all

facts_append : (fs hs : List Fact) → facts_vars (fs ++ hs) ≡ facts_vars fs ++ facts_vars hs
facts_append fs hs = flat_map-append (λ (f : Fact). trees_vars (trees_of f.args)) fs hs

rule_scope : (b : Binding) (l e r : List Fact) → (bound_rule b l e r).scope ≡ and_new b.scope (facts_vars (l ++ (e ++ r)))
rule_scope b l e r =
    let front : Binding = bound_all Pattern b (facts_nodes Pattern l) in
    let middle : Binding = bound_all Shown front (facts_nodes Shown e) in
    let one : front.scope ≡ and_new b.scope (facts_vars l) = scope_behind Pattern b (facts_nodes Pattern l) ∙ ap (and_new b.scope) (facts_node_vars Pattern l) in
    let two : middle.scope ≡ and_new front.scope (facts_vars e) = scope_behind Shown front (facts_nodes Shown e) ∙ ap (and_new front.scope) (facts_node_vars Shown e) in
    scope_behind Given middle (facts_nodes Given r)
    ∙ ap (and_new middle.scope) (facts_node_vars Given r)
    ∙ ap (λ (vs : List Var). and_new vs (facts_vars r)) two
    ∙ new_append front.scope (facts_vars e) (facts_vars r)
    ∙ ap (λ (vs : List Var). and_new vs (facts_vars e ++ facts_vars r)) one
    ∙ new_append b.scope (facts_vars l) (facts_vars e ++ facts_vars r)
    ∙ ap (λ (vs : List Var). and_new b.scope (facts_vars l ++ vs)) (sym (facts_append e r))
    ∙ ap (and_new b.scope) (sym (facts_append l (e ++ r)))

none_more : (b : Binding) → b.scope ≡ b.scope ++ []
none_more b = sym (append-nil b.scope)

pub scope_is : (b : Binding) (p : Proc) → (bound_head b p).scope ≡ scope_at b.scope p
scope_is b nil = refl
scope_is b (parallel p q) = refl
scope_is b (replicated p) = refl
scope_is b (act (new x) p) = refl
scope_is b (act (out t) p) = none_more b
scope_is b (act (send t u) p) = none_more b
scope_is b (act (input t) p) = scope_behind Pattern (started 0 b) (tree_nodes Pattern t) ∙ ap (and_new b.scope) (tree_node_vars Pattern t)
scope_is b (act (receive t u) p) = scope_behind Pattern (started (node_count t) b) (tree_nodes Pattern u) ∙ ap (and_new b.scope) (tree_node_vars Pattern u)
scope_is b (act (event f) p) = none_more b
scope_is b (act (insert t u) p) = none_more b
scope_is b (act (delete t) p) = none_more b
scope_is b (act (lock t n) p) = none_more b
scope_is b (act (unlock t n) p) = none_more b
scope_is b (act (embedded l e r) p) = rule_scope (started 0 b) l e r
scope_is b (test t u p q) = refl
scope_is b (lookup t x p q) = refl
