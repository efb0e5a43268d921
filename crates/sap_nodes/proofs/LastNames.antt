-- The nodes of a head that bind, and the one that finds as many names known as may be.
use Rattle.std.proofs.Common.{◌≡◌, ℕ, zero, suc, ◌+◌, ◌-◌, ◌<◌, ◌≤◌, List, [], ◌∷◌, ◌++◌, Bool, true, false, Some, inl, inr, arith, length, nat_eq, refl, sym, ap, subst, ◌∙◌}
use Rattle.std.specs.Prelude.{◌⊎◌, ◌&&◌, not, min, slice_get, if◌then◌else◌}
use Rattle.std.specs.Str.{bytes_eq}
use Rattle.std.specs.List.{flat_map}
use Rattle.std.proofs.lemmas.Bool.Decides.{Decides-eqb}
use Rattle.std.proofs.lemmas.List.{append_assoc, append-nil, length-append, map-append}
use Rattle.sap_terms.specs.Tree.{node_count}
use Rattle.sap_terms.specs.Variables.{is_known, new_vars}
use Rattle.sap_terms.specs.declared.limits.TheConstants.{MOST_SCOPE_NAMES}
use Rattle.sap_terms.specs.declared.var.Var.{Var}
use Rattle.sap_terms.proofs.PlainLaws.Known.{own_name, not_in, out_of, clash}
use Rattle.sap_process.specs.Action.{new, out, send, input, receive, event, insert, delete, lock, unlock, embedded}
use Rattle.sap_process.specs.Proc.{Proc, nil, parallel, replicated, act, test, lookup}
use Rattle.sap_process.specs.Sites.{above_of, scope_below, var_names, fresh_var, message_var}
use Rattle.sap_nodes.specs.FullScope.{front_nodes, binding_nodes, IsLastName}
use Rattle.sap_nodes.specs.HeadNodes as node
use Rattle.sap_nodes.specs.HeadNodes.{Node, variable, tree_nodes, facts_nodes}
use Rattle.sap_nodes.specs.code.Full.{binder_met, head_bound}
use Rattle.sap_nodes.specs.code.Searches.{most, visited, at_first}
use Rattle.sap_nodes.specs.code.Trails.{met_all}
use Rattle.sap_nodes.specs.declared.finding.Search.{Search}
use Rattle.sap_nodes.specs.declared.part.Part.TheVariants.{Pattern, Shown, Given}
use Rattle.sap_nodes.specs.declared.trail.How.TheVariants.{Last}
use Rattle.sap_nodes.specs.declared.trail.Trail.{Trail}
use Rattle.sap_nodes.proofs.ReboundTold.{counted}
use Rattle.sap_nodes.proofs.SignedTold.{rule_variables}
use Rattle.sap_nodes.proofs.UnboundLemmas.{stays, vars_of, met_append}
use Rattle.sap_nodes.proofs.UnboundTold.{tree_variables}

-- what is known behind such nodes
abbrev behind : ℕ → List Var → Search → List Node → Trail
behind room known s ns = met_all (Last room) (record { known = known; search = s }) ns

known_behind : (room : ℕ) (known : List Var) (s : Search) (ns : List Node)
    → (behind room known s ns).known ≡ known ++ new_vars (var_names known) (flat_map vars_of ns)
known_behind room known s [] = sym (append-nil known)
known_behind room known s (variable v ∷ ns) =
    by (is_known (var_names known) v.name) (visited (not (is_known (var_names known) v.name) && nat_eq (length known) room) s)
    (λ z. known_behind room known z ns) (λ z. known_behind room (known ++ v ∷ []) z ns)
  where
    by : (b : Bool) (z : Search) → ((y : Search) → (behind room known y ns).known ≡ known ++ new_vars (var_names known) (flat_map vars_of ns))
        → ((y : Search) → (behind room (known ++ v ∷ []) y ns).known ≡ (known ++ v ∷ []) ++ new_vars (var_names (known ++ v ∷ [])) (flat_map vars_of ns))
        → (behind room (if not b then known ++ v ∷ [] else known) z ns).known
        ≡ known ++ (if b then new_vars (var_names known) (flat_map vars_of ns) else v ∷ new_vars (var_names known ++ v.name ∷ []) (flat_map vars_of ns))
    by true z same more = same z
    by false z same more =
        more z ∙ append_assoc known (v ∷ []) (new_vars (var_names (known ++ v ∷ [])) (flat_map vars_of ns))
        ∙ ap (λ ks. known ++ v ∷ new_vars ks (flat_map vars_of ns)) (map-append (λ (w : Var). w.name) known (v ∷ []))
known_behind room known s (node.binder v ∷ ns) = known_behind room known (visited false s) ns
known_behind room known s (node.public k ∷ ns) = known_behind room known (visited false s) ns
known_behind room known s (node.fresh k ∷ ns) = known_behind room known (visited false s) ns
known_behind room known s (node.symbol a f k ∷ ns) = known_behind room known (visited false s) ns
known_behind room known s (node.fact a f ∷ ns) = known_behind room known (visited false s) ns

-- one of them finds so many known, and is told
record Reached (room : ℕ) (known : List Var) (ns : List Node) (at : ℕ) (r : Trail) : Type 0 where
  place : ℕ
  var : Var
  stands : slice_get ns place ≡ Some (variable var)
  unknown : is_known (var_names known) var.name ≡ false
  first : (j : ℕ) (u : Var) → j < place → slice_get ns j ≡ Some (variable u) → u.name ≡ var.name → ⊥
  last : slice_get r.known room ≡ Some var
  found : r.search.found ≡ true
  counted : r.search.at ≡ min (at + place) most

-- or there are no more
pub record Short (room : ℕ) (r : Trail) : Type 0 where
  pub few : length r.known ≤ room
  pub found : r.search.found ≡ false

got_at : (xs : List Var) (x : Var) (ys : List Var) → slice_get (xs ++ x ∷ ys) (length xs) ≡ Some x
got_at [] x ys = refl
got_at (z ∷ zs) x ys = got_at zs x ys

pushed_not : (ks : List (List ℕ)) (k n : List ℕ) → is_known (ks ++ k ∷ []) n ≡ false → (is_known ks n ≡ false) × (bytes_eq k n ≡ false)
pushed_not [] k n e = (refl, (not_in n k [] e).0)
pushed_not (z ∷ zs) k n e =
    let h = not_in n z (zs ++ k ∷ []) e in
    let later = pushed_not zs k n h.1 in
    (out_of n z zs h.0 later.0, later.1)

one_of : (v u : Var) → Some (variable v) ≡ Some (variable u) → v ≡ u
one_of v u e = cc

-- one node on, which isn't the one
on : (room : ℕ) (known more : List Var) (n : Node) (ns : List Node) (at : ℕ) (r : Trail)
    → ((m : List ℕ) → is_known (var_names more) m ≡ false → is_known (var_names known) m ≡ false)
    → ((u : Var) (m : List ℕ) → n ≡ variable u → is_known (var_names more) m ≡ false → u.name ≡ m → ⊥)
    → Reached room more ns (min (at + 1) most) r ⊎ Short room r → Reached room known (n ∷ ns) at r ⊎ Short room r
on room known more n ns at r fewer apart (inr h) = inr h
on room known more n ns at r fewer apart (inl h) = inl (record {
  place = suc h.place;
  var = h.var;
  stands = h.stands;
  unknown = fewer h.var.name h.unknown;
  first = first;
  last = h.last;
  found = h.found;
  counted = let c = h.counted in omega (arith, c);
}) where
  same_node : (x y : Node) → Some x ≡ Some y → x ≡ y
  same_node x y e = cc

  first : (j : ℕ) (u : Var) → j < suc h.place → slice_get (n ∷ ns) j ≡ Some (variable u) → u.name ≡ h.var.name → ⊥
  first zero u l e d = apart u h.var.name (same_node n (variable u) e) h.unknown d
  first (suc j) u l e d = h.first j u (omega (arith, l)) e d

other : (room : ℕ) (known : List Var) (n : Node) (ns : List Node) (at : ℕ) (r : Trail) → ((u : Var) → n ≡ variable u → ⊥)
    → Reached room known ns (min (at + 1) most) r ⊎ Short room r → Reached room known (n ∷ ns) at r ⊎ Short room r
other room known n ns at r apart = on room known known n ns at r (λ m h. h) (λ u m e. absurd (apart u e))

outcome : (room : ℕ) (known : List Var) (ns : List Node) (at : ℕ) → at ≤ most → length known ≤ room
    → Reached room known ns at (behind room known (record { at = at; found = false }) ns) ⊎ Short room (behind room known (record { at = at; found = false }) ns)
outcome room known [] at l few = inr (record { few = few; found = refl })
outcome room known (variable v ∷ ns) at l few =
    by (is_known (var_names known) v.name) refl (nat_eq (length known) room) refl (outcome room known ns (min (at + 1) most) (omega arith) few)
    (λ k. outcome room (known ++ v ∷ []) ns (min (at + 1) most) (omega arith) k)
  where
    here : is_known (var_names known) v.name ≡ false → length known ≡ room
        → Reached room known (variable v ∷ ns) at (behind room (known ++ v ∷ []) (record { at = at; found = true }) ns)
    here e d =
        let rest = new_vars (var_names (known ++ v ∷ [])) (flat_map vars_of ns) in
        let search = stays (Last room) (known ++ v ∷ []) at ns in
        record {
          place = 0;
          var = v;
          stands = refl;
          unknown = e;
          first = λ j u k. absurd (omega (arith, k));
          last =
              ap (λ vs. slice_get vs room) (known_behind room (known ++ v ∷ []) (record { at = at; found = true }) ns ∙ append_assoc known (v ∷ []) rest)
              ∙ sym (ap (λ k. slice_get (known ++ v ∷ rest) k) d) ∙ got_at known v rest;
          found = ap (λ (z : Search). z.found) search;
          counted = ap (λ (z : Search). z.at) search ∙ (let k : at ≡ min (at + 0) most = omega (arith, l) in k);
        }

    pushed : (m : List ℕ) → is_known (var_names (known ++ v ∷ [])) m ≡ false → (is_known (var_names known) m ≡ false) × (bytes_eq v.name m ≡ false)
    pushed m h =
        pushed_not (var_names known) v.name m (subst (λ ks. is_known ks m ≡ false) (map-append (λ (w : Var). w.name) known (v ∷ [])) h)

    same_var : (x y : Var) → variable x ≡ variable y → x ≡ y
    same_var x y e = cc

    by : (b : Bool) → is_known (var_names known) v.name ≡ b → (e : Bool) → nat_eq (length known) room ≡ e
        → Reached room known ns (min (at + 1) most) (behind room known (record { at = min (at + 1) most; found = false }) ns)
        ⊎ Short room (behind room known (record { at = min (at + 1) most; found = false }) ns)
        → (length (known ++ v ∷ []) ≤ room
        → Reached room (known ++ v ∷ []) ns (min (at + 1) most) (behind room (known ++ v ∷ []) (record { at = min (at + 1) most; found = false }) ns)
        ⊎ Short room (behind room (known ++ v ∷ []) (record { at = min (at + 1) most; found = false }) ns))
        → Reached room known (variable v ∷ ns) at (behind room (if not b then known ++ v ∷ [] else known) (visited (not b && e) (record { at = at; found = false })) ns)
        ⊎ Short room (behind room (if not b then known ++ v ∷ [] else known) (visited (not b && e) (record { at = at; found = false })) ns)
    by true d e k same more =
        on room known known (variable v) ns at _ (λ m h. h)
        (λ u m f h g. clash (is_known (var_names known) v.name) d (subst (λ z. is_known (var_names known) z ≡ false) (sym (ap (λ (w : Var). w.name) (same_var v u f) ∙ g)) h)) same
    by false d true k same more = inl (here d ((Decides-eqb (length known) room).0 k))
    by false d false k same more =
        on room known (known ++ v ∷ []) (variable v) ns at _ (λ m h. (pushed m h).0)
        (λ u m f h g. clash (bytes_eq v.name m)
        (subst (λ z. bytes_eq v.name z ≡ true) (ap (λ (w : Var). w.name) (same_var v u f) ∙ g) (own_name v.name)) (pushed m h).1)
        (more (shorter (λ q. clash (nat_eq (length known) room) ((Decides-eqb (length known) room).1 q) k)))
      where
        shorter : (length known ≡ room → ⊥) → length (known ++ v ∷ []) ≤ room
        shorter refuted = let n = length-append known (v ∷ []) in omega (arith, n, few, refuted)
outcome room known (node.binder v ∷ ns) at l few =
    other room known (node.binder v) ns at _ (λ u e. cc) (outcome room known ns (min (at + 1) most) (omega arith) few)
outcome room known (node.public k ∷ ns) at l few =
    other room known (node.public k) ns at _ (λ u e. cc) (outcome room known ns (min (at + 1) most) (omega arith) few)
outcome room known (node.fresh k ∷ ns) at l few =
    other room known (node.fresh k) ns at _ (λ u e. cc) (outcome room known ns (min (at + 1) most) (omega arith) few)
outcome room known (node.symbol a f k ∷ ns) at l few =
    other room known (node.symbol a f k) ns at _ (λ u e. cc) (outcome room known ns (min (at + 1) most) (omega arith) few)
outcome room known (node.fact a f ∷ ns) at l few =
    other room known (node.fact a f) ns at _ (λ u e. cc) (outcome room known ns (min (at + 1) most) (omega arith) few)

-- at a head one node is told
pub record AtHead (known : List Var) (locks : ℕ) (p : Proc) (e : ℕ) (r : Trail) : Type 0 where
  pub place : ℕ
  pub last : IsLastName (above_of known locks) p e place
  pub found : r.search.found ≡ true
  pub told : r.search.at ≡ min place most

-- or as many are known as may be at most
abbrev pub HeadOutcome : List Var → ℕ → Proc → ℕ → Trail → Type 0
HeadOutcome known locks p e r = AtHead known locks p e r ⊎ Short (MOST_SCOPE_NAMES - locks) r

-- of a pattern, or of a rule
at_nodes : (known : List Var) (locks : ℕ) (p : Proc) (e : ℕ) (r : Trail) (ns : List Node) (base : ℕ) → binding_nodes p ≡ ns → length (front_nodes p) ≡ base
    → r.known ≡ (scope_below (above_of known locks) p e).scope → Reached (MOST_SCOPE_NAMES - locks) known ns (min base most) r ⊎ Short (MOST_SCOPE_NAMES - locks) r
    → HeadOutcome known locks p e r
at_nodes known locks p e r ns base is front same (inr h) = inr h
at_nodes known locks p e r ns base is front same (inl h) = inl (record {
  place = base + h.place;
  last = record {
    var = h.var;
    last = subst (λ (vs : List Var). slice_get vs (MOST_SCOPE_NAMES - locks) ≡ Some h.var) same h.last;
    index = h.place;
    at = ap (λ k. k + h.place) (sym front);
    node = variable h.var;
    stands = ap (λ ms. slice_get ms h.place) is ∙ h.stands;
    named = refl;
    first = λ j v l k. h.first j v l (sym (ap (λ ms. slice_get ms j) is) ∙ k);
  };
  found = h.found;
  told = let c = h.counted in omega (arith, c);
})

-- of a binder
at_binder : (known : List Var) (locks : ℕ) (p : Proc) (e : ℕ) (v w : Var) (base : ℕ) → length known + locks ≤ MOST_SCOPE_NAMES
    → binding_nodes p ≡ node.binder v ∷ [] → v.name ≡ w.name → length (front_nodes p) ≡ base
    → known ++ w ∷ [] ≡ (scope_below (above_of known locks) p e).scope
    → HeadOutcome known locks p e (binder_met (MOST_SCOPE_NAMES - locks) (record { known = known; search = record { at = min base most; found = false } }) w)
at_binder known locks p e v w base few is name front same = by (nat_eq (length known) (MOST_SCOPE_NAMES - locks)) refl where
  by : (b : Bool) → nat_eq (length known) (MOST_SCOPE_NAMES - locks) ≡ b
      → HeadOutcome known locks p e (record { known = known ++ w ∷ []; search = visited b (record { at = min base most; found = false }) })
  by true d = inl (record {
    place = base;
    last = record {
      var = w;
      last =
          sym (ap (λ (vs : List Var). slice_get vs (MOST_SCOPE_NAMES - locks)) same)
          ∙ sym (ap (λ k. slice_get (known ++ w ∷ []) k) ((Decides-eqb (length known) (MOST_SCOPE_NAMES - locks)).0 d)) ∙ got_at known w [];
      index = 0;
      at = let k : base ≡ length (front_nodes p) + 0 = omega (arith, front) in k;
      node = node.binder v;
      stands = ap (λ ms. slice_get ms 0) is;
      named = name;
      first = λ j u l. absurd (omega (arith, l));
    };
    found = refl;
    told = refl;
  })
  by false d = inr (record { few = shorter (λ q. clash (nat_eq (length known) (MOST_SCOPE_NAMES - locks)) ((Decides-eqb (length known) (MOST_SCOPE_NAMES - locks)).1 q) d); found = refl })
    where
      shorter : (length known ≡ MOST_SCOPE_NAMES - locks → ⊥) → length (known ++ w ∷ []) ≤ MOST_SCOPE_NAMES - locks
      shorter refuted = let n = length-append known (w ∷ []) in omega (arith, n, few, refuted)

later_digit : (n : ℕ) → nat_eq (suc (suc n)) 1 ≡ false
later_digit n = by (nat_eq (suc (suc n)) 1) refl where
  by : (b : Bool) → nat_eq (suc (suc n)) 1 ≡ b → b ≡ false
  by true e = let k = (Decides-eqb (suc (suc n)) 1).0 e in absurd (omega (arith, k))
  by false e = refl

-- what is known behind a head is what is in scope there
pub known_head : (known : List Var) (locks : ℕ) (p : Proc) (e : ℕ)
    → (head_bound (MOST_SCOPE_NAMES - locks) known p e).known ≡ (scope_below (above_of known locks) p e).scope
known_head known locks nil e = refl
known_head known locks (parallel p q) e = refl
known_head known locks (replicated p) e = refl
known_head known locks (act (new x) p) e = refl
known_head known locks (act (out t) p) e = sym (append-nil known)
known_head known locks (act (send t u) p) e = sym (append-nil known)
known_head known locks (act (input t) p) e =
    known_behind (MOST_SCOPE_NAMES - locks) known at_first (tree_nodes Pattern t) ∙ ap (λ vs. known ++ new_vars (var_names known) vs) (tree_variables Pattern t)
known_head known locks (act (receive t u) p) e =
    known_behind (MOST_SCOPE_NAMES - locks) known (record { at = min (node_count t) most; found = false }) (tree_nodes Pattern u)
    ∙ ap (λ vs. known ++ new_vars (var_names known) vs) (tree_variables Pattern u)
known_head known locks (act (event f) p) e = sym (append-nil known)
known_head known locks (act (insert t u) p) e = sym (append-nil known)
known_head known locks (act (delete t) p) e = sym (append-nil known)
known_head known locks (act (lock t n) p) e = sym (append-nil known)
known_head known locks (act (unlock t n) p) e = sym (append-nil known)
known_head known locks (act (embedded l m r) p) e =
    sym (ap (λ (a : Trail). a.known)
    (met_append (Last (MOST_SCOPE_NAMES - locks)) (record { known = known; search = at_first }) (facts_nodes Pattern l) (facts_nodes Shown m ++ facts_nodes Given r)))
    ∙ known_behind (MOST_SCOPE_NAMES - locks) known at_first (facts_nodes Pattern l ++ (facts_nodes Shown m ++ facts_nodes Given r))
    ∙ ap (λ vs. known ++ new_vars (var_names known) vs) (rule_variables l m r)
known_head known locks (test t u p q) e = refl
known_head known locks (lookup t x p q) zero = refl
known_head known locks (lookup t x p q) (suc zero) = refl
known_head known locks (lookup t x p q) (suc (suc n)) =
    ap (λ (b : Bool). (if b then binder_met (MOST_SCOPE_NAMES - locks) (record { known = known; search = record { at = min (node_count t) most; found = false } }) (message_var x) else record { known = known; search = at_first }).known)
    (later_digit n)

none_more : (known : List Var) (locks : ℕ) → length known + locks ≤ MOST_SCOPE_NAMES → Short (MOST_SCOPE_NAMES - locks) (record { known = known; search = at_first })
none_more known locks few = record { few = omega (arith, few); found = refl }

pub head_outcome : (known : List Var) (locks : ℕ) (p : Proc) (e : ℕ) → length known + locks ≤ MOST_SCOPE_NAMES
    → HeadOutcome known locks p e (head_bound (MOST_SCOPE_NAMES - locks) known p e)
head_outcome known locks nil e few = inr (none_more known locks few)
head_outcome known locks (parallel p q) e few = inr (none_more known locks few)
head_outcome known locks (replicated p) e few = inr (none_more known locks few)
head_outcome known locks (act (new x) p) e few = at_binder known locks (act (new x) p) e x (fresh_var x) 0 few refl refl refl refl
head_outcome known locks (act (out t) p) e few = inr (none_more known locks few)
head_outcome known locks (act (send t u) p) e few = inr (none_more known locks few)
head_outcome known locks (act (input t) p) e few =
    at_nodes known locks (act (input t) p) e _ (tree_nodes Pattern t) 0 refl refl (known_head known locks (act (input t) p) e)
    (outcome (MOST_SCOPE_NAMES - locks) known (tree_nodes Pattern t) 0 (omega arith) (omega (arith, few)))
head_outcome known locks (act (receive t u) p) e few =
    at_nodes known locks (act (receive t u) p) e _ (tree_nodes Pattern u) (node_count t) refl (counted Given t) (known_head known locks (act (receive t u) p) e)
    (outcome (MOST_SCOPE_NAMES - locks) known (tree_nodes Pattern u) (min (node_count t) most) (omega arith) (omega (arith, few)))
head_outcome known locks (act (event f) p) e few = inr (none_more known locks few)
head_outcome known locks (act (insert t u) p) e few = inr (none_more known locks few)
head_outcome known locks (act (delete t) p) e few = inr (none_more known locks few)
head_outcome known locks (act (lock t n) p) e few = inr (none_more known locks few)
head_outcome known locks (act (unlock t n) p) e few = inr (none_more known locks few)
head_outcome known locks (act (embedded l m r) p) e few =
    at_nodes known locks (act (embedded l m r) p) e _ (facts_nodes Pattern l ++ (facts_nodes Shown m ++ facts_nodes Given r)) 0 refl refl
    (known_head known locks (act (embedded l m r) p) e)
    (subst (λ (a : Trail). Reached (MOST_SCOPE_NAMES - locks) known (facts_nodes Pattern l ++ (facts_nodes Shown m ++ facts_nodes Given r)) 0 a ⊎ Short (MOST_SCOPE_NAMES - locks) a)
    (met_append (Last (MOST_SCOPE_NAMES - locks)) (record { known = known; search = at_first }) (facts_nodes Pattern l) (facts_nodes Shown m ++ facts_nodes Given r))
    (outcome (MOST_SCOPE_NAMES - locks) known (facts_nodes Pattern l ++ (facts_nodes Shown m ++ facts_nodes Given r)) 0 (omega arith) (omega (arith, few))))
head_outcome known locks (test t u p q) e few = inr (none_more known locks few)
head_outcome known locks (lookup t x p q) zero few = inr (none_more known locks few)
head_outcome known locks (lookup t x p q) (suc zero) few =
    at_binder known locks (lookup t x p q) 1 (message_var x) (message_var x) (node_count t) few refl refl (counted Given t) refl
head_outcome known locks (lookup t x p q) (suc (suc n)) few =
    subst (λ (b : Bool). HeadOutcome known locks (lookup t x p q) (suc (suc n))
    (if b then binder_met (MOST_SCOPE_NAMES - locks) (record { known = known; search = record { at = min (node_count t) most; found = false } }) (message_var x)
    else record { known = known; search = at_first })) (sym (later_digit n)) (inr (none_more known locks few))
