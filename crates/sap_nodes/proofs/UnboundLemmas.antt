-- Searches for a variable that nothing binds, and what they find.
use Rattle.std.proofs.Common.{◌≡◌, ℕ, zero, suc, ◌+◌, ◌<◌, ◌≤◌, List, [], ◌∷◌, ◌++◌, Bool, true, false, cond, Option, Some, None, is_some, inl, inr, arith, length, drop, filter, refl, sym, ap, subst, ◌∙◌, Bor}
use Rattle.std.specs.Prelude.{◌⊎◌, Contains, not, ◌&&◌, ◌||◌, min, slice_get, if◌then◌else◌}
use Rattle.std.specs.List.{flat_map}
use Rattle.std.specs.Option.{option_copied}
use Rattle.std.specs.Str.{bytes_eq}
use Rattle.std.proofs.lemmas.List.{append-nil, append_assoc}
use Rattle.sap_terms.specs.Named.{first_named}
use Rattle.sap_terms.specs.Same.{same_sort}
use Rattle.sap_terms.specs.Tree as tree
use Rattle.sap_terms.specs.Tree.{Tree, Trees, none, more, trees_of, list_of-trees_of}
use Rattle.sap_terms.specs.Variables.{is_known, new_vars}
use Rattle.sap_terms.specs.declared.fact.Fact.{Fact}
use Rattle.sap_terms.specs.declared.var.Sort.TheVariants.{Pub}
use Rattle.sap_terms.specs.declared.var.Var.{Var}
use Rattle.sap_terms.proofs.PlainLaws.Items.{first_item, cons_cases}
use Rattle.sap_terms.proofs.PlainLaws.Known.{own_name}
use Rattle.sap_terms.proofs.PlainLaws.Lists.{drop_got}
use Rattle.sap_terms.proofs.PlainLaws.Trees.{item_le-trees_count}
use Rattle.sap_process.specs.Sites.{var_names}
use Rattle.sap_nodes.specs.HeadNodes.{Node, binder, variable, public, fresh, symbol, fact, tree_nodes, trees_nodes, fact_nodes, facts_nodes}
use Rattle.sap_nodes.specs.code.Searches.{most, visited}
use Rattle.sap_nodes.specs.code.Trails.{is_bound, is_free, met, met_all}
use Rattle.sap_nodes.specs.declared.finding.Search.{Search}
use Rattle.sap_nodes.specs.declared.part.Part.{Part}
use Rattle.sap_nodes.specs.declared.trail.How.{How}
use Rattle.sap_nodes.specs.declared.trail.How.TheVariants.{Taken, Ruled, Used}
use Rattle.sap_nodes.specs.declared.trail.Trail.{Trail}
use Rattle.sap_nodes.proofs.FlawsAtNodes.{filtered}
use Rattle.sap_nodes.proofs.HeadMembers.{none_of}

pub met_append : (b : How) (a : Trail) (ms ns : List Node) → met_all b a (ms ++ ns) ≡ met_all b (met_all b a ms) ns
met_append b a [] ns = refl
met_append b a (m ∷ ms) ns = met_append b (met b a m) ms ns

pub ruleset met_laws = (met_append, list_of-trees_of, item_le-trees_count)

-- one term more, and one fact more
pub term_step : (b : How) (a : Trail) (part : Part) (ts : List Tree) (k : ℕ) (t : Tree) → slice_get ts k ≡ Some t
    → met_all b (met_all b a (tree_nodes part t)) (trees_nodes part (trees_of (drop (k + 1) ts))) ≡ met_all b a (trees_nodes part (trees_of (drop k ts)))
term_step b a part ts k t e =
    sym (met_append b a (tree_nodes part t) (trees_nodes part (trees_of (drop (k + 1) ts))))
    ∙ sym (ap (λ us. met_all b a (trees_nodes part (trees_of us))) (drop_got ts k t e))

pub fact_step : (b : How) (a : Trail) (part : Part) (fs : List Fact) (k : ℕ) (f : Fact) → slice_get fs k ≡ Some f
    → met_all b (met_all b a (fact_nodes part f)) (facts_nodes part (drop (k + 1) fs)) ≡ met_all b a (facts_nodes part (drop k fs))
fact_step b a part fs k f e =
    sym (met_append b a (fact_nodes part f) (facts_nodes part (drop (k + 1) fs))) ∙ sym (ap (λ hs. met_all b a (facts_nodes part hs)) (drop_got fs k f e))

-- a name is known where a variable has it
pub named_known : (vs : List Var) (n : List ℕ) → is_some (first_named (λ (v : Var). v.name) vs n) ≡ is_known (var_names vs) n
named_known [] n = refl
named_known (v ∷ vs) n = by (bytes_eq v.name n) (named_known vs n) where
  by : (b : Bool) → is_some (first_named (λ (w : Var). w.name) vs n) ≡ is_known (var_names vs) n
      → is_some (cond b (Some v) (first_named (λ (w : Var). w.name) vs n)) ≡ (b || is_known (var_names vs) n)
  by true later = refl
  by false later = later

-- what is lent is there where its copy is
pub copied_is : {T : Type 0} (o : Option (Bor T)) → is_some o ≡ is_some (option_copied o)
copied_is None = refl
copied_is (Some x) = refl

-- the variable of a node
abbrev pub vars_of : Node → List Var
vars_of (variable v) = v ∷ []
vars_of _ = []

-- the first of the nodes that is one of these variables is found, where so many stand in front of them
pub record Hit (free : List Var) (ns : List Node) (at : ℕ) (r : Search) : Type 0 where
  pub place : ℕ
  pub var : Var
  pub stands : slice_get ns place ≡ Some (variable var)
  pub is : Contains free var
  pub first : (j : ℕ) (u : Var) → j < place → slice_get ns j ≡ Some (variable u) → Contains free u → ⊥
  pub found : r.found ≡ true
  pub counted : r.at ≡ min (at + place) most

-- there is none of these, and none is found
pub record Miss (free : List Var) (r : Search) : Type 0 where
  pub nothing : free ≡ []
  pub found : r.found ≡ false

one_of : (v u : Var) → Some (variable v) ≡ Some (variable u) → v ≡ u
one_of v u e = cc

pub passed : (p : Var → Bool) (xs : List Var) (x : Var) → Contains (filter p xs) x → p x ≡ true
passed p [] x c = absurd (none_of x c)
passed p (y ∷ ys) x c = by (p y) refl c (passed p ys x) where
  by : (b : Bool) → p y ≡ b → Contains (cond b (y ∷ filter p ys) (filter p ys)) x → (Contains (filter p ys) x → p x ≡ true) → p x ≡ true
  by false e k later = later k
  by true e k later = elim (cons_cases y (filter p ys) x k) as (λ _. p x ≡ true) [ inl d ↦ subst (λ z. p z ≡ true) d e | inr m ↦ later m ]

-- where one is found, nothing changes any more
pub stays : (b : How) (known : List Var) (at : ℕ) (ns : List Node)
    → (met_all b (record { known = known; search = record { at = at; found = true } }) ns).search ≡ record { at = at; found = true }
stays b known at [] = refl
stays b known at (variable v ∷ ns) = stays b (if is_bound b v known then known ++ v ∷ [] else known) at ns
stays b known at (binder v ∷ ns) = stays b known at ns
stays b known at (public n ∷ ns) = stays b known at ns
stays b known at (fresh k ∷ ns) = stays b known at ns
stays b known at (symbol a f k ∷ ns) = stays b known at ns
stays b known at (fact a f ∷ ns) = stays b known at ns

-- one that is found here
here : (free : List Var) (v : Var) (ns : List Node) (at : ℕ) → at ≤ most → Hit (v ∷ free) (variable v ∷ ns) at (record { at = at; found = true })
here free v ns at l = record {
  place = 0;
  var = v;
  stands = refl;
  is = first_item v free;
  first = λ j u m e c. omega (arith, m);
  found = refl;
  counted = omega arith;
}

-- or behind a node that isn't one
past : (free : List Var) (n : Node) (ns : List Node) (at : ℕ) (r : Search) → ((u : Var) → Some n ≡ Some (variable u) → Contains free u → ⊥)
    → Hit free ns (min (at + 1) most) r ⊎ Miss free r → Hit free (n ∷ ns) at r ⊎ Miss free r
past free n ns at r other (inr h) = inr h
past free n ns at r other (inl h) = inl (record {
  place = suc h.place;
  var = h.var;
  stands = h.stands;
  is = h.is;
  first = first;
  found = h.found;
  counted = let c = h.counted in omega (arith, c);
}) where
  first : (j : ℕ) (u : Var) → j < suc h.place → slice_get (n ∷ ns) j ≡ Some (variable u) → Contains free u → ⊥
  first zero u l e c = other u e c
  first (suc j) u l e c = h.first j u (omega (arith, l)) e c

-- those whose names are not known
abbrev pub unknown : List Var → List Var → List Var
unknown known vs = filter (λ (v : Var). not (is_known (var_names known) v.name)) vs

abbrev pub searched : How → List Var → ℕ → List Node → Search
searched b known at ns = (met_all b (record { known = known; search = record { at = at; found = false } }) ns).search

-- those that are looked for
abbrev pub freed : How → List Var → List Var → List Var
freed how known vs = filter (λ (v : Var). is_free how v known) vs

-- where no more get known
pub outcome_kept : (how : How) (known : List Var) → ((v : Var) → is_bound how v known ≡ false) → (ns : List Node) (at : ℕ) → at ≤ most
    → Hit (freed how known (flat_map vars_of ns)) ns at (searched how known at ns) ⊎ Miss (freed how known (flat_map vars_of ns)) (searched how known at ns)
outcome_kept how known kept [] at l = inr (record { nothing = refl; found = refl })
outcome_kept how known kept (binder v ∷ ns) at l =
    past (freed how known (flat_map vars_of ns)) (binder v) ns at (searched how known (min (at + 1) most) ns) (λ u e c. cc) (outcome_kept how known kept ns (min (at + 1) most) (omega arith))
outcome_kept how known kept (public n ∷ ns) at l =
    past (freed how known (flat_map vars_of ns)) (public n) ns at (searched how known (min (at + 1) most) ns) (λ u e c. cc) (outcome_kept how known kept ns (min (at + 1) most) (omega arith))
outcome_kept how known kept (fresh k ∷ ns) at l =
    past (freed how known (flat_map vars_of ns)) (fresh k) ns at (searched how known (min (at + 1) most) ns) (λ u e c. cc) (outcome_kept how known kept ns (min (at + 1) most) (omega arith))
outcome_kept how known kept (symbol a f k ∷ ns) at l =
    past (freed how known (flat_map vars_of ns)) (symbol a f k) ns at (searched how known (min (at + 1) most) ns) (λ u e c. cc) (outcome_kept how known kept ns (min (at + 1) most) (omega arith))
outcome_kept how known kept (fact a f ∷ ns) at l =
    past (freed how known (flat_map vars_of ns)) (fact a f) ns at (searched how known (min (at + 1) most) ns) (λ u e c. cc) (outcome_kept how known kept ns (min (at + 1) most) (omega arith))
outcome_kept how known kept (variable v ∷ ns) at l =
    subst (λ (d : Bool).
    Hit (freed how known (v ∷ flat_map vars_of ns)) (variable v ∷ ns) at
    (met_all how (record { known = if d then known ++ v ∷ [] else known; search = visited (is_free how v known) (record { at = at; found = false }) }) ns).search
    ⊎ Miss (freed how known (v ∷ flat_map vars_of ns))
    (met_all how (record { known = if d then known ++ v ∷ [] else known; search = visited (is_free how v known) (record { at = at; found = false }) }) ns).search)
    (sym (kept v)) (by (is_free how v known) refl (outcome_kept how known kept ns (min (at + 1) most) (omega arith)))
  where
    not_free : is_free how v known ≡ false → (u : Var) → Some (variable v) ≡ Some (variable u) → Contains (freed how known (flat_map vars_of ns)) u → ⊥
    not_free e u s c =
        let passes = passed (λ (w : Var). is_free how w known) (flat_map vars_of ns) u c in
        let same : is_free how u known ≡ false = subst (λ (w : Var). is_free how w known ≡ false) (one_of v u s) e in
        cc

    by : (b : Bool) → is_free how v known ≡ b
        → Hit (freed how known (flat_map vars_of ns)) ns (min (at + 1) most) (searched how known (min (at + 1) most) ns)
        ⊎ Miss (freed how known (flat_map vars_of ns)) (searched how known (min (at + 1) most) ns)
        → Hit (cond b (v ∷ freed how known (flat_map vars_of ns)) (freed how known (flat_map vars_of ns))) (variable v ∷ ns) at
        (met_all how (record { known = known; search = visited b (record { at = at; found = false }) }) ns).search
        ⊎ Miss (cond b (v ∷ freed how known (flat_map vars_of ns)) (freed how known (flat_map vars_of ns)))
        (met_all how (record { known = known; search = visited b (record { at = at; found = false }) }) ns).search
    by false e later = past (freed how known (flat_map vars_of ns)) (variable v) ns at (searched how known (min (at + 1) most) ns) (not_free e) later
    by true e later =
        inl (subst (Hit (v ∷ freed how known (flat_map vars_of ns)) (variable v ∷ ns) at) (sym (stays how known at ns))
        (here (freed how known (flat_map vars_of ns)) v ns at l))

pub outcome_used : (known : List Var) (ns : List Node) (at : ℕ) → at ≤ most
    → Hit (unknown known (flat_map vars_of ns)) ns at (searched Used known at ns) ⊎ Miss (unknown known (flat_map vars_of ns)) (searched Used known at ns)
outcome_used known ns at l = outcome_kept Used known (λ v. refl) ns at l

-- first occurrences of names that are not known, but for those that are written `$x`
abbrev pub unsigned_new : List (List ℕ) → List Var → List Var
unsigned_new names vs = filter (λ (v : Var). not (same_sort v.sort Pub)) (new_vars names vs)

-- what is new isn't known
new_unknown : (names : List (List ℕ)) (vs : List Var) (v : Var) → Contains (new_vars names vs) v → is_known names v.name ≡ false
new_unknown names [] v c = absurd (none_of v c)
new_unknown names (w ∷ ws) v c = by (is_known names w.name) refl c (new_unknown names ws v) (new_unknown (names ++ w.name ∷ []) ws v) where
  shorter : (ns : List (List ℕ)) (m n : List ℕ) → is_known (ns ++ m ∷ []) n ≡ false → is_known ns n ≡ false
  shorter [] m n e = refl
  shorter (k ∷ ks) m n e = one (bytes_eq k n) e (shorter ks m n) where
    one : (b : Bool) → (b || is_known (ks ++ m ∷ []) n) ≡ false → (is_known (ks ++ m ∷ []) n ≡ false → is_known ks n ≡ false) → (b || is_known ks n) ≡ false
    one true h later = h
    one false h later = later h

  by : (b : Bool) → is_known names w.name ≡ b → Contains (if b then new_vars names ws else w ∷ new_vars (names ++ w.name ∷ []) ws) v
      → (Contains (new_vars names ws) v → is_known names v.name ≡ false) → (Contains (new_vars (names ++ w.name ∷ []) ws) v → is_known (names ++ w.name ∷ []) v.name ≡ false)
      → is_known names v.name ≡ false
  by true e k later after = later k
  by false e k later after =
      elim (cons_cases w (new_vars (names ++ w.name ∷ []) ws) v k) as (λ _. is_known names v.name ≡ false) [
        | inl d ↦ subst (λ (z : Var). is_known names z.name ≡ false) d e
        | inr m ↦ shorter names w.name v.name (after m)
      ]

names_push : (vs : List Var) (v : Var) → var_names (vs ++ v ∷ []) ≡ var_names vs ++ v.name ∷ []
names_push [] v = refl
names_push (w ∷ ws) v = ap (λ ns. w.name ∷ ns) (names_push ws v)

pub outcome_rule : (known : List Var) (ns : List Node) (at : ℕ) → at ≤ most
    → Hit (unsigned_new (var_names known) (flat_map vars_of ns)) ns at (searched Ruled known at ns)
    ⊎ Miss (unsigned_new (var_names known) (flat_map vars_of ns)) (searched Ruled known at ns)
outcome_rule known [] at l = inr (record { nothing = refl; found = refl })
outcome_rule known (binder v ∷ ns) at l =
    past (unsigned_new (var_names known) (flat_map vars_of ns)) (binder v) ns at (searched Ruled known (min (at + 1) most) ns) (λ u e c. cc)
    (outcome_rule known ns (min (at + 1) most) (omega arith))
outcome_rule known (public n ∷ ns) at l =
    past (unsigned_new (var_names known) (flat_map vars_of ns)) (public n) ns at (searched Ruled known (min (at + 1) most) ns) (λ u e c. cc)
    (outcome_rule known ns (min (at + 1) most) (omega arith))
outcome_rule known (fresh k ∷ ns) at l =
    past (unsigned_new (var_names known) (flat_map vars_of ns)) (fresh k) ns at (searched Ruled known (min (at + 1) most) ns) (λ u e c. cc)
    (outcome_rule known ns (min (at + 1) most) (omega arith))
outcome_rule known (symbol a f k ∷ ns) at l =
    past (unsigned_new (var_names known) (flat_map vars_of ns)) (symbol a f k) ns at (searched Ruled known (min (at + 1) most) ns) (λ u e c. cc)
    (outcome_rule known ns (min (at + 1) most) (omega arith))
outcome_rule known (fact a f ∷ ns) at l =
    past (unsigned_new (var_names known) (flat_map vars_of ns)) (fact a f) ns at (searched Ruled known (min (at + 1) most) ns) (λ u e c. cc)
    (outcome_rule known ns (min (at + 1) most) (omega arith))
outcome_rule known (variable v ∷ ns) at l =
    by (is_known (var_names known) v.name) refl (outcome_rule known ns (min (at + 1) most) (omega arith))
    (subst (λ (names : List (List ℕ)). Hit (unsigned_new names (flat_map vars_of ns)) ns (min (at + 1) most) (searched Ruled (known ++ v ∷ []) (min (at + 1) most) ns)
    ⊎ Miss (unsigned_new names (flat_map vars_of ns)) (searched Ruled (known ++ v ∷ []) (min (at + 1) most) ns)) (names_push known v)
    (outcome_rule (known ++ v ∷ []) ns (min (at + 1) most) (omega arith)))
  where
    known_one : is_known (var_names known) v.name ≡ true → (u : Var) → Some (variable v) ≡ Some (variable u)
        → Contains (unsigned_new (var_names known) (flat_map vars_of ns)) u → ⊥
    known_one e u s c =
        let there = filtered (λ (w : Var). not (same_sort w.sort Pub)) (new_vars (var_names known) (flat_map vars_of ns)) u c in
        let out = new_unknown (var_names known) (flat_map vars_of ns) u there in
        let same : is_known (var_names known) u.name ≡ true = subst (λ (w : Var). is_known (var_names known) w.name ≡ true) (one_of v u s) e in
        cc

    signed_one : same_sort v.sort Pub ≡ true → (u : Var) → Some (variable v) ≡ Some (variable u)
        → Contains (unsigned_new (var_names known ++ v.name ∷ []) (flat_map vars_of ns)) u → ⊥
    signed_one e u s c =
        let passes = passed (λ (w : Var). not (same_sort w.sort Pub)) (new_vars (var_names known ++ v.name ∷ []) (flat_map vars_of ns)) u c in
        let same : same_sort u.sort Pub ≡ true = subst (λ (w : Var). same_sort w.sort Pub ≡ true) (one_of v u s) e in
        cc

    signed : (c : Bool) → same_sort v.sort Pub ≡ c
        → Hit (unsigned_new (var_names known ++ v.name ∷ []) (flat_map vars_of ns)) ns (min (at + 1) most) (searched Ruled (known ++ v ∷ []) (min (at + 1) most) ns)
        ⊎ Miss (unsigned_new (var_names known ++ v.name ∷ []) (flat_map vars_of ns)) (searched Ruled (known ++ v ∷ []) (min (at + 1) most) ns)
        → Hit (cond (not c) (v ∷ unsigned_new (var_names known ++ v.name ∷ []) (flat_map vars_of ns)) (unsigned_new (var_names known ++ v.name ∷ []) (flat_map vars_of ns)))
        (variable v ∷ ns) at
        (met_all Ruled (record { known = if c then known ++ v ∷ [] else known; search = visited (not c) (record { at = at; found = false }) }) ns).search
        ⊎ Miss (cond (not c) (v ∷ unsigned_new (var_names known ++ v.name ∷ []) (flat_map vars_of ns)) (unsigned_new (var_names known ++ v.name ∷ []) (flat_map vars_of ns)))
        (met_all Ruled (record { known = if c then known ++ v ∷ [] else known; search = visited (not c) (record { at = at; found = false }) }) ns).search
    signed true e pushed =
        past (unsigned_new (var_names known ++ v.name ∷ []) (flat_map vars_of ns)) (variable v) ns at (searched Ruled (known ++ v ∷ []) (min (at + 1) most) ns) (signed_one e) pushed
    signed false e pushed =
        inl (subst (Hit (v ∷ unsigned_new (var_names known ++ v.name ∷ []) (flat_map vars_of ns)) (variable v ∷ ns) at) (sym (stays Ruled known at ns))
        (here (unsigned_new (var_names known ++ v.name ∷ []) (flat_map vars_of ns)) v ns at l))

    by : (b : Bool) → is_known (var_names known) v.name ≡ b
        → Hit (unsigned_new (var_names known) (flat_map vars_of ns)) ns (min (at + 1) most) (searched Ruled known (min (at + 1) most) ns)
        ⊎ Miss (unsigned_new (var_names known) (flat_map vars_of ns)) (searched Ruled known (min (at + 1) most) ns)
        → Hit (unsigned_new (var_names known ++ v.name ∷ []) (flat_map vars_of ns)) ns (min (at + 1) most) (searched Ruled (known ++ v ∷ []) (min (at + 1) most) ns)
        ⊎ Miss (unsigned_new (var_names known ++ v.name ∷ []) (flat_map vars_of ns)) (searched Ruled (known ++ v ∷ []) (min (at + 1) most) ns)
        → Hit (filter (λ (w : Var). not (same_sort w.sort Pub)) (if b then new_vars (var_names known) (flat_map vars_of ns) else v ∷ new_vars (var_names known ++ v.name ∷ []) (flat_map vars_of ns)))
        (variable v ∷ ns) at
        (met_all Ruled (record {
          known = if not b && same_sort v.sort Pub then known ++ v ∷ [] else known;
          search = visited (not b && not (same_sort v.sort Pub)) (record { at = at; found = false });
        }) ns).search
        ⊎ Miss (filter (λ (w : Var). not (same_sort w.sort Pub)) (if b then new_vars (var_names known) (flat_map vars_of ns) else v ∷ new_vars (var_names known ++ v.name ∷ []) (flat_map vars_of ns)))
        (met_all Ruled (record {
          known = if not b && same_sort v.sort Pub then known ++ v ∷ [] else known;
          search = visited (not b && not (same_sort v.sort Pub)) (record { at = at; found = false });
        }) ns).search
    by true e later pushed =
        past (unsigned_new (var_names known) (flat_map vars_of ns)) (variable v) ns at (searched Ruled known (min (at + 1) most) ns) (known_one e) later
    by false e later pushed = signed (same_sort v.sort Pub) refl pushed

abbrev pub trail_of : List Var → ℕ → Trail
trail_of known at = record { known = known; search = record { at = at; found = false } }

trail_is : (known others : List Var) (at k : ℕ) → known ≡ others → at ≡ k
    → trail_of known at ≡ trail_of others k
trail_is known others at k e d = λ i. record { known = e i; search = record { at = d i; found = false } }

one_more : (at k : ℕ) → min (min (at + 1) most + k) most ≡ min (at + suc k) most
one_more at k = omega arith

next : (known : List Var) (ns : List Node) (at : ℕ)
    → trail_of (known ++ flat_map vars_of ns) (min (min (at + 1) most + length ns) most) ≡ trail_of (known ++ flat_map vars_of ns) (min (at + suc (length ns)) most)
next known ns at =
    trail_is (known ++ flat_map vars_of ns) (known ++ flat_map vars_of ns) (min (min (at + 1) most + length ns) most) (min (at + suc (length ns)) most) refl (one_more at (length ns))

-- each variable of a left side is known behind it
pub behind_left : (known : List Var) (ns : List Node) (at : ℕ) → at ≤ most
    → met_all Taken (trail_of known at) ns ≡ trail_of (known ++ flat_map vars_of ns) (min (at + length ns) most)
behind_left known [] at l = trail_is known (known ++ []) at (min (at + 0) most) (sym (append-nil known)) (omega arith)
behind_left known (variable v ∷ ns) at l =
    behind_left (known ++ v ∷ []) ns (min (at + 1) most) (omega arith)
    ∙ trail_is ((known ++ v ∷ []) ++ flat_map vars_of ns) (known ++ (v ∷ flat_map vars_of ns)) (min (min (at + 1) most + length ns) most) (min (at + suc (length ns)) most)
    (append_assoc known (v ∷ []) (flat_map vars_of ns)) (one_more at (length ns))
behind_left known (binder v ∷ ns) at l = behind_left known ns (min (at + 1) most) (omega arith) ∙ next known ns at
behind_left known (public n ∷ ns) at l = behind_left known ns (min (at + 1) most) (omega arith) ∙ next known ns at
behind_left known (fresh k ∷ ns) at l = behind_left known ns (min (at + 1) most) (omega arith) ∙ next known ns at
behind_left known (symbol a f k ∷ ns) at l = behind_left known ns (min (at + 1) most) (omega arith) ∙ next known ns at
behind_left known (fact a f ∷ ns) at l = behind_left known ns (min (at + 1) most) (omega arith) ∙ next known ns at

-- a variable's name is known where it is one of these
name_known : (vs : List Var) (v : Var) → Contains vs v → is_known (var_names vs) v.name ≡ true
name_known [] v c = absurd (none_of v c)
name_known (w ∷ ws) v c = by (cons_cases w ws v c) (name_known ws v) where
  or_true : (b : Bool) → (b || true) ≡ true
  or_true true = refl
  or_true false = refl

  by : (w ≡ v) ⊎ Contains ws v → (Contains ws v → is_known (var_names ws) v.name ≡ true) → (bytes_eq w.name v.name || is_known (var_names ws) v.name) ≡ true
  by (inl e) later = ap (λ b. b || is_known (var_names ws) v.name) (subst (λ (z : Var). bytes_eq z.name v.name ≡ true) (sym e) (own_name v.name))
  by (inr k) later = ap (λ b. bytes_eq w.name v.name || b) (later k) ∙ or_true (bytes_eq w.name v.name)

-- one of these isn't new
pub new_known_not : (known vs : List Var) (v : Var) → Contains known v → Contains (unsigned_new (var_names known) vs) v → ⊥
new_known_not known vs v k c =
    let there = filtered (λ (w : Var). not (same_sort w.sort Pub)) (new_vars (var_names known) vs) v c in
    let out = new_unknown (var_names known) vs v there in
    let is = name_known known v k in
    cc
