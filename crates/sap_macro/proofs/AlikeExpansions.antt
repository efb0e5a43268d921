-- Two expansions of one process are equal up to names, where what is put for its names is.
use Rattle.std.proofs.Common.{◌≡◌, ℕ, true, false, List, [], ◌∷◌, ◌++◌, map, sym, ap, ◌∙◌, subst, ⊎_elim}
use Rattle.std.proofs.lemmas.Bool.{cases_Bool}
use Rattle.std.specs.Prelude.{if◌then◌else◌}
use Rattle.std.specs.Str.{bytes_eq}
use Rattle.sap_terms.specs.Choice.{Choice, instance, instances}
use Rattle.sap_terms.specs.Modulo.{instance_facts}
use Rattle.sap_terms.specs.Tree.{Tree, variable, public, fresh, apply, Trees, none, more, trees_of}
use Rattle.sap_terms.specs.Variables.{is_known, tree_vars, trees_vars, facts_vars}
use Rattle.sap_terms.specs.declared.fact.Fact.{Fact}
use Rattle.sap_terms.specs.declared.var.Var.{Var}
use Rattle.sap_process.specs.Action.{Action, new, out, send, input, receive, event, insert, delete, lock, unlock, embedded}
use Rattle.sap_process.specs.Instance.{action_instance}
use Rattle.sap_macro.specs.Expansion.{scope_behind, bound_in, bound_by, behind, binders, Meaning, binding, expanded}
use Rattle.sap_macro.specs.Instances.{IsOverScope, used_vars, BindsNew, IsClosed}
use Rattle.sap_macro.specs.UpToNames.{named, Pair, pair_of, lefts, rights, here, above, AreAlikeTerms, both_variable, both_public, both_fresh, both_apply, AreAlikeLists, both_none, both_more, AreAlikePatterns, new_name, one_public, one_fresh, one_symbol, AreAlikeRows, row_ends, row_goes_on, AreAlikeFacts, facts_end, facts_go_on, AreAlikeActions, both_new, both_out, both_send, both_input, both_receive, both_event, both_insert, both_delete, both_lock, both_unlock, both_embedded, AreAlike, both_nil, both_parallel, both_replicated, both_act, both_test, both_lookup}
use Rattle.sap_macro.specs.Written.{Written, nil, call, parallel, replicated, act, test, lookup}
use Rattle.sap_terms.proofs.PlainLaws.Known.{clash, two_names, apart, in_head, in_tail, in_cases, not_in, out_of}
use Rattle.sap_macro.proofs.Names.{left_known, right_known}
use Rattle.sap_macro.proofs.Moving.{as_pattern, each_instance}
use Rattle.sap_macro.proofs.Scopes.{Among, in_left, in_right, over_left, over_right, bound_append, behind_append}
use Rattle.sap_macro.proofs.Commuting.{IsSteady, taken_grows, own_new, facts_append}

-- new names below change nothing
mutual
  weaker : (ρ : List Pair) (a b : List ℕ) → is_known (lefts ρ) a ≡ false → is_known (rights ρ) b ≡ false → (t u : Tree) → AreAlikeTerms ρ t u → AreAlikeTerms (pair_of a b ∷ ρ) t u
  weaker ρ a b h k _ _ (both_variable {x = x} {y = y} l) =
      both_variable (above (λ e. clash (is_known (lefts ρ) x) (left_known ρ x y l) (sym (ap (is_known (lefts ρ)) e) ∙ h))
      (λ e. clash (is_known (rights ρ) y) (right_known ρ x y l) (sym (ap (is_known (rights ρ)) e) ∙ k)) l)
  weaker ρ a b h k _ _ both_public = both_public
  weaker ρ a b h k _ _ both_fresh = both_fresh
  weaker ρ a b h k _ _ (both_apply {ts = ts} {us = us} l) = both_apply (all_weaker ρ a b h k ts us l)

  all_weaker : (ρ : List Pair) (a b : List ℕ) → is_known (lefts ρ) a ≡ false → is_known (rights ρ) b ≡ false → (ts us : Trees) → AreAlikeLists ρ ts us → AreAlikeLists (pair_of a b ∷ ρ) ts us
  all_weaker ρ a b h k _ _ both_none = both_none
  all_weaker ρ a b h k _ _ (both_more {t = t} {u = u} {ts = ts} {us = us} l m) = both_more (weaker ρ a b h k t u l) (all_weaker ρ a b h k ts us m)

-- uses of one name on terms that are equal up to names are equal up to names
pub record Respects (m : Meaning) : Type 0 where
  pub respects : (f : List ℕ) (ts us : List Tree) (c d : List (List ℕ)) (ρ : List Pair) → AreAlikeLists ρ (trees_of ts) (trees_of us) → Among (lefts ρ) c → Among (rights ρ) d
      → AreAlike ρ (m f ts c).process (m f us d).process

module _ (m : Meaning) (steady : IsSteady m) (respecting : Respects m) (r q : Choice) (b c : List ℕ → List ℕ) (B : List (List ℕ))
    (left_own : (v : Var) → is_known B v.name ≡ true → r v ≡ variable (named (b v.name) v.sort))
    (right_own : (v : Var) → is_known B v.name ≡ true → q v ≡ variable (named (c v.name) v.sort))
    (left_one : (x z : List ℕ) → is_known B x ≡ true → is_known B z ≡ true → b x ≡ b z → x ≡ z)
    (right_one : (x z : List ℕ) → is_known B x ≡ true → is_known B z ≡ true → c x ≡ c z → x ≡ z) where
  -- what is put for names in scope is equal up to names; names that aren't in scope yet get new ones on both sides; all are taken
  pub record Fits (taken other : List (List ℕ)) (ρ : List Pair) (scope : List (List ℕ)) : Type 0 where
    pub linked : (v : Var) → is_known scope v.name ≡ true → AreAlikeTerms ρ (r v) (q v)
    pub left_new : (x : List ℕ) → is_known B x ≡ true → is_known scope x ≡ false → is_known (lefts ρ) (b x) ≡ false
    pub right_new : (x : List ℕ) → is_known B x ≡ true → is_known scope x ≡ false → is_known (rights ρ) (c x) ≡ false
    pub left_taken : Among (lefts ρ) taken
    pub right_taken : Among (rights ρ) other
    pub left_names : (x : List ℕ) → is_known B x ≡ true → is_known taken (b x) ≡ true
    pub right_names : (x : List ℕ) → is_known B x ≡ true → is_known other (c x) ≡ true

  wider : (taken other wide further : List (List ℕ)) (ρ : List Pair) (scope : List (List ℕ)) → Among taken wide → Among other further → Fits taken other ρ scope → Fits wide further ρ scope
  wider taken other wide further ρ scope h k f = record {
    linked = f.linked;
    left_new = f.left_new;
    right_new = f.right_new;
    left_taken = λ x i. h x (f.left_taken x i);
    right_taken = λ x i. k x (f.right_taken x i);
    left_names = λ x i. h (b x) (f.left_names x i);
    right_names = λ x i. k (c x) (f.right_names x i);
  }

  -- two names of which one isn't in scope are two
  two : (scope : List (List ℕ)) (x y : List ℕ) → is_known (x ∷ scope) y ≡ false → ¬ (x ≡ y)
  two scope x y h = two_names x y (not_in y x scope h).0

  differ : (f : List ℕ → List ℕ) (x y : List ℕ) → (f x ≡ f y → x ≡ y) → ¬ (x ≡ y) → bytes_eq (f x) (f y) ≡ false
  differ f x y one h = apart (f x) (f y) (λ e. h (one e))

  one_more : (taken other : List (List ℕ)) (ρ : List Pair) (scope : List (List ℕ)) (x : List ℕ) → is_known B x ≡ true → is_known scope x ≡ false → Fits taken other ρ scope
      → Fits taken other (pair_of (b x) (c x) ∷ ρ) (x ∷ scope)
  one_more taken other ρ scope x i fresh_here f = record {
    linked = λ v k.
        ⊎_elim
        (λ e. let own = subst (λ z. is_known B z ≡ true) e i in
        subst (λ t. AreAlikeTerms (pair_of (b x) (c x) ∷ ρ) t (q v)) (sym (left_own v own))
        (subst (λ t. AreAlikeTerms (pair_of (b x) (c x) ∷ ρ) (variable (named (b v.name) v.sort)) t) (sym (right_own v own))
        (subst (λ z. AreAlikeTerms (pair_of (b x) (c x) ∷ ρ) (variable (named (b z) v.sort)) (variable (named (c z) v.sort))) e (both_variable here))))
        (λ l. weaker ρ (b x) (c x) (f.left_new x i fresh_here) (f.right_new x i fresh_here) (r v) (q v) (f.linked v l))
        (in_cases v.name x scope k);
    left_new = λ y j k. out_of (b y) (b x) (lefts ρ) (differ b x y (left_one x y i j) (two scope x y k)) (f.left_new y j (not_in y x scope k).1);
    right_new = λ y j k. out_of (c y) (c x) (rights ρ) (differ c x y (right_one x y i j) (two scope x y k)) (f.right_new y j (not_in y x scope k).1);
    left_taken = λ y k. ⊎_elim (λ e. subst (λ z. is_known taken z ≡ true) e (f.left_names x i)) (λ l. f.left_taken y l) (in_cases y (b x) (lefts ρ) k);
    right_taken = λ y k. ⊎_elim (λ e. subst (λ z. is_known other z ≡ true) e (f.right_names x i)) (λ l. f.right_taken y l) (in_cases y (c x) (rights ρ) k);
    left_names = f.left_names;
    right_names = f.right_names;
  }

  -- what is alike, and what is in scope behind
  pub record Opened (taken other : List (List ℕ)) (scope : List (List ℕ)) (Alike : List Pair → Type 0) : Type 0 where
    pub after : List Pair
    pub alike : Alike after
    pub fits : Fits taken other after scope

  mutual
    opened : (taken other : List (List ℕ)) (ρ : List Pair) (scope : List (List ℕ)) (t : Tree) → Among (bound_in scope (tree_vars t)) B → Fits taken other ρ scope
        → Opened taken other (scope_behind scope (tree_vars t)) (AreAlikePatterns ρ (instance r t) (instance q t))
    opened taken other ρ scope (variable v) i f =
        ⊎_elim
        (λ e. subst (λ z. Opened taken other (if z then scope else (v.name ∷ scope)) (AreAlikePatterns ρ (r v) (q v))) (sym e)
        (record { after = ρ; alike = as_pattern ρ (r v) (q v) (f.linked v e); fits = f }))
        (λ e.
        let own = i v.name (own_new scope v e) in
        subst (λ z. Opened taken other (if z then scope else (v.name ∷ scope)) (AreAlikePatterns ρ (r v) (q v))) (sym e)
        (record {
          after = pair_of (b v.name) (c v.name) ∷ ρ;
          alike = subst (λ t. AreAlikePatterns ρ t (q v) (pair_of (b v.name) (c v.name) ∷ ρ)) (sym (left_own v own))
              (subst (λ t. AreAlikePatterns ρ (variable (named (b v.name) v.sort)) t (pair_of (b v.name) (c v.name) ∷ ρ)) (sym (right_own v own))
              (new_name (f.left_new v.name own e) (f.right_new v.name own e)));
          fits = one_more taken other ρ scope v.name own e f;
        }))
        (cases_Bool (is_known scope v.name))
    opened taken other ρ scope (public n) i f = record { after = ρ; alike = one_public; fits = f }
    opened taken other ρ scope (fresh k) i f = record { after = ρ; alike = one_fresh; fits = f }
    opened taken other ρ scope (apply g ts) i f =
        let row = opened_row taken other ρ scope ts i f in record { after = row.after; alike = one_symbol row.alike; fits = row.fits }

    opened_row : (taken other : List (List ℕ)) (ρ : List Pair) (scope : List (List ℕ)) (ts : Trees) → Among (bound_in scope (trees_vars ts)) B → Fits taken other ρ scope
        → Opened taken other (scope_behind scope (trees_vars ts)) (AreAlikeRows ρ (instances r ts) (instances q ts))
    opened_row taken other ρ scope none i f = record { after = ρ; alike = row_ends; fits = f }
    opened_row taken other ρ scope (more t ts) i f =
        let vs = tree_vars t in
        let ws = trees_vars ts in
        let bound = bound_append scope vs ws in
        let first = opened taken other ρ scope t (λ x j. i x (subst (λ z. is_known z x ≡ true) (sym bound) (in_left (bound_in scope vs) (bound_in (scope_behind scope vs) ws) x j))) f in
        let rest = opened_row taken other first.after (scope_behind scope vs) ts
        (λ x j. i x (subst (λ z. is_known z x ≡ true) (sym bound) (in_right (bound_in scope vs) (bound_in (scope_behind scope vs) ws) x j))) first.fits in
        record { after = rest.after; alike = row_goes_on first.alike rest.alike; fits = subst (Fits taken other rest.after) (sym (behind_append scope vs ws)) rest.fits }

  opened_facts : (taken other : List (List ℕ)) (ρ : List Pair) (scope : List (List ℕ)) (fs : List Fact) → Among (bound_in scope (facts_vars fs)) B → Fits taken other ρ scope
      → Opened taken other (scope_behind scope (facts_vars fs)) (AreAlikeFacts ρ (instance_facts r fs) (instance_facts q fs))
  opened_facts taken other ρ scope [] i f = record { after = ρ; alike = facts_end; fits = f }
  opened_facts taken other ρ scope (h ∷ fs) i f =
      let vs = trees_vars (trees_of h.args) in
      let ws = facts_vars fs in
      let bound = bound_append scope vs ws in
      let first = opened_row taken other ρ scope (trees_of h.args) (λ x j. i x (subst (λ z. is_known z x ≡ true) (sym bound) (in_left (bound_in scope vs) (bound_in (scope_behind scope vs) ws) x j))) f in
      let rest = opened_facts taken other first.after (scope_behind scope vs) fs
      (λ x j. i x (subst (λ z. is_known z x ≡ true) (sym bound) (in_right (bound_in scope vs) (bound_in (scope_behind scope vs) ws) x j))) first.fits in
      record {
        after = rest.after;
        alike = facts_go_on (subst (λ z. AreAlikeRows ρ z (trees_of (map (instance q) h.args)) first.after) (each_instance r h.args)
            (subst (λ z. AreAlikeRows ρ (instances r (trees_of h.args)) z first.after) (each_instance q h.args) first.alike)) rest.alike;
        fits = subst (Fits taken other rest.after) (sym (behind_append scope vs ws)) rest.fits;
      }

  mutual
    linked_term : (taken other : List (List ℕ)) (ρ : List Pair) (scope : List (List ℕ)) → Fits taken other ρ scope → (t : Tree) → IsOverScope scope (tree_vars t) → AreAlikeTerms ρ (instance r t) (instance q t)
    linked_term taken other ρ scope f (variable v) o = f.linked v o.0
    linked_term taken other ρ scope f (public n) o = both_public
    linked_term taken other ρ scope f (fresh k) o = both_fresh
    linked_term taken other ρ scope f (apply g ts) o = both_apply (linked_row taken other ρ scope f ts o)

    linked_row : (taken other : List (List ℕ)) (ρ : List Pair) (scope : List (List ℕ)) → Fits taken other ρ scope → (ts : Trees) → IsOverScope scope (trees_vars ts) → AreAlikeLists ρ (instances r ts) (instances q ts)
    linked_row taken other ρ scope f none o = both_none
    linked_row taken other ρ scope f (more t ts) o =
        both_more (linked_term taken other ρ scope f t (over_left scope (tree_vars t) (trees_vars ts) o)) (linked_row taken other ρ scope f ts (over_right scope (tree_vars t) (trees_vars ts) o))

  linked_list : (taken other : List (List ℕ)) (ρ : List Pair) (scope : List (List ℕ)) → Fits taken other ρ scope → (ts : List Tree) → IsOverScope scope (trees_vars (trees_of ts))
      → AreAlikeLists ρ (trees_of (map (instance r) ts)) (trees_of (map (instance q) ts))
  linked_list taken other ρ scope f ts o =
      subst (λ z. AreAlikeLists ρ z (trees_of (map (instance q) ts))) (each_instance r ts)
      (subst (AreAlikeLists ρ (instances r (trees_of ts))) (each_instance q ts) (linked_row taken other ρ scope f (trees_of ts) o))

  opened_action : (taken other : List (List ℕ)) (ρ : List Pair) (scope : List (List ℕ)) (a : Action) → IsOverScope scope (used_vars a) → BindsNew scope a → Among (bound_by scope a) B
      → Fits taken other ρ scope → Opened taken other (behind scope a) (AreAlikeActions ρ (binding b (action_instance r a)) (binding c (action_instance q a)))
  opened_action taken other ρ scope (new x) o n i f =
      subst (λ z. Opened taken other (if z then scope else (x.name ∷ scope)) (AreAlikeActions ρ (new (named (b x.name) x.sort)) (new (named (c x.name) x.sort)))) (sym n)
      (record { after = pair_of (b x.name) (c x.name) ∷ ρ; alike = both_new; fits = one_more taken other ρ scope x.name (i x.name (own_new scope x n)) n f })
  opened_action taken other ρ scope (out t) o n i f = record { after = ρ; alike = both_out (linked_term taken other ρ scope f t o); fits = f }
  opened_action taken other ρ scope (send t u) o n i f =
      record { after = ρ; alike = both_send (linked_term taken other ρ scope f t (over_left scope (tree_vars t) (tree_vars u) o)) (linked_term taken other ρ scope f u (over_right scope (tree_vars t) (tree_vars u) o)); fits = f }
  opened_action taken other ρ scope (input t) o n i f =
      let begun = opened taken other ρ scope t i f in record { after = begun.after; alike = both_input begun.alike; fits = begun.fits }
  opened_action taken other ρ scope (receive t u) o n i f =
      let begun = opened taken other ρ scope u i f in record { after = begun.after; alike = both_receive (linked_term taken other ρ scope f t o) begun.alike; fits = begun.fits }
  opened_action taken other ρ scope (event h) o n i f = record { after = ρ; alike = both_event (linked_list taken other ρ scope f h.args o); fits = f }
  opened_action taken other ρ scope (insert t u) o n i f =
      record { after = ρ; alike = both_insert (linked_term taken other ρ scope f t (over_left scope (tree_vars t) (tree_vars u) o)) (linked_term taken other ρ scope f u (over_right scope (tree_vars t) (tree_vars u) o)); fits = f }
  opened_action taken other ρ scope (delete t) o n i f = record { after = ρ; alike = both_delete (linked_term taken other ρ scope f t o); fits = f }
  opened_action taken other ρ scope (lock t k) o n i f = record { after = ρ; alike = both_lock (linked_term taken other ρ scope f t o); fits = f }
  opened_action taken other ρ scope (unlock t k) o n i f = record { after = ρ; alike = both_unlock (linked_term taken other ρ scope f t o); fits = f }
  opened_action taken other ρ scope (embedded l e k) o n i f =
      let vs = facts_vars l in
      let us = facts_vars e in
      let ws = facts_vars k in
      let all : facts_vars (l ++ (e ++ k)) ≡ vs ++ (us ++ ws) = facts_append l (e ++ k) ∙ ap (λ z. vs ++ z) (facts_append e k) in
      let wide = scope_behind scope vs in
      let last = scope_behind wide us in
      let bound = ap (bound_in scope) all ∙ bound_append scope vs (us ++ ws) ∙ ap (λ z. bound_in scope vs ++ z) (bound_append wide us ws) in
      let into = λ (x : List ℕ) (j : is_known (bound_in scope vs ++ (bound_in wide us ++ bound_in last ws)) x ≡ true). i x (subst (λ z. is_known z x ≡ true) (sym bound) j) in
      let first = opened_facts taken other ρ scope l (λ x j. into x (in_left (bound_in scope vs) (bound_in wide us ++ bound_in last ws) x j)) f in
      let second = opened_facts taken other first.after wide e (λ x j. into x (in_right (bound_in scope vs) (bound_in wide us ++ bound_in last ws) x (in_left (bound_in wide us) (bound_in last ws) x j))) first.fits in
      let third = opened_facts taken other second.after last k (λ x j. into x (in_right (bound_in scope vs) (bound_in wide us ++ bound_in last ws) x (in_right (bound_in wide us) (bound_in last ws) x j))) second.fits in
      let scopes : scope_behind (scope_behind (scope_behind scope vs) us) ws ≡ scope_behind scope (facts_vars (l ++ (e ++ k))) =
      sym (behind_append wide us ws) ∙ sym (behind_append scope vs (us ++ ws)) ∙ ap (scope_behind scope) (sym all) in
      record { after = third.after; alike = both_embedded {ξ = first.after} {ζ = second.after} {η = third.after} first.alike second.alike third.alike; fits = subst (Fits taken other third.after) scopes third.fits }

  behind_first : (taken other : List (List ℕ)) (ρ : List Pair) (scope : List (List ℕ)) (p : Written) → Fits taken other ρ scope
      → Fits (expanded m r b p taken).taken (expanded m q c p other).taken ρ scope
  behind_first taken other ρ scope p f =
      wider taken other (expanded m r b p taken).taken (expanded m q c p other).taken ρ scope (taken_grows m steady r b p taken) (taken_grows m steady q c p other) f

  pub alike : (taken other : List (List ℕ)) (ρ : List Pair) (scope : List (List ℕ)) (p : Written) → IsClosed scope p → Among (binders scope p) B → Fits taken other ρ scope
      → AreAlike ρ (expanded m r b p taken).process (expanded m q c p other).process
  alike taken other ρ scope nil o i f = both_nil
  alike taken other ρ scope (call g ts) o i f =
      respecting.respects g (map (instance r) ts) (map (instance q) ts) taken other ρ (linked_list taken other ρ scope f ts o) f.left_taken f.right_taken
  alike taken other ρ scope (parallel p u) o i f =
      both_parallel (alike taken other ρ scope p o.0 (λ x j. i x (in_left (binders scope p) (binders scope u) x j)) f)
      (alike (expanded m r b p taken).taken (expanded m q c p other).taken ρ scope u o.1 (λ x j. i x (in_right (binders scope p) (binders scope u) x j)) (behind_first taken other ρ scope p f))
  alike taken other ρ scope (replicated p) o i f = both_replicated (alike taken other ρ scope p o i f)
  alike taken other ρ scope (act a p) o i f =
      let begun = opened_action taken other ρ scope a o.0 o.1.0 (λ x j. i x (in_left (bound_by scope a) (binders (behind scope a) p) x j)) f in
      both_act begun.alike (alike taken other begun.after (behind scope a) p o.1.1 (λ x j. i x (in_right (bound_by scope a) (binders (behind scope a) p) x j)) begun.fits)
  alike taken other ρ scope (test v w p u) o i f =
      both_test (linked_term taken other ρ scope f v o.0) (linked_term taken other ρ scope f w o.1.0) (alike taken other ρ scope p o.1.1.0 (λ x j. i x (in_left (binders scope p) (binders scope u) x j)) f)
      (alike (expanded m r b p taken).taken (expanded m q c p other).taken ρ scope u o.1.1.1 (λ x j. i x (in_right (binders scope p) (binders scope u) x j)) (behind_first taken other ρ scope p f))
  alike taken other ρ scope (lookup v x p u) o i f =
      let rest = binders (x.name ∷ scope) p ++ binders scope u in
      let own = i x.name (in_head x.name rest) in
      both_lookup (linked_term taken other ρ scope f v o.0)
      (alike taken other (pair_of (b x.name) (c x.name) ∷ ρ) (x.name ∷ scope) p o.1.1.0 (λ y j. i y (in_tail y x.name rest (in_left (binders (x.name ∷ scope) p) (binders scope u) y j)))
      (one_more taken other ρ scope x.name own o.1.0 f))
      (alike (expanded m r b p taken).taken (expanded m q c p other).taken ρ scope u o.1.1.1 (λ y j. i y (in_tail y x.name rest (in_right (binders (x.name ∷ scope) p) (binders scope u) y j)))
      (behind_first taken other ρ scope p f))
