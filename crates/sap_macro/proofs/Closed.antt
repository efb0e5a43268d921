-- What is closed stays so where names in scope are replaced by ground terms, and binds the same names.
use Rattle.std.proofs.Common.{◌≡◌, ℕ, Bool, true, false, List, [], ◌∷◌, ◌++◌, map, refl, sym, ap, ap₂, ◌∙◌, subst, ⊎_elim}
use Rattle.std.proofs.lemmas.Bool.{cases_Bool}
use Rattle.std.specs.Prelude.{◌||◌, if◌then◌else◌}
use Rattle.std.specs.Str.{bytes_eq}
use Rattle.sap_terms.specs.Choice.{Choice, instance}
use Rattle.sap_terms.specs.Ground.{IsGround, AreGround}
use Rattle.sap_terms.specs.Modulo.{instance_facts}
use Rattle.sap_terms.specs.Tree.{Tree, variable, public, fresh, apply, Trees, none, more, trees_of}
use Rattle.sap_terms.specs.declared.var.Var.{Var}
use Rattle.sap_terms.specs.Variables.{is_known, tree_vars, trees_vars, facts_vars}
use Rattle.sap_process.specs.Action.{Action, new, out, send, input, receive, event, insert, delete, lock, unlock, embedded}
use Rattle.sap_process.specs.Instance.{action_instance}
use Rattle.sap_macro.specs.Expansion.{behind, binders, binding_vars, bound_in, scope_behind}
use Rattle.sap_macro.specs.Instances.{BindsNew, IsClosed, IsOverScope, used_vars, written_instance}
use Rattle.sap_macro.specs.Written.{Written, nil, call, parallel, replicated, act, test, lookup}
use Rattle.sap_terms.proofs.PlainLaws.Known.{clash, in_tail}
use Rattle.sap_macro.proofs.Sorting.{put_vars, put_append, vars_put}
use Rattle.sap_macro.proofs.Exchange.{facts_put, facts_joined}

mutual
  no_vars : (t : Tree) → IsGround t → tree_vars t ≡ []
  no_vars (variable v) h = absurd h
  no_vars (public n) h = refl
  no_vars (fresh k) h = refl
  no_vars (apply f ts) h = none_at_all ts h

  none_at_all : (ts : Trees) → AreGround ts → trees_vars ts ≡ []
  none_at_all none h = refl
  none_at_all (more t ts) h = ap₂ (λ (xs ys : List Var). xs ++ ys) (no_vars t h.0) (none_at_all ts h.1)

module _ (σ : Choice) (gone : List (List ℕ)) (grounds : (v : Var) → is_known gone v.name ≡ true → IsGround (σ v))
    (leaves : (v : Var) → is_known gone v.name ≡ false → σ v ≡ variable v) where
  -- of the names in scope some are gone, and the rest stays
  pub record Split (K R : List (List ℕ)) : Type 0 where
    pub gone_in : (x : List ℕ) → is_known gone x ≡ true → is_known K x ≡ true
    pub stays : (x : List ℕ) → is_known gone x ≡ false → is_known K x ≡ is_known R x

  split_more : (K R : List (List ℕ)) (y : List ℕ) → Split K R → Split (y ∷ K) (y ∷ R)
  split_more K R y s = record {
    gone_in = λ x h. in_tail x y K (s.gone_in x h);
    stays = λ x h. ap (λ b. bytes_eq y x || b) (s.stays x h);
  }

  over_rest : (K R : List (List ℕ)) (vs : List Var) → Split K R → IsOverScope K vs → IsOverScope R (put_vars σ vs)
  over_rest K R [] s h = tt
  over_rest K R (v ∷ vs) s h =
      ⊎_elim (λ e. subst (λ z. IsOverScope R (z ++ put_vars σ vs)) (sym (no_vars (σ v) (grounds v e))) (over_rest K R vs s h.1))
      (λ e. subst (λ t. IsOverScope R (tree_vars t ++ put_vars σ vs)) (sym (leaves v e)) (sym (s.stays v.name e) ∙ h.0, over_rest K R vs s h.1))
      (cases_Bool (is_known gone v.name))

  split_behind : (K R : List (List ℕ)) (vs : List Var) → Split K R → Split (scope_behind K vs) (scope_behind R (put_vars σ vs))
  split_behind K R [] s = s
  split_behind K R (v ∷ vs) s =
      ⊎_elim
      (λ e. subst (λ c. Split (scope_behind (if c then K else (v.name ∷ K)) vs) (scope_behind R (tree_vars (σ v) ++ put_vars σ vs))) (sym (s.gone_in v.name e))
      (subst (λ z. Split (scope_behind K vs) (scope_behind R (z ++ put_vars σ vs))) (sym (no_vars (σ v) (grounds v e))) (split_behind K R vs s)))
      (λ e. subst (λ t. Split (scope_behind (if is_known K v.name then K else (v.name ∷ K)) vs) (scope_behind R (tree_vars t ++ put_vars σ vs))) (sym (leaves v e))
      (subst (λ c. Split (scope_behind (if is_known K v.name then K else (v.name ∷ K)) vs) (scope_behind (if c then R else (v.name ∷ R)) (put_vars σ vs))) (s.stays v.name e)
      (split_behind (if is_known K v.name then K else (v.name ∷ K)) (if is_known K v.name then R else (v.name ∷ R)) vs (one_more (is_known K v.name) s))))
      (cases_Bool (is_known gone v.name))
    where
      one_more : (c : Bool) → Split K R → Split (if c then K else (v.name ∷ K)) (if c then R else (v.name ∷ R))
      one_more true h = h
      one_more false h = split_more K R v.name h

  -- and the names that a pattern binds are the same
  bound_same : (K R : List (List ℕ)) (vs : List Var) → Split K R → bound_in R (put_vars σ vs) ≡ bound_in K vs
  bound_same K R [] s = refl
  bound_same K R (v ∷ vs) s =
      ⊎_elim
      (λ e. ap (λ z. bound_in R (z ++ put_vars σ vs)) (no_vars (σ v) (grounds v e)) ∙ bound_same K R vs s
      ∙ sym (ap (λ c. (if c then [] else (v.name ∷ [])) ++ bound_in (if c then K else (v.name ∷ K)) vs) (s.gone_in v.name e)))
      (λ e. ap (λ t. bound_in R (tree_vars t ++ put_vars σ vs)) (leaves v e)
      ∙ ap (λ c. (if c then [] else (v.name ∷ [])) ++ bound_in (if c then R else (v.name ∷ R)) (put_vars σ vs)) (sym (s.stays v.name e))
      ∙ ap (λ z. (if is_known K v.name then [] else (v.name ∷ [])) ++ z)
      (bound_same (if is_known K v.name then K else (v.name ∷ K)) (if is_known K v.name then R else (v.name ∷ R)) vs (one_more (is_known K v.name) s)))
      (cases_Bool (is_known gone v.name))
    where
      one_more : (c : Bool) → Split K R → Split (if c then K else (v.name ∷ K)) (if c then R else (v.name ∷ R))
      one_more true h = h
      one_more false h = split_more K R v.name h

  args_put : (ts : List Tree) → trees_vars (trees_of (map (instance σ) ts)) ≡ put_vars σ (trees_vars (trees_of ts))
  args_put [] = refl
  args_put (t ∷ ts) = ap₂ (λ (xs ys : List Var). xs ++ ys) (vars_put σ t) (args_put ts) ∙ sym (put_append σ (tree_vars t) (trees_vars (trees_of ts)))

  two_put : (t u : Tree) → tree_vars (instance σ t) ++ tree_vars (instance σ u) ≡ put_vars σ (tree_vars t ++ tree_vars u)
  two_put t u = ap₂ (λ (xs ys : List Var). xs ++ ys) (vars_put σ t) (vars_put σ u) ∙ sym (put_append σ (tree_vars t) (tree_vars u))

  used_put : (a : Action) → used_vars (action_instance σ a) ≡ put_vars σ (used_vars a)
  used_put (new x) = refl
  used_put (out t) = vars_put σ t
  used_put (send t u) = two_put t u
  used_put (input t) = refl
  used_put (receive t u) = vars_put σ t
  used_put (event f) = args_put f.args
  used_put (insert t u) = two_put t u
  used_put (delete t) = vars_put σ t
  used_put (lock t n) = vars_put σ t
  used_put (unlock t n) = vars_put σ t
  used_put (embedded l e k) = refl

  -- what an action binds, but for `new`, whose name isn't replaced
  binding_put : (K : List (List ℕ)) (a : Action) → ((x : List ℕ) → is_known gone x ≡ true → is_known K x ≡ true) → BindsNew K a → binding_vars (action_instance σ a) ≡ put_vars σ (binding_vars a)
  binding_put K (new x) g n = sym (ap (λ t. tree_vars t ++ []) (leaves x (⊎_elim (λ e. clash (is_known K x.name) (g x.name e) n) (λ e. e) (cases_Bool (is_known gone x.name)))))
  binding_put K (out t) g n = refl
  binding_put K (send t u) g n = refl
  binding_put K (input t) g n = vars_put σ t
  binding_put K (receive t u) g n = vars_put σ u
  binding_put K (event f) g n = refl
  binding_put K (insert t u) g n = refl
  binding_put K (delete t) g n = refl
  binding_put K (lock t k) g n = refl
  binding_put K (unlock t k) g n = refl
  binding_put K (embedded l e k) g n =
      ap facts_vars (sym (facts_joined σ l (e ++ k) ∙ ap (λ z. instance_facts σ l ++ z) (facts_joined σ e k))) ∙ facts_put σ (l ++ (e ++ k))

  binds_new : (K R : List (List ℕ)) (a : Action) → Split K R → BindsNew K a → BindsNew R (action_instance σ a)
  binds_new K R (new x) s n = sym (s.stays x.name (⊎_elim (λ e. clash (is_known K x.name) (s.gone_in x.name e) n) (λ e. e) (cases_Bool (is_known gone x.name)))) ∙ n
  binds_new K R (out t) s n = tt
  binds_new K R (send t u) s n = tt
  binds_new K R (input t) s n = tt
  binds_new K R (receive t u) s n = tt
  binds_new K R (event f) s n = tt
  binds_new K R (insert t u) s n = tt
  binds_new K R (delete t) s n = tt
  binds_new K R (lock t k) s n = tt
  binds_new K R (unlock t k) s n = tt
  binds_new K R (embedded l e k) s n = tt

  not_gone : (K R : List (List ℕ)) (x : List ℕ) → Split K R → is_known K x ≡ false → is_known gone x ≡ false
  not_gone K R x s h = ⊎_elim (λ e. clash (is_known K x) (s.gone_in x e) h) (λ e. e) (cases_Bool (is_known gone x))

  over_tree : (K R : List (List ℕ)) (t : Tree) → Split K R → IsOverScope K (tree_vars t) → IsOverScope R (tree_vars (instance σ t))
  over_tree K R t s h = subst (IsOverScope R) (sym (vars_put σ t)) (over_rest K R (tree_vars t) s h)

  pub closed_rest : (K R : List (List ℕ)) (w : Written) → Split K R → IsClosed K w → IsClosed R (written_instance σ w)
  closed_rest K R nil s c = tt
  closed_rest K R (call f ts) s c = subst (IsOverScope R) (sym (args_put ts)) (over_rest K R (trees_vars (trees_of ts)) s c)
  closed_rest K R (parallel p q) s c = (closed_rest K R p s c.0, closed_rest K R q s c.1)
  closed_rest K R (replicated p) s c = closed_rest K R p s c
  closed_rest K R (act a p) s c = (
    subst (IsOverScope R) (sym (used_put a)) (over_rest K R (used_vars a) s c.0),
    (
      binds_new K R a s c.1.0,
      closed_rest (behind K a) (scope_behind R (binding_vars (action_instance σ a))) p
          (subst (λ z. Split (behind K a) (scope_behind R z)) (sym (binding_put K a s.gone_in c.1.0)) (split_behind K R (binding_vars a) s)) c.1.1,
    ),
  )
  closed_rest K R (test t u p q) s c = (over_tree K R t s c.0, (over_tree K R u s c.1.0, (closed_rest K R p s c.1.1.0, closed_rest K R q s c.1.1.1)))
  closed_rest K R (lookup t x p q) s c = (
    over_tree K R t s c.0,
    (
      sym (s.stays x.name (not_gone K R x.name s c.1.0)) ∙ c.1.0,
      (closed_rest (x.name ∷ K) (x.name ∷ R) p (split_more K R x.name s) c.1.1.0, closed_rest K R q s c.1.1.1),
    ),
  )

  pub binders_rest : (K R : List (List ℕ)) (w : Written) → Split K R → IsClosed K w → binders R (written_instance σ w) ≡ binders K w
  binders_rest K R nil s c = refl
  binders_rest K R (call f ts) s c = refl
  binders_rest K R (parallel p q) s c = ap₂ (λ (xs ys : List (List ℕ)). xs ++ ys) (binders_rest K R p s c.0) (binders_rest K R q s c.1)
  binders_rest K R (replicated p) s c = binders_rest K R p s c
  binders_rest K R (act a p) s c =
      let same = binding_put K a s.gone_in c.1.0 in
      ap (λ z. bound_in R z ++ binders (scope_behind R z) (written_instance σ p)) same
      ∙ ap₂ (λ (xs ys : List (List ℕ)). xs ++ ys) (bound_same K R (binding_vars a) s) (binders_rest (behind K a) (scope_behind R (put_vars σ (binding_vars a))) p (split_behind K R (binding_vars a) s) c.1.1)
  binders_rest K R (test t u p q) s c = ap₂ (λ (xs ys : List (List ℕ)). xs ++ ys) (binders_rest K R p s c.1.1.0) (binders_rest K R q s c.1.1.1)
  binders_rest K R (lookup t x p q) s c =
      ap (λ z. x.name ∷ z) (ap₂ (λ (xs ys : List (List ℕ)). xs ++ ys) (binders_rest (x.name ∷ K) (x.name ∷ R) p (split_more K R x.name s) c.1.1.0) (binders_rest K R q s c.1.1.1))
