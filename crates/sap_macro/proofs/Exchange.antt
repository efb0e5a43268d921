-- The expansion with sorts is the expansion of what is sorted, behind sorted definitions.
use Rattle.std.proofs.Common.{◌≡◌, ℕ, true, false, List, [], ◌∷◌, ◌++◌, inr, map, refl, sym, ap, ap₂, ◌∙◌, subst, ⊎_elim}
use Rattle.std.proofs.lemmas.Bool.{cases_Bool, false≢true}
use Rattle.std.specs.Prelude.{if◌then◌else◌}
use Rattle.sap_terms.specs.Choice.{Choice, instance}
use Rattle.sap_terms.specs.Modulo.{instance_facts}
use Rattle.sap_terms.specs.Tree.{Tree, variable, trees_of}
use Rattle.sap_terms.specs.declared.fact.Fact.{Fact}
use Rattle.sap_terms.specs.declared.var.Sort.TheVariants.{Msg}
use Rattle.sap_terms.specs.declared.var.Var.{Var}
use Rattle.sap_terms.specs.Variables.{is_known, tree_vars, trees_vars, facts_vars, new_vars}
use Rattle.sap_process.specs.Action.{Action, new, out, send, input, receive, event, insert, delete, lock, unlock, embedded}
use Rattle.sap_process.specs.Instance.{action_instance}
use Rattle.sap_process.specs.Proc as whole
use Rattle.sap_process.specs.Proc.{Proc}
use Rattle.sap_process.specs.Sites.{var_names, bound_by, message_var, fresh_var}
use Rattle.sap_process.specs.Sorted.{by_binder, binding_fresh, with_sorts}
use Rattle.sap_macro.specs.Expansion.{Meaning, binding, expanded}
use Rattle.sap_macro.specs.Instances.{IsOverScope, used_vars}
use Rattle.sap_macro.specs.UpToNames.{named, fact}
use Rattle.sap_macro.specs.Written.{Written, nil, call, parallel, replicated, act, test, lookup}
use Rattle.sap_macro.specs.WrittenRuns.{sorted}
use Rattle.sap_terms.proofs.PlainLaws.Known.{in_cases, in_head}
use Rattle.sap_macro.proofs.Scopes.{Among, in_left, in_right, append_cases, over_left, over_right}
use Rattle.sap_macro.proofs.Commuting.{IsSteady, taken_grows, facts_append}
use Rattle.sap_macro.proofs.Sorting.{renaming, put_vars, put_append, vars_put, names_append, append_none, Fit, OwnOrKnown, same_new, fit_behind, fit_more, new_own, AreLinkedSorts, linked_behind, agree, each_agrees, facts_agree}

-- ---- scopes

over_wider : (xs ys : List (List ℕ)) (vs : List Var) → IsOverScope xs vs → IsOverScope (xs ++ ys) vs
over_wider xs ys [] h = tt
over_wider xs ys (v ∷ vs) h = (in_left xs ys v.name h.0, over_wider xs ys vs h.1)

known_new : (scope : List (List ℕ)) (vs : List Var) (x : List ℕ) → is_known scope x ≡ true → is_known (scope ++ var_names (new_vars scope vs)) x ≡ true
known_new scope vs x h = in_left scope (var_names (new_vars scope vs)) x h

-- each name is in scope behind its pattern
pub over_new : (scope : List (List ℕ)) (vs : List Var) → IsOverScope (scope ++ var_names (new_vars scope vs)) vs
over_new scope [] = tt
over_new scope (v ∷ vs) =
    ⊎_elim
    (λ k. subst (λ c. IsOverScope (scope ++ var_names (if c then new_vars scope vs else v ∷ new_vars (scope ++ v.name ∷ []) vs)) (v ∷ vs)) (sym k)
    (in_left scope (var_names (new_vars scope vs)) v.name k, over_new scope vs))
    (λ k.
    let later = var_names (new_vars (scope ++ v.name ∷ []) vs) in
    subst (λ c. IsOverScope (scope ++ var_names (if c then new_vars scope vs else v ∷ new_vars (scope ++ v.name ∷ []) vs)) (v ∷ vs)) (sym k)
    (in_right scope (v.name ∷ later) v.name (in_head v.name later), subst (λ z. IsOverScope z vs) (turned scope v.name later) (over_new (scope ++ v.name ∷ []) vs)))
    (cases_Bool (is_known scope v.name))
  where
    turned : (xs : List (List ℕ)) (y : List ℕ) (zs : List (List ℕ)) → (xs ++ y ∷ []) ++ zs ≡ xs ++ (y ∷ zs)
    turned [] y zs = refl
    turned (x ∷ xs) y zs = ap (λ z. x ∷ z) (turned xs y zs)

pub facts_put : (r : Choice) (fs : List Fact) → facts_vars (instance_facts r fs) ≡ put_vars r (facts_vars fs)
facts_put r [] = refl
facts_put r (f ∷ fs) =
    ap₂ (λ (xs ys : List Var). xs ++ ys) (args_put f.args) (facts_put r fs) ∙ sym (put_append r (trees_vars (trees_of f.args)) (facts_vars fs))
  where
    args_put : (ts : List Tree) → trees_vars (trees_of (map (instance r) ts)) ≡ put_vars r (trees_vars (trees_of ts))
    args_put [] = refl
    args_put (t ∷ ts) = ap₂ (λ (xs ys : List Var). xs ++ ys) (vars_put r t) (args_put ts) ∙ sym (put_append r (tree_vars t) (trees_vars (trees_of ts)))

pub facts_joined : (r : Choice) (fs hs : List Fact) → instance_facts r (fs ++ hs) ≡ instance_facts r fs ++ instance_facts r hs
facts_joined r [] hs = refl
facts_joined r (f ∷ fs) hs = ap (λ z. fact f.name f.persistent (map (instance r) f.args) ∷ z) (facts_joined r fs hs)

-- ---- a text that can be sorted: what it uses is bound, and what it binds is its own and isn't bound above

pub record Exchange (m n : Meaning) : Type 0 where
  pub same : (f : List ℕ) (ts us : List Tree) (taken : List (List ℕ)) → (m f ts taken).taken ≡ (n f us taken).taken
  pub sorts : (f : List ℕ) (ts : List Tree) (taken : List (List ℕ)) (S : List Var) → IsOverScope (var_names S) (trees_vars (trees_of ts)) → Among (var_names S) taken
      → with_sorts S (m f ts taken).process ≡ (n f (map (instance (by_binder S)) ts) taken).process

module _ (r : Choice) (b : List ℕ → List ℕ) (B : List (List ℕ))
    (own : (v : Var) → is_known B v.name ≡ true → r v ≡ variable (named (b v.name) v.sort))
    (one : (x z : List ℕ) → is_known B x ≡ true → is_known B z ≡ true → b x ≡ b z → x ≡ z)
    (q : Choice) (own_too : (v : Var) → is_known B v.name ≡ true → q v ≡ variable (named (b v.name) v.sort)) where
  abbrev OwnBound : List Var → Action → Type 0
  OwnBound Z (new x) = (is_known (var_names Z) x.name ≡ false) × (is_known B x.name ≡ true)
  OwnBound Z (out t) = Unit {0}
  OwnBound Z (send t u) = Unit {0}
  OwnBound Z (input t) = OwnOrKnown r b B own one (var_names Z) (tree_vars t)
  OwnBound Z (receive t u) = OwnOrKnown r b B own one (var_names Z) (tree_vars u)
  OwnBound Z (event f) = Unit {0}
  OwnBound Z (insert t u) = Unit {0}
  OwnBound Z (delete t) = Unit {0}
  OwnBound Z (lock t k) = Unit {0}
  OwnBound Z (unlock t k) = Unit {0}
  OwnBound Z (embedded l e k) = OwnOrKnown r b B own one (var_names Z) (facts_vars (l ++ (e ++ k)))

  abbrev pub IsSortable : List Var → Written → Type 0
  IsSortable Z nil = Unit {0}
  IsSortable Z (call f ts) = IsOverScope (var_names Z) (trees_vars (trees_of ts))
  IsSortable Z (parallel p u) = IsSortable Z p × IsSortable Z u
  IsSortable Z (replicated p) = IsSortable Z p
  IsSortable Z (act a p) = IsOverScope (var_names Z) (used_vars a) × (OwnBound Z a × IsSortable (Z ++ bound_by Z a) p)
  IsSortable Z (test t u p k) = IsOverScope (var_names Z) (tree_vars t) × (IsOverScope (var_names Z) (tree_vars u) × (IsSortable Z p × IsSortable Z k))
  IsSortable Z (lookup t x p u) =
      IsOverScope (var_names Z) (tree_vars t) × ((is_known (var_names Z) x.name ≡ false) × ((is_known B x.name ≡ true) × (IsSortable (Z ++ message_var x ∷ []) p × IsSortable Z u)))

  abbrev Fits : List Var → List Var → Type 0
  Fits S Z = Fit r b B own one (var_names Z) (var_names S)

  abbrev Linked : List Var → List Var → Type 0
  Linked S Z = AreLinkedSorts r b B own one q own_too S Z

  fits_behind : (S Z vs : List Var) → OwnOrKnown r b B own one (var_names Z) vs → Fits S Z → Fits (S ++ map (renaming b) (new_vars (var_names Z) vs)) (Z ++ new_vars (var_names Z) vs)
  fits_behind S Z vs o f =
      subst (λ z. Fit r b B own one z (var_names (S ++ map (renaming b) (new_vars (var_names Z) vs)))) (sym (names_append Z (new_vars (var_names Z) vs)))
      (subst (λ z. Fit r b B own one (var_names Z ++ var_names (new_vars (var_names Z) vs)) z) (sym (names_append S (map (renaming b) (new_vars (var_names Z) vs))))
      (fit_behind r b B own one (var_names Z) (var_names S) vs o f))

  fits_one : (S Z : List Var) (x : Var) → is_known B x.name ≡ true → is_known (var_names Z) x.name ≡ false → Fits S Z → Fits (S ++ renaming b x ∷ []) (Z ++ x ∷ [])
  fits_one S Z x i k f =
      subst (λ z. Fit r b B own one z (var_names (S ++ renaming b x ∷ []))) (sym (names_append Z (x ∷ [])))
      (subst (λ z. Fit r b B own one (var_names Z ++ x.name ∷ []) z) (sym (names_append S (renaming b x ∷ []))) (fit_more r b B own one (var_names Z) (var_names S) x.name i k f))

  fits_same : (S Z : List Var) → Fits S Z → Fits (S ++ []) (Z ++ [])
  fits_same S Z f = subst (λ z. Fits z (Z ++ [])) (sym (append_none S)) (subst (λ z. Fits S z) (sym (append_none Z)) f)

  -- what is bound on the one side is the renamed of what is bound on the other
  bound_same : (S Z : List Var) (a : Action) → Fits S Z → OwnBound Z a → bound_by S (binding b (action_instance r a)) ≡ map (renaming b) (bound_by Z a)
  bound_same S Z (new x) f o = refl
  bound_same S Z (out t) f o = refl
  bound_same S Z (send t u) f o = refl
  bound_same S Z (input t) f o = ap (new_vars (var_names S)) (vars_put r t) ∙ same_new r b B own one (var_names Z) (var_names S) (tree_vars t) o f
  bound_same S Z (receive t u) f o = ap (new_vars (var_names S)) (vars_put r u) ∙ same_new r b B own one (var_names Z) (var_names S) (tree_vars u) o f
  bound_same S Z (event h) f o = refl
  bound_same S Z (insert t u) f o = refl
  bound_same S Z (delete t) f o = refl
  bound_same S Z (lock t k) f o = refl
  bound_same S Z (unlock t k) f o = refl
  bound_same S Z (embedded l e k) f o =
      ap (λ z. new_vars (var_names S) (facts_vars z)) (sym (facts_joined r l (e ++ k) ∙ ap (λ z. instance_facts r l ++ z) (facts_joined r e k)))
      ∙ ap (new_vars (var_names S)) (facts_put r (l ++ (e ++ k))) ∙ same_new r b B own one (var_names Z) (var_names S) (facts_vars (l ++ (e ++ k))) o f

  fits_bound : (S Z : List Var) (a : Action) → Fits S Z → OwnBound Z a → Fits (S ++ map (renaming b) (bound_by Z a)) (Z ++ bound_by Z a)
  fits_bound S Z (new x) f o = fits_one S Z (fresh_var x) o.1 o.0 f
  fits_bound S Z (out t) f o = fits_same S Z f
  fits_bound S Z (send t u) f o = fits_same S Z f
  fits_bound S Z (input t) f o = fits_behind S Z (tree_vars t) o f
  fits_bound S Z (receive t u) f o = fits_behind S Z (tree_vars u) o f
  fits_bound S Z (event h) f o = fits_same S Z f
  fits_bound S Z (insert t u) f o = fits_same S Z f
  fits_bound S Z (delete t) f o = fits_same S Z f
  fits_bound S Z (lock t k) f o = fits_same S Z f
  fits_bound S Z (unlock t k) f o = fits_same S Z f
  fits_bound S Z (embedded l e k) f o = fits_behind S Z (facts_vars (l ++ (e ++ k))) o f

  own_bound : (Z : List Var) (a : Action) → OwnBound Z a → OwnOrKnown r b B own one [] (bound_by Z a)
  own_bound Z (new x) o = (inr o.1, tt)
  own_bound Z (out t) o = tt
  own_bound Z (send t u) o = tt
  own_bound Z (input t) o = new_own r b B own one (var_names Z) (tree_vars t) o
  own_bound Z (receive t u) o = new_own r b B own one (var_names Z) (tree_vars u) o
  own_bound Z (event h) o = tt
  own_bound Z (insert t u) o = tt
  own_bound Z (delete t) o = tt
  own_bound Z (lock t k) o = tt
  own_bound Z (unlock t k) o = tt
  own_bound Z (embedded l e k) o = new_own r b B own one (var_names Z) (facts_vars (l ++ (e ++ k))) o

  module _ (S Z : List Var) (a_link : Linked S Z) where
    abbrev one_term : (t : Tree) → IsOverScope (var_names Z) (tree_vars t) → instance (by_binder S) (instance r t) ≡ instance q (instance (by_binder Z) t)
    one_term t o = agree r b B own one q own_too S Z a_link t o

  -- the action with sorts
  action_same : (S Z : List Var) (a : Action) → OwnBound Z a → IsOverScope (var_names Z) (used_vars a) → Linked (S ++ map (renaming b) (bound_by Z a)) (Z ++ bound_by Z a)
      → binding_fresh (action_instance (by_binder (S ++ map (renaming b) (bound_by Z a))) (binding b (action_instance r a)))
      ≡ binding b (action_instance q (binding_fresh (action_instance (by_binder (Z ++ bound_by Z a)) a)))
  action_same S Z (new x) w o l = refl
  action_same S Z (out t) w o l = ap out (one_term (S ++ []) (Z ++ []) l t (used Z [] (tree_vars t) o))
    where
      used : (Z ws vs : List Var) → IsOverScope (var_names Z) vs → IsOverScope (var_names (Z ++ ws)) vs
      used Z ws vs h = subst (λ z. IsOverScope z vs) (sym (names_append Z ws)) (over_wider (var_names Z) (var_names ws) vs h)
  action_same S Z (send t u) w o l =
      let o' = subst (λ z. IsOverScope (var_names z) (tree_vars t ++ tree_vars u)) (sym (append_none Z)) o in
      ap₂ send (one_term (S ++ []) (Z ++ []) l t (over_left (var_names (Z ++ [])) (tree_vars t) (tree_vars u) o')) (one_term (S ++ []) (Z ++ []) l u (over_right (var_names (Z ++ [])) (tree_vars t) (tree_vars u) o'))
  action_same S Z (input t) w o l =
      let ns = new_vars (var_names Z) (tree_vars t) in
      ap input (one_term (S ++ map (renaming b) ns) (Z ++ ns) l t (subst (λ z. IsOverScope z (tree_vars t)) (sym (names_append Z ns)) (over_new (var_names Z) (tree_vars t))))
  action_same S Z (receive t u) w o l =
      let ns = new_vars (var_names Z) (tree_vars u) in
      ap₂ receive (one_term (S ++ map (renaming b) ns) (Z ++ ns) l t (subst (λ z. IsOverScope z (tree_vars t)) (sym (names_append Z ns)) (over_wider (var_names Z) (var_names ns) (tree_vars t) o)))
      (one_term (S ++ map (renaming b) ns) (Z ++ ns) l u (subst (λ z. IsOverScope z (tree_vars u)) (sym (names_append Z ns)) (over_new (var_names Z) (tree_vars u))))
  action_same S Z (event h) w o l =
      let o' = subst (λ z. IsOverScope (var_names z) (trees_vars (trees_of h.args))) (sym (append_none Z)) o in
      ap (λ ts. event (fact h.name h.persistent ts)) (each_agrees r b B own one q own_too (S ++ []) (Z ++ []) l h.args o')
  action_same S Z (insert t u) w o l =
      let o' = subst (λ z. IsOverScope (var_names z) (tree_vars t ++ tree_vars u)) (sym (append_none Z)) o in
      ap₂ insert (one_term (S ++ []) (Z ++ []) l t (over_left (var_names (Z ++ [])) (tree_vars t) (tree_vars u) o')) (one_term (S ++ []) (Z ++ []) l u (over_right (var_names (Z ++ [])) (tree_vars t) (tree_vars u) o'))
  action_same S Z (delete t) w o l =
      ap delete (one_term (S ++ []) (Z ++ []) l t (subst (λ z. IsOverScope (var_names z) (tree_vars t)) (sym (append_none Z)) o))
  action_same S Z (lock t k) w o l =
      ap (λ z. lock z k) (one_term (S ++ []) (Z ++ []) l t (subst (λ z. IsOverScope (var_names z) (tree_vars t)) (sym (append_none Z)) o))
  action_same S Z (unlock t k) w o l =
      ap (λ z. unlock z k) (one_term (S ++ []) (Z ++ []) l t (subst (λ z. IsOverScope (var_names z) (tree_vars t)) (sym (append_none Z)) o))
  action_same S Z (embedded h e k) w o l =
      let ns = new_vars (var_names Z) (facts_vars (h ++ (e ++ k))) in
      let wide = Z ++ ns in
      let every = subst (λ z. IsOverScope z (facts_vars (h ++ (e ++ k)))) (sym (names_append Z ns)) (over_new (var_names Z) (facts_vars (h ++ (e ++ k)))) in
      let both = subst (IsOverScope (var_names wide)) (facts_append h (e ++ k)) every in
      let right = subst (IsOverScope (var_names wide)) (facts_append e k) (over_right (var_names wide) (facts_vars h) (facts_vars (e ++ k)) both) in
      let first = facts_agree r b B own one q own_too (S ++ map (renaming b) ns) wide l h (over_left (var_names wide) (facts_vars h) (facts_vars (e ++ k)) both) in
      let second = facts_agree r b B own one q own_too (S ++ map (renaming b) ns) wide l e (over_left (var_names wide) (facts_vars e) (facts_vars k) right) in
      let third = facts_agree r b B own one q own_too (S ++ map (renaming b) ns) wide l k (over_right (var_names wide) (facts_vars e) (facts_vars k) right) in
      λ i. embedded (first i) (second i) (third i)

  -- ---- the whole text

  more_taken : (S ns : List Var) (taken : List (List ℕ)) → Among (var_names S) taken → OwnOrKnown r b B own one [] ns → ((x : List ℕ) → is_known B x ≡ true → is_known taken (b x) ≡ true)
      → Among (var_names (S ++ map (renaming b) ns)) taken
  more_taken S ns taken s o own_taken x k =
      ⊎_elim (λ l. s x l) (λ l. each ns o l) (append_cases (var_names S) (var_names (map (renaming b) ns)) x (subst (λ z. is_known z x ≡ true) (names_append S (map (renaming b) ns)) k))
    where
      each : (ms : List Var) → OwnOrKnown r b B own one [] ms → is_known (var_names (map (renaming b) ms)) x ≡ true → is_known taken x ≡ true
      each [] h l = absurd (false≢true l)
      each (m ∷ ms) h l =
          ⊎_elim (λ e. subst (λ z. is_known taken z ≡ true) e (own_taken m.name (⊎_elim (λ z. absurd (false≢true z)) (λ z. z) h.0))) (λ i. each ms h.1 i)
          (in_cases x (b m.name) (var_names (map (renaming b) ms)) l)

  -- what is put is over the other scope
  over_put : (S Z : List Var) → Fits S Z → (vs : List Var) → IsOverScope (var_names Z) vs → IsOverScope (var_names S) (put_vars r vs)
  over_put S Z f [] o = tt
  over_put S Z f (v ∷ vs) o = over_both (tree_vars (r v)) (put_vars r vs) (f.over v o.0) (over_put S Z f vs o.1)
    where
      over_both : (xs ys : List Var) → IsOverScope (var_names S) xs → IsOverScope (var_names S) ys → IsOverScope (var_names S) (xs ++ ys)
      over_both [] ys h k = k
      over_both (x ∷ xs) ys h k = (h.0, over_both xs ys h.1 k)

  args_vars : (ts : List Tree) → trees_vars (trees_of (map (instance r) ts)) ≡ put_vars r (trees_vars (trees_of ts))
  args_vars [] = refl
  args_vars (t ∷ ts) = ap₂ (λ (xs ys : List Var). xs ++ ys) (vars_put r t) (args_vars ts) ∙ sym (put_append r (tree_vars t) (trees_vars (trees_of ts)))

  module _ (m n : Meaning) (steady : IsSteady m) (ex : Exchange m n) where
    pub same_taken : (Z : List Var) (w : Written) (taken : List (List ℕ)) → (expanded m r b w taken).taken ≡ (expanded n q b (sorted Z w) taken).taken
    same_taken Z nil taken = refl
    same_taken Z (call f ts) taken = ex.same f (map (instance r) ts) (map (instance q) (map (instance (by_binder Z)) ts)) taken
    same_taken Z (parallel p u) taken =
        same_taken Z u (expanded m r b p taken).taken ∙ ap (λ t. (expanded n q b (sorted Z u) t).taken) (same_taken Z p taken)
    same_taken Z (replicated p) taken = same_taken Z p taken
    same_taken Z (act a p) taken = same_taken (Z ++ bound_by Z a) p taken
    same_taken Z (test t v p u) taken =
        same_taken Z u (expanded m r b p taken).taken ∙ ap (λ z. (expanded n q b (sorted Z u) z).taken) (same_taken Z p taken)
    same_taken Z (lookup t x p u) taken =
        same_taken Z u (expanded m r b p taken).taken ∙ ap (λ z. (expanded n q b (sorted Z u) z).taken) (same_taken (Z ++ message_var x ∷ []) p taken)

    pub exchanged : (S Z : List Var) (w : Written) (taken : List (List ℕ)) → IsSortable Z w → Linked S Z → Fits S Z → Among (var_names S) taken
        → ((x : List ℕ) → is_known B x ≡ true → is_known taken (b x) ≡ true)
        → with_sorts S (expanded m r b w taken).process ≡ (expanded n q b (sorted Z w) taken).process
    exchanged S Z nil taken o l f s k = refl
    exchanged S Z (call g ts) taken o l f s k =
        ex.sorts g (map (instance r) ts) taken S (subst (IsOverScope (var_names S)) (sym (args_vars ts)) (over_put S Z f (trees_vars (trees_of ts)) o)) s
        ∙ ap (λ us. (n g us taken).process) (each_agrees r b B own one q own_too S Z l ts o)
    exchanged S Z (parallel p u) taken o l f s k =
        let wide = taken_grows m steady r b p taken in
        ap₂ whole.parallel (exchanged S Z p taken o.0 l f s k)
        (exchanged S Z u (expanded m r b p taken).taken o.1 l f (λ x h. wide x (s x h)) (λ x h. wide (b x) (k x h))
        ∙ ap (λ t. (expanded n q b (sorted Z u) t).process) (same_taken Z p taken))
    exchanged S Z (replicated p) taken o l f s k = ap whole.replicated (exchanged S Z p taken o l f s k)
    exchanged S Z (act a p) taken o l f s k =
        let ns = bound_by Z a in
        let S' = S ++ map (renaming b) ns in
        let l' = linked_behind r b B own one q own_too S Z ns l f (own_bound Z a o.1.0) in
        let rest = exchanged S' (Z ++ ns) p taken o.1.1 l' (fits_bound S Z a f o.1.0) (more_taken S ns taken s (own_bound Z a o.1.0) k) k in
        ap (λ vs. whole.act (binding_fresh (action_instance (by_binder (S ++ vs)) (binding b (action_instance r a)))) (with_sorts (S ++ vs) (expanded m r b p taken).process)) (bound_same S Z a f o.1.0)
        ∙ ap₂ whole.act (action_same S Z a o.1.0 o.0 l') rest
    exchanged S Z (test t v p u) taken o l f s k =
        let wide = taken_grows m steady r b p taken in
        let first = agree r b B own one q own_too S Z l t o.0 in
        let second = agree r b B own one q own_too S Z l v o.1.0 in
        let left = exchanged S Z p taken o.1.1.0 l f s k in
        let right = exchanged S Z u (expanded m r b p taken).taken o.1.1.1 l f (λ x h. wide x (s x h)) (λ x h. wide (b x) (k x h))
        ∙ ap (λ z. (expanded n q b (sorted Z u) z).process) (same_taken Z p taken) in
        λ i. whole.test (first i) (second i) (left i) (right i)
    exchanged S Z (lookup t x p u) taken o l f s k =
        let wide = taken_grows m steady r b p taken in
        let mine = o.1.1.0 in
        let ns = message_var x ∷ [] in
        let first = agree r b B own one q own_too S Z l t o.0 in
        let l' = linked_behind r b B own one q own_too S Z ns l f (inr mine, tt) in
        let left = exchanged (S ++ map (renaming b) ns) (Z ++ ns) p taken o.1.1.1.0 l' (fits_one S Z (message_var x) mine o.1.0 f) (more_taken S ns taken s (inr mine, tt) k) k in
        let right = exchanged S Z u (expanded m r b p taken).taken o.1.1.1.1 l f (λ y h. wide y (s y h)) (λ y h. wide (b y) (k y h))
        ∙ ap (λ z. (expanded n q b (sorted Z u) z).process) (same_taken (Z ++ ns) p taken) in
        λ i. whole.lookup (first i) (named (b x.name) Msg) (left i) (right i)
