-- An instance of an expansion is the expansion with instances of the arguments.
use Rattle.std.proofs.Common.{◌≡◌, ℕ, true, false, List, [], ◌∷◌, ◌++◌, map, refl, sym, ap, ap₂, ◌∙◌, subst, ⊎_elim}
use Rattle.std.proofs.Math.Path.{fun_ext}
use Rattle.std.proofs.lemmas.Bool.{cases_Bool}
use Rattle.std.proofs.lemmas.List.{append_assoc}
use Rattle.std.specs.Prelude.{if◌then◌else◌}
use Rattle.std.specs.Str.{bytes_eq}
use Rattle.sap_terms.specs.Choice.{Choice, instance, instances}
use Rattle.sap_terms.specs.Modulo.{instance_facts}
use Rattle.sap_terms.specs.Tree.{Tree, variable, public, fresh, apply, Trees, none, more, trees_of}
use Rattle.sap_terms.specs.Variables.{is_known, tree_vars, trees_vars, facts_vars}
use Rattle.sap_terms.specs.declared.fact.Fact.{Fact}
use Rattle.sap_terms.specs.declared.var.Sort.{Sort}
use Rattle.sap_terms.specs.declared.var.Var.{Var}
use Rattle.sap_process.specs.Action.{Action, new, out, send, input, receive, event, insert, delete, lock, unlock, embedded}
use Rattle.sap_process.specs.Instance as inst
use Rattle.sap_process.specs.Instance.{action_instance, without, process_instance}
use Rattle.sap_process.specs.Proc as whole
use Rattle.sap_process.specs.Proc.{Proc}
use Rattle.sap_macro.specs.Expansion.{scope_behind, bound_in, bound_by, behind, binding_vars, binders, Meaning, binding, expanded}
use Rattle.sap_macro.specs.Instances.{IsOverScope, used_vars, BindsNew, IsClosed, Keeps}
use Rattle.sap_macro.specs.UpToNames.{named, fact}
use Rattle.sap_macro.specs.Written.{Written, nil, call, parallel, replicated, act, test, lookup}
use Rattle.sap_terms.proofs.PlainLaws.Known.{one_name, clash, in_head, in_tail, in_cases}
use Rattle.sap_macro.proofs.Scopes.{Among, in_left, in_right, behind_cases, over_more, over_behind, over_left, over_right, new_one}

-- a choice that leaves a name is the choice without it
without_kept : (σ : Choice) (y : List ℕ) (t : Sort) → ((s : Sort) → σ (named y s) ≡ variable (named y s)) → without σ (named y t) ≡ σ
without_kept σ y t h =
    fun_ext (λ v. ⊎_elim (λ e. ap (λ b. if b then variable v else σ v) e ∙ sym (ap (λ z. σ (named z v.sort)) (sym (one_name y v.name e)) ∙ h v.sort ∙ ap (λ z. variable (named z v.sort)) (one_name y v.name e)))
    (λ e. ap (λ b. if b then variable v else σ v) e) (cases_Bool (bytes_eq y v.name)))

-- what is taken behind an expansion depends on what is expanded alone, and grows
pub record IsSteady (m : Meaning) : Type 0 where
  pub same : (f : List ℕ) (ts us : List Tree) (taken : List (List ℕ)) → (m f ts taken).taken ≡ (m f us taken).taken
  pub grows : (f : List ℕ) (ts : List Tree) (taken : List (List ℕ)) (x : List ℕ) → is_known taken x ≡ true → is_known (m f ts taken).taken x ≡ true

module _ (m : Meaning) (steady : IsSteady m) where
  pub same_taken : (r q : Choice) (b c : List ℕ → List ℕ) (p : Written) (taken : List (List ℕ)) → (expanded m r b p taken).taken ≡ (expanded m q c p taken).taken
  same_taken r q b c nil taken = refl
  same_taken r q b c (call f ts) taken = steady.same f (map (instance r) ts) (map (instance q) ts) taken
  same_taken r q b c (parallel p u) taken =
      ap (λ t. (expanded m r b u t).taken) (same_taken r q b c p taken) ∙ same_taken r q b c u (expanded m q c p taken).taken
  same_taken r q b c (replicated p) taken = same_taken r q b c p taken
  same_taken r q b c (act a p) taken = same_taken r q b c p taken
  same_taken r q b c (test v w p u) taken =
      ap (λ t. (expanded m r b u t).taken) (same_taken r q b c p taken) ∙ same_taken r q b c u (expanded m q c p taken).taken
  same_taken r q b c (lookup v x p u) taken =
      ap (λ t. (expanded m r b u t).taken) (same_taken r q b c p taken) ∙ same_taken r q b c u (expanded m q c p taken).taken

  pub taken_grows : (r : Choice) (b : List ℕ → List ℕ) (p : Written) (taken : List (List ℕ)) → Among taken (expanded m r b p taken).taken
  taken_grows r b nil taken x h = h
  taken_grows r b (call f ts) taken x h = steady.grows f (map (instance r) ts) taken x h
  taken_grows r b (parallel p u) taken x h = taken_grows r b u (expanded m r b p taken).taken x (taken_grows r b p taken x h)
  taken_grows r b (replicated p) taken x h = taken_grows r b p taken x h
  taken_grows r b (act a p) taken x h = taken_grows r b p taken x h
  taken_grows r b (test v w p u) taken x h = taken_grows r b u (expanded m r b p taken).taken x (taken_grows r b p taken x h)
  taken_grows r b (lookup v y p u) taken x h = taken_grows r b u (expanded m r b p taken).taken x (taken_grows r b p taken x h)

-- more may be taken
pub keeps_more : (σ : Choice) (taken wide : List (List ℕ)) → Keeps σ taken → Among taken wide → Keeps σ wide
keeps_more σ taken wide k h =
    record { keeps = λ x s none. k.keeps x s (⊎_elim (λ e. clash (is_known wide x) (h x e) none) (λ e. e) (cases_Bool (is_known taken x))) }

pub record Commutes (m : Meaning) : Type 0 where
  pub commutes : (f : List ℕ) (ts : List Tree) (taken : List (List ℕ)) (σ : Choice) → Keeps σ taken
      → process_instance σ (m f ts taken).process ≡ (m f (map (instance σ) ts) taken).process

-- the second choice is the first under σ, on these names
abbrev pub IsUnder : Choice → List (List ℕ) → Choice → Choice → Type 0
IsUnder σ scope r q = (v : Var) → is_known scope v.name ≡ true → instance σ (r v) ≡ q v

module _ (σ r q : Choice) (scope : List (List ℕ)) (h : IsUnder σ scope r q) where
  mutual
    under : (t : Tree) → IsOverScope scope (tree_vars t) → instance σ (instance r t) ≡ instance q t
    under (variable v) o = h v o.0
    under (public n) o = refl
    under (fresh k) o = refl
    under (apply f ts) o = ap (apply f) (under_all ts o)

    under_all : (ts : Trees) → IsOverScope scope (trees_vars ts) → instances σ (instances r ts) ≡ instances q ts
    under_all none o = refl
    under_all (more t ts) o =
        let first = under t (over_left scope (tree_vars t) (trees_vars ts) o) in
        let later = under_all ts (over_right scope (tree_vars t) (trees_vars ts) o) in
        λ i. more (first i) (later i)

  under_each : (ts : List Tree) → IsOverScope scope (trees_vars (trees_of ts)) → map (instance σ) (map (instance r) ts) ≡ map (instance q) ts
  under_each [] o = refl
  under_each (t ∷ ts) o =
      let first = under t (over_left scope (tree_vars t) (trees_vars (trees_of ts)) o) in
      let later = under_each ts (over_right scope (tree_vars t) (trees_vars (trees_of ts)) o) in
      λ i. first i ∷ later i

  under_facts : (fs : List Fact) → IsOverScope scope (facts_vars fs) → instance_facts σ (instance_facts r fs) ≡ instance_facts q fs
  under_facts [] o = refl
  under_facts (f ∷ fs) o =
      let first = under_each f.args (over_left scope (trees_vars (trees_of f.args)) (facts_vars fs) o) in
      let later = under_facts fs (over_right scope (trees_vars (trees_of f.args)) (facts_vars fs) o) in
      λ i. fact f.name f.persistent (first i) ∷ later i

pub facts_append : (fs hs : List Fact) → facts_vars (fs ++ hs) ≡ facts_vars fs ++ facts_vars hs
facts_append [] hs = refl
facts_append (f ∷ fs) hs = ap (λ vs. trees_vars (trees_of f.args) ++ vs) (facts_append fs hs) ∙ sym (append_assoc (trees_vars (trees_of f.args)) (facts_vars fs) (facts_vars hs))

under_action : (σ r q : Choice) (b : List ℕ → List ℕ) (scope : List (List ℕ)) (a : Action) → IsUnder σ (behind scope a) r q → IsOverScope (behind scope a) (used_vars a)
    → action_instance σ (binding b (action_instance r a)) ≡ binding b (action_instance q a)
under_action σ r q b scope (new x) h o = refl
under_action σ r q b scope (out t) h o = ap out (under σ r q scope h t o)
under_action σ r q b scope (send t u) h o =
    ap₂ send (under σ r q scope h t (over_left scope (tree_vars t) (tree_vars u) o)) (under σ r q scope h u (over_right scope (tree_vars t) (tree_vars u) o))
under_action σ r q b scope (input t) h o = let wide = scope_behind scope (tree_vars t) in ap input (under σ r q wide h t (over_behind scope (tree_vars t)))
under_action σ r q b scope (receive t u) h o =
    let wide = scope_behind scope (tree_vars u) in ap₂ receive (under σ r q wide h t o) (under σ r q wide h u (over_behind scope (tree_vars u)))
under_action σ r q b scope (event f) h o = ap (λ ts. event (fact f.name f.persistent ts)) (under_each σ r q scope h f.args o)
under_action σ r q b scope (insert t u) h o =
    ap₂ insert (under σ r q scope h t (over_left scope (tree_vars t) (tree_vars u) o)) (under σ r q scope h u (over_right scope (tree_vars t) (tree_vars u) o))
under_action σ r q b scope (delete t) h o = ap delete (under σ r q scope h t o)
under_action σ r q b scope (lock t n) h o = ap (λ z. lock z n) (under σ r q scope h t o)
under_action σ r q b scope (unlock t n) h o = ap (λ z. unlock z n) (under σ r q scope h t o)
under_action σ r q b scope (embedded l e k) h o =
    let wide = scope_behind scope (facts_vars (l ++ (e ++ k))) in
    let all = subst (IsOverScope wide) (facts_append l (e ++ k)) (over_behind scope (facts_vars (l ++ (e ++ k)))) in
    let right = subst (IsOverScope wide) (facts_append e k) (over_right wide (facts_vars l) (facts_vars (e ++ k)) all) in
    let first = under_facts σ r q wide h l (over_left wide (facts_vars l) (facts_vars (e ++ k)) all) in
    let second = under_facts σ r q wide h e (over_left wide (facts_vars e) (facts_vars k) right) in
    let third = under_facts σ r q wide h k (over_right wide (facts_vars e) (facts_vars k) right) in
    λ i. embedded (first i) (second i) (third i)

-- `new` binds its own name
pub own_new : (scope : List (List ℕ)) (x : Var) → is_known scope x.name ≡ false → is_known (bound_in scope (x ∷ [])) x.name ≡ true
own_new scope x h = ap (λ b. is_known (new_one b x.name ++ bound_in (if b then scope else (x.name ∷ scope)) []) x.name) h ∙ in_head x.name []

module _ (m : Meaning) (steady : IsSteady m) (commuting : Commutes m) (σ r q : Choice) (b : List ℕ → List ℕ) (B : List (List ℕ))
    (under_own : (v : Var) → is_known B v.name ≡ true → instance σ (r v) ≡ q v)
    (keeps : (x : List ℕ) (s : Sort) → is_known B x ≡ true → σ (named (b x) s) ≡ variable (named (b x) s)) where
  one_more : (scope : List (List ℕ)) (x : List ℕ) → IsUnder σ scope r q → is_known B x ≡ true → IsUnder σ (x ∷ scope) r q
  one_more scope x h i v k =
      ⊎_elim (λ e. under_own v (subst (λ z. is_known B z ≡ true) e i)) (λ l. h v l) (in_cases v.name x scope k)

  more_behind : (scope : List (List ℕ)) (vs : List Var) → IsUnder σ scope r q → Among (bound_in scope vs) B → IsUnder σ (scope_behind scope vs) r q
  more_behind scope vs h i v k = ⊎_elim (λ l. h v l) (λ l. under_own v (i v.name l)) (behind_cases scope vs v.name k)

  behind_same : (scope : List (List ℕ)) (a : Action) → BindsNew scope a → Among (bound_by scope a) B → inst.behind σ (binding b (action_instance r a)) ≡ σ
  behind_same scope (new x) n i = without_kept σ (b x.name) x.sort (λ s. keeps x.name s (i x.name (own_new scope x n)))
  behind_same scope (out t) n i = refl
  behind_same scope (send t u) n i = refl
  behind_same scope (input t) n i = refl
  behind_same scope (receive t u) n i = refl
  behind_same scope (event f) n i = refl
  behind_same scope (insert t u) n i = refl
  behind_same scope (delete t) n i = refl
  behind_same scope (lock t k) n i = refl
  behind_same scope (unlock t k) n i = refl
  behind_same scope (embedded l e k) n i = refl

  -- the same at what is taken with the other choice
  later : (p u : Written) (taken : List (List ℕ)) → (expanded m q b u (expanded m r b p taken).taken).process ≡ (expanded m q b u (expanded m q b p taken).taken).process
  later p u taken = ap (λ t. (expanded m q b u t).process) (same_taken m steady r q b b p taken)

  behind_first : (p : Written) (taken : List (List ℕ)) → Keeps σ taken → Keeps σ (expanded m r b p taken).taken
  behind_first p taken k = keeps_more σ taken (expanded m r b p taken).taken k (taken_grows m steady r b p taken)

  pub commuted : (scope : List (List ℕ)) (p : Written) (taken : List (List ℕ)) → IsClosed scope p → Among (binders scope p) B → IsUnder σ scope r q → Keeps σ taken
      → process_instance σ (expanded m r b p taken).process ≡ (expanded m q b p taken).process
  commuted scope nil taken c i h k = refl
  commuted scope (call f ts) taken c i h k =
      commuting.commutes f (map (instance r) ts) taken σ k ∙ ap (λ us. (m f us taken).process) (under_each σ r q scope h ts c)
  commuted scope (parallel p u) taken c i h k =
      ap₂ whole.parallel (commuted scope p taken c.0 (λ x j. i x (in_left (binders scope p) (binders scope u) x j)) h k)
      (commuted scope u (expanded m r b p taken).taken c.1 (λ x j. i x (in_right (binders scope p) (binders scope u) x j)) h (behind_first p taken k) ∙ later p u taken)
  commuted scope (replicated p) taken c i h k = ap whole.replicated (commuted scope p taken c i h k)
  commuted scope (act a p) taken c i h k =
      let own = λ (x : List ℕ) (j : is_known (bound_by scope a) x ≡ true). i x (in_left (bound_by scope a) (binders (behind scope a) p) x j) in
      let wide = more_behind scope (binding_vars a) h own in
      ap₂ whole.act (under_action σ r q b scope a wide (over_more scope (binding_vars a) (used_vars a) c.0))
      (ap (λ z. process_instance z (expanded m r b p taken).process) (behind_same scope a c.1.0 own)
      ∙ commuted (behind scope a) p taken c.1.1 (λ x j. i x (in_right (bound_by scope a) (binders (behind scope a) p) x j)) wide k)
  commuted scope (test v w p u) taken c i h k =
      let first = under σ r q scope h v c.0 in
      let second = under σ r q scope h w c.1.0 in
      let left = commuted scope p taken c.1.1.0 (λ x j. i x (in_left (binders scope p) (binders scope u) x j)) h k in
      let right = commuted scope u (expanded m r b p taken).taken c.1.1.1 (λ x j. i x (in_right (binders scope p) (binders scope u) x j)) h (behind_first p taken k) ∙ later p u taken in
      λ z. whole.test (first z) (second z) (left z) (right z)
  commuted scope (lookup v x p u) taken c i h k =
      let rest = binders (x.name ∷ scope) p ++ binders scope u in
      let own = i x.name (in_head x.name rest) in
      let first = under σ r q scope h v c.0 in
      let left = ap (λ z. process_instance z (expanded m r b p taken).process) (without_kept σ (b x.name) x.sort (λ s. keeps x.name s own))
      ∙ commuted (x.name ∷ scope) p taken c.1.1.0 (λ y j. i y (in_tail y x.name rest (in_left (binders (x.name ∷ scope) p) (binders scope u) y j))) (one_more scope x.name h own) k in
      let right = commuted scope u (expanded m r b p taken).taken c.1.1.1 (λ y j. i y (in_tail y x.name rest (in_right (binders (x.name ∷ scope) p) (binders scope u) y j))) h (behind_first p taken k) ∙ later p u taken in
      λ z. whole.lookup (first z) (named (b x.name) x.sort) (left z) (right z)
