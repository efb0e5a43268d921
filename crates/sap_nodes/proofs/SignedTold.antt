-- A search for a variable with another sign than its binder's sort tells of which node the flaw speaks.
use Rattle.std.proofs.Common.{◌≡◌, ℕ, ◌<◌, List, [], ◌∷◌, ◌++◌, Bool, true, false, cond, Option, Some, None, inl, inr, arith, filter, refl, sym, ap, subst, ◌∙◌}
use Rattle.std.specs.Prelude.{◌⊎◌, Contains, not, ◌||◌, slice_get, if◌then◌else◌, option_map}
use Rattle.std.specs.List.{flat_map}
use Rattle.std.specs.Str.{bytes_eq}
use Rattle.std.proofs.lemmas.List.{append-nil}
use Rattle.std.proofs.lemmas.List.Concat.{flat_map-append}
use Rattle.sap_terms.specs.Same.{same_sort}
use Rattle.sap_terms.specs.Signature.{Sig}
use Rattle.sap_terms.specs.Tree.{trees_of}
use Rattle.sap_terms.specs.Variables.{tree_vars, trees_vars, facts_vars, is_known, new_vars}
use Rattle.sap_terms.specs.declared.fact.Fact.{Fact}
use Rattle.sap_terms.specs.declared.var.Sort.{Sort}
use Rattle.sap_terms.specs.declared.var.Sort.TheVariants.{Msg, Fresh, Pub}
use Rattle.sap_terms.specs.declared.var.Var.{Var}
use Rattle.sap_terms.proofs.PlainLaws.Items.{first_item, later_item, item_cases, cons_cases, contains_got}
use Rattle.sap_terms.proofs.PlainLaws.Known.{one_name}
use Rattle.sap_terms.proofs.PlainLaws.Tests.{and_true, and_left, and_right}
use Rattle.sap_process.specs.Action.{Action, new, out, send, input, receive, event, insert, delete, lock, unlock, embedded}
use Rattle.sap_process.specs.Flaws.{binder_of, scope_at}
use Rattle.sap_process.specs.Proc.{Proc, nil, parallel, replicated, act, test, lookup}
use Rattle.sap_process.specs.Sites.{Site, var_names, message_var}
use Rattle.sap_process.specs.code.Tests.{is_other_sort, has_other_sort}
use Rattle.sap_process.specs.declared.flaw.Flaw.TheVariants.{SortClash}
use Rattle.sap_nodes.specs.HeadNodes.{Node, binder, variable, public, fresh, symbol, fact, tree_nodes, fact_nodes, facts_nodes, head_nodes}
use Rattle.sap_nodes.specs.FlawNodes.{HasOtherSign, IsOtherSignNode, IsFlawedAt, IsTold}
use Rattle.sap_nodes.specs.code.Searches.{at_first, found_at}
use Rattle.sap_nodes.specs.code.Signs.{patterns_met, terms_met}
use Rattle.sap_nodes.specs.code.Trails.{met_all}
use Rattle.sap_nodes.specs.declared.part.Part.TheVariants.{Pattern, Shown, Given}
use Rattle.sap_nodes.specs.declared.trail.How.TheVariants.{Taken, Signed}
use Rattle.sap_nodes.specs.declared.trail.Trail.{Trail}
use Rattle.sap_nodes.proofs.HeadMembers.{none_of}
use Rattle.sap_nodes.proofs.UnboundLemmas.{vars_of, Hit, Miss, searched, trail_of, met_append, behind_left, outcome_kept, freed, passed}
use Rattle.sap_nodes.proofs.UnboundTold.{front_got, front_same, got_cases, var_in, tree_variables, facts_variables, other_variables}

-- sorts

sort_same : (s : Sort) → same_sort s s ≡ true
sort_same Msg = refl
sort_same Fresh = refl
sort_same Pub = refl

sort_equal : (s t : Sort) → same_sort s t ≡ true → s ≡ t
sort_equal Msg Msg h = refl
sort_equal Fresh Fresh h = refl
sort_equal Pub Pub h = refl
sort_equal _ _ h = cc

apart_sound : (s t : Sort) → not (same_sort s t) ≡ true → s ≡ t → ⊥
apart_sound s t h e = let same : same_sort s t ≡ true = subst (λ r. same_sort s r ≡ true) e (sort_same s) in cc

apart_complete : (s t : Sort) → ¬ (s ≡ t) → not (same_sort s t) ≡ true
apart_complete s t d = by (same_sort s t) refl where
  by : (b : Bool) → same_sort s t ≡ b → not b ≡ true
  by true e = absurd (d (sort_equal s t e))
  by false e = refl

-- the test of a sign tells what the definition says

sign_found : (scope : List Var) (v : Var) (o : Option Var) → binder_of scope v.name ≡ o → not (same_sort v.sort Msg) ≡ true
    → is_other_sort (option_map (λ (b : Var). b.sort) o) v.sort ≡ true → HasOtherSign scope v
sign_found scope v None e h k = cc
sign_found scope v (Some b) e h k = record { signed = apart_sound v.sort Msg h; bound = b; binder = e; other = apart_sound b.sort v.sort k }

sign_sound : (scope : List Var) (v : Var) → has_other_sort scope v ≡ true → HasOtherSign scope v
sign_sound scope v h =
    sign_found scope v (binder_of scope v.name) refl
    (and_left (not (same_sort v.sort Msg)) (is_other_sort (option_map (λ (b : Var). b.sort) (binder_of scope v.name)) v.sort) h)
    (and_right (not (same_sort v.sort Msg)) (is_other_sort (option_map (λ (b : Var). b.sort) (binder_of scope v.name)) v.sort) h)

sign_complete : (scope : List Var) (v : Var) → HasOtherSign scope v → has_other_sort scope v ≡ true
sign_complete scope v h =
    and_true (not (same_sort v.sort Msg)) (is_other_sort (option_map (λ (b : Var). b.sort) (binder_of scope v.name)) v.sort) (apart_complete v.sort Msg h.signed)
    (subst (λ (o : Option Var). is_other_sort (option_map (λ (b : Var). b.sort) o) v.sort ≡ true) (sym h.binder) (apart_complete h.bound.sort v.sort h.other))

-- binders among all variables, and among the first ones of their names

binder_behind : (scope vs ws : List Var) (n : List ℕ) → (is_known (var_names scope) n ≡ false → binder_of vs n ≡ binder_of ws n)
    → binder_of (scope ++ vs) n ≡ binder_of (scope ++ ws) n
binder_behind [] vs ws n h = h refl
binder_behind (v ∷ scope) vs ws n h = by (bytes_eq v.name n) refl (binder_behind scope vs ws n) where
  by : (b : Bool) → bytes_eq v.name n ≡ b → ((is_known (var_names scope) n ≡ false → binder_of vs n ≡ binder_of ws n) → binder_of (scope ++ vs) n ≡ binder_of (scope ++ ws) n)
      → cond b (Some v) (binder_of (scope ++ vs) n) ≡ cond b (Some v) (binder_of (scope ++ ws) n)
  by true e later = refl
  by false e later = later (λ k. h (ap (λ b. b || is_known (var_names scope) n) e ∙ k))

not_last : (names : List (List ℕ)) (m n : List ℕ) → is_known names n ≡ false → bytes_eq m n ≡ false → is_known (names ++ m ∷ []) n ≡ false
not_last [] m n h e = ap (λ b. b || false) e
not_last (k ∷ ks) m n h e = by (bytes_eq k n) h (not_last ks m n) where
  by : (b : Bool) → (b || is_known ks n) ≡ false → (is_known ks n ≡ false → bytes_eq m n ≡ false → is_known (ks ++ m ∷ []) n ≡ false) → (b || is_known (ks ++ m ∷ []) n) ≡ false
  by true h later = h
  by false h later = later h e

binder_new : (names : List (List ℕ)) (vs : List Var) (n : List ℕ) → is_known names n ≡ false → binder_of vs n ≡ binder_of (new_vars names vs) n
binder_new names [] n h = refl
binder_new names (v ∷ vs) n h = by (is_known names v.name) refl (bytes_eq v.name n) refl (binder_new names vs n h) (binder_new (names ++ v.name ∷ []) vs n) where
  by : (b : Bool) → is_known names v.name ≡ b → (c : Bool) → bytes_eq v.name n ≡ c → binder_of vs n ≡ binder_of (new_vars names vs) n
      → (is_known (names ++ v.name ∷ []) n ≡ false → binder_of vs n ≡ binder_of (new_vars (names ++ v.name ∷ []) vs) n)
      → cond c (Some v) (binder_of vs n) ≡ binder_of (if b then new_vars names vs else v ∷ new_vars (names ++ v.name ∷ []) vs) n
  by true e true d later after =
      let same : is_known names n ≡ true = subst (λ m. is_known names m ≡ true) (one_name v.name n d) e in cc
  by true e false d later after = later
  by false e true d later after = sym (ap (λ c. cond c (Some v) (binder_of (new_vars (names ++ v.name ∷ []) vs) n)) d)
  by false e false d later after = after (not_last names v.name n h d) ∙ sym (ap (λ c. cond c (Some v) (binder_of (new_vars (names ++ v.name ∷ []) vs) n)) d)

-- among those in scope and these variables, or the new ones of these
pub binder_of_new : (scope vs : List Var) (n : List ℕ) → binder_of (scope ++ vs) n ≡ binder_of (scope ++ new_vars (var_names scope) vs) n
binder_of_new scope vs n = binder_behind scope vs (new_vars (var_names scope) vs) n (binder_new (var_names scope) vs n)

-- the same binders, the same signs
same_signs : (scope others : List Var) → ((n : List ℕ) → binder_of scope n ≡ binder_of others n) → (v : Var) → HasOtherSign scope v → HasOtherSign others v
same_signs scope others e v h = record { signed = h.signed; bound = h.bound; binder = sym (e v.name) ∙ h.binder; other = h.other }

-- the node is a variable
is_var : (s : Site) (n : Node) → IsOtherSignNode s n → (v : Var) × (n ≡ variable v) × HasOtherSign (scope_at s.above.scope s.body) v
is_var s (variable v) h = (v, refl, h)
is_var s (binder v) h = absurd h
is_var s (public n) h = absurd h
is_var s (fresh k) h = absurd h
is_var s (symbol a f k) h = absurd h
is_var s (fact a f) h = absurd h

passes_in : (p : Var → Bool) (vs : List Var) (v : Var) → Contains vs v → p v ≡ true → Contains (filter p vs) v
passes_in p [] v c e = absurd (none_of v c)
passes_in p (w ∷ ws) v c e = by (p w) refl (cons_cases w ws v c) (λ k. passes_in p ws v k e) where
  by : (b : Bool) → p w ≡ b → (w ≡ v) ⊎ Contains ws v → (Contains ws v → Contains (filter p ws) v) → Contains (cond b (w ∷ filter p ws) (filter p ws)) v
  by true d (inl k) later = subst (λ z. Contains (w ∷ filter p ws) z) k (first_item w (filter p ws))
  by true d (inr k) later = later_item w (filter p ws) v (later k)
  by false d (inl k) later = let same : p w ≡ true = subst (λ z. p z ≡ true) (sym k) e in absurd (clash (sym same ∙ d))
    where
      clash : true ≡ false → ⊥
      clash h = cc
  by false d (inr k) later = later k

-- in nodes in front of which no other stands, and behind which no variable does
told_signed : (g : Sig) (before : List Site) (s : Site) (known : List Var) (used rest : List Node) → head_nodes s.body ≡ used ++ rest
    → ((v : Var) → Contains rest (variable v) → ⊥) → ((n : List ℕ) → binder_of known n ≡ binder_of (scope_at s.above.scope s.body) n)
    → IsTold g before s SortClash (found_at (searched Signed known 0 used))
told_signed g before s known used rest e bare same = by (outcome_kept Signed known (λ v. refl) used 0 (omega arith)) where
  tested : (v : Var) → HasOtherSign (scope_at s.above.scope s.body) v → has_other_sort known v ≡ true
  tested v h = sign_complete known v (same_signs (scope_at s.above.scope s.body) known (λ n. sym (same n)) v h)

  in_used : (k : ℕ) (n : Node) (v : Var) → slice_get (head_nodes s.body) k ≡ Some n → n ≡ variable v → Contains used (variable v)
  in_used k n v stands is =
      elim (got_cases used rest k n (sym (ap (λ ns. slice_get ns k) e) ∙ stands)) as (λ _. Contains used (variable v)) [
        | inl there ↦ subst (Contains used) is there
        | inr behind ↦ absurd (bare v (contains_got rest (variable v) behind.0 (behind.2 ∙ ap Some is)))
      ]

  nothing : freed Signed known (flat_map vars_of used) ≡ [] → (k : ℕ) → IsFlawedAt g before s SortClash k → ⊥
  nothing m k h =
      let v = is_var s h.node h.flaw in
      none_of v.0 (subst (λ vs. Contains vs v.0) m
      (passes_in (has_other_sort known) (flat_map vars_of used) v.0 (var_in used v.0 (in_used k h.node v.0 h.stands v.1)) (tested v.0 v.2)))

  earlier : (h : Hit (freed Signed known (flat_map vars_of used)) used 0 (searched Signed known 0 used)) (j : ℕ) → j < h.place → IsFlawedAt g before s SortClash j → ⊥
  earlier h j l f =
      let v = is_var s f.node f.flaw in
      h.first j v.0 l (sym (front_same used rest h.place (variable h.var) h.stands j l) ∙ sym (ap (λ ns. slice_get ns j) e) ∙ f.stands ∙ ap Some v.1)
      (passes_in (has_other_sort known) (flat_map vars_of used) v.0 (var_in used v.0 (in_used j f.node v.0 f.stands v.1)) (tested v.0 v.2))

  by : Hit (freed Signed known (flat_map vars_of used)) used 0 (searched Signed known 0 used) ⊎ Miss (freed Signed known (flat_map vars_of used)) (searched Signed known 0 used)
      → IsTold g before s SortClash (found_at (searched Signed known 0 used))
  by (inr m) = subst (IsTold g before s SortClash) (sym (ap (λ (b : Bool). if b then Some (searched Signed known 0 used).at else None) m.found)) (λ k h. nothing m.nothing k h.here)
  by (inl h) = subst (IsTold g before s SortClash) (sym (ap (λ (b : Bool). if b then Some (searched Signed known 0 used).at else None) h.found)) (
    h.place,
    record {
      here = record {
        node = variable h.var;
        stands = ap (λ ns. slice_get ns h.place) e ∙ front_got used rest h.place (variable h.var) h.stands;
        flaw = same_signs known (scope_at s.above.scope s.body) same h.var
            (sign_sound known h.var (passed (has_other_sort known) (flat_map vars_of used) h.var h.is));
      };
      first = earlier h;
    },
    let n = h.counted in omega (arith, n),
  )

-- where no variable stands
told_bare : (g : Sig) (before : List Site) (s : Site) (ns : List Node) → head_nodes s.body ≡ ns → ((v : Var) → Contains ns (variable v) → ⊥) → IsTold g before s SortClash None
told_bare g before s ns e bare k h =
    let v = is_var s h.here.node h.here.flaw in
    bare v.0 (contains_got ns (variable v.0) k (sym (ap (λ ms. slice_get ms k) e) ∙ h.here.stands ∙ ap Some v.1))

-- binders where the head binds nothing by terms
plain_binders : (s : Site) (p : Proc) → s.body ≡ p → scope_at s.above.scope p ≡ s.above.scope → (n : List ℕ)
    → binder_of s.above.scope n ≡ binder_of (scope_at s.above.scope s.body) n
plain_binders s p e d n = sym (ap (λ vs. binder_of vs n) (ap (scope_at s.above.scope) e ∙ d))

-- and where it does
new_binders : (s : Site) (p : Proc) (known vs : List Var) → s.body ≡ p → known ≡ s.above.scope ++ vs
    → scope_at s.above.scope p ≡ s.above.scope ++ new_vars (var_names s.above.scope) vs → (n : List ℕ)
    → binder_of known n ≡ binder_of (scope_at s.above.scope s.body) n
new_binders s p known vs e h d n =
    ap (λ us. binder_of us n) h ∙ binder_of_new s.above.scope vs n ∙ sym (ap (λ us. binder_of us n) (ap (scope_at s.above.scope) e ∙ d))

known_behind : (scope : List Var) (ns : List Node) (vs : List Var) → flat_map vars_of ns ≡ vs → (met_all Taken (trail_of scope 0) ns).known ≡ scope ++ vs
known_behind scope ns vs h = ap (λ (a : Trail). a.known) (behind_left scope ns 0 (omega arith)) ∙ ap (λ us. scope ++ us) h

pub rule_variables : (l e r : List Fact) → flat_map vars_of (facts_nodes Pattern l ++ (facts_nodes Shown e ++ facts_nodes Given r)) ≡ facts_vars (l ++ (e ++ r))
rule_variables l e r =
    flat_map-append vars_of (facts_nodes Pattern l) (facts_nodes Shown e ++ facts_nodes Given r)
    ∙ ap (λ vs. vs ++ flat_map vars_of (facts_nodes Shown e ++ facts_nodes Given r)) (facts_variables Pattern l)
    ∙ ap (λ vs. facts_vars l ++ vs) (sym (other_variables e r)) ∙ sym (flat_map-append (λ (f : Fact). trees_vars (trees_of f.args)) l (e ++ r))

no_variable : (v : Var) → Contains [] (variable v) → ⊥
no_variable v c = none_of (variable v) c

binder_bare : (x v : Var) → Contains (binder x ∷ []) (variable v) → ⊥
binder_bare x v c = apart (item_cases (binder x) (variable v) c) where
  apart : binder x ≡ variable v → ⊥
  apart h = cc

abbrev Told : Sig → List Site → Site → Proc → Type 0
Told g before s p = IsTold g before s SortClash (found_at (terms_met (trail_of (patterns_met (trail_of s.above.scope 0) p).known 0) p).search)

-- all nodes of a head that binds nothing by terms
plain_told : (g : Sig) (before : List Site) (s : Site) (p : Proc) (ns : List Node) → s.body ≡ p → head_nodes p ≡ ns → scope_at s.above.scope p ≡ s.above.scope
    → IsTold g before s SortClash (found_at (searched Signed s.above.scope 0 ns))
plain_told g before s p ns e h d =
    told_signed g before s s.above.scope ns [] (ap head_nodes e ∙ h ∙ sym (append-nil ns)) no_variable (plain_binders s p e d)

told_action : (g : Sig) (before : List Site) (s : Site) (x : Action) (p : Proc) → s.body ≡ act x p → Told g before s (act x p)
told_action g before s (new x) p e = told_bare g before s (binder x ∷ []) (ap head_nodes e) (binder_bare x)
told_action g before s (out t) p e = plain_told g before s (act (out t) p) (tree_nodes Given t) e refl (append-nil s.above.scope)
told_action g before s (send t u) p e = plain_told g before s (act (send t u) p) (tree_nodes Given t ++ tree_nodes Given u) e refl (append-nil s.above.scope)
told_action g before s (input t) p e =
    told_signed g before s (met_all Taken (trail_of s.above.scope 0) (tree_nodes Pattern t)).known (tree_nodes Pattern t) []
    (ap head_nodes e ∙ sym (append-nil (tree_nodes Pattern t))) no_variable
    (new_binders s (act (input t) p) _ (tree_vars t) e (known_behind s.above.scope (tree_nodes Pattern t) (tree_vars t) (tree_variables Pattern t)) refl)
told_action g before s (receive t u) p e =
    told_signed g before s (met_all Taken (trail_of s.above.scope 0) (tree_nodes Pattern u)).known (tree_nodes Given t ++ tree_nodes Pattern u) []
    (ap head_nodes e ∙ sym (append-nil (tree_nodes Given t ++ tree_nodes Pattern u))) no_variable
    (new_binders s (act (receive t u) p) _ (tree_vars u) e (known_behind s.above.scope (tree_nodes Pattern u) (tree_vars u) (tree_variables Pattern u)) refl)
told_action g before s (event f) p e = plain_told g before s (act (event f) p) (fact_nodes Shown f) e refl (append-nil s.above.scope)
told_action g before s (insert t u) p e = plain_told g before s (act (insert t u) p) (tree_nodes Given t ++ tree_nodes Given u) e refl (append-nil s.above.scope)
told_action g before s (delete t) p e = plain_told g before s (act (delete t) p) (tree_nodes Given t) e refl (append-nil s.above.scope)
told_action g before s (lock t n) p e = plain_told g before s (act (lock t n) p) (tree_nodes Given t) e refl (append-nil s.above.scope)
told_action g before s (unlock t n) p e = plain_told g before s (act (unlock t n) p) (tree_nodes Given t) e refl (append-nil s.above.scope)
told_action g before s (embedded l m r) p e =
    subst (λ (a : Trail). IsTold g before s SortClash (found_at a.search))
    (met_append Signed (trail_of (met_all Taken (met_all Taken (trail_of s.above.scope 0) (facts_nodes Pattern l)) (facts_nodes Shown m ++ facts_nodes Given r)).known 0)
    (facts_nodes Pattern l) (facts_nodes Shown m ++ facts_nodes Given r))
    (told_signed g before s
    (met_all Taken (met_all Taken (trail_of s.above.scope 0) (facts_nodes Pattern l)) (facts_nodes Shown m ++ facts_nodes Given r)).known
    (facts_nodes Pattern l ++ (facts_nodes Shown m ++ facts_nodes Given r)) []
    (ap head_nodes e ∙ sym (append-nil (facts_nodes Pattern l ++ (facts_nodes Shown m ++ facts_nodes Given r)))) no_variable
    (new_binders s (act (embedded l m r) p) _ (facts_vars (l ++ (m ++ r))) e
    (sym (ap (λ (a : Trail). a.known) (met_append Taken (trail_of s.above.scope 0) (facts_nodes Pattern l) (facts_nodes Shown m ++ facts_nodes Given r)))
    ∙ known_behind s.above.scope (facts_nodes Pattern l ++ (facts_nodes Shown m ++ facts_nodes Given r)) (facts_vars (l ++ (m ++ r))) (rule_variables l m r))
    refl))

told_head : (g : Sig) (before : List Site) (s : Site) (p : Proc) → s.body ≡ p → Told g before s p
told_head g before s nil e = told_bare g before s [] (ap head_nodes e) no_variable
told_head g before s (parallel p q) e = told_bare g before s [] (ap head_nodes e) no_variable
told_head g before s (replicated p) e = told_bare g before s [] (ap head_nodes e) no_variable
told_head g before s (act x p) e = told_action g before s x p e
told_head g before s (test t u p q) e = plain_told g before s (test t u p q) (tree_nodes Given t ++ tree_nodes Given u) e refl refl
told_head g before s (lookup t x p q) e =
    told_signed g before s s.above.scope (tree_nodes Given t) (binder (message_var x) ∷ []) (ap head_nodes e) (binder_bare (message_var x))
    (plain_binders s (lookup t x p q) e refl)

pub signed_told : (g : Sig) (before : List Site) (s : Site) (p : Proc) (scope : List Var) → s.body ≡ p → s.above.scope ≡ scope
    → IsTold g before s SortClash
    (found_at (terms_met (record { known = (patterns_met (record { known = scope; search = at_first }) p).known; search = at_first }) p).search)
signed_told g before s p scope e d =
    subst (λ (vs : List Var). IsTold g before s SortClash
    (found_at (terms_met (record { known = (patterns_met (record { known = vs; search = at_first }) p).known; search = at_first }) p).search)) d (told_head g before s p e)
