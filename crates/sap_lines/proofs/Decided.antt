-- What lines ask of terms is so or isn't.
use Rattle.std.proofs.Common.{◌≡◌, ℕ, Bool, true, false, List, [], ◌∷◌, ◌++◌, length, Option, Some, None, arith, refl, sym, ap, subst, ◌∙◌, ◌⊎◌, inl, inr, if◌then◌else◌}
use Rattle.std.specs.Prelude.{Contains, IsTrue}
use Rattle.std.proofs.lemmas.List.{map-append}
use Rattle.std.proofs.lemmas.Bool.{cases_lt}
use Rattle.std.proofs.lemmas.List.Elements.{Contains-append_left, Contains-append_right}
use Rattle.sap_terms.specs.Choice.{Choice, instance, instances, fits_sort}
use Rattle.sap_terms.specs.Equal.{same}
use Rattle.sap_terms.specs.Equations.{equations}
use Rattle.sap_terms.specs.Ground.{IsGround, AreGround}
use Rattle.sap_terms.specs.Laws.{NamesAreMessages}
use Rattle.sap_terms.specs.Message.{IsMessage, IsMessageChoice, IsOver, AreOver}
use Rattle.sap_terms.specs.Normal.{IsNormal, IsNormalForm}
use Rattle.sap_terms.specs.Same.{same_tree, same_trees}
use Rattle.sap_terms.specs.Signature.{Sig, arity_of}
use Rattle.sap_terms.specs.Tree.{Tree, variable, public, fresh, apply, Trees, none, more, list_of, trees_of, node_count}
use Rattle.sap_terms.specs.Variables.{tree_vars, trees_vars}
use Rattle.sap_terms.specs.View.{tree, term, tree-term}
use Rattle.sap_terms.specs.declared.binding.Binding.{Binding}
use Rattle.sap_terms.specs.declared.limits.TheConstants.{MOST_TERM_NODES}
use Rattle.sap_terms.specs.declared.var.Sort.{Sort}
use Rattle.sap_terms.specs.declared.var.Sort.TheVariants.{Msg, Fresh, Pub}
use Rattle.sap_terms.specs.declared.var.Var.{Var}
use Rattle.sap_terms.proofs.PlainLaws.Tests.{same_tree-refl, same_tree-sound, same_trees-refl, same_trees-sound}
use Rattle.sap_rewrite.specs.Large.{SomeSubterm, SomeSubtermWithin, HasLargeForm, itself, below, here, later}
use Rattle.sap_rewrite.specs.Match.{Agrees, bound_vars}
use Rattle.sap_runs.specs.Limits.{HasFewNodes}
use Rattle.sap_lines.specs.Faults.{EvaluateLarge, EvaluateSmall}
use Rattle.sap_lines.proofs.Premises.{Laws}
use Rattle.sap_terms.proofs.PlainLaws.Choices.{Agree, trees_agree}
use Rattle.sap_terms.proofs.PlainLaws.Items.{cons_cases, first_item, later_item}

-- it is so, or isn't
abbrev pub Decided : Type 0 → Type 0
Decided P = P ⊎ (P → ⊥)

both : {P Q : Type 0} → Decided P → Decided Q → Decided (P × Q)
both (inl p) (inl q) = inl (p, q)
both (inr n) q = inr (λ h. n h.0)
both (inl p) (inr n) = inr (λ h. n h.1)

pub tree_or_not : (t u : Tree) → Decided (t ≡ u)
tree_or_not t u = at (same_tree t u) refl where
  at : (b : Bool) → same_tree t u ≡ b → Decided (t ≡ u)
  at true e = inl (same_tree-sound t u e)
  at false e = inr (λ is. (let yes : same_tree t u ≡ true = subst (λ z. same_tree t z ≡ true) is (same_tree-refl t) in cc))

pub trees_or_not : (ts us : Trees) → Decided (ts ≡ us)
trees_or_not ts us = at (same_trees ts us) refl where
  at : (b : Bool) → same_trees ts us ≡ b → Decided (ts ≡ us)
  at true e = inl (same_trees-sound ts us e)
  at false e = inr (λ is. (let yes : same_trees ts us ≡ true = subst (λ z. same_trees ts z ≡ true) is (same_trees-refl ts) in cc))

pub nat_or_not : (m n : ℕ) → Decided (m ≡ n)
nat_or_not m n = elim (cases_lt m n) [
  | inl less ↦ inr (λ e. omega (arith, less, e))
  | inr most ↦ elim (cases_lt n m) [
    | inl less ↦ inr (λ e. omega (arith, less, e))
    | inr least ↦ inl (omega (arith, most, least))
  ]
]

mutual
  ground_or_not : (t : Tree) → Decided (IsGround t)
  ground_or_not (variable v) = inr (λ h. h)
  ground_or_not (public a) = inl tt
  ground_or_not (fresh k) = inl tt
  ground_or_not (apply f ts) = grounds_or_not ts

  grounds_or_not : (ts : Trees) → Decided (AreGround ts)
  grounds_or_not none = inl tt
  grounds_or_not (more t ts) = both (ground_or_not t) (grounds_or_not ts)

pub arity_or_not : (o : Option ℕ) (n : ℕ) → Decided (o ≡ Some n)
arity_or_not None n = inr (λ e. cc)
arity_or_not (Some m) n = elim (nat_or_not m n) [ inl is ↦ inl (ap (λ k. Some k) is) | inr other ↦ inr (λ e. other (cc)) ]

mutual
  over_or_not : (g : Sig) (t : Tree) → Decided (IsOver g t)
  over_or_not g (variable v) = inl tt
  over_or_not g (public a) = inl tt
  over_or_not g (fresh k) = inl tt
  over_or_not g (apply f ts) = both (arity_or_not (arity_of g f) (length (list_of ts))) (overs_or_not g ts)

  overs_or_not : (g : Sig) (ts : Trees) → Decided (AreOver g ts)
  overs_or_not g none = inl tt
  overs_or_not g (more t ts) = both (over_or_not g t) (overs_or_not g ts)

true_or_not : (b : Bool) → Decided (IsTrue b)
true_or_not true = inl refl
true_or_not false = inr (λ h. cc)

module _ (laws : Laws) (names : NamesAreMessages) (g : Sig) where
  normal_or_not : (t : Tree) → Decided (IsNormal (equations g) t)
  normal_or_not t =
      let n = laws.each (equations g) t in
      elim (tree_or_not t n.0) [
        | inl is ↦ inl (subst (IsNormal (equations g)) (sym is) n.1.normal)
        | inr other ↦ inr (λ h. other (laws.one_form (equations g) t t n.0 (record { equal = same; normal = h }) n.1))
      ]

  pub message_or_not : (s : Sort) (t : Tree) → Decided (IsMessage g s t)
  message_or_not s t = elim (both (ground_or_not t) (both (over_or_not g t) (both (normal_or_not t) (true_or_not (fits_sort s t))))) [
    | inl h ↦ inl (record { ground = h.0; over = h.1.0; normal = h.1.1.0; sorted = h.1.1.1 })
    | inr n ↦ inr (λ h. n (h.ground, (h.over, (h.normal, h.sorted))))
  ]

  -- some message of each sort
  some_message : (s : Sort) → (t : Tree) × IsMessage g s t
  some_message Msg = (fresh 0, names.fresh_name g Msg 0 refl)
  some_message Fresh = (fresh 0, names.fresh_name g Fresh 0 refl)
  some_message Pub = (public [], names.public_name g Pub [] refl)

  -- a term's own normal form
  own : (t : Tree) → HasLargeForm (equations g) MOST_TERM_NODES t ⊎ ((n : Tree) → IsNormalForm (equations g) t n → HasFewNodes n)
  own t =
      let f = laws.each (equations g) t in
      elim (cases_lt MOST_TERM_NODES (node_count f.0)) [
        | inl large ↦ inl (record { form = f.0; is_form = f.1; large = large })
        | inr small ↦ inr (λ n h. subst HasFewNodes (laws.one_form (equations g) t f.0 n f.1 h) small)
      ]

  only_variable : (v : Var) (n : Tree) → SomeSubterm (λ u. IsNormalForm (equations g) u n) (variable v) → IsNormalForm (equations g) (variable v) n
  only_variable v n (itself h) = h

  only_public : (a : List ℕ) (n : Tree) → SomeSubterm (λ u. IsNormalForm (equations g) u n) (public a) → IsNormalForm (equations g) (public a) n
  only_public a n (itself h) = h

  only_fresh : (k : ℕ) (n : Tree) → SomeSubterm (λ u. IsNormalForm (equations g) u n) (fresh k) → IsNormalForm (equations g) (fresh k) n
  only_fresh k n (itself h) = h

  leaf : (t : Tree) → ((n : Tree) → SomeSubterm (λ u. IsNormalForm (equations g) u n) t → IsNormalForm (equations g) t n) → SomeSubterm (HasLargeForm (equations g) MOST_TERM_NODES) t ⊎ ((n : Tree) → SomeSubterm (λ u. IsNormalForm (equations g) u n) t → HasFewNodes n)
  leaf t only = elim (own t) [ inl h ↦ inl (itself h) | inr small ↦ inr (λ n h. small n (only n h)) ]

  applied : (f : List ℕ) (ts : Trees) (n : Tree) → ((n : Tree) → IsNormalForm (equations g) (apply f ts) n → HasFewNodes n) → ((n : Tree) → SomeSubtermWithin (λ u. IsNormalForm (equations g) u n) ts → HasFewNodes n) → SomeSubterm (λ u. IsNormalForm (equations g) u n) (apply f ts) → HasFewNodes n
  applied f ts n small within (itself h) = small n h
  applied f ts n small within (below h) = within n h

  any_of : (t : Tree) (ts : Trees) (n : Tree) → ((n : Tree) → SomeSubterm (λ u. IsNormalForm (equations g) u n) t → HasFewNodes n) → ((n : Tree) → SomeSubtermWithin (λ u. IsNormalForm (equations g) u n) ts → HasFewNodes n) → SomeSubtermWithin (λ u. IsNormalForm (equations g) u n) (more t ts) → HasFewNodes n
  any_of t ts n first rest (here h) = first n h
  any_of t ts n first rest (later h) = rest n h

  -- some subterm is too large, or all are within the limit
  mutual
    large_or_not : (t : Tree) → SomeSubterm (HasLargeForm (equations g) MOST_TERM_NODES) t ⊎ ((n : Tree) → SomeSubterm (λ u. IsNormalForm (equations g) u n) t → HasFewNodes n)
    large_or_not (variable v) = leaf (variable v) (λ n h. only_variable v n h)
    large_or_not (public a) = leaf (public a) (λ n h. only_public a n h)
    large_or_not (fresh k) = leaf (fresh k) (λ n h. only_fresh k n h)
    large_or_not (apply f ts) = elim (larges_or_not ts) [
      | inl h ↦ inl (below h)
      | inr within ↦ elim (own (apply f ts)) [ inl h ↦ inl (itself h) | inr small ↦ inr (λ n h. applied f ts n small within h) ]
    ]

    larges_or_not : (ts : Trees) → SomeSubtermWithin (HasLargeForm (equations g) MOST_TERM_NODES) ts ⊎ ((n : Tree) → SomeSubtermWithin (λ u. IsNormalForm (equations g) u n) ts → HasFewNodes n)
    larges_or_not none = inr (λ n h. elim h [ ])
    larges_or_not (more t ts) = elim (large_or_not t) [
      | inl h ↦ inl (here h)
      | inr first ↦ elim (larges_or_not ts) [ inl h ↦ inl (later h) | inr rest ↦ inr (λ n h. any_of t ts n first rest h) ]
    ]

  pub evaluate_or_not : (ts : List Tree) → EvaluateLarge g ts ⊎ EvaluateSmall g ts
  evaluate_or_not ts = larges_or_not (trees_of ts)

  -- what a pattern has at its variables where it is this term
  abbrev mutual
    found : Tree → Tree → List Binding
    found (variable v) t = record { var = v; term = term t } ∷ []
    found (apply f ps) (apply h ts) = founds ps ts
    found _ _ = []

    founds : Trees → Trees → List Binding
    founds (more p ps) (more t ts) = found p t ++ founds ps ts
    founds _ _ = []

  agrees_append : (b e : List Binding) (σ : Choice) → Agrees b σ → Agrees e σ → Agrees (b ++ e) σ
  agrees_append [] e σ h k = k
  agrees_append (x ∷ b) e σ h k = (h.0, agrees_append b e σ h.1 k)

  mutual
    found_agrees : (σ : Choice) (p : Tree) → Agrees (found p (instance σ p)) σ
    found_agrees σ (variable v) = (sym (tree-term (σ v)), tt)
    found_agrees σ (public a) = tt
    found_agrees σ (fresh k) = tt
    found_agrees σ (apply f ps) = founds_agree σ ps

    founds_agree : (σ : Choice) (ps : Trees) → Agrees (founds ps (instances σ ps)) σ
    founds_agree σ none = tt
    founds_agree σ (more p ps) = agrees_append (found p (instance σ p)) (founds ps (instances σ ps)) σ (found_agrees σ p) (founds_agree σ ps)

  mutual
    found_vars : (σ : Choice) (p : Tree) → bound_vars (found p (instance σ p)) ≡ tree_vars p
    found_vars σ (variable v) = refl
    found_vars σ (public a) = refl
    found_vars σ (fresh k) = refl
    found_vars σ (apply f ps) = founds_vars σ ps

    founds_vars : (σ : Choice) (ps : Trees) → bound_vars (founds ps (instances σ ps)) ≡ trees_vars ps
    founds_vars σ none = refl
    founds_vars σ (more p ps) =
        map-append (λ (e : Binding). e.var) (found p (instance σ p)) (founds ps (instances σ ps)) ∙ (λ i. found_vars σ p i ++ founds_vars σ ps i)

  -- the first term that is bound to a variable
  abbrev pick : List Binding → Var → Option Tree
  pick [] v = None
  pick (e ∷ es) v = if same_tree (variable e.var) (variable v) then Some (tree e.term) else pick es v

  picked : (b : List Binding) (σ : Choice) → Agrees b σ → (v : Var) → Contains (bound_vars b) v → pick b v ≡ Some (σ v)
  picked [] σ h v m = absurd (omega (arith, m.1))
  picked (e ∷ es) σ h v m = at (same_tree (variable e.var) (variable v)) refl (cons_cases e.var (bound_vars es) v m) (λ k. picked es σ h.1 v k)
    where
      at : (b : Bool) → same_tree (variable e.var) (variable v) ≡ b → (e.var ≡ v) ⊎ Contains (bound_vars es) v → (Contains (bound_vars es) v → pick es v ≡ Some (σ v)) → (if b then Some (tree e.term) else pick es v) ≡ Some (σ v)
      at true t k rest =
          let whole : variable e.var ≡ variable v = same_tree-sound (variable e.var) (variable v) t in
          let is : e.var ≡ v = cc in
          ap (λ u. Some u) (sym h.0 ∙ ap σ is)
      at false t (inl is) rest = let yes : same_tree (variable e.var) (variable v) ≡ true = subst (λ w. same_tree (variable e.var) (variable w) ≡ true) is (same_tree-refl (variable e.var)) in cc
      at false t (inr k) rest = rest k

  -- the choice that goes by the first terms, where these are messages
  valued : (v : Var) (u : Tree) → Decided (IsMessage g v.sort u) → (t : Tree) × IsMessage g v.sort t
  valued v u (inl h) = (u, h)
  valued v u (inr n) = some_message v.sort

  value : (v : Var) → Option Tree → (t : Tree) × IsMessage g v.sort t
  value v None = some_message v.sort
  value v (Some u) = valued v u (message_or_not v.sort u)

  valued_is : (v : Var) (u : Tree) (d : Decided (IsMessage g v.sort u)) → IsMessage g v.sort u → (valued v u d).0 ≡ u
  unfolding valued
  valued_is v u (inl h) m = refl
  valued_is v u (inr n) m = absurd (n m)

  chosen_by : List Binding → Choice
  chosen_by b v = (value v (pick b v)).0

  by_messages : (b : List Binding) → IsMessageChoice g (chosen_by b)
  unfolding chosen_by
  by_messages b v = (value v (pick b v)).1

  by_agrees : (b : List Binding) (σ : Choice) → IsMessageChoice g σ → Agrees b σ → Agree (chosen_by b) σ (bound_vars b)
  unfolding chosen_by value
  by_agrees b σ m h v k = subst (λ o. (value v o).0 ≡ σ v) (sym (picked b σ h v k)) (valued_is v (σ v) (message_or_not v.sort (σ v)) (m v))

  agrees_moved : (b : List Binding) (σ τ : Choice) → Agree τ σ (bound_vars b) → Agrees b σ → Agrees b τ
  agrees_moved [] σ τ h k = tt
  agrees_moved (e ∷ es) σ τ h k = (h e.var (first_item e.var (bound_vars es)) ∙ k.0, agrees_moved es σ τ (λ v m. h v (later_item e.var (bound_vars es) v m)) k.1)

  agrees_or_not : (b : List Binding) (σ : Choice) → Decided (Agrees b σ)
  agrees_or_not [] σ = inl tt
  agrees_or_not (e ∷ es) σ = both (tree_or_not (σ e.var) (tree e.term)) (agrees_or_not es σ)

  -- some choice of messages agrees with the bindings and makes these of the patterns, or none does
  pub record Chooses (b : List Binding) (ps ts : Trees) (σ : Choice) : Type 0 where
    pub messages : IsMessageChoice g σ
    pub agrees : Agrees b σ
    pub is : instances σ ps ≡ ts

  chooses_by : (b : List Binding) (ps ts : Trees) (σ : Choice) → Chooses b ps ts σ → Agrees b (chosen_by (b ++ founds ps ts)) × (instances (chosen_by (b ++ founds ps ts)) ps ≡ ts)
  chooses_by b ps ts σ h =
      let e : List Binding = founds ps ts in
      let τ : Choice = chosen_by (b ++ e) in
      let fa : Agrees e σ = subst (λ us. Agrees (founds ps us) σ) h.is (founds_agree σ ps) in
      let fv : bound_vars e ≡ trees_vars ps = subst (λ us. bound_vars (founds ps us) ≡ trees_vars ps) h.is (founds_vars σ ps) in
      let agree : Agree τ σ (bound_vars b ++ bound_vars e) = subst (Agree τ σ) (map-append (λ (x : Binding). x.var) b e) (by_agrees (b ++ e) σ h.messages (agrees_append b e σ h.agrees fa)) in
      let left : Agree τ σ (bound_vars b) = λ v m. agree v (Contains-append_left (bound_vars b) (bound_vars e) v m) in
      let right : Agree τ σ (trees_vars ps) = subst (Agree τ σ) fv (λ v m. agree v (Contains-append_right (bound_vars b) (bound_vars e) v m)) in
      (agrees_moved b σ τ left h.agrees, trees_agree τ σ ps right ∙ h.is)

  pub choice_or_not : (b : List Binding) (ps ts : Trees) → ((σ : Choice) × Chooses b ps ts σ) ⊎ ((σ : Choice) → ¬ Chooses b ps ts σ)
  choice_or_not b ps ts =
      let τ : Choice = chosen_by (b ++ founds ps ts) in
      elim (both (agrees_or_not b τ) (trees_or_not (instances τ ps) ts)) [
        | inl h ↦ inl (τ, record { messages = by_messages (b ++ founds ps ts); agrees = h.0; is = h.1 })
        | inr n ↦ inr (λ σ h. n (chooses_by b ps ts σ h))
      ]
