-- What goes on once variables are replaced runs as its expansion does.
use Rattle.std.proofs.Common.{◌≡◌, ℕ, true, false, List, [], ◌∷◌, Some, None, refl, sym, ap, ◌∙◌, subst, ⊎_elim}
use Rattle.std.proofs.lemmas.Bool.{cases_Bool, false≢true}
use Rattle.std.specs.Prelude.{if◌then◌else◌}
use Rattle.std.specs.Option.{option_map_or}
use Rattle.std.specs.Str.{bytes_eq}
use Rattle.sap_terms.specs.Choice.{Choice}
use Rattle.sap_terms.specs.Ground.{IsGround}
use Rattle.sap_terms.specs.Tree.{variable}
use Rattle.sap_terms.specs.declared.var.Var.{Var}
use Rattle.sap_terms.specs.Variables.{is_known}
use Rattle.sap_process.specs.Flaws.{binder_of}
use Rattle.sap_process.specs.Sites.{var_names}
use Rattle.sap_process.specs.Instance.{process_instance}
use Rattle.sap_process.specs.ProcessSteps.{chosen}
use Rattle.sap_macro.specs.Expansion.{Expanded, Meaning, binders, expanded, same_name, scope_behind, unchanged}
use Rattle.sap_macro.specs.Instances.{AreTaken, IsClosed, Keeps, written_instance}
use Rattle.sap_macro.specs.UpToNames.{named}
use Rattle.sap_macro.specs.Written.{Written}
use Rattle.sap_terms.proofs.PlainLaws.Known.{clash, in_cases, not_in, two_names}
use Rattle.sap_macro.proofs.Scopes.{Among, behind_cases, binder_is_new, over_behind}
use Rattle.sap_macro.proofs.Commuting.{IsSteady, Commutes, commuted}
use Rattle.sap_macro.proofs.Uses.{at_once}
use Rattle.sap_macro.proofs.Definitions.{bound_is_there, known_of}
use Rattle.sap_macro.proofs.Closed.{Split, binders_rest, closed_rest}

module _ (σ : Choice) (vs : List Var) (ground : (v : Var) → IsGround (σ v)) where
  abbrev here : Choice
  here = chosen σ vs

  binder_there : (ws : List Var) (n : List ℕ) → is_known (var_names ws) n ≡ true → (w : Var) × (binder_of ws n ≡ Some w)
  binder_there [] n h = absurd (false≢true h)
  binder_there (w ∷ ws) n h =
      ⊎_elim (λ e. (w, ap (λ c. if c then Some w else binder_of ws n) e))
      (λ e. let r = binder_there ws n (⊎_elim (λ s. absurd (two_names w.name n e s)) (λ l. l) (in_cases n w.name (var_names ws) h)) in
      (r.0, ap (λ c. if c then Some w else binder_of ws n) e ∙ r.1))
      (cases_Bool (bytes_eq w.name n))

  no_binder : (ws : List Var) (n : List ℕ) → is_known (var_names ws) n ≡ false → binder_of ws n ≡ None
  no_binder [] n h = refl
  no_binder (w ∷ ws) n h =
      ap (λ c. if c then Some w else binder_of ws n) (not_in n w.name (var_names ws) h).0
      ∙ no_binder ws n (not_in n w.name (var_names ws) h).1

  pub grounds : (v : Var) → is_known (var_names vs) v.name ≡ true → IsGround (here v)
  grounds v h = let r = binder_there vs v.name h in subst (λ o. IsGround (option_map_or σ o (variable v))) (sym r.1) (ground r.0)

  pub leaves : (v : Var) → is_known (var_names vs) v.name ≡ false → here v ≡ variable v
  leaves v h = ap (λ o. option_map_or σ o (variable v)) (no_binder vs v.name h)

  pub split : Split here (var_names vs) grounds leaves (scope_behind [] vs) []
  split = record {
    gone_in = λ x h. known_of vs (scope_behind [] vs) x (over_behind [] vs) h;
    stays = λ x h.
        ⊎_elim (λ e. ⊎_elim (λ l. absurd (false≢true l)) (λ l. clash (is_known (var_names vs) x) (bound_is_there [] vs x l) h) (behind_cases [] vs x e)) (λ e. e)
        (cases_Bool (is_known (scope_behind [] vs) x));
  }

  module _ (w : Written) (taken : List (List ℕ)) (closed : IsClosed (scope_behind [] vs) w) (own : Among (var_names vs) taken) where
    pub closed_here : IsClosed [] (written_instance here w)
    closed_here = closed_rest here (var_names vs) grounds leaves (scope_behind [] vs) [] w split closed

    pub taken_here : AreTaken taken (scope_behind [] vs) w → AreTaken taken [] (written_instance here w)
    taken_here t = record { holds = λ x h. t.holds x (subst (λ ns. is_known ns x ≡ true) (binders_rest here (var_names vs) grounds leaves (scope_behind [] vs) [] w split closed) h) }

    -- the expansion of the instance is the instance of the expansion
    pub instance_of_expansion : (m : Meaning) → IsSteady m → Commutes m
        → (expanded m unchanged same_name (written_instance here w) taken).process ≡ process_instance here (expanded m unchanged same_name w taken).process
    instance_of_expansion m steady commuting =
        let K = scope_behind [] vs in
        let not_gone : (x : List ℕ) → is_known K x ≡ false → is_known (var_names vs) x ≡ false =
        λ x h. ⊎_elim (λ e. clash (is_known K x) (known_of vs K x (over_behind [] vs) e) h) (λ e. e) (cases_Bool (is_known (var_names vs) x)) in
        let keeps : Keeps here taken = record { keeps = λ x s h. leaves (named x s) (⊎_elim (λ e. clash (is_known taken x) (own x e) h) (λ e. e) (cases_Bool (is_known (var_names vs) x))) } in
        let moved = commuted m steady commuting here unchanged here same_name (binders K w) (λ v i. refl)
        (λ x s i. leaves (named x s) (not_gone x (binder_is_new K w closed x i))) K w taken closed (λ x i. i) (λ v i. refl) keeps in
        ap (λ (e : Expanded). e.process) (at_once m here w taken) ∙ sym moved
