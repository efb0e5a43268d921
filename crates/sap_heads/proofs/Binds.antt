-- What is bound last stands for its variable in the process that goes on.
use Rattle.std.proofs.Common.{◌≡◌, ◌<◌, ◌⊎◌, inl, inr, ℕ, List, [], ◌∷◌, ◌++◌, length, Some, None, Bool, true, false, ◌||◌, if◌then◌else◌, refl, sym, ap, ◌∙◌}
use Rattle.std.specs.Prelude.{All}
use Rattle.std.specs.Option.{option_map_or}
use Rattle.std.specs.Str.{bytes_eq}
use Rattle.std.proofs.Math.Path.{fun_ext}
use Rattle.std.proofs.lemmas.List.{map-append}
use Rattle.std.proofs.lemmas.List.Elements.{All-head, All-tail, All-push}
use Rattle.sap_terms.specs.Equations.{equations}
use Rattle.sap_terms.specs.declared.limits.TheConstants.{MOST_TERM_NODES}
use Rattle.sap_terms.specs.Choice.{Choice, instance, instances}
use Rattle.sap_terms.specs.Ground.{IsGround, AreGround}
use Rattle.sap_terms.specs.Tree.{Tree, variable, public, fresh, apply, Trees, none, more}
use Rattle.sap_terms.specs.Variables.{is_known}
use Rattle.sap_terms.specs.declared.var.Var.{Var}
use Rattle.std.proofs.lemmas.Slice.Eq.{bytes_eq-Decides}
use Rattle.sap_process.specs.Instance.{process_instance, without}
use Rattle.sap_process.specs.Proc.{Proc}
use Rattle.sap_process.specs.ProcessSteps.{chosen, with_term}
use Rattle.sap_share.specs.Env.{given, AreSmallForms, IsSmallForm}
use Rattle.sap_share.specs.Shared.{Shared, tree_at}
use Rattle.sap_share.specs.declared.env.Bound.{Bound}
use Rattle.sap_heads.specs.Bound.{names_of, IsBoundTo}
use Rattle.sap_heads.specs.Values.{IsSmallNumber}

-- what a choice for one variable chooses
chosen_one : (t : Tree) (x v : Var) → chosen (λ w. t) (x ∷ []) v ≡ (if bytes_eq x.name v.name then t else variable v)
chosen_one t x v = by (bytes_eq x.name v.name) where
  by : (b : Bool) → option_map_or (λ (w : Var). t) (if b then Some x else None) (variable v) ≡ (if b then t else variable v)
  by true = refl
  by false = refl

-- a ground tree is its own instance
mutual
  pub ground_stays : (σ : Choice) (t : Tree) → IsGround t → instance σ t ≡ t
  ground_stays σ (variable v) g = absurd g
  ground_stays σ (public n) g = refl
  ground_stays σ (fresh k) g = refl
  ground_stays σ (apply f ts) g = ap (apply f) (grounds_stay σ ts g)

  grounds_stay : (σ : Choice) (ts : Trees) → AreGround ts → instances σ ts ≡ ts
  grounds_stay σ none g = refl
  grounds_stay σ (more t ts) g = let a = ground_stays σ t g.0 in let b = grounds_stay σ ts g.1 in λ i. more (a i) (b i)

module _ (ts : List Tree) (grounds : (k : ℕ) → k < length ts → IsGround (tree_at ts k)) where
  -- a variable that isn't bound stands for itself, one that is for a ground tree
  pub given_cases : (env : List Bound) (v : Var) → All (λ (b : Bound). b.id < length ts) env
      → ((is_known (names_of env) v.name ≡ true) × IsGround (given ts env v)) ⊎ ((is_known (names_of env) v.name ≡ false) × (given ts env v ≡ variable v))
  given_cases [] v below = inr (refl, refl)
  given_cases (e ∷ es) v below =
      let Q : Bound → Type 0 = λ b. b.id < length ts in
      by (bytes_eq e.var.name v.name) (grounds e.id (All-head Q e es below)) (given_cases es v (All-tail Q e es below)) where
        by : (b : Bool) → IsGround (tree_at ts e.id)
            → ((is_known (names_of es) v.name ≡ true) × IsGround (given ts es v)) ⊎ ((is_known (names_of es) v.name ≡ false) × (given ts es v ≡ variable v))
            → (((b || is_known (names_of es) v.name) ≡ true) × IsGround (if b then tree_at ts e.id else given ts es v)) ⊎ (((b || is_known (names_of es) v.name) ≡ false) × ((if b then tree_at ts e.id else given ts es v) ≡ variable v))
        by true here later = inl (refl, here)
        by false here later = later

  -- what is bound last counts where the name isn't bound before
  given_push : (env : List Bound) (x : Bound) (v : Var) → given ts (env ++ x ∷ []) v ≡ (if is_known (names_of env) v.name then given ts env v else (if bytes_eq x.var.name v.name then tree_at ts x.id else variable v))
  given_push [] x v = refl
  given_push (e ∷ es) x v = by (bytes_eq e.var.name v.name) (given_push es x v) where
    by : (b : Bool) → given ts (es ++ x ∷ []) v ≡ (if is_known (names_of es) v.name then given ts es v else (if bytes_eq x.var.name v.name then tree_at ts x.id else variable v))
        → (if b then tree_at ts e.id else given ts (es ++ x ∷ []) v)
        ≡ (if b || is_known (names_of es) v.name then (if b then tree_at ts e.id else given ts es v) else (if bytes_eq x.var.name v.name then tree_at ts x.id else variable v))
    by true later = refl
    by false later = later

  module _ (env : List Bound) (below : All (λ (b : Bound). b.id < length ts) env) (x : Bound) (new : is_known (names_of env) x.var.name ≡ false) where
    at_each : (v : Var) → instance (chosen (λ w. tree_at ts x.id) (x.var ∷ [])) (without (given ts env) x.var v) ≡ given ts (env ++ x ∷ []) v
    at_each v = by (bytes_eq x.var.name v.name) refl (given_cases env v below) ∙ sym (given_push env x v) where
      by : (b : Bool) → bytes_eq x.var.name v.name ≡ b → ((is_known (names_of env) v.name ≡ true) × IsGround (given ts env v)) ⊎ ((is_known (names_of env) v.name ≡ false) × (given ts env v ≡ variable v))
          → instance (chosen (λ w. tree_at ts x.id) (x.var ∷ [])) (if b then variable v else given ts env v)
          ≡ (if is_known (names_of env) v.name then given ts env v else (if b then tree_at ts x.id else variable v))
      by true is cases =
          let name : x.var.name ≡ v.name = (bytes_eq-Decides x.var.name v.name).0 is in
          let free : is_known (names_of env) v.name ≡ false = rw name at new in
          rw free (chosen_one (tree_at ts x.id) x.var v ∙ ap (λ b. if b then tree_at ts x.id else variable v) is)
      by false is (inl bound) = rw bound.0 (ground_stays (chosen (λ w. tree_at ts x.id) (x.var ∷ [])) (given ts env v) bound.1)
      by false is (inr free) = rw (free.0, free.1) (chosen_one (tree_at ts x.id) x.var v ∙ ap (λ b. if b then tree_at ts x.id else variable v) is)

    -- the instance under one binding more is what `with_term` says
    pub bound_is : ((p : Proc) (s t : Choice) → ((v : Var) → IsGround (s v) ⊎ (s v ≡ variable v)) → process_instance t (process_instance s p) ≡ process_instance (λ v. instance t (s v)) p)
        → (p : Proc) → process_instance (given ts (env ++ x ∷ [])) p ≡ with_term x.var (tree_at ts x.id) (process_instance (without (given ts env) x.var) p)
    bound_is twice p =
        ap (λ σ. process_instance σ p) (sym (fun_ext at_each)) ∙ sym (twice p (without (given ts env) x.var) (chosen (λ w. tree_at ts x.id) (x.var ∷ [])) fine) where
          fine : (v : Var) → IsGround (without (given ts env) x.var v) ⊎ (without (given ts env) x.var v ≡ variable v)
          fine v = by (bytes_eq x.var.name v.name) (given_cases env v below) where
            by : (b : Bool) → ((is_known (names_of env) v.name ≡ true) × IsGround (given ts env v)) ⊎ ((is_known (names_of env) v.name ≡ false) × (given ts env v ≡ variable v))
                → IsGround (if b then variable v else given ts env v) ⊎ ((if b then variable v else given ts env v) ≡ variable v)
            by true cases = inr refl
            by false (inl bound) = inl bound.1
            by false (inr free) = inr free.1

-- what is bound then
pub one_bound : (s : Shared) → ((k : ℕ) → k < length s.trees → IsGround (tree_at s.trees k)) → (env : List Bound) → AreSmallForms (equations s.sig) MOST_TERM_NODES s.trees env → (x : Bound) → IsSmallNumber s x.id → is_known (names_of env) x.var.name ≡ false
    → ((p : Proc) (s t : Choice) → ((v : Var) → IsGround (s v) ⊎ (s v ≡ variable v)) → process_instance t (process_instance s p) ≡ process_instance (λ v. instance t (s v)) p) → IsBoundTo s env x.var x.id (env ++ x ∷ [])
one_bound s grounds env small x number new twice = record {
  names = map-append (λ (b : Bound). b.var.name) env (x ∷ []);
  small = All-push (λ (b : Bound). IsSmallForm (equations s.sig) MOST_TERM_NODES s.trees b.id) env x small number;
  goes = bound_is s.trees grounds env (λ k d lt. (small k d lt).below) x new twice;
}
