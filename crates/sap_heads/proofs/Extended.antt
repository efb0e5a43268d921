-- What bindings choose that extend what is bound by the new variables of a term.
use Rattle.std.proofs.Common.{◌≡◌, ◌<◌, ℕ, true, false, List, [], ◌∷◌, ◌++◌, length, if◌then◌else◌, refl, sym, ap, subst, ◌∙◌, ◌⊎◌, inl, inr}
use Rattle.std.specs.Prelude.{All, Contains}
use Rattle.std.specs.Option.{option_map_or}
use Rattle.std.proofs.Math.Path.{fun_ext}
use Rattle.std.specs.Str.{bytes_eq}
use Rattle.sap_terms.specs.Choice.{Choice, instance, instances}
use Rattle.sap_terms.specs.Equations.{equations}
use Rattle.sap_terms.specs.Ground.{IsGround}
use Rattle.sap_terms.specs.Message.{IsMessage, IsMessageChoice}
use Rattle.sap_terms.specs.Signature.{Sig}
use Rattle.sap_terms.specs.Subst.{bound_to}
use Rattle.sap_terms.specs.Tree.{Tree, variable, public, fresh, apply, Trees, none, more}
use Rattle.sap_terms.specs.Variables.{tree_vars, is_known, new_vars}
use Rattle.sap_terms.specs.View.{tree, tree-term}
use Rattle.sap_terms.specs.declared.binding.Binding.{Binding}
use Rattle.sap_terms.specs.declared.limits.TheConstants.{MOST_TERM_NODES}
use Rattle.sap_terms.specs.declared.var.Var.{Var}
use Rattle.sap_rewrite.specs.Bound.{AreNamedOnce, NamedOnceStay, BindingsGiveChoices}
use Rattle.sap_rewrite.specs.Match.{Agrees, HaveOneSort, bound_vars, names}
use Rattle.sap_process.specs.Instance.{process_instance}
use Rattle.sap_process.specs.Proc.{Proc}
use Rattle.sap_process.specs.ProcessSteps.{chosen, with_choice}
use Rattle.sap_process.specs.Sites.{var_names}
use Rattle.sap_share.specs.Env.{given, bindings_of, AreSmallForms}
use Rattle.sap_share.specs.Shared.{tree_at}
use Rattle.sap_share.specs.declared.env.Bound.{Bound}
use Rattle.sap_heads.specs.Bound.{names_of}
use Rattle.sap_heads.proofs.Binds.{given_cases, ground_stays}
use Rattle.sap_heads.proofs.Chosen.{bound_append, binder_new, chosen_bound, chosen_itself, binder_stays}
use Rattle.sap_terms.proofs.PlainLaws.Choices.{tree_agree}

-- an instance of an instance is one instance
mutual
  pub instance_twice : (σ γ : Choice) (t : Tree) → instance σ (instance γ t) ≡ instance (λ v. instance σ (γ v)) t
  instance_twice σ γ (variable v) = refl
  instance_twice σ γ (public n) = refl
  instance_twice σ γ (fresh k) = refl
  instance_twice σ γ (apply f ts) = ap (apply f) (instances_twice σ γ ts)

  instances_twice : (σ γ : Choice) (ts : Trees) → instances σ (instances γ ts) ≡ instances (λ v. instance σ (γ v)) ts
  instances_twice σ γ none = refl
  instances_twice σ γ (more t ts) = λ i. more (instance_twice σ γ t i) (instances_twice σ γ ts i)

-- bindings and choices by numbers
pub given_bound : (ts : List Tree) (env : List Bound) (v : Var) → bound_to (bindings_of ts env) v ≡ given ts env v
given_bound ts [] v = refl
given_bound ts (e ∷ es) v = let here = tree-term (tree_at ts e.id) in let later = given_bound ts es v in λ i. if bytes_eq e.var.name v.name then here i else later i

pub names_bound : (ts : List Tree) (env : List Bound) → names (bindings_of ts env) ≡ names_of env
names_bound ts [] = refl
names_bound ts (e ∷ es) = ap (λ ns. e.var.name ∷ ns) (names_bound ts es)

pub names_append : (a b : List Binding) → names (a ++ b) ≡ names a ++ var_names (bound_vars b)
names_append [] [] = refl
names_append [] (e ∷ es) = ap (λ ns. e.var.name ∷ ns) (names_append [] es)
names_append (e ∷ es) b = ap (λ ns. e.var.name ∷ ns) (names_append es b)

module _ (g : Sig) (ts : List Tree) (grounds : (k : ℕ) → k < length ts → IsGround (tree_at ts k)) (env : List Bound) (small : AreSmallForms (equations g) MOST_TERM_NODES ts env) (n : Tree) (one : HaveOneSort (tree_vars n)) where
  pub cases : (v : Var) → ((is_known (names_of env) v.name ≡ true) × IsGround (given ts env v)) ⊎ ((is_known (names_of env) v.name ≡ false) × (given ts env v ≡ variable v))
  cases v = given_cases ts grounds env v (λ k d lt. (small k d lt).below)

  -- what bindings of the term's new variables choose
  module _ (a : List Binding) (σ : Choice) (agrees : Agrees a σ) (on : bound_vars a ≡ new_vars (names_of env) (tree_vars n)) where
    pub new_chosen : (v : Var) → is_known (names_of env) v.name ≡ false → bound_to a v ≡ chosen σ (tree_vars n) v
    new_chosen v free = chosen_bound a σ agrees v ∙ ap (λ vs. chosen σ vs v) on ∙ ap (λ o. option_map_or σ o (variable v)) (binder_new (names_of env) (tree_vars n) v.name free)

    -- together with what is bound, they give each of the term's variables what it stands for
    pub each_turned : (v : Var) → Contains (tree_vars n) v → bound_to (bindings_of ts env ++ a) v ≡ instance σ (given ts env v)
    each_turned v m = bound_append (bindings_of ts env) a v ∙ ap (λ ns. if is_known ns v.name then bound_to (bindings_of ts env) v else bound_to a v) (names_bound ts env) ∙ by (cases v) where
      by : ((is_known (names_of env) v.name ≡ true) × IsGround (given ts env v)) ⊎ ((is_known (names_of env) v.name ≡ false) × (given ts env v ≡ variable v))
          → (if is_known (names_of env) v.name then bound_to (bindings_of ts env) v else bound_to a v) ≡ instance σ (given ts env v)
      by (inl bound) = rw bound.0 (given_bound ts env v ∙ sym (ground_stays σ (given ts env v) bound.1))
      by (inr free) = rw (free.0, free.1) (new_chosen v free.0 ∙ chosen_itself σ (tree_vars n) one v m)

    -- they turn the term into the instance of its instance
    pub turned : instance (bound_to (bindings_of ts env ++ a)) n ≡ instance σ (instance (given ts env) n)
    turned = tree_agree (bound_to (bindings_of ts env ++ a)) (λ v. instance σ (given ts env v)) n each_turned ∙ sym (instance_twice σ (given ts env) n)

  -- bindings of the term's new variables
  module _ (added : List Binding) (on : bound_vars added ≡ new_vars (names_of env) (tree_vars n)) (once : NamedOnceStay) where
    pub named_once : AreNamedOnce (bound_vars added)
    named_once = subst AreNamedOnce (sym on) (once.first_occurrences (names_of env) (tree_vars n))

    -- to messages
    module _ (messages : All (λ (e : Binding). IsMessage g e.var.sort (tree e.term)) added) (give : BindingsGiveChoices) where
      choice : (σ : Choice) × IsMessageChoice g σ × Agrees added σ
      choice = give g added named_once messages

      pub new_choice : Choice
      new_choice = choice.0

      pub choice_messages : IsMessageChoice g new_choice
      unfolding new_choice choice
      choice_messages = choice.1

      pub choice_agrees : Agrees added new_choice
      unfolding new_choice choice
      choice_agrees = choice.2

  -- an environment that is longer by them
  module _ (added : List Binding) (on : bound_vars added ≡ new_vars (names_of env) (tree_vars n)) (new : List Bound) (is : bindings_of ts new ≡ bindings_of ts env ++ added) where
    pub given_new : (v : Var) → given ts new v ≡ (if is_known (names_of env) v.name then given ts env v else bound_to added v)
    given_new v =
        sym (given_bound ts new v) ∙ ap (λ b. bound_to b v) is ∙ bound_append (bindings_of ts env) added v ∙ ap (λ ns. if is_known ns v.name then bound_to (bindings_of ts env) v else bound_to added v) (names_bound ts env)
        ∙ ap (λ t. if is_known (names_of env) v.name then t else bound_to added v) (given_bound ts env v)

    pub new_names : names_of new ≡ names_of env ++ var_names (new_vars (names_of env) (tree_vars n))
    new_names = sym (names_bound ts new) ∙ ap names is ∙ names_append (bindings_of ts env) added ∙ (λ i. names_bound ts env i ++ var_names (on i))

    module _ (σ : Choice) (agrees : Agrees added σ) where
      pub given_turned : (v : Var) → Contains (tree_vars n) v → given ts new v ≡ instance σ (given ts env v)
      given_turned v m = sym (given_bound ts new v) ∙ ap (λ b. bound_to b v) is ∙ each_turned added σ agrees on v m

      -- the instance under all that is bound is what `with_choice` says
      pub choice_is : ((p : Proc) (s t : Choice) → ((v : Var) → IsGround (s v) ⊎ (s v ≡ variable v)) → process_instance t (process_instance s p) ≡ process_instance (λ v. instance t (s v)) p)
          → (p : Proc) → process_instance (given ts new) p ≡ with_choice σ (tree_vars (instance (given ts env) n)) (process_instance (given ts env) p)
      choice_is twice p =
          ap (λ τ. process_instance τ p) (fun_ext at_each) ∙ sym (twice p (given ts env) (chosen σ (tree_vars (instance (given ts env) n))) (λ v. elim (cases v) [ inl bound ↦ inl bound.1 | inr free ↦ inr free.1 ])) where
            at_each : (v : Var) → given ts new v ≡ instance (chosen σ (tree_vars (instance (given ts env) n))) (given ts env v)
            at_each v = given_new v ∙ by (cases v) where
              by : ((is_known (names_of env) v.name ≡ true) × IsGround (given ts env v)) ⊎ ((is_known (names_of env) v.name ≡ false) × (given ts env v ≡ variable v))
                  → (if is_known (names_of env) v.name then given ts env v else bound_to added v) ≡ instance (chosen σ (tree_vars (instance (given ts env) n))) (given ts env v)
              by (inl bound) = rw bound.0 (sym (ground_stays (chosen σ (tree_vars (instance (given ts env) n))) (given ts env v) bound.1))
              by (inr free) = rw (free.0, free.1) (new_chosen added σ agrees on v free.0 ∙ sym (ap (λ o. option_map_or σ o (variable v)) (binder_stays (names_of env) (given ts env) cases v.name free.0 n)))
