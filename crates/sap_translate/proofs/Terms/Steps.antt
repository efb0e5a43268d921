-- Steps that put in what they bind, with the choice of what is then in scope.
use Rattle.std.proofs.Common.{◌≡◌, ℕ, List, [], ◌∷◌, ◌++◌, Some, subst}
use Rattle.sap_terms.specs.AdversaryFacts.{k_fact}
use Rattle.sap_terms.specs.Choice.{Choice, instance}
use Rattle.sap_terms.specs.Equal.{IsTheoryEqual}
use Rattle.sap_terms.specs.Equations.{equations, app2, pair_name}
use Rattle.sap_terms.specs.Message.{IsMessageChoice}
use Rattle.sap_terms.specs.Modulo.{instance_facts, AreEqualFacts, AreFormsOfFacts}
use Rattle.sap_terms.specs.Normal.{IsNormalForm}
use Rattle.sap_terms.specs.Piles.{Pile, Takes, adds}
use Rattle.sap_terms.specs.Signature.{Sig}
use Rattle.sap_terms.specs.Tree.{Tree, fresh}
use Rattle.sap_terms.specs.Variables.{tree_vars, facts_vars}
use Rattle.sap_terms.specs.declared.fact.Fact.{Fact}
use Rattle.sap_terms.specs.declared.var.Var.{Var}
use Rattle.sap_process.specs.Action as action
use Rattle.sap_process.specs.Configuration.{Config, Runs, becomes, makes, leaves, IsUnused, CanGive}
use Rattle.sap_process.specs.Instance.{process_instance}
use Rattle.sap_process.specs.Proc as whole
use Rattle.sap_process.specs.Proc.{Proc, act}
use Rattle.sap_process.specs.ProcessSteps.{ProcessStep, Fits}
use Rattle.sap_translate.specs.relation.Envs.{bind, just, chosen}
use Rattle.sap_translate.proofs.Terms.Substitution.{with_choice_is, with_term_is}

pub step_makes_name : {g : Sig} {c : Config} {x : Var} {p : Proc} (t n : ℕ) → Runs c t (act (action.new x) p) → IsUnused c n → ProcessStep g c [] (makes (becomes c t (Some (process_instance (chosen (just x (fresh n))) p))) n)
step_makes_name {g} {c} {x = x} {p = p} t n r u = subst (λ q. ProcessStep g c [] (makes (becomes c t (Some q)) n)) (with_term_is x (fresh n) p) (ProcessStep.makes_name t n r u)

pub step_inputs : {g : Sig} {c : Config} {n x : Tree} {p : Proc} (t : ℕ) (σ : Choice) → Runs c t (act (action.input n) p) → CanGive g c x → Fits g σ n x → ProcessStep g c (k_fact x ∷ []) (becomes c t (Some (process_instance (chosen (bind σ (tree_vars n))) p)))
step_inputs {g} {c} {n = n} {x = x} {p = p} t σ r h f = subst (λ q. ProcessStep g c (k_fact x ∷ []) (becomes c t (Some q))) (with_choice_is σ (tree_vars n) p) (ProcessStep.inputs t σ r h f)

pub step_inputs_on : {g : Sig} {c : Config} {m n x : Tree} {p : Proc} (t : ℕ) (σ : Choice) → Runs c t (act (action.receive m n) p) → CanGive g c x → IsMessageChoice g σ → IsTheoryEqual (equations g) (app2 pair_name m (instance σ n)) x → ProcessStep g c (k_fact x ∷ []) (becomes c t (Some (process_instance (chosen (bind σ (tree_vars n))) p)))
step_inputs_on {g} {c} {n = n} {x = x} {p = p} t σ r h good f = subst (λ q. ProcessStep g c (k_fact x ∷ []) (becomes c t (Some q))) (with_choice_is σ (tree_vars n) p) (ProcessStep.inputs_on t σ r h good f)

pub step_meets : {g : Sig} {c : Config} {m n l r : Tree} {p q : Proc} (s t : ℕ) (σ : Choice) → Runs c s (act (action.send m n) p) → Runs c t (act (action.receive l r) q) → IsTheoryEqual (equations g) m l → Fits g σ r n → ProcessStep g c [] (becomes (becomes c s (Some p)) t (Some (process_instance (chosen (bind σ (tree_vars r))) q)))
step_meets {g} {c} {r = r} {p = p} {q = q} s t σ a b e f = subst (λ u. ProcessStep g c [] (becomes (becomes c s (Some p)) t (Some u))) (with_choice_is σ (tree_vars r) q) (ProcessStep.meets s t σ a b e f)

pub step_finds : {g : Sig} {c : Config} {m k v : Tree} {x : Var} {p q : Proc} (t : ℕ) → Runs c t (whole.lookup m x p q) → IsNormalForm (equations g) m k → c.store k ≡ Some v → ProcessStep g c [] (becomes c t (Some (process_instance (chosen (just x v)) p)))
step_finds {g} {c} {v = v} {x = x} {p = p} t r f h = subst (λ u. ProcessStep g c [] (becomes c t (Some u))) (with_term_is x v p) (ProcessStep.finds t r f h)

pub step_embeds : {g : Sig} {c : Config} {l e r : List Fact} {rest : Pile} {p : Proc} (t : ℕ) (ks : List ℕ) (σ : Choice) (left acts right : List Fact) → Runs c t (act (action.embedded l e r) p) → IsMessageChoice g σ → AreEqualFacts (equations g) (instance_facts σ l) left → Takes c.facts ks left rest → AreFormsOfFacts (equations g) (instance_facts σ e) acts → AreFormsOfFacts (equations g) (instance_facts σ r) right → ProcessStep g c acts (leaves (becomes c t (Some (process_instance (chosen (bind σ (facts_vars (l ++ (e ++ r))))) p))) (adds rest right))
step_embeds {g} {c} {l = l} {e = e} {r = r} {rest = rest} {p = p} t ks σ left acts right runs good equal takes shows gives = subst (λ u. ProcessStep g c acts (leaves (becomes c t (Some u)) (adds rest right))) (with_choice_is σ (facts_vars (l ++ (e ++ r))) p) (ProcessStep.embeds t ks σ left acts right runs good equal takes shows gives)
