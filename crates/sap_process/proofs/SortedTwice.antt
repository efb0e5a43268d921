-- A sorted process is sorted.
use Rattle.std.proofs.Common.{◌≡◌, List, [], ◌∷◌, ◌++◌, Option, Some, None, map, refl, sym, ap, ◌∙◌}
use Rattle.std.specs.Option.{option_map_or}
use Rattle.sap_terms.specs.Choice.{instance, instances}
use Rattle.sap_terms.specs.Modulo.{instance_fact, instance_facts}
use Rattle.sap_terms.specs.Tree.{Tree, variable, public, fresh, apply, Trees, none, more}
use Rattle.sap_terms.specs.Variables.{tree_vars, facts_vars, new_vars}
use Rattle.sap_terms.specs.declared.fact.Fact.{Fact}
use Rattle.sap_terms.specs.declared.var.Var.{Var}
use Rattle.sap_process.specs.Action as action
use Rattle.sap_process.specs.Action.{Action}
use Rattle.sap_process.specs.Flaws.{binder_of}
use Rattle.sap_process.specs.Instance.{action_instance}
use Rattle.sap_process.specs.Proc as whole
use Rattle.sap_process.specs.Proc.{Proc, act}
use Rattle.sap_process.specs.Sites.{var_names, message_var, bound_by}
use Rattle.sap_process.specs.Sorted.{by_binder, binding_fresh, with_sorts}
use Rattle.sap_process.proofs.SortedVars.{map_joined, sorted, by_sorted, sorted_name, vars_sorted, vars_facts_sorted, new_mapped, sorted_new}

sorted_twice : (w : List Var) (x : Var) → sorted w (sorted w x) ≡ sorted w x
sorted_twice w x = ap (λ n. option_map_or (λ (b : Var). record { name = n; sort = b.sort }) (binder_of w n) (sorted w x)) (sorted_name w x) ∙ go (binder_of w x.name)
  where
    go : (o : Option Var) → option_map_or (λ (b : Var). record { name = x.name; sort = b.sort }) o (option_map_or (λ (b : Var). record { name = x.name; sort = b.sort }) o x) ≡ option_map_or (λ (b : Var). record { name = x.name; sort = b.sort }) o x
    go None = refl
    go (Some b) = refl

mutual
  pub tree_twice : (w : List Var) (t : Tree) → instance (by_binder w) (instance (by_binder w) t) ≡ instance (by_binder w) t
  tree_twice w (variable x) = ap (instance (by_binder w)) (by_sorted w x) ∙ by_sorted w (sorted w x) ∙ ap variable (sorted_twice w x) ∙ sym (by_sorted w x)
  tree_twice w (public a) = refl
  tree_twice w (fresh n) = refl
  tree_twice w (apply f ts) = ap (apply f) (trees_twice w ts)

  trees_twice : (w : List Var) (ts : Trees) → instances (by_binder w) (instances (by_binder w) ts) ≡ instances (by_binder w) ts
  trees_twice w none = refl
  trees_twice w (more t ts) = λ i. more (tree_twice w t i) (trees_twice w ts i)

list_twice : (w : List Var) (ts : List Tree) → map (instance (by_binder w)) (map (instance (by_binder w)) ts) ≡ map (instance (by_binder w)) ts
list_twice w [] = refl
list_twice w (t ∷ ts) = λ i. tree_twice w t i ∷ list_twice w ts i

fact_twice : (w : List Var) (f : Fact) → instance_fact (by_binder w) (instance_fact (by_binder w) f) ≡ instance_fact (by_binder w) f
fact_twice w f = λ i. record { name = f.name; persistent = f.persistent; args = list_twice w f.args i }

facts_twice : (w : List Var) (fs : List Fact) → instance_facts (by_binder w) (instance_facts (by_binder w) fs) ≡ instance_facts (by_binder w) fs
facts_twice w [] = refl
facts_twice w (f ∷ fs) = λ i. fact_twice w f i ∷ facts_twice w fs i

-- an action once sorted, where these are in scope
abbrev pub sorted_action : List Var → Action → Action
sorted_action v a = binding_fresh (action_instance (by_binder (v ++ bound_by v a)) a)

-- the new variables of a list stay what they are
pub new_stay : (v ws : List Var) → new_vars (var_names v) (map (sorted (v ++ new_vars (var_names v) ws)) ws) ≡ new_vars (var_names v) ws
new_stay v ws = new_mapped (sorted (v ++ new_vars (var_names v) ws)) (sorted_name (v ++ new_vars (var_names v) ws)) (var_names v) (var_names v) ws (λ n k. refl) ∙ sorted_new v ws

-- the same of the three sides of a rule
pub sides_stay : (v : List Var) (l e r : List Fact) → (let w = v ++ new_vars (var_names v) (facts_vars (l ++ (e ++ r))) in new_vars (var_names v) (facts_vars (instance_facts (by_binder w) l ++ (instance_facts (by_binder w) e ++ instance_facts (by_binder w) r))) ≡ new_vars (var_names v) (facts_vars (l ++ (e ++ r))))
sides_stay v l e r =
    let w = v ++ new_vars (var_names v) (facts_vars (l ++ (e ++ r))) in
    let joined : instance_facts (by_binder w) (l ++ (e ++ r)) ≡ instance_facts (by_binder w) l ++ (instance_facts (by_binder w) e ++ instance_facts (by_binder w) r) = map_joined (instance_fact (by_binder w)) l (e ++ r) ∙ ap (λ z. instance_facts (by_binder w) l ++ z) (map_joined (instance_fact (by_binder w)) e r) in
    ap (λ z. new_vars (var_names v) (facts_vars z)) (sym joined) ∙ ap (new_vars (var_names v)) (vars_facts_sorted w (l ++ (e ++ r))) ∙ new_stay v (facts_vars (l ++ (e ++ r)))

-- a sorted action binds what the action binds
pub bound_stays : (v : List Var) (a : Action) → bound_by v (sorted_action v a) ≡ bound_by v a
bound_stays v (action.new x) = refl
bound_stays v (action.out t) = refl
bound_stays v (action.send t u) = refl
bound_stays v (action.input t) = ap (new_vars (var_names v)) (vars_sorted (v ++ new_vars (var_names v) (tree_vars t)) t) ∙ new_stay v (tree_vars t)
bound_stays v (action.receive t u) = ap (new_vars (var_names v)) (vars_sorted (v ++ new_vars (var_names v) (tree_vars u)) u) ∙ new_stay v (tree_vars u)
bound_stays v (action.event f) = refl
bound_stays v (action.insert t u) = refl
bound_stays v (action.delete t) = refl
bound_stays v (action.lock t i) = refl
bound_stays v (action.unlock t i) = refl
bound_stays v (action.embedded l e r) = sides_stay v l e r

-- and sorted in the same scope it stays
action_again : (w : List Var) (a : Action) → binding_fresh (action_instance (by_binder w) (binding_fresh (action_instance (by_binder w) a))) ≡ binding_fresh (action_instance (by_binder w) a)
action_again w (action.new x) = refl
action_again w (action.out t) = ap (λ z. action.out z) (tree_twice w t)
action_again w (action.send t u) = λ i. action.send (tree_twice w t i) (tree_twice w u i)
action_again w (action.input t) = ap (λ z. action.input z) (tree_twice w t)
action_again w (action.receive t u) = λ i. action.receive (tree_twice w t i) (tree_twice w u i)
action_again w (action.event f) = ap (λ z. action.event z) (fact_twice w f)
action_again w (action.insert t u) = λ i. action.insert (tree_twice w t i) (tree_twice w u i)
action_again w (action.delete t) = ap (λ z. action.delete z) (tree_twice w t)
action_again w (action.lock t n) = ap (λ z. action.lock z n) (tree_twice w t)
action_again w (action.unlock t n) = ap (λ z. action.unlock z n) (tree_twice w t)
action_again w (action.embedded l e r) = λ i. action.embedded (facts_twice w l i) (facts_twice w e i) (facts_twice w r i)

pub action_twice : (v : List Var) (a : Action) → sorted_action v (sorted_action v a) ≡ sorted_action v a
action_twice v a = ap (λ ns. binding_fresh (action_instance (by_binder (v ++ ns)) (sorted_action v a))) (bound_stays v a) ∙ action_again (v ++ bound_by v a) a

pub sorted_once : (v : List Var) (p : Proc) → with_sorts v (with_sorts v p) ≡ with_sorts v p
sorted_once v whole.nil = refl
sorted_once v (whole.parallel p q) = λ i. whole.parallel (sorted_once v p i) (sorted_once v q i)
sorted_once v (whole.replicated p) = λ i. whole.replicated (sorted_once v p i)
sorted_once v (act a p) = λ i. act (action_twice v a i) ((ap (λ ns. with_sorts (v ++ ns) (with_sorts (v ++ bound_by v a) p)) (bound_stays v a) ∙ sorted_once (v ++ bound_by v a) p) i)
sorted_once v (whole.test t u p q) = λ i. whole.test (tree_twice v t i) (tree_twice v u i) (sorted_once v p i) (sorted_once v q i)
sorted_once v (whole.lookup t x p q) = λ i. whole.lookup (tree_twice v t i) (message_var x) (sorted_once (v ++ message_var x ∷ []) p i) (sorted_once v q i)
