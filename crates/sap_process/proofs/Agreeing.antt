-- Choices that agree on what occurs in a process, and choices that bindings make.
use Rattle.std.proofs.Common.{◌≡◌, subst, List, [], ◌∷◌, ◌++◌, Bool, true, false, Some, cond, map, refl, sym, ap, ◌∙◌}
use Rattle.std.specs.Prelude.{Contains}
use Rattle.std.specs.Option.{option_map_or}
use Rattle.std.specs.Str.{bytes_eq}
use Rattle.std.proofs.lemmas.List.Elements.{Contains-append_left, Contains-append_right}
use Rattle.sap_terms.specs.Choice.{Choice, instance, instances}
use Rattle.sap_terms.specs.Modulo.{instance_fact, instance_facts}
use Rattle.sap_terms.specs.Subst.{bound_to}
use Rattle.sap_terms.specs.Tree.{Tree, variable, public, fresh, apply, Trees, none, more, trees_of}
use Rattle.sap_terms.specs.Variables.{tree_vars, trees_vars, facts_vars}
use Rattle.sap_terms.specs.View.{tree}
use Rattle.sap_terms.specs.declared.binding.Binding.{Binding}
use Rattle.sap_terms.specs.declared.fact.Fact.{Fact}
use Rattle.sap_terms.specs.declared.var.Var.{Var}
use Rattle.sap_process.specs.Action as action
use Rattle.sap_process.specs.Action.{Action}
use Rattle.sap_process.specs.Flaws.{binder_of}
use Rattle.sap_process.specs.Heads.{facts_terms, terms_vars, action_terms}
use Rattle.sap_process.specs.Instance.{action_instance, without, behind, process_instance, process_vars}
use Rattle.sap_process.specs.Proc as whole
use Rattle.sap_process.specs.Proc.{Proc, act}
use Rattle.sap_process.specs.ProcessSteps.{chosen, with_choice}
use Rattle.sap_process.proofs.InstanceLemmas.{one_instance}
use Rattle.sap_process.proofs.Members.{member-head, member-tail}
use Rattle.sap_process.proofs.VarLists.{vars-of-terms, vars-of-facts, facts-append}

-- they agree on these
abbrev Agree : Choice → Choice → List Var → Type 0
Agree s t vs = (v : Var) → Contains vs v → s v ≡ t v

left : (s t : Choice) (vs ws : List Var) → Agree s t (vs ++ ws) → Agree s t vs
left s t vs ws h v m = h v (Contains-append_left vs ws v m)

right : (s t : Choice) (vs ws : List Var) → Agree s t (vs ++ ws) → Agree s t ws
right s t vs ws h v m = h v (Contains-append_right vs ws v m)

mutual
  tree_agree : (s t : Choice) (u : Tree) → Agree s t (tree_vars u) → instance s u ≡ instance t u
  tree_agree s t (variable v) h = h v (member-head v [])
  tree_agree s t (public n) h = refl
  tree_agree s t (fresh k) h = refl
  tree_agree s t (apply f us) h = ap (apply f) (trees_agree s t us h)

  trees_agree : (s t : Choice) (us : Trees) → Agree s t (trees_vars us) → instances s us ≡ instances t us
  trees_agree s t none h = refl
  trees_agree s t (more u us) h =
      λ i. more (tree_agree s t u (left s t (tree_vars u) (trees_vars us) h) i) (trees_agree s t us (right s t (tree_vars u) (trees_vars us) h) i)

list_agree : (s t : Choice) (us : List Tree) → Agree s t (terms_vars us) → map (instance s) us ≡ map (instance t) us
list_agree s t [] h = refl
list_agree s t (u ∷ us) h =
    λ i. tree_agree s t u (left s t (tree_vars u) (terms_vars us) h) i ∷ list_agree s t us (right s t (tree_vars u) (terms_vars us) h) i

fact_agree : (s t : Choice) (f : Fact) → Agree s t (trees_vars (trees_of f.args)) → instance_fact s f ≡ instance_fact t f
fact_agree s t f h =
    let args : map (instance s) f.args ≡ map (instance t) f.args = list_agree s t f.args (subst (Agree s t) (sym (vars-of-terms f.args)) h) in
    λ i. record { name = f.name; persistent = f.persistent; args = args i }

facts_agree : (s t : Choice) (fs : List Fact) → Agree s t (facts_vars fs) → instance_facts s fs ≡ instance_facts t fs
facts_agree s t [] h = refl
facts_agree s t (f ∷ fs) h =
    λ i. fact_agree s t f (left s t (trees_vars (trees_of f.args)) (facts_vars fs) h) i ∷ facts_agree s t fs (right s t (trees_vars (trees_of f.args)) (facts_vars fs) h) i

one : (s t : Choice) (u : Tree) → Agree s t (terms_vars (u ∷ [])) → instance s u ≡ instance t u
one s t u h = tree_agree s t u (left s t (tree_vars u) [] h)

two : (s t : Choice) (u w : Tree) → Agree s t (terms_vars (u ∷ w ∷ [])) → instance s w ≡ instance t w
two s t u w h = one s t w (right s t (tree_vars u) (terms_vars (w ∷ [])) h)

first : (s t : Choice) (u w : Tree) → Agree s t (terms_vars (u ∷ w ∷ [])) → instance s u ≡ instance t u
first s t u w h = tree_agree s t u (left s t (tree_vars u) (terms_vars (w ∷ [])) h)

rule_agree : (s t : Choice) (l e r : List Fact) → Agree s t (terms_vars (facts_terms (l ++ (e ++ r)))) → action_instance s (action.embedded l e r) ≡ action_instance t (action.embedded l e r)
rule_agree s t l e r h =
    let all : Agree s t (facts_vars l ++ facts_vars (e ++ r)) = subst (Agree s t) (vars-of-facts (l ++ (e ++ r)) ∙ facts-append l (e ++ r)) h in
    let later : Agree s t (facts_vars e ++ facts_vars r) = subst (Agree s t) (facts-append e r) (right s t (facts_vars l) (facts_vars (e ++ r)) all) in
    let a : instance_facts s l ≡ instance_facts t l = facts_agree s t l (left s t (facts_vars l) (facts_vars (e ++ r)) all) in
    let b : instance_facts s e ≡ instance_facts t e = facts_agree s t e (left s t (facts_vars e) (facts_vars r) later) in
    let d : instance_facts s r ≡ instance_facts t r = facts_agree s t r (right s t (facts_vars e) (facts_vars r) later) in
    λ i. action.embedded (a i) (b i) (d i)

action_agree : (s t : Choice) (a : Action) → Agree s t (terms_vars (action_terms a)) → action_instance s a ≡ action_instance t a
action_agree s t (action.new x) h = refl
action_agree s t (action.out u) h = ap (λ z. action.out z) (one s t u h)
action_agree s t (action.send u w) h = λ i. action.send (first s t u w h i) (two s t u w h i)
action_agree s t (action.input u) h = ap (λ z. action.input z) (one s t u h)
action_agree s t (action.receive u w) h = λ i. action.receive (first s t u w h i) (two s t u w h i)
action_agree s t (action.event f) h = ap (λ z. action.event z) (fact_agree s t f (subst (Agree s t) (vars-of-terms f.args) h))
action_agree s t (action.insert u w) h = λ i. action.insert (first s t u w h i) (two s t u w h i)
action_agree s t (action.delete u) h = ap (λ z. action.delete z) (one s t u h)
action_agree s t (action.lock u n) h = ap (λ z. action.lock z n) (one s t u h)
action_agree s t (action.unlock u n) h = ap (λ z. action.unlock z n) (one s t u h)
action_agree s t (action.embedded l e r) h = rule_agree s t l e r h

hidden_agree : (s t : Choice) (x : Var) (vs : List Var) → Agree s t vs → Agree (without s x) (without t x) vs
hidden_agree s t x vs h v m = ap (cond (bytes_eq x.name v.name) (variable v)) (h v m)

behind_agree : (s t : Choice) (a : Action) (vs : List Var) → Agree s t vs → Agree (behind s a) (behind t a) vs
behind_agree s t (action.new x) vs h = hidden_agree s t x vs h
behind_agree s t (action.out u) vs h = h
behind_agree s t (action.send u w) vs h = h
behind_agree s t (action.input u) vs h = h
behind_agree s t (action.receive u w) vs h = h
behind_agree s t (action.event f) vs h = h
behind_agree s t (action.insert u w) vs h = h
behind_agree s t (action.delete u) vs h = h
behind_agree s t (action.lock u n) vs h = h
behind_agree s t (action.unlock u n) vs h = h
behind_agree s t (action.embedded l e r) vs h = h

-- two choices that agree on what occurs in the process give one instance
pub agreeing : (p : Proc) (s t : Choice) → Agree s t (process_vars p) → process_instance s p ≡ process_instance t p
agreeing whole.nil s t h = refl
agreeing (whole.parallel p q) s t h =
    λ i. whole.parallel (agreeing p s t (left s t (process_vars p) (process_vars q) h) i) (agreeing q s t (right s t (process_vars p) (process_vars q) h) i)
agreeing (whole.replicated p) s t h = ap whole.replicated (agreeing p s t h)
agreeing (act a p) s t h =
    let vs = terms_vars (action_terms a) in
    λ i. act (action_agree s t a (left s t vs (process_vars p) h) i)
    (agreeing p (behind s a) (behind t a) (behind_agree s t a (process_vars p) (right s t vs (process_vars p) h)) i)
agreeing (whole.test u w p q) s t h =
    let vs = terms_vars (u ∷ w ∷ []) in
    let here : Agree s t vs = left s t vs (process_vars p ++ process_vars q) h in
    let below : Agree s t (process_vars p ++ process_vars q) = right s t vs (process_vars p ++ process_vars q) h in
    λ i. whole.test (first s t u w here i) (two s t u w here i)
    (agreeing p s t (left s t (process_vars p) (process_vars q) below) i) (agreeing q s t (right s t (process_vars p) (process_vars q) below) i)
agreeing (whole.lookup u x p q) s t h =
    let vs = terms_vars (u ∷ []) in
    let here : Agree s t vs = left s t vs (process_vars p ++ process_vars q) h in
    let below : Agree s t (process_vars p ++ process_vars q) = right s t vs (process_vars p ++ process_vars q) h in
    λ i. whole.lookup (one s t u here i) x
    (agreeing p (without s x) (without t x) (hidden_agree s t x (process_vars p) (left s t (process_vars p) (process_vars q) below)) i)
    (agreeing q s t (right s t (process_vars p) (process_vars q) below) i)

-- each term is what the choice says of its variable
abbrev AreChosen : Choice → List Binding → Type 0
AreChosen s b = (e : Binding) → Contains b e → tree e.term ≡ s e.var

bound_chosen : (s : Choice) (b : List Binding) → AreChosen s b → (v : Var) → chosen s (map (λ (e : Binding). e.var) b) v ≡ bound_to b v
bound_chosen s [] h v = refl
bound_chosen s (e ∷ b) h v = go (bytes_eq e.var.name v.name) (bound_chosen s b (λ d m. h d (member-tail e b d m)) v)
  where
    go : (c : Bool) → chosen s (map (λ (d : Binding). d.var) b) v ≡ bound_to b v
        → option_map_or s (cond c (Some e.var) (binder_of (map (λ (d : Binding). d.var) b) v.name)) (variable v) ≡ cond c (tree e.term) (bound_to b v)
    go true later = sym (h e (member-head e b))
    go false later = later

-- what a step puts in is the instance under bindings
pub choice_bindings : (s : Choice) (b : List Binding) → AreChosen s b → (p : Proc) → with_choice s (map (λ (e : Binding). e.var) b) p ≡ process_instance (bound_to b) p
choice_bindings s b h p = one_instance (chosen s (map (λ (e : Binding). e.var) b)) (bound_to b) (bound_chosen s b h) p
