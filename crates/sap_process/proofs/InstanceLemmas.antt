-- Instances of processes under choices that change nothing.
use Rattle.std.proofs.Common.{◌≡◌, ◌⊎◌, List, [], ◌∷◌, map, refl, ap, ◌∙◌, inl, inr}
use Rattle.std.proofs.Math.Path.{fun_ext}
use Rattle.std.proofs.lemmas.Bool.{cases_Bool}
use Rattle.std.specs.Str.{bytes_eq}
use Rattle.sap_terms.specs.Choice.{Choice, instance, instances}
use Rattle.sap_terms.specs.Ground.{IsGround, AreGround}
use Rattle.sap_terms.specs.Modulo.{instance_fact, instance_facts}
use Rattle.sap_terms.specs.Tree.{Tree, variable, public, fresh, apply, Trees, none, more}
use Rattle.sap_terms.specs.declared.fact.Fact.{Fact}
use Rattle.sap_terms.specs.declared.var.Var.{Var}
use Rattle.sap_process.specs.Action.{Action, new, out, send, input, receive, event, insert, delete, lock, unlock, embedded}
use Rattle.sap_process.specs.Instance.{action_instance, without, behind, process_instance}
use Rattle.sap_process.specs.Proc.{Proc, nil, parallel, replicated, act, test, lookup}

abbrev unchanged : Choice
unchanged v = variable v

mutual
  tree_unchanged : (t : Tree) → instance unchanged t ≡ t
  tree_unchanged (variable v) = refl
  tree_unchanged (public n) = refl
  tree_unchanged (fresh k) = refl
  tree_unchanged (apply f ts) = ap (apply f) (trees_unchanged ts)

  trees_unchanged : (ts : Trees) → instances unchanged ts ≡ ts
  trees_unchanged none = refl
  trees_unchanged (more t ts) = λ i. more (tree_unchanged t i) (trees_unchanged ts i)

all_unchanged : (ts : List Tree) → map (instance unchanged) ts ≡ ts
all_unchanged [] = refl
all_unchanged (t ∷ ts) = λ i. tree_unchanged t i ∷ all_unchanged ts i

fact_unchanged : (f : Fact) → instance_fact unchanged f ≡ f
fact_unchanged f = λ i. record { name = f.name; persistent = f.persistent; args = all_unchanged f.args i }

facts_unchanged : (fs : List Fact) → instance_facts unchanged fs ≡ fs
facts_unchanged [] = refl
facts_unchanged (f ∷ fs) = λ i. fact_unchanged f i ∷ facts_unchanged fs i

action_unchanged : (a : Action) → action_instance unchanged a ≡ a
action_unchanged (new x) = refl
action_unchanged (out t) = ap out (tree_unchanged t)
action_unchanged (send t u) = λ i. send (tree_unchanged t i) (tree_unchanged u i)
action_unchanged (input t) = ap input (tree_unchanged t)
action_unchanged (receive t u) = λ i. receive (tree_unchanged t i) (tree_unchanged u i)
action_unchanged (event f) = ap event (fact_unchanged f)
action_unchanged (insert t u) = λ i. insert (tree_unchanged t i) (tree_unchanged u i)
action_unchanged (delete t) = ap delete (tree_unchanged t)
action_unchanged (lock t n) = ap (λ u. lock u n) (tree_unchanged t)
action_unchanged (unlock t n) = ap (λ u. unlock u n) (tree_unchanged t)
action_unchanged (embedded l e r) = λ i. embedded (facts_unchanged l i) (facts_unchanged e i) (facts_unchanged r i)

-- nothing is left to hide
without_unchanged : (x : Var) → without unchanged x ≡ unchanged
without_unchanged x = fun_ext (λ v. elim (cases_Bool (bytes_eq x.name v.name)) [ inl hidden ↦ rw hidden refl | inr other ↦ rw other refl ])

behind_unchanged : (a : Action) → behind unchanged a ≡ unchanged
behind_unchanged (new x) = without_unchanged x
behind_unchanged a = refl

pub process_unchanged : (p : Proc) → process_instance unchanged p ≡ p
process_unchanged nil = refl
process_unchanged (parallel p q) = λ i. parallel (process_unchanged p i) (process_unchanged q i)
process_unchanged (replicated p) = ap replicated (process_unchanged p)
process_unchanged (act a p) =
    λ i. act (action_unchanged a i) ((ap (λ s. process_instance s p) (behind_unchanged a) ∙ process_unchanged p) i)
process_unchanged (test t u p q) = λ i. test (tree_unchanged t i) (tree_unchanged u i) (process_unchanged p i) (process_unchanged q i)
process_unchanged (lookup t x p q) =
    λ i. lookup (tree_unchanged t i) x ((ap (λ s. process_instance s p) (without_unchanged x) ∙ process_unchanged p) i) (process_unchanged q i)

pub one_instance : (s t : Choice) → ((v : Var) → s v ≡ t v) → (p : Proc) → process_instance s p ≡ process_instance t p
one_instance s t h p = ap (λ c. process_instance c p) (fun_ext h)

-- one choice after another
abbrev then : Choice → Choice → Choice
then s t v = instance t (s v)

mutual
  tree_twice : (s t : Choice) (u : Tree) → instance t (instance s u) ≡ instance (then s t) u
  tree_twice s t (variable v) = refl
  tree_twice s t (public n) = refl
  tree_twice s t (fresh k) = refl
  tree_twice s t (apply f us) = ap (apply f) (trees_twice s t us)

  trees_twice : (s t : Choice) (us : Trees) → instances t (instances s us) ≡ instances (then s t) us
  trees_twice s t none = refl
  trees_twice s t (more u us) = λ i. more (tree_twice s t u i) (trees_twice s t us i)

all_twice : (s t : Choice) (us : List Tree) → map (instance t) (map (instance s) us) ≡ map (instance (then s t)) us
all_twice s t [] = refl
all_twice s t (u ∷ us) = λ i. tree_twice s t u i ∷ all_twice s t us i

fact_twice : (s t : Choice) (f : Fact) → instance_fact t (instance_fact s f) ≡ instance_fact (then s t) f
fact_twice s t f = λ i. record { name = f.name; persistent = f.persistent; args = all_twice s t f.args i }

facts_twice : (s t : Choice) (fs : List Fact) → instance_facts t (instance_facts s fs) ≡ instance_facts (then s t) fs
facts_twice s t [] = refl
facts_twice s t (f ∷ fs) = λ i. fact_twice s t f i ∷ facts_twice s t fs i

action_twice : (s t : Choice) (a : Action) → action_instance t (action_instance s a) ≡ action_instance (then s t) a
action_twice s t (new x) = refl
action_twice s t (out u) = ap out (tree_twice s t u)
action_twice s t (send u w) = λ i. send (tree_twice s t u i) (tree_twice s t w i)
action_twice s t (input u) = ap input (tree_twice s t u)
action_twice s t (receive u w) = λ i. receive (tree_twice s t u i) (tree_twice s t w i)
action_twice s t (event f) = ap event (fact_twice s t f)
action_twice s t (insert u w) = λ i. insert (tree_twice s t u i) (tree_twice s t w i)
action_twice s t (delete u) = ap delete (tree_twice s t u)
action_twice s t (lock u n) = ap (λ w. lock w n) (tree_twice s t u)
action_twice s t (unlock u n) = ap (λ w. unlock w n) (tree_twice s t u)
action_twice s t (embedded l e r) = λ i. embedded (facts_twice s t l i) (facts_twice s t e i) (facts_twice s t r i)

mutual
  ground_tree : (s : Choice) (u : Tree) → IsGround u → instance s u ≡ u
  ground_tree s (variable v) h = absurd h
  ground_tree s (public n) h = refl
  ground_tree s (fresh k) h = refl
  ground_tree s (apply f us) h = ap (apply f) (ground_trees s us h)

  ground_trees : (s : Choice) (us : Trees) → AreGround us → instances s us ≡ us
  ground_trees s none h = refl
  ground_trees s (more u us) h = λ i. more (ground_tree s u h.0 i) (ground_trees s us h.1 i)

-- each variable stands for a ground term, or is left as it is
abbrev IsPartial : Choice → Type 0
IsPartial s = (v : Var) → IsGround (s v) ⊎ (s v ≡ variable v)

-- a choice that leaves some variables as they are still does so where more are left
still_partial : (s : Choice) (x : Var) → IsPartial s → IsPartial (without s x)
still_partial s x h v = elim (cases_Bool (bytes_eq x.name v.name)) [
  | inl hidden ↦ inr (rw hidden refl)
  | inr other ↦ rw other (h v)
]

-- one choice after another, both without a name
without_twice : (s t : Choice) (x : Var) → IsPartial s → then (without s x) (without t x) ≡ without (then s t) x
without_twice s t x h = fun_ext (λ v. elim (cases_Bool (bytes_eq x.name v.name)) [
  | inl hidden ↦ rw (hidden, hidden) refl
  | inr other ↦ elim (h v) [
    | inl ground ↦ rw (other, ground_tree (without t x) (s v) ground, ground_tree t (s v) ground) refl
    | inr left ↦ rw (other, left, other) refl
  ]
])

-- of this process two instances, one after another, are one
abbrev AreOne : Proc → Choice → Choice → Type 0
AreOne p s t = process_instance t (process_instance s p) ≡ process_instance (then s t) p

hidden_twice : (p : Proc) → ((s t : Choice) → IsPartial s → AreOne p s t) → (s t : Choice) → IsPartial s → (x : Var)
    → process_instance (without t x) (process_instance (without s x) p) ≡ process_instance (without (then s t) x) p
hidden_twice p one s t h x =
    one (without s x) (without t x) (still_partial s x h) ∙ ap (λ c. process_instance c p) (without_twice s t x h)

behind_twice : (p : Proc) → ((s t : Choice) → IsPartial s → AreOne p s t) → (s t : Choice) → IsPartial s → (a : Action)
    → process_instance (behind t (action_instance s a)) (process_instance (behind s a) p) ≡ process_instance (behind (then s t) a) p
behind_twice p one s t h (new x) = hidden_twice p one s t h x
behind_twice p one s t h a = one s t h

pub process_twice : (p : Proc) (s t : Choice) → IsPartial s → AreOne p s t
process_twice nil s t h = refl
process_twice (parallel p q) s t h = λ i. parallel (process_twice p s t h i) (process_twice q s t h i)
process_twice (replicated p) s t h = ap replicated (process_twice p s t h)
process_twice (act a p) s t h = λ i. act (action_twice s t a i) (behind_twice p (process_twice p) s t h a i)
process_twice (test u w p q) s t h =
    λ i. test (tree_twice s t u i) (tree_twice s t w i) (process_twice p s t h i) (process_twice q s t h i)
process_twice (lookup u x p q) s t h =
    λ i. lookup (tree_twice s t u i) x (hidden_twice p (process_twice p) s t h x i) (process_twice q s t h i)
