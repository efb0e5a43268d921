-- A variable that a process does not use may be bound (the variables of locks).
use Rattle.sap_translate.specs.OpenLocks.{EachVar, EachVarOf, EachVarIn, FactVars, ProcessVars}
use Rattle.sap_process.specs.Instance.{process_instance, without}
use Rattle.sap_process.specs.Proc.{Proc, act}
use Rattle.sap_terms.specs.Choice.{Choice, instance, instances}
use Rattle.sap_terms.specs.Modulo.{instance_fact}
use Rattle.sap_terms.specs.Tree.{Tree, variable, public, fresh, apply, Trees, none, more}
use Rattle.sap_terms.specs.declared.fact.Fact.{Fact}
use Rattle.sap_terms.specs.declared.var.Var.{Var}
use Rattle.std.proofs.Common.{◌≡◌, List, [], ◌∷◌, refl, ap, map}
use Rattle.sap_process.specs.Action as action
use Rattle.sap_process.specs.Proc as whole

-- two substitutions that agree where P holds
abbrev pub Agree : (Var → Type 0) → Choice → Choice → Type 0
Agree P σ τ = (x : Var) → P x → σ x ≡ τ x

without_agree : (P : Var → Type 0) (σ τ : Choice) (x : Var) → Agree P σ τ → Agree P (without σ x) (without τ x)
without_agree P σ τ x h y p = ap (λ o. without_of o y) (h y p)
  where
    without_of : Tree → Var → Tree
    without_of o y = without (λ _. o) x y

mutual
  pub put_same_on : (P : Var → Type 0) (σ τ : Choice) → Agree P σ τ → (t : Tree) → EachVar P t → instance σ t ≡ instance τ t
  put_same_on P σ τ h (variable x) w = h x w
  put_same_on P σ τ h (public a) w = refl
  put_same_on P σ τ h (fresh n) w = refl
  put_same_on P σ τ h (apply f ts) w = ap (apply f) (put_each_same_on P σ τ h ts w)

  put_each_same_on : (P : Var → Type 0) (σ τ : Choice) → Agree P σ τ → (ts : Trees) → EachVarOf P ts → instances σ ts ≡ instances τ ts
  put_each_same_on P σ τ h none w = refl
  put_each_same_on P σ τ h (more t ts) w = λ i. more (put_same_on P σ τ h t w.0 i) (put_each_same_on P σ τ h ts w.1 i)

terms_same_on : (P : Var → Type 0) (σ τ : Choice) → Agree P σ τ → (ts : List Tree) → EachVarIn P ts → map (instance σ) ts ≡ map (instance τ) ts
terms_same_on P σ τ h [] w = refl
terms_same_on P σ τ h (t ∷ ts) w = λ i. put_same_on P σ τ h t w.0 i ∷ terms_same_on P σ τ h ts w.1 i

fact_same_on : (P : Var → Type 0) (σ τ : Choice) → Agree P σ τ → (f : Fact) → EachVarIn P f.args → instance_fact σ f ≡ instance_fact τ f
fact_same_on P σ τ h f w = λ i. record { name = f.name; persistent = f.persistent; args = terms_same_on P σ τ h f.args w i }

facts_same_on : (P : Var → Type 0) (σ τ : Choice) → Agree P σ τ → (fs : List Fact) → FactVars P fs → map (instance_fact σ) fs ≡ map (instance_fact τ) fs
facts_same_on P σ τ h [] w = refl
facts_same_on P σ τ h (f ∷ fs) w = λ i. fact_same_on P σ τ h f w.0 i ∷ facts_same_on P σ τ h fs w.1 i

-- an instance does not depend on what stands for variables that the process does not use
pub instance_same_on : (P : Var → Type 0) (σ τ : Choice) → Agree P σ τ → (p : Proc) → ProcessVars P p → process_instance σ p ≡ process_instance τ p
instance_same_on P σ τ h whole.nil w = refl
instance_same_on P σ τ h (whole.parallel p q) w = λ i. whole.parallel (instance_same_on P σ τ h p w.0 i) (instance_same_on P σ τ h q w.1 i)
instance_same_on P σ τ h (whole.replicated p) w = ap (λ q. whole.replicated q) (instance_same_on P σ τ h p w)
instance_same_on P σ τ h (act (action.new x) p) w = ap (λ q. act (action.new x) q) (instance_same_on P (without σ x) (without τ x) (without_agree P σ τ x h) p w.1)
instance_same_on P σ τ h (act (action.out m) p) w = λ i. act (action.out (put_same_on P σ τ h m w.0 i)) (instance_same_on P σ τ h p w.1 i)
instance_same_on P σ τ h (act (action.input m) p) w = λ i. act (action.input (put_same_on P σ τ h m w.0 i)) (instance_same_on P σ τ h p w.1 i)
instance_same_on P σ τ h (act (action.event f) p) w = λ i. act (action.event (fact_same_on P σ τ h f w.0 i)) (instance_same_on P σ τ h p w.1 i)
instance_same_on P σ τ h (whole.test m n p q) w = λ i. whole.test (put_same_on P σ τ h m w.0 i) (put_same_on P σ τ h n w.1 i) (instance_same_on P σ τ h p w.2 i) (instance_same_on P σ τ h q w.3 i)
instance_same_on P σ τ h (act (action.send m n) p) w = λ i. act (action.send (put_same_on P σ τ h m w.0.0 i) (put_same_on P σ τ h n w.0.1 i)) (instance_same_on P σ τ h p w.1 i)
instance_same_on P σ τ h (act (action.receive m n) p) w = λ i. act (action.receive (put_same_on P σ τ h m w.0.0 i) (put_same_on P σ τ h n w.0.1 i)) (instance_same_on P σ τ h p w.1 i)
instance_same_on P σ τ h (act (action.embedded l a r) p) w = λ i. act (action.embedded (facts_same_on P σ τ h l w.0.0 i) (facts_same_on P σ τ h a w.0.1 i) (facts_same_on P σ τ h r w.0.2 i)) (instance_same_on P σ τ h p w.1 i)
instance_same_on P σ τ h (act (action.insert m n) p) w = λ i. act (action.insert (put_same_on P σ τ h m w.0.0 i) (put_same_on P σ τ h n w.0.1 i)) (instance_same_on P σ τ h p w.1 i)
instance_same_on P σ τ h (act (action.delete m) p) w = λ i. act (action.delete (put_same_on P σ τ h m w.0 i)) (instance_same_on P σ τ h p w.1 i)
instance_same_on P σ τ h (act (action.lock m l) p) w = λ i. act (action.lock (put_same_on P σ τ h m w.0 i) l) (instance_same_on P σ τ h p w.1 i)
instance_same_on P σ τ h (act (action.unlock m l) p) w = λ i. act (action.unlock (put_same_on P σ τ h m w.0 i) l) (instance_same_on P σ τ h p w.1 i)
instance_same_on P σ τ h (whole.lookup m x p q) w = λ i. whole.lookup (put_same_on P σ τ h m w.0 i) x (instance_same_on P (without σ x) (without τ x) (without_agree P σ τ x h) p w.1 i) (instance_same_on P σ τ h q w.2 i)
