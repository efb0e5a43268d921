-- What the choice that changes nothing leaves.
use Rattle.std.proofs.Common.{◌≡◌, ◌∷◌, List, [], map, refl, ap}
use Rattle.sap_terms.specs.Choice.{instance, instances}
use Rattle.sap_terms.specs.Modulo.{instance_facts}
use Rattle.sap_terms.specs.Tree.{Tree, variable, public, fresh, apply, Trees, none, more}
use Rattle.sap_terms.specs.declared.fact.Fact.{Fact}
use Rattle.sap_process.specs.Action.{Action, new, out, send, input, receive, event, insert, delete, lock, unlock, embedded}
use Rattle.sap_process.specs.Instance.{action_instance}
use Rattle.sap_macro.specs.Expansion.{unchanged}
use Rattle.sap_macro.specs.UpToNames.{fact}

mutual
  pub kept : (t : Tree) → instance unchanged t ≡ t
  kept (variable v) = refl
  kept (public n) = refl
  kept (fresh k) = refl
  kept (apply f ts) = ap (apply f) (all_kept ts)

  pub all_kept : (ts : Trees) → instances unchanged ts ≡ ts
  all_kept none = refl
  all_kept (more t ts) = λ i. more (kept t i) (all_kept ts i)

pub each_kept : (ts : List Tree) → map (instance unchanged) ts ≡ ts
each_kept [] = refl
each_kept (t ∷ ts) = λ i. kept t i ∷ each_kept ts i

pub facts_kept : (fs : List Fact) → instance_facts unchanged fs ≡ fs
facts_kept [] = refl
facts_kept (f ∷ fs) = λ i. fact f.name f.persistent (each_kept f.args i) ∷ facts_kept fs i

pub action_kept : (a : Action) → action_instance unchanged a ≡ a
action_kept (new x) = refl
action_kept (out t) = ap out (kept t)
action_kept (send t u) = λ i. send (kept t i) (kept u i)
action_kept (input t) = ap input (kept t)
action_kept (receive t u) = λ i. receive (kept t i) (kept u i)
action_kept (event f) = ap (λ ts. event (fact f.name f.persistent ts)) (each_kept f.args)
action_kept (insert t u) = λ i. insert (kept t i) (kept u i)
action_kept (delete t) = ap delete (kept t)
action_kept (lock t n) = ap (λ u. lock u n) (kept t)
action_kept (unlock t n) = ap (λ u. unlock u n) (kept t)
action_kept (embedded l e r) = λ i. embedded (facts_kept l i) (facts_kept e i) (facts_kept r i)
