-- A head over what follows it.
use Rattle.sap_terms.specs.Choice.{Choice, instance}
use Rattle.sap_terms.specs.declared.var.Var.{Var}
use Rattle.sap_process.specs.Action.{Action, new}
use Rattle.sap_process.specs.Instance.{action_instance}
use Rattle.sap_process.specs.Proc.{Proc, parallel, replicated, act, test}

-- the action, where `new` binds this in place of what it bound
abbrev pub binding : (Var → Var) → Action → Action
binding β (new x) = new (β x)
binding β a = a

-- the head of the first process, with its variables replaced and its new name another, over the second, where one process
-- follows such a head
abbrev pub headed : Choice → (Var → Var) → Proc → Proc → Proc
headed σ β (act a p) q = act (binding β (action_instance σ a)) q
headed σ β (replicated p) q = replicated q
headed σ β _ q = q

-- the same over two processes, where two follow such a head and it binds nothing
abbrev pub forked : Choice → Proc → Proc → Proc → Proc
forked σ (parallel p q) r s = parallel r s
forked σ (test t u p q) r s = test (instance σ t) (instance σ u) r s
forked σ _ r s = r
