use Rattle.std.proofs.Common.{List, ◌+◌, drop, sym, ap, ◌∙◌, arith}
use Rattle.sap_terms.specs.Variables.{facts_vars}
use Rattle.sap_terms.specs.declared.var.Var.{Var}
use Rattle.sap_process.specs.code.Binders.{with_new}
use Rattle.sap_process.proofs.NewVars.{with_new-from}
use Rattle.sap_process.proofs.binding.bind_facts.Goals as goal

pub loop-f-preserved : goal.loop-f-preserved
loop-f-preserved c =
    let step = with_new-from c.loop-f.scope c.as_slice-f-items.result.now c.loop-f.f-index c.f-item.result (omega arith) c.f-item.is in
    ap (λ (scope : List Var). with_new scope (facts_vars (drop (c.loop-f.f-index + 1) c.as_slice-f-items.result.now))) c.in_ok-bind_terms.ensures
    ∙ sym step
    ∙ c.loop-f.invariant
