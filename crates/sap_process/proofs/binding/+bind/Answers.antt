use Rattle.std.proofs.Common.{List, ◌+◌, drop, sym, ap, ◌∙◌}
use Rattle.sap_terms.specs.Tree.{trees_of}
use Rattle.sap_terms.specs.Variables.{trees_vars}
use Rattle.sap_terms.specs.View.{tree}
use Rattle.sap_terms.specs.declared.var.Var.{Var}
use Rattle.sap_process.specs.code.Binders.{with_new}
use Rattle.sap_process.proofs.NewVars.{with_new-terms}
use Rattle.sap_process.proofs.binding.+bind.Goals as goal

pub bind_terms-loop-k-preserved : goal.bind_terms-loop-k-preserved
bind_terms-loop-k-preserved t c =
    ap (λ (scope : List Var). with_new scope (trees_vars (trees_of (drop (c.loop-k.k + 1) c.args.ts.now)))) c.in_ok-bind_term.ensures
    ∙ sym (with_new-terms c.loop-k.scope c.args.ts.now c.loop-k.k (tree c.at.result.now) c.at.ensures.got)
    ∙ c.loop-k.invariant
