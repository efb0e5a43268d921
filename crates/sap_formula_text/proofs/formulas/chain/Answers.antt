use Rattle.std.proofs.Common.{ap}
use Rattle.std.proofs.lemmas.List.{map_push}
use Rattle.sap_formula.specs.View.{form}
use Rattle.sap_formula_text.proofs.Chains.{chained_down}
use Rattle.sap_formula_text.proofs.formulas.chain.Goals as goal

pub loop-first-preserved : goal.loop-first-preserved
loop-first-preserved c =
    rw (c.in_ok-push.ensures.items, map_push, c.deref-first.ensures, c.deref.ensures) (chained_down _ _ _ _ _ c.loop-first.invariant (ap form c.in-And.is))
