use Rattle.std.proofs.Common.{◌+◌, drop, sym, ap, ◌∙◌}
use Rattle.std.specs.Option.{option_copied}
use Rattle.sap_formula_words.specs.code.Faulty.{innermost}
use Rattle.sap_formula_words.proofs.Near.{innermost_step}
use Rattle.sap_formula_words.proofs.faults.innermost.Goals as goal

pub loop-k-preserved : goal.loop-k-preserved
loop-k-preserved c =
    c.loop-k.invariant ∙ innermost_step c.args.name.now c.args.bs.now c.loop-k.k (option_copied c.loop-k.found) c.at.result.now c.at.ensures
    ∙ ap (λ o. innermost c.args.name.now (drop (c.loop-k.k + 1) c.args.bs.now) o) (sym c.nearer-found.ensures)
