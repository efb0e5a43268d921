use Rattle.std.proofs.Common.{◌||◌, sym, ap, ◌∙◌}
use Rattle.std.specs.Str.{bytes_eq}
use Rattle.sap_macro.proofs.Entries.{known_next}
use Rattle.sap_macro.proofs.chosen.set_of.Goals as goal

pub loop-k-preserved : goal.loop-k-preserved
loop-k-preserved c = λ x.
    c.in_ok-insert.ensures.more x ∙ ap (λ b. bytes_eq c.at.result.now x || b) (c.loop-k.invariant x)
    ∙ sym (known_next c.args.names.now c.loop-k.k c.at.result.now x c.at.ensures)
