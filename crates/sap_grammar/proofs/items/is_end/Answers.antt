use Rattle.std.proofs.Common.{sym, ◌∙◌}
use Rattle.sap_grammar.proofs.ItemTurns.{end_alone}
use Rattle.sap_grammar.proofs.items.is_end.Goals as goal

pub returns-then-item-eq1 : goal.returns-then-item-eq1
returns-then-item-eq1 c =
    let both = end_alone c.args.bytes.now c.args.item.now c.if-item-eq1.true in
    (λ t. both.0 (sym c.starts.ensures ∙ t), λ e. c.starts.ensures ∙ both.1 e)
