use Rattle.std.proofs.Common.{◌≡◌, drop}
use Rattle.sap_grammar.specs.Cut.{placed}
use Rattle.sap_grammar.specs.ItemReading.{count_on}
use Rattle.sap_grammar.proofs.ItemTurns.{split_cut}
use Rattle.sap_grammar.proofs.items.split_item.Goals as goal

pub returns-clause-item : goal.returns-clause-item
returns-clause-item c =
    let counted : c.count_on-count.result ≡ count_on (placed c.args.bytes.now (drop 1 c.args.tokens.now)) = rw c.beyond.ensures at c.count_on-count.ensures.counted in
    rw c.beyond-2.ensures (split_cut c.args.bytes.now c.args.tokens.now c.count_on-count.result c.requires counted)
