use Rattle.sap_run_texts.proofs.Numbered.{items_numbered}
use Rattle.sap_run_texts.proofs.fitting.items_fit.Goals as goal

pub returns : goal.returns
returns c = items_numbered c.args.numbers.now (λ i. (c.type_inv.numbers i).fits)
