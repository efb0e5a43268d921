use Rattle.sap_steps.proofs.Kept.{keeps_moved}
use Rattle.sap_steps.proofs.pile.SharedPile.put_fresh.Goals as goal

pub returns-clause-keeps : goal.returns-clause-keeps
returns-clause-keeps c = keeps_moved _ _ _ c.fresh_number.ensures.keeps c.put_single.ensures.sig c.put_single.ensures.trees
