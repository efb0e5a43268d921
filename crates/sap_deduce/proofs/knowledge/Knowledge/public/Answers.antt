use Rattle.sap_deduce.proofs.Kept.{numbers_stay}
use Rattle.sap_deduce.proofs.knowledge.Knowledge.public.Goals as goal

pub enter-requires-clause-numbered : goal.enter-requires-clause-numbered
enter-requires-clause-numbered c = numbers_stay _ _ _ c.requires c.in_ok-number.ensures.ok.keeps
