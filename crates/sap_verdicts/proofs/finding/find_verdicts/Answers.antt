use Rattle.std.proofs.Common.{ap, map}
use Rattle.sap_verdicts.specs.View.{found}
use Rattle.sap_verdicts.proofs.Finds.{both_found}
use Rattle.sap_verdicts.proofs.finding.find_verdicts.Goals as goal

pub returns : goal.returns
returns c = λ g m h k. both_found g c.args.trace.now c.args.restrictions.now c.args.lemmas.now _ _ _ (ap (map found) c.new-out.ensures) (c.in_ok-find_restrictions.ensures g m h) (c.in_ok-find_lemmas.ensures g m k)
