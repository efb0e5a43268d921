use Rattle.sap_verdicts.proofs.Standings.{counts, excluded, excludes}
use Rattle.sap_verdicts.proofs.laws.standings_say.Goals as goal

pub returns-clause-counts : goal.returns-clause-counts
returns-clause-counts c = counts

pub returns-clause-excluded : goal.returns-clause-excluded
returns-clause-excluded c = λ ys. (excluded ys, excludes ys)
