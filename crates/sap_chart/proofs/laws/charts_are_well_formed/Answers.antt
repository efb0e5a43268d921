use Rattle.sap_chart.proofs.Formed.{chart_formed}
use Rattle.sap_chart.proofs.laws.charts_are_well_formed.Goals as goal

pub returns : goal.returns
returns c = chart_formed
