use Rattle.sap_chart.proofs.LegalDrawn.{charts_are_legal, legal_are_drawn}
use Rattle.sap_chart.proofs.laws.drawn_runs_are_legal.Goals as goal

pub returns-clause-legal : goal.returns-clause-legal
returns-clause-legal c = charts_are_legal c.legal_runs_are_told.ensures.legal

pub returns-clause-drawn : goal.returns-clause-drawn
returns-clause-drawn c = legal_are_drawn c.legal_runs_are_told.ensures.told
