use Rattle.sap_run_lines.proofs.ShortLines.{one_short, short_decided, short_line_open, short_stands}
use Rattle.sap_run_lines.proofs.short_laws.short_lines_are_one.Goals as goal

pub returns-clause-opened : goal.returns-clause-opened
returns-clause-opened c = short_line_open

pub returns-clause-one : goal.returns-clause-one
returns-clause-one c = one_short

pub returns-clause-decided : goal.returns-clause-decided
returns-clause-decided c = short_decided

pub returns-clause-stands : goal.returns-clause-stands
returns-clause-stands c = short_stands
