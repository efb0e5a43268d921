use Rattle.sap_runs.specs.Short.{IsShortStep}
use Rattle.sap_run_lines.specs.ShortLines.{IsShortStepLine}
use Rattle.sap_run_texts.proofs.ReadRuns.{text_back, text_within}
use Rattle.sap_run_texts.proofs.ShortRuns.{one_short_run, some_short_run}
use Rattle.sap_run_texts.proofs.short_laws.one_short_run.Goals as goal

pub returns-clause-one : goal.returns-clause-one
returns-clause-one c = one_short_run c.short_lines_are_one.ensures.one c.short_lines_are_one.ensures.opened

pub returns-clause-some : goal.returns-clause-some
returns-clause-some c = some_short_run c.short_lines_are_one.ensures.decided

pub returns-clause-stands : goal.returns-clause-stands
returns-clause-stands c z ss h = text_back IsShortStepLine IsShortStep c.short_lines_are_one.ensures.stands _ _ z ss h

pub returns-clause-within : goal.returns-clause-within
returns-clause-within c z ss h = text_within IsShortStepLine _ _ z ss h
