use Rattle.sap_run_texts.proofs.Numbered.{uses_numbered}
use Rattle.sap_run_texts.proofs.fitting.process_numbers_fit.Goals as goal

pub returns-in-Embedded : goal.returns-in-Embedded
returns-in-Embedded c =
    rw c.in-Embedded.is (tt, (c.thread_fits.ensures.thread, uses_numbered c.in-Embedded.facts c.in-Embedded.field-2 c.thread_fits.ensures.facts))
