use Rattle.sap_tool.proofs.AsWritten.{these_are_meant}
use Rattle.sap_tool.proofs.laws.these_bytes_are_meant.Goals as goal

pub returns-clause-written : goal.returns-clause-written
returns-clause-written c = λ z f shown. (shown.definitions, shown.process, shown.written)

pub returns-clause-traces : goal.returns-clause-traces
returns-clause-traces c = λ z f ds p tr shown w scoped. (these_are_meant c.files_show_as_they_are_written.ensures.one z f ds p shown w scoped).traces tr

pub returns-clause-lemmas : goal.returns-clause-lemmas
returns-clause-lemmas c = λ z f ds p l shown w scoped. (these_are_meant c.files_show_as_they_are_written.ensures.one z f ds p shown w scoped).lemmas l
