use Rattle.sap_run_lines.proofs.Ascii.{written_ascii}
use Rattle.sap_run_lines.proofs.whole_laws.written_words_are_ascii.Goals as goal

pub returns : goal.returns
returns c = written_ascii
