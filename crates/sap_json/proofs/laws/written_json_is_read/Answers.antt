use Rattle.sap_json.proofs.WrittenRead.{written_is_read}
use Rattle.sap_json.proofs.laws.written_json_is_read.Goals as goal

pub returns : goal.returns
returns c = written_is_read c.written_lines_are_read.ensures.term c.written_words_are_ascii.ensures
