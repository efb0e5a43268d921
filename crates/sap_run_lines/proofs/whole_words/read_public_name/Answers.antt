use Rattle.sap_run_lines.specs.WholeWords.{IsPublicName}
use Rattle.sap_run_lines.specs.code.WholeTaking.{public_alone}
use Rattle.sap_run_lines.proofs.WholeWords.{told, public_told}
use Rattle.sap_run_lines.proofs.whole_words.read_public_name.Goals as goal

pub returns : goal.returns
returns c = told IsPublicName c.args.bytes.now public_alone (public_told c.args.bytes.now) c.public_alone.result c.public_alone.ensures
