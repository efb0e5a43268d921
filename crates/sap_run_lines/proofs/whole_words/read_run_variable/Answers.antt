use Rattle.sap_run_lines.specs.WholeWords.{IsRunVariable}
use Rattle.sap_run_lines.specs.code.WholeTaking.{variable_alone}
use Rattle.sap_run_lines.proofs.WholeWords.{told, variable_told}
use Rattle.sap_run_lines.proofs.whole_words.read_run_variable.Goals as goal

pub returns : goal.returns
returns c = told IsRunVariable c.args.bytes.now variable_alone (variable_told c.args.bytes.now) c.variable_alone.result c.variable_alone.ensures
