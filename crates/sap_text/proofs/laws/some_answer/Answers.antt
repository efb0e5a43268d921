use Rattle.sap_text.proofs.Total.{some_answer}
use Rattle.sap_text.proofs.laws.some_answer.Goals as goal

pub returns : goal.returns
returns c = some_answer
