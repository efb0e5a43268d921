use Rattle.sap_text.proofs.Placed.{token_placed}
use Rattle.sap_text.proofs.laws.lines_are_counted.Goals as goal

pub returns : goal.returns
returns c = λ z ts k t a e. (token_placed z ts k t a e).line
