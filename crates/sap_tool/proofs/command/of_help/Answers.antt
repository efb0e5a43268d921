use Rattle.sap_tool.proofs.Asked.{asks_page}
use Rattle.sap_tool.proofs.command.of_help.Goals as goal

pub returns-in-Some : goal.returns-in-Some
returns-in-Some c = asks_page _ _ c.in-Some.ensures
