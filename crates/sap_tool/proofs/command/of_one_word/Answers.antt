use Rattle.sap_tool.proofs.Asked.{asks_flag, asks_list, asks_version}
use Rattle.sap_tool.proofs.command.of_one_word.Goals as goal

pub returns-in-text : goal.returns-in-text
returns-in-text c = asks_flag _ _ c.in-text.is c.commands.ensures

pub returns-in-help : goal.returns-in-help
returns-in-help c = asks_list _ _ c.in-help.is c.commands-in-help.ensures

pub returns-in-text-2 : goal.returns-in-text-2
returns-in-text-2 c = asks_version _ _ c.in-text-2.is c.version.ensures
