use Rattle.sap_tool.proofs.AtOnce.{one_told}
use Rattle.sap_tool.proofs.at_once_laws.one_text_at_once.Goals as goal

pub returns : goal.returns
returns c = one_told c.one_page.ensures
