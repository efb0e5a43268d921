use Rattle.sap_pages.proofs.Found.{only_page}
use Rattle.sap_pages.proofs.laws.one_page.Goals as goal

pub returns : goal.returns
returns c = only_page
