use Rattle.sap_gen.proofs.Following.{carried-rules-show-the-same}
use Rattle.sap_gen.proofs.short_laws.carried_rules_show_the_same.Goals as goal

pub returns : goal.returns
returns c = carried-rules-show-the-same
