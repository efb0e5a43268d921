use Rattle.sap_rewrite.proofs.Parts.{only_apply}
use Rattle.sap_rewrite.proofs.reduce.part_at.Goals as goal

pub returns-in_default : goal.returns-in_default
returns-in_default c = only_apply c.args.args.now c.at.result.now c.args.k _ c.at.ensures.got c.requires c.in_default.not-App
