use Rattle.std.proofs.Common.{ap, Err}
use Rattle.sap_terms.specs.Choice.{instance}
use Rattle.sap_terms.specs.View.{tree}
use Rattle.sap_share.specs.Env.{given}
use Rattle.sap_heads.proofs.Numbers.{value_is, large_one}
use Rattle.sap_heads.proofs.evaluating.value_unless_large.Goals as goal

pub returns-in-Ok-clause-ok : goal.returns-in-Ok-clause-ok
returns-in-Ok-clause-ok c = value_is c.args.table.now c.evaluate.new.self c.args.env.now (tree c.args.t.now) c.in-Ok.k c.in-Ok.ensures.below c.evaluate.ensures.keeps c.in-Ok.ensures.form c.in-Ok.ensures.within

pub returns-in-Err-Large-clause-ok : goal.returns-in-Err-Large-clause-ok
returns-in-Err-Large-clause-ok c = (large_one c.args.table.now.sig (instance (given c.args.table.now.trees c.args.env.now) (tree c.args.t.now)) (c.in-Err-Large.ensures.large (ap Err c.in-Err-Large.field-0-is)))
