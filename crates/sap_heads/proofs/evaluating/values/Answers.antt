use Rattle.sap_terms.specs.Choice.{instance}
use Rattle.sap_terms.specs.View.{tree}
use Rattle.sap_share.specs.Env.{given}
use Rattle.sap_heads.proofs.Numbers.{can_stays, fault_first, fault_stays, values_are}
use Rattle.sap_heads.proofs.evaluating.values.Goals as goal

pub value-requires-in-Ok-clause-can : goal.value-requires-in-Ok-clause-can
value-requires-in-Ok-clause-can c = can_stays c.args.table.now c.value.new.table c.args.env.now (tree c.args.u.now) c.value.ensures.keeps c.requires.env c.requires.second

pub returns-in-Err-clause-refused : goal.returns-in-Err-clause-refused
returns-in-Err-clause-refused c =
    fault_first c.args.table.now.sig (instance (given c.args.table.now.trees c.args.env.now) (tree c.args.t.now)) (instance (given c.args.table.now.trees c.args.env.now) (tree c.args.u.now)) c.in-Err.fault c.in-Err.ensures.refused

pub returns-in-Err-value-clause-refused : goal.returns-in-Err-value-clause-refused
returns-in-Err-value-clause-refused c =
    fault_stays c.args.table.now c.value.new.table c.args.env.now (tree c.args.t.now) (tree c.args.u.now) c.in-Err-value.fault c.value.ensures.keeps c.requires.env c.in-Err-value.ensures.refused

pub returns-in-Ok-value-clause-ok : goal.returns-in-Ok-value-clause-ok
returns-in-Ok-value-clause-ok c =
    values_are c.args.table.now c.value.new.table c.value-in-Ok.new.table c.args.env.now (tree c.args.t.now) (tree c.args.u.now) c.in-Ok.j c.in-Ok-value.k c.value.ensures.keeps c.value-in-Ok.ensures.keeps c.requires.env c.in-Ok.ensures.ok c.in-Ok-value.ensures.ok
