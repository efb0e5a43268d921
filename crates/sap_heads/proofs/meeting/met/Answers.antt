use Rattle.sap_terms.specs.View.{tree}
use Rattle.sap_heads.proofs.MetValues.{takes_there, met_plain, met_first_fault, met_last_fault, met_number, met_misfit, met_apart, met_is}
use Rattle.sap_heads.proofs.Kept.{env_stays}
use Rattle.sap_heads.proofs.Numbers.{can_stays, keeps_twice}
use Rattle.sap_heads.proofs.meeting.met.Goals as goal

pub value-requires-clause-can : goal.value-requires-clause-can
value-requires-clause-can c = can_stays c.args.table.now c.values.new.table c.args.takes.now (tree c.args.l.now) c.values.ensures.keeps c.requires.takes c.requires.can_third

pub returns-then-i-h-clause-refused : goal.returns-then-i-h-clause-refused
returns-then-i-h-clause-refused c = met_apart c.args.table.now c.values.new.table c.values.ensures.keeps c.args.sends.now c.args.takes.now c.requires.sends c.requires.takes (tree c.args.m.now) (tree c.args.n.now) (tree c.args.l.now) (tree c.args.p.now) c.value.new.table c.value.ensures.keeps c.in-Ok.i c.in-Ok.j c.in-Ok-value.h c.in-Ok.ensures.ok c.in-Ok-value.ensures.ok c.equality_is_kept.ensures c.normal_forms_decide.ensures c.in-Ok-fitted.new c.in-Ok-fitted.ensures.ok c.each_has_one_number.ensures c.if-i-h.true

pub returns-in-Err-clause-refused : goal.returns-in-Err-clause-refused
returns-in-Err-clause-refused c = met_first_fault c.args.table.now c.values.new.table c.values.ensures.keeps c.args.sends.now c.args.takes.now c.requires.sends c.requires.takes (tree c.args.m.now) (tree c.args.n.now) (tree c.args.l.now) (tree c.args.p.now) c.in-Err.fault c.in-Err.ensures.refused

pub returns-in-Err-value-clause-refused : goal.returns-in-Err-value-clause-refused
returns-in-Err-value-clause-refused c = met_last_fault c.args.table.now c.values.new.table c.values.ensures.keeps c.args.sends.now c.args.takes.now c.requires.sends c.requires.takes (tree c.args.m.now) (tree c.args.n.now) (tree c.args.l.now) (tree c.args.p.now) c.value.new.table c.value.ensures.keeps c.in-Err-value.fault c.in-Err-value.ensures.refused

pub returns-in-Err-fitted-clause-refused : goal.returns-in-Err-fitted-clause-refused
returns-in-Err-fitted-clause-refused c = met_misfit c.args.table.now c.values.new.table c.values.ensures.keeps c.args.sends.now c.args.takes.now c.requires.sends c.requires.takes (tree c.args.m.now) (tree c.args.n.now) (tree c.args.l.now) (tree c.args.p.now) c.value.new.table c.value.ensures.keeps c.in-Ok.i c.in-Ok.j c.in-Ok-value.h c.in-Ok.ensures.ok c.in-Ok-value.ensures.ok c.equality_is_kept.ensures c.in-Err-fitted.fault c.in-Err-fitted.ensures.refused

pub returns-else-i-h-clause-ok : goal.returns-else-i-h-clause-ok
returns-else-i-h-clause-ok c = met_is c.args.table.now c.values.new.table c.values.ensures.keeps c.args.sends.now c.args.takes.now c.requires.sends c.requires.takes (tree c.args.m.now) (tree c.args.n.now) (tree c.args.l.now) (tree c.args.p.now) c.value.new.table c.value.ensures.keeps c.in-Ok.i c.in-Ok.j c.in-Ok-value.h c.in-Ok.ensures.ok c.in-Ok-value.ensures.ok c.equality_is_kept.ensures c.normal_forms_decide.ensures c.in-Ok-fitted.new c.in-Ok-fitted.ensures.ok c.if-i-h.false

pub fitted-requires-clause-number : goal.fitted-requires-clause-number
fitted-requires-clause-number c = met_number c.args.table.now c.values.new.table c.values.ensures.keeps c.args.sends.now c.args.takes.now c.requires.sends c.requires.takes (tree c.args.m.now) (tree c.args.n.now) (tree c.args.l.now) (tree c.args.p.now) c.value.new.table c.value.ensures.keeps c.in-Ok.i c.in-Ok.j c.in-Ok-value.h c.in-Ok.ensures.ok c.in-Ok-value.ensures.ok

pub fitted-requires-clause-env : goal.fitted-requires-clause-env
fitted-requires-clause-env c = takes_there c.args.table.now c.values.new.table c.values.ensures.keeps c.args.sends.now c.args.takes.now c.requires.sends c.requires.takes (tree c.args.m.now) (tree c.args.n.now) (tree c.args.l.now) (tree c.args.p.now) c.value.new.table c.value.ensures.keeps

pub fitted-requires-clause-plain : goal.fitted-requires-clause-plain
fitted-requires-clause-plain c = met_plain c.args.table.now c.values.new.table c.values.ensures.keeps c.args.sends.now c.args.takes.now c.requires.sends c.requires.takes (tree c.args.m.now) (tree c.args.n.now) (tree c.args.l.now) (tree c.args.p.now) c.value.new.table c.value.ensures.keeps c.requires.plain

pub value-requires-clause-env : goal.value-requires-clause-env
value-requires-clause-env c = env_stays c.args.table.now c.values.new.table c.values.ensures.keeps c.args.takes.now c.requires.takes

pub returns-in-Err-clause-keeps : goal.returns-in-Err-clause-keeps
returns-in-Err-clause-keeps c = c.values.ensures.keeps

pub returns-in-Err-value-clause-keeps : goal.returns-in-Err-value-clause-keeps
returns-in-Err-value-clause-keeps c = keeps_twice c.args.table.now c.values.new.table c.value.new.table c.values.ensures.keeps c.value.ensures.keeps

pub returns-in-Err-fitted-clause-keeps : goal.returns-in-Err-fitted-clause-keeps
returns-in-Err-fitted-clause-keeps c = keeps_twice c.args.table.now c.values.new.table c.value.new.table c.values.ensures.keeps c.value.ensures.keeps

pub returns-then-i-h-clause-keeps : goal.returns-then-i-h-clause-keeps
returns-then-i-h-clause-keeps c = keeps_twice c.args.table.now c.values.new.table c.value.new.table c.values.ensures.keeps c.value.ensures.keeps

pub returns-else-i-h-clause-keeps : goal.returns-else-i-h-clause-keeps
returns-else-i-h-clause-keeps c = keeps_twice c.args.table.now c.values.new.table c.value.new.table c.values.ensures.keeps c.value.ensures.keeps
