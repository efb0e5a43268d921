use Rattle.sap_terms.specs.View.{tree}
use Rattle.sap_share.specs.Shared.{tree_at}
use Rattle.sap_heads.proofs.Kept.{env_stays, small_stays}
use Rattle.sap_heads.proofs.Pairs.{second_number, plain_stays, received_fault, received_no_pair, received_unfitted, received_other, received_is}
use Rattle.sap_heads.proofs.taking.received.Goals as goal

pub parts-requires : goal.parts-requires
parts-requires c = (small_stays c.args.table.now c.value.new.table c.value.ensures.keeps c.args.e c.requires.number).below

pub fitted-requires-clause-number : goal.fitted-requires-clause-number
fitted-requires-clause-number c = second_number c.args.table.now c.value.new.table c.value.ensures.keeps c.args.e c.in-Some.a c.in-Some.b c.requires.number c.in-Some.ensures

pub fitted-requires-clause-env : goal.fitted-requires-clause-env
fitted-requires-clause-env c = env_stays c.args.table.now c.value.new.table c.value.ensures.keeps c.args.env.now c.requires.env

pub fitted-requires-clause-plain : goal.fitted-requires-clause-plain
fitted-requires-clause-plain c = plain_stays c.args.table.now c.value.new.table c.value.ensures.keeps (tree c.args.n.now) c.requires.plain

pub returns-then-a-j-clause-refused : goal.returns-then-a-j-clause-refused
returns-then-a-j-clause-refused c = received_other c.args.table.now c.value.new.table c.value.ensures.keeps c.args.env.now c.requires.env (tree c.args.m.now) (tree c.args.n.now) (tree_at c.value.new.table.trees c.args.e) c.in-Ok.j c.in-Ok.ensures.ok c.in-Some.a c.in-Some.b c.in-Some.ensures c.in-Ok-fitted.new c.in-Ok-fitted.ensures.ok c.normal_forms_are_unique.ensures c.each_has_one_number.ensures c.if-a-j.true

pub returns-in-Err-clause-refused : goal.returns-in-Err-clause-refused
returns-in-Err-clause-refused c = received_fault c.args.table.now c.value.new.table c.value.ensures.keeps c.args.env.now c.requires.env (tree c.args.m.now) (tree c.args.n.now) (tree_at c.value.new.table.trees c.args.e) c.in-Err.fault c.in-Err.ensures.refused

pub returns-in-None-clause-refused : goal.returns-in-None-clause-refused
returns-in-None-clause-refused c = received_no_pair c.args.table.now c.value.new.table c.value.ensures.keeps c.args.env.now c.requires.env (tree c.args.m.now) (tree c.args.n.now) (tree_at c.value.new.table.trees c.args.e) c.in-Ok.j c.in-Ok.ensures.ok c.in-None.ensures

pub returns-in-Err-fitted-clause-refused : goal.returns-in-Err-fitted-clause-refused
returns-in-Err-fitted-clause-refused c = received_unfitted c.args.table.now c.value.new.table c.value.ensures.keeps c.args.env.now c.requires.env (tree c.args.m.now) (tree c.args.n.now) (tree_at c.value.new.table.trees c.args.e) c.in-Ok.j c.in-Ok.ensures.ok c.in-Some.a c.in-Some.b c.in-Some.ensures c.in-Err-fitted.fault c.in-Err-fitted.ensures.refused

pub returns-else-a-j-clause-ok : goal.returns-else-a-j-clause-ok
returns-else-a-j-clause-ok c = received_is c.args.table.now c.value.new.table c.value.ensures.keeps c.args.env.now c.requires.env (tree c.args.m.now) (tree c.args.n.now) (tree_at c.value.new.table.trees c.args.e) c.in-Ok.j c.in-Ok.ensures.ok c.in-Some.a c.in-Some.b c.in-Some.ensures c.in-Ok-fitted.new c.in-Ok-fitted.ensures.ok c.equality_is_kept.ensures c.if-a-j.false
