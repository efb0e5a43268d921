use Rattle.std.proofs.Common.{◌++◌, map}
use Rattle.sap_sides.specs.SharedFacts.{fact_seen}
use Rattle.sap_heads.proofs.Kept.{env_stays}
use Rattle.sap_heads.proofs.Stays.{small_bound, bound_stays, rule_env_stays, formed_stays, fault_forth}
use Rattle.sap_heads.proofs.Uses.{sides_small, can_acts, can_right}
use Rattle.sap_heads.proofs.Rules.{cited_there, clean_there, unused_env, unused_sides, used_is}
use Rattle.sap_heads.proofs.Numbers.{keeps_twice}
use Rattle.sap_heads.proofs.using.used.Goals as goal

pub environment-requires-clause-env : goal.environment-requires-clause-env
environment-requires-clause-env c = small_bound c.args.table.now c.args.env.now c.requires.env

pub sides-requires-clause-env : goal.sides-requires-clause-env
sides-requires-clause-env c = sides_small c.args.table.now c.environment.new.table c.environment.ensures.keeps c.args.env.now c.requires.env (map (fact_seen c.args.table.now.trees) c.args.cited.now) c.requires.messages c.args.l.now c.args.e.now c.args.r.now c.requires.sorts c.requires.over c.args.b.now c.variables_named_once_stay_so.ensures c.bindings_give_choices.ensures c.each_is_ground-in-Ok.ensures c.in-Ok.new c.in-Ok.ensures.ok

pub sides-requires-clause-acts : goal.sides-requires-clause-acts
sides-requires-clause-acts c = can_acts c.args.table.now c.environment.new.table c.environment.ensures.keeps c.args.env.now c.requires.env (map (fact_seen c.args.table.now.trees) c.args.cited.now) c.requires.messages c.args.l.now c.args.e.now c.args.r.now c.requires.sorts c.requires.over c.args.b.now c.variables_named_once_stay_so.ensures c.bindings_give_choices.ensures c.each_is_ground-in-Ok.ensures c.in-Ok.new c.in-Ok.ensures.ok

pub sides-requires-clause-right : goal.sides-requires-clause-right
sides-requires-clause-right c = can_right c.args.table.now c.environment.new.table c.environment.ensures.keeps c.args.env.now c.requires.env (map (fact_seen c.args.table.now.trees) c.args.cited.now) c.requires.messages c.args.l.now c.args.e.now c.args.r.now c.requires.sorts c.requires.over c.args.b.now c.variables_named_once_stay_so.ensures c.bindings_give_choices.ensures c.each_is_ground-in-Ok.ensures c.in-Ok.new c.in-Ok.ensures.ok

pub returns-in-Err-clause-refused : goal.returns-in-Err-clause-refused
returns-in-Err-clause-refused c =
    let s = c.args.table.now in
    let u = c.environment.new.table in
    let keeps = c.environment.ensures.keeps in
    unused_env u c.each_is_ground.ensures c.args.env.now (env_stays s u keeps c.args.env.now c.requires.env) (map (fact_seen c.args.table.now.trees) c.args.cited.now) (cited_there s u keeps (map (fact_seen c.args.table.now.trees) c.args.cited.now) c.requires.messages) c.args.l.now c.args.e.now c.args.r.now c.requires.sorts c.args.b.now c.variables_named_once_stay_so.ensures c.bindings_give_choices.ensures c.matching_is_modulo.ensures c.patterns_stay.ensures (clean_there s u keeps c.args.l.now c.requires.plain) c.in-Err.fault c.in-Err.ensures.refused

pub returns-in-Err-sides-clause-refused : goal.returns-in-Err-sides-clause-refused
returns-in-Err-sides-clause-refused c =
    let s = c.args.table.now in
    let u = c.environment.new.table in
    let v = c.sides.new.table in
    let keeps = keeps_twice s u v c.environment.ensures.keeps c.sides.ensures.keeps in
    let new = c.in-Ok.new in
    unused_sides v c.each_is_ground-in-Err-sides.ensures c.args.env.now (env_stays s v keeps c.args.env.now c.requires.env) (map (fact_seen c.args.table.now.trees) c.args.cited.now) (cited_there s v keeps (map (fact_seen c.args.table.now.trees) c.args.cited.now) c.requires.messages) c.args.l.now c.args.e.now c.args.r.now c.requires.sorts c.args.b.now c.variables_named_once_stay_so.ensures c.bindings_give_choices.ensures new
    (rule_env_stays u v c.sides.ensures.keeps c.args.env.now (map (fact_seen c.args.table.now.trees) c.args.cited.now) c.args.l.now c.args.e.now c.args.r.now c.args.b.now new (bound_stays s u c.environment.ensures.keeps c.args.env.now (small_bound s c.args.env.now c.requires.env)) c.in-Ok.ensures.ok) c.in-Err-sides.fault
    (fault_forth u v c.sides.ensures.keeps new (sides_small s u c.environment.ensures.keeps c.args.env.now c.requires.env (map (fact_seen c.args.table.now.trees) c.args.cited.now) c.requires.messages c.args.l.now c.args.e.now c.args.r.now c.requires.sorts c.requires.over c.args.b.now c.variables_named_once_stay_so.ensures c.bindings_give_choices.ensures c.each_is_ground-in-Ok.ensures new c.in-Ok.ensures.ok) (c.args.e.now ++ c.args.r.now) c.in-Err-sides.fault c.in-Err-sides.ensures.refused)

pub returns-in-Ok-sides-clause-ok : goal.returns-in-Ok-sides-clause-ok
returns-in-Ok-sides-clause-ok c =
    let s = c.args.table.now in
    let u = c.environment.new.table in
    let v = c.sides.new.table in
    let keeps = keeps_twice s u v c.environment.ensures.keeps c.sides.ensures.keeps in
    let new = c.in-Ok.new in
    let small = sides_small s u c.environment.ensures.keeps c.args.env.now c.requires.env (map (fact_seen c.args.table.now.trees) c.args.cited.now) c.requires.messages c.args.l.now c.args.e.now c.args.r.now c.requires.sorts c.requires.over c.args.b.now c.variables_named_once_stay_so.ensures c.bindings_give_choices.ensures c.each_is_ground-in-Ok.ensures new c.in-Ok.ensures.ok in
    used_is v c.each_is_ground-in-Ok-sides.ensures c.args.env.now (env_stays s v keeps c.args.env.now c.requires.env) (map (fact_seen c.args.table.now.trees) c.args.cited.now) (cited_there s v keeps (map (fact_seen c.args.table.now.trees) c.args.cited.now) c.requires.messages) c.args.l.now c.args.e.now c.args.r.now c.requires.sorts c.args.b.now c.variables_named_once_stay_so.ensures c.bindings_give_choices.ensures new
    (rule_env_stays u v c.sides.ensures.keeps c.args.env.now (map (fact_seen c.args.table.now.trees) c.args.cited.now) c.args.l.now c.args.e.now c.args.r.now c.args.b.now new (bound_stays s u c.environment.ensures.keeps c.args.env.now (small_bound s c.args.env.now c.requires.env)) c.in-Ok.ensures.ok)
    c.instances_of_processes.ensures.twice c.normal_forms_are_unique.ensures c.in-Ok-sides.sides.acts (map (fact_seen v.trees) c.in-Ok-sides.sides.right.items)
    (formed_stays u v c.sides.ensures.keeps new c.args.e.now c.in-Ok-sides.sides.acts small c.in-Ok-sides.ensures.acts) (formed_stays u v c.sides.ensures.keeps new c.args.r.now (map (fact_seen v.trees) c.in-Ok-sides.sides.right.items) small c.in-Ok-sides.ensures.right) c.in-Ok-sides.ensures.fine

pub returns-in-Err-clause-keeps : goal.returns-in-Err-clause-keeps
returns-in-Err-clause-keeps c = c.environment.ensures.keeps

pub returns-in-Err-sides-clause-keeps : goal.returns-in-Err-sides-clause-keeps
returns-in-Err-sides-clause-keeps c = keeps_twice c.args.table.now c.environment.new.table c.sides.new.table c.environment.ensures.keeps c.sides.ensures.keeps

pub returns-in-Ok-sides-clause-keeps : goal.returns-in-Ok-sides-clause-keeps
returns-in-Ok-sides-clause-keeps c = keeps_twice c.args.table.now c.environment.new.table c.sides.new.table c.environment.ensures.keeps c.sides.ensures.keeps
