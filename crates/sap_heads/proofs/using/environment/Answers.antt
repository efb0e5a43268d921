use Rattle.std.proofs.Common.{map, refl, subst}
use Rattle.sap_sides.specs.SharedFacts.{fact_seen}
use Rattle.sap_heads.specs.code.Rules.{open_vars, AreNotOpen, no_room, not_open, not_found, not_bound}
use Rattle.sap_heads.proofs.Numbers.{keeps_self}
use Rattle.sap_heads.proofs.Stays.{found_stays, bound_there, right_there}
use Rattle.sap_heads.proofs.using.environment.Goals as goal

pub returns-in-Err-clause-refused : goal.returns-in-Err-clause-refused
returns-in-Err-clause-refused c = no_room

pub returns-in-Err-test_bindings-clause-refused : goal.returns-in-Err-test_bindings-clause-refused
returns-in-Err-test_bindings-clause-refused c =
    not_open (subst (λ g. AreNotOpen g (open_vars c.args.env.now c.args.l.now c.args.e.now c.args.r.now) c.args.b.now c.in-Err-test_bindings.fault) c.signature.ensures (subst (λ vs. AreNotOpen c.signature.result.now vs c.args.b.now c.in-Err-test_bindings.fault) c.in-Ok.ensures c.in-Err-test_bindings.ensures.refused))

pub returns-in-Err-found-clause-refused : goal.returns-in-Err-found-clause-refused
returns-in-Err-found-clause-refused c =
    not_found (right_there c.signature.result.now c.args.table.now.sig c.args.table.now.sig c.in-Ok.vars (open_vars c.args.env.now c.args.l.now c.args.e.now c.args.r.now) c.args.b.now c.signature.ensures refl c.in-Ok.ensures c.in-Ok-test_bindings.ensures.ok) c.in-Err-found.ensures.refused

pub returns-in-Err-bind_small-clause-refused : goal.returns-in-Err-bind_small-clause-refused
returns-in-Err-bind_small-clause-refused c =
    not_bound c.in-Ok-found.new
    (right_there c.signature.result.now c.args.table.now.sig c.bind_small.new.table.sig c.in-Ok.vars (open_vars c.args.env.now c.args.l.now c.args.e.now c.args.r.now) c.args.b.now c.signature.ensures c.bind_small.ensures.keeps.sig c.in-Ok.ensures c.in-Ok-test_bindings.ensures.ok)
    (found_stays c.args.table.now c.bind_small.new.table c.bind_small.ensures.keeps c.args.env.now c.args.l.now (map (fact_seen c.args.table.now.trees) c.args.cited.now) c.in-Ok-found.new c.requires.env c.in-Ok-found.ensures.ok)
    c.in-Err-bind_small.ensures.refused

pub returns-clause-ok : goal.returns-clause-ok
returns-clause-ok c = record {
  found = c.in-Ok-found.new;
  opened = right_there c.signature.result.now c.args.table.now.sig c.bind_small.new.table.sig c.in-Ok.vars (open_vars c.args.env.now c.args.l.now c.args.e.now c.args.r.now) c.args.b.now c.signature.ensures c.bind_small.ensures.keeps.sig c.in-Ok.ensures c.in-Ok-test_bindings.ensures.ok;
  matched = found_stays c.args.table.now c.bind_small.new.table c.bind_small.ensures.keeps c.args.env.now c.args.l.now (map (fact_seen c.args.table.now.trees) c.args.cited.now) c.in-Ok-found.new c.requires.env c.in-Ok-found.ensures.ok;
  bound = bound_there c.args.table.now c.bind_small.new.table c.bind_small.ensures.keeps c.in-Ok-found.new c.args.b.now c.in-Ok-bind_small.longer c.in-Ok-found.ensures.ok.below c.in-Ok-bind_small.ensures.ok;
}

pub bind_small-requires-clause-env : goal.bind_small-requires-clause-env
bind_small-requires-clause-env c = c.in-Ok-found.ensures.ok.below

pub bind_small-requires-clause-messages : goal.bind_small-requires-clause-messages
bind_small-requires-clause-messages c =
    (right_there c.signature.result.now c.args.table.now.sig c.args.table.now.sig c.in-Ok.vars (open_vars c.args.env.now c.args.l.now c.args.e.now c.args.r.now) c.args.b.now c.signature.ensures refl c.in-Ok.ensures c.in-Ok-test_bindings.ensures.ok).terms

pub returns-in-Err-clause-keeps : goal.returns-in-Err-clause-keeps
returns-in-Err-clause-keeps c = keeps_self c.args.table.now

pub returns-in-Err-test_bindings-clause-keeps : goal.returns-in-Err-test_bindings-clause-keeps
returns-in-Err-test_bindings-clause-keeps c = keeps_self c.args.table.now

pub returns-in-Err-found-clause-keeps : goal.returns-in-Err-found-clause-keeps
returns-in-Err-found-clause-keeps c = keeps_self c.args.table.now
