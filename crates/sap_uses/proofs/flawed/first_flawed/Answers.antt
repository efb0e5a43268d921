use Rattle.std.proofs.Common.{arith}
use Rattle.sap_macro.specs.Sources.{definition_of, definitions, written}
use Rattle.sap_uses.proofs.Entries.{as_many, there}
use Rattle.sap_uses.proofs.FirstFlawed.{first_is, none_is, none_there, one_before, value_there}
use Rattle.sap_uses.proofs.flawed.first_flawed.Goals as goal

pub returns-in-Some-clause-found : goal.returns-in-Some-clause-found
returns-in-Some-clause-found c g =
    first_is (definitions c.args.defs.now) (written c.args.main.now) (c.plain_names_stand_for_bodies.ensures.bodies (definitions c.args.defs.now) c.requires)
    (λ d ts at. c.plain_names_stand_for_bodies.ensures.defined (definitions c.args.defs.now) d ts c.requires at) g c.loop-k.k (definition_of c.at-d.result.now) c.in_ok-name.name
    c.in-Some.which c.in-Some.path (there c.args.defs.now c.loop-k.k c.at-d.result.now c.at-d.ensures) c.in_ok-name.ensures
    (value_there _ _ _ c.in-Some.is (c.in_ok-which.ensures.found g (written c.args.main.now) c.in_ok-names.ensures)) (c.loop-k.invariant g)

pub loop-k-preserved : goal.loop-k-preserved
loop-k-preserved c g =
    one_before g (definitions c.args.defs.now) (written c.args.main.now) c.loop-k.k (definition_of c.at-d.result.now)
    (there c.args.defs.now c.loop-k.k c.at-d.result.now c.at-d.ensures) (none_there _ c.in_default.is (c.in_ok-which.ensures.none g (written c.args.main.now) c.in_ok-names.ensures)) (c.loop-k.invariant g)

pub returns-clause-none : goal.returns-clause-none
returns-clause-none c g =
    let last = c.loop-k-test.false in
    let long = c.len-k-end.ensures in
    let many = as_many c.args.defs.now in
    none_is (definitions c.args.defs.now) (written c.args.main.now) (c.plain_names_stand_for_bodies.ensures.bodies (definitions c.args.defs.now) c.requires)
    (λ d ts at. c.plain_names_stand_for_bodies.ensures.defined (definitions c.args.defs.now) d ts c.requires at) g c.loop-k.k (omega (arith, last, long, many)) (c.loop-k.invariant g)
