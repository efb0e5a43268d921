use Rattle.std.proofs.Common.{List}
use Rattle.sap_macro.specs.Sources.{located}
use Rattle.sap_origin.specs.Definitions.{LocatedDefinition, located_definitions}
use Rattle.sap_seen.specs.SeenAt.{IsSeenAt}
use Rattle.sap_read_places.proofs.BodyNodeTold.{all_in_body}
use Rattle.sap_read_places.proofs.body_flaw_told.told_in_body.Goals as goal

pub returns-in-Some-clause-is : goal.returns-in-Some-clause-is
returns-in-Some-clause-is c =
    let ds : List LocatedDefinition = located_definitions c.args.processes.now.definitions c.args.processes.now.behind in
    let at : IsSeenAt ds (located c.args.body.now) c.args.behind_body c.args.path.now c.in-Some.place = rw (c.in-Some.is, c.as_slice-behind.ensures) at c.in_ok-seen_at.ensures in
    all_in_body c.seen_places.ensures.one c.args.bytes.now c.args.tokens.now ds (located c.args.body.now) c.args.behind_body c.args.path.now c.args.node c.in-Some.place at c.told_at.result
    c.told_at.ensures.is
