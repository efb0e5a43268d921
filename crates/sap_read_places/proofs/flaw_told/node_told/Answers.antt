use Rattle.std.proofs.Common.{List, Some, None}
use Rattle.sap_macro.specs.Sources.{located}
use Rattle.sap_origin.specs.Definitions.{LocatedDefinition, located_definitions}
use Rattle.sap_read.specs.declared.written.FileProcesses.{FileProcesses}
use Rattle.sap_origin.specs.declared.trail.Replaced.TheVariants.{Every}
use Rattle.sap_stems.specs.StemOf.{IsStemAt}
use Rattle.sap_origin.specs.Trails.{IsTrail}
use Rattle.sap_read_places.proofs.NodesTold.{all_in, none_in}
use Rattle.sap_read_places.proofs.flaw_told.node_told.Goals as goal

pub returns-in-None-clause-is : goal.returns-in-None-clause-is
returns-in-None-clause-is c =
    let p : FileProcesses = c.args.processes.now in
    let ds : List LocatedDefinition = located_definitions p.definitions p.behind in
    let trail : IsTrail ds (located p.main.value) p.behind_main c.args.path.now c.in-Some.trail = rw (c.in-Some.is, c.as_slice.ensures, c.deref.ensures) at c.in_ok-trail.ensures in
    let at : IsStemAt ds (located p.main.value) p.behind_main c.args.path.now c.args.node None =
    rw c.in-None.is at (c.in_ok-stem_in.ensures p.behind (located p.main.value) p.behind_main c.args.path.now c.requires.count trail) in
    none_in c.args.bytes.now c.args.tokens.now p c.args.path.now c.args.node c.nodes_have_stems.ensures.one at

pub returns-clause-is : goal.returns-clause-is
returns-clause-is c =
    let p : FileProcesses = c.args.processes.now in
    let ds : List LocatedDefinition = located_definitions p.definitions p.behind in
    let trail : IsTrail ds (located p.main.value) p.behind_main c.args.path.now c.in-Some.trail = rw (c.in-Some.is, c.as_slice.ensures, c.deref.ensures) at c.in_ok-trail.ensures in
    let at : IsStemAt ds (located p.main.value) p.behind_main c.args.path.now c.args.node (Some c.in-Some-2.stem) =
    rw c.in-Some-2.is at (c.in_ok-stem_in.ensures p.behind (located p.main.value) p.behind_main c.args.path.now c.requires.count trail) in
    all_in c.args.bytes.now c.args.tokens.now p c.args.path.now c.args.node c.nodes_have_stems.ensures.one c.trails_are_uses.ensures.words c.nodes_have_stems.ensures.above (λ ds. c.one_written_place.ensures.one ds Every)
    c.in-Some.trail trail c.in-Some-2.stem at c.written_told.result c.written_told.ensures.is
