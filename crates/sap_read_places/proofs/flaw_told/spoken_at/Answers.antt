use Rattle.std.proofs.Common.{List}
use Rattle.sap_macro.specs.Located.{Located}
use Rattle.sap_macro.specs.Sources.{located}
use Rattle.sap_origin.specs.Definitions.{LocatedDefinition, located_definitions}
use Rattle.sap_origin.specs.Origins.{start}
use Rattle.sap_origin.specs.Reached.{Reaches, Standing}
use Rattle.sap_read.specs.declared.written.WrittenFile.{WrittenFile}
use Rattle.sap_origin.specs.Trails.{IsTrail}
use Rattle.sap_read_places.specs.code.FlawNodes.{expansion_in}
use Rattle.sap_read_places.proofs.SpokenTold.{has_site, speaks_at, speaks_nowhere}
use Rattle.sap_read_places.proofs.flaw_told.spoken_at.Goals as goal

pub returns-in-None : goal.returns-in-None
returns-in-None c =
    let w : WrittenFile = c.args.file.now in
    let ds : List LocatedDefinition = located_definitions w.processes.definitions w.processes.behind in
    let none : (z : Standing) (q : Located) → Reaches ds (start w.processes.behind_main) (located w.processes.main.value) c.args.path.now z q → ⊥ =
    rw (c.in-None.is, c.as_slice.ensures, c.deref.ensures, c.as_slice-2.ensures.is) at c.in_ok-trail_of.ensures in
    speaks_nowhere c.located_definitions_are_written.ensures c.located_is_written.ensures c.expansions_are_meant.ensures w c.requires.count c.requires.order c.requires.uses w.declared.signature
    c.args.which c.args.path.now c.one_written_place.ensures.some c.sites_are_the_places.ensures.at_path none

pub returns-in-Some : goal.returns-in-Some
returns-in-Some c =
    let w : WrittenFile = c.args.file.now in
    let ds : List LocatedDefinition = located_definitions w.processes.definitions w.processes.behind in
    let trail : IsTrail ds (located w.processes.main.value) w.processes.behind_main c.args.path.now c.in-Some.trail =
    rw (c.in-Some.is, c.as_slice.ensures, c.deref.ensures, c.as_slice-2.ensures.is) at c.in_ok-trail_of.ensures in
    let site =
    has_site c.located_definitions_are_written.ensures c.located_is_written.ensures c.expansions_are_meant.ensures w c.requires.count c.requires.order c.requires.uses w.declared.signature c.args.which
    c.args.path.now c.one_written_place.ensures.only c.sites_are_the_places.ensures.listed c.in-Some.trail trail in
    speaks_at c.sites_are_the_places.ensures.in_order w.declared.signature (expansion_in w) c.args.which c.args.path.now site _ c.new-none.ensures _ c.requires.is c.node_at.result c.node_at.ensures
