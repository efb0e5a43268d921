use Rattle.std.proofs.Common.{◌≡◌, ◌++◌, length, map}
use Rattle.std.specs.Vec.Iter.{into_iter_items}
use Rattle.sap_macro.specs.Sources.{definitions}
use Rattle.sap_origin.specs.Definitions.{located_definitions}
use Rattle.sap_read.specs.FileProcess.{definitions_of, main_of}
use Rattle.sap_read.specs.LocatedItems.{definitions_at, main_at}
use Rattle.sap_read.specs.Entries.{body, located_body}
use Rattle.sap_read.specs.code.Parting.{located_main, written_main}
use Rattle.sap_read.proofs.whole.parted.Given as goal

abbrev pub invariant-loop-entry : goal.invariant-loop-entry
invariant-loop-entry l = record {
  next : (goal.iterator-loop-entry).can_next l.entry-iterator × (goal.iterator-loop-entry).is_finite l.entry-iterator × (l.yielded ++ into_iter_items l.entry-iterator ≡ l.fn.entries);
  defs : definitions l.all.defs ≡ definitions_of (map body l.yielded);
  main : written_main l.all.main ≡ main_of (map body l.yielded);
  count : length l.all.behind ≡ length l.all.defs;
  defs_at : located_definitions l.all.defs l.all.behind ≡ definitions_at (map located_body l.yielded);
  main_at : located_main l.all.main ≡ main_at (map located_body l.yielded);
}
