use Rattle.std.proofs.Common.{◌≡◌, List, [], map, sym, ap, subst, ◌∙◌, Some}
use Rattle.sap_macro.specs.Order.{AreInOrder, UsesOnly}
use Rattle.sap_macro.specs.Indexed.{defined}
use Rattle.sap_macro.specs.Sources.{written}
use Rattle.sap_macro.specs.Written.{Definition}
use Rattle.sap_read.specs.FileProcess.{main_of}
use Rattle.sap_read.specs.Entries.{body}
use Rattle.sap_read.specs.code.Parting.{located_main, written_main}
use Rattle.sap_read.proofs.FromParts.{no_main}
use Rattle.sap_read.proofs.InOrder.{all_in_order, main_defined}
use Rattle.sap_read.proofs.Unrefused.{no_cause}
use Rattle.sap_read.proofs.whole.file_processes.Goals as goal

pub unreachable-requires : goal.unreachable-requires
unreachable-requires c = no_main (map body c.args.entries) c.requires.0 c.requires.1 (sym c.in_ok-defs.ensures.main ∙ ap written_main c.in-None.is)

pub returns-clause-parts : goal.returns-clause-parts
returns-clause-parts c = λ ss clash none.
    let free = no_cause (map body c.args.entries) ss clash none in
    let main : main_of (map body c.args.entries) ≡ Some (written c.in-Some.main.source.value) = sym c.in_ok-defs.ensures.main ∙ ap written_main c.in-Some.is in
    record {
      nothing = none;
      order = subst (λ (ds : List Definition). AreInOrder [] ds) (sym c.in_ok-defs.ensures.definitions) (all_in_order (map body c.args.entries) free.known free.distinct);
      definitions_are = c.in_ok-defs.ensures.definitions;
      main_is = main;
      uses = subst (λ (ds : List Definition). UsesOnly (defined ds) (written c.in-Some.main.source.value)) (sym c.in_ok-defs.ensures.definitions)
          (main_defined (map body c.args.entries) (written c.in-Some.main.source.value) free.known main);
      count = c.in_ok-defs.ensures.count;
    }

pub returns-clause-places : goal.returns-clause-places
returns-clause-places c = record {
  definitions_are = c.in_ok-defs.ensures.definitions_at;
  main_is = sym c.in_ok-defs.ensures.main_at ∙ ap located_main c.in-Some.is;
}
