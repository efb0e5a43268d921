use Rattle.std.proofs.Common.{refl}
use Rattle.std.specs.List.{flat_map}
use Rattle.sap_macro.specs.Sources.{definition_of, definitions}
use Rattle.sap_notes.specs.Symbols.{definition_symbols}
use Rattle.sap_notes.proofs.Gathered.{gathered_item}
use Rattle.sap_notes.proofs.symbols.add_bodies.Goals as goal

pub loop-d-preserved : goal.loop-d-preserved
loop-d-preserved c =
    gathered_item (λ ds. flat_map definition_symbols (definitions ds)) (λ d. definition_symbols (definition_of d)) (λ d ds. refl) c.as_slice-d-items.result.now c.loop-d.d-index c.d-item.result
    c.loop-d-test.true c.d-item.is c.loop-d.names c.add_definition.new.names _ c.in_ok-add_definition.ensures c.loop-d.invariant
