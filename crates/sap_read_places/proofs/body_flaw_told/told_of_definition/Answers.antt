use Rattle.std.proofs.Common.{ℕ, ap, sym, ◌∙◌, subst, Option, slice_index_or}
use Rattle.std.proofs.lemmas.Option.{slice_get-map}
use Rattle.std.specs.Prelude.{IfOk, option_map}
use Rattle.sap_macro.specs.Expansion.{plain}
use Rattle.sap_macro.specs.Indexed.{defined}
use Rattle.sap_macro.specs.Order.{UsesOnly}
use Rattle.sap_macro.specs.Seen.{seen}
use Rattle.sap_macro.specs.Sources.{definition_of, definitions, located, written}
use Rattle.sap_macro.specs.declared.source.Source.{Source}
use Rattle.sap_origin.specs.Definitions.{located_definitions}
use Rattle.sap_uses.specs.ScopeFlaws.{params_in_scope}
use Rattle.sap_read_places.specs.code.BodyFlaws.{IsNodeAlong}
use Rattle.sap_read_places.specs.code.BodyNodes.{IsInBody}
use Rattle.sap_read_places.proofs.BodyFlawTold.{all_of_body, none_of_body}
use Rattle.sap_read_places.proofs.body_flaw_told.told_of_definition.Goals as goal

pub told_in_body-requires-clause-used : goal.told_in_body-requires-clause-used
told_in_body-requires-clause-used c =
    let defs = c.args.processes.now.definitions in
    let d = c.at-d.result.now in
    subst (λ (b : Source). UsesOnly (defined (definitions defs)) (written b)) (sym c.deref.ensures)
    (c.bodies_use_earlier_names.ensures.defined (definitions defs) c.args.k (definition_of d) c.requires.order
    (slice_get-map definition_of defs c.args.k ∙ ap (option_map definition_of) c.at-d.ensures))

pub returns-in-None-clause-is : goal.returns-in-None-clause-is
returns-in-None-clause-is c =
    let defs = c.args.processes.now.definitions in
    let ns = c.args.processes.now.behind in
    let d = c.at-d.result.now in
    let speaks = subst (λ (r : Option ℕ). IsNodeAlong c.args.sig.now (params_in_scope (definition_of d)) (seen (plain (definitions defs) (written d.body.value))) c.args.which c.args.path.now r)
    c.in-None.is c.in_ok-node_in_body.ensures in
    none_of_body c.located_definitions_are_written.ensures defs ns c.requires.count c.located_is_written.ensures c.args.k d (slice_index_or ns c.args.k 0)
    (c.located_definitions_by_number.ensures.located defs ns c.args.k d c.requires.count c.at-d.ensures) c.args.sig.now c.args.bytes.now c.args.tokens.now c.args.which c.args.path.now speaks

pub returns-in-Some-clause-is : goal.returns-in-Some-clause-is
returns-in-Some-clause-is c =
    let defs = c.args.processes.now.definitions in
    let ns = c.args.processes.now.behind in
    let d = c.at-d.result.now in
    let ds = located_definitions defs ns in
    let speaks = subst (λ (r : Option ℕ). IsNodeAlong c.args.sig.now (params_in_scope (definition_of d)) (seen (plain (definitions defs) (written d.body.value))) c.args.which c.args.path.now r)
    c.in-Some.is c.in_ok-node_in_body.ensures in
    let told : IfOk c.told_in_body.result (λ o. IsInBody c.args.bytes.now c.args.tokens.now ds (located d.body.value) (slice_index_or ns c.args.k 0) c.args.path.now c.in-Some.node o) =
    rw (c.deref.ensures, c.as_slice.ensures, c.as_slice-in-Some.ensures.is) at c.told_in_body.ensures.is in
    all_of_body c.located_definitions_are_written.ensures defs ns c.requires.count c.located_is_written.ensures c.args.k d (slice_index_or ns c.args.k 0)
    (c.located_definitions_by_number.ensures.located defs ns c.args.k d c.requires.count c.at-d.ensures) c.args.sig.now c.args.bytes.now c.args.tokens.now c.args.which c.args.path.now c.in-Some.node c.told_in_body.result speaks told
