use Rattle.std.proofs.Common.{◌≡◌, ℕ, sym, ap, ◌∙◌, subst, Option, None, Some}
use Rattle.std.specs.Option.{option_copied}
use Rattle.sap_terms.specs.NameMap.{value_at}
use Rattle.sap_macro.specs.Indexed.{IsIndex}
use Rattle.sap_macro.specs.Sources.{definitions}
use Rattle.sap_read_places.proofs.BodyFlawTold.{all_of_name, index_within, none_of_name}
use Rattle.sap_read_places.proofs.body_flaw_told.told_of_name.Goals as goal

pub returns-in-None-clause-is : goal.returns-in-None-clause-is
returns-in-None-clause-is c =
    let f = c.args.name.now in
    let defs = c.args.processes.now.definitions in
    let none : value_at c.in_ok-index.index f ≡ None = sym c.get.ensures ∙ ap option_copied c.in-None.is in
    let index : IsIndex (definitions defs) f None = subst (λ (o : Option ℕ). IsIndex (definitions defs) f o) none (c.in_ok-index.ensures f) in
    none_of_name c.located_definitions_are_written.ensures defs c.args.processes.now.behind c.requires.count c.args.sig.now c.args.bytes.now c.args.tokens.now f c.args.which c.args.path.now c.names_stand_for_definitions.ensures.nothing index

pub told_of_definition-requires-clause-within : goal.told_of_definition-requires-clause-within
told_of_definition-requires-clause-within c =
    let f = c.args.name.now in
    let defs = c.args.processes.now.definitions in
    let some : value_at c.in_ok-index.index f ≡ Some c.in-Some.k.now = sym c.get.ensures ∙ ap option_copied c.in-Some.is in
    let index : IsIndex (definitions defs) f (Some c.in-Some.k.now) = subst (λ (o : Option ℕ). IsIndex (definitions defs) f o) some (c.in_ok-index.ensures f) in
    index_within defs f c.in-Some.k.now index

pub returns-clause-is : goal.returns-clause-is
returns-clause-is c =
    let f = c.args.name.now in
    let defs = c.args.processes.now.definitions in
    let some : value_at c.in_ok-index.index f ≡ Some c.in-Some.k.now = sym c.get.ensures ∙ ap option_copied c.in-Some.is in
    let index : IsIndex (definitions defs) f (Some c.in-Some.k.now) = subst (λ (o : Option ℕ). IsIndex (definitions defs) f o) some (c.in_ok-index.ensures f) in
    all_of_name c.located_definitions_are_written.ensures defs c.args.processes.now.behind c.requires.count c.args.sig.now c.args.bytes.now c.args.tokens.now f c.args.which c.args.path.now
    c.names_stand_for_definitions.ensures.stand c.requires.order c.in-Some.k.now index c.told_of_definition.result c.told_of_definition.ensures.is
