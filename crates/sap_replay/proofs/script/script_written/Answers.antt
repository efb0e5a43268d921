use Rattle.std.proofs.Common.{◌≡◌, ℕ, List, [], length, map, subst, sym}
use Rattle.std.specs.Prelude.{IfOk}
use Rattle.std.proofs.lemmas.Result.{IfOk-weaker}
use Rattle.sap_macro.specs.Indexed.{defined}
use Rattle.sap_macro.specs.Located.{without_numbers}
use Rattle.sap_macro.specs.Order.{AreInOrder, UsesOnly}
use Rattle.sap_macro.specs.Sources.{definitions, located, written}
use Rattle.sap_macro.specs.Written.{Definition, Written}
use Rattle.sap_origin.specs.Definitions.{located_definitions, plain_definition}
use Rattle.sap_roles.specs.Casts.{IsCastOfScript}
use Rattle.sap_replay.proofs.script.script_written.Goals as goal

pub returns-in-Ok-clause-cast : goal.returns-in-Ok-clause-cast
returns-in-Ok-clause-cast c =
    let file = c.in-Ok.file in
    let is = c.in-Ok.ensures.written in
    let defs = file.processes.definitions in
    let ns = file.processes.behind in
    let main = file.processes.main.value in
    let ds = located_definitions defs ns in
    let plain : map plain_definition ds ≡ definitions defs = c.located_definitions_are_written.ensures defs ns is.count in
    let same : without_numbers (located main) ≡ written main = c.located_is_written.ensures main in
    let order : AreInOrder [] (map plain_definition ds) = subst (λ (es : List Definition). AreInOrder [] es) (sym plain) is.order in
    let uses : UsesOnly (defined (map plain_definition ds)) (without_numbers (located main)) =
    subst (λ (w : Written). UsesOnly (defined (map plain_definition ds)) w) (sym same) (subst (λ (es : List Definition). UsesOnly (defined es) (written main)) (sym plain) is.uses) in
    let cast = c.casts_are_one.ensures.some ds (located main) file.processes.behind_main order uses in
    IfOk-weaker c.new.result (λ s. IsCastOfScript s cast.0) _
    (λ s of_script. (cast.0, of_script, record { file = file; written = is; is = cast.1 }))
    (c.new.ensures.cast ns file.processes.behind_main cast.0 is.count cast.1)
