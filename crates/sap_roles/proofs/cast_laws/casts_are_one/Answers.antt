use Rattle.std.proofs.Common.{◌≡◌, List, [], subst, sym}
use Rattle.sap_macro.specs.Expansion.{expansion}
use Rattle.sap_macro.specs.Indexed.{defined}
use Rattle.sap_macro.specs.Located.{without_numbers}
use Rattle.sap_macro.specs.Order.{AreInOrder, UsesOnly}
use Rattle.sap_macro.specs.Sources.{definitions, located, written}
use Rattle.sap_macro.specs.Written.{Definition, Written}
use Rattle.sap_origin.specs.Definitions.{located_definitions, plain_definition}
use Rattle.sap_origin.specs.Origins.{start}
use Rattle.std.specs.Prelude.{map}
use Rattle.sap_roles.proofs.Casts.{one_cast, some_cast}
use Rattle.sap_roles.proofs.Plain.{zeros, zeros_for_each}
use Rattle.sap_roles.proofs.cast_laws.casts_are_one.Goals as goal

pub returns-clause-some : goal.returns-clause-some
returns-clause-some c = λ ds p behind order uses.
    some_cast ds p behind (expansion (map plain_definition ds) [] (without_numbers p)).process
    (λ path y there. c.one_role.ensures.expanded ds p behind [] path y order uses there)
    (λ path z q reaches. (let found = c.places_have_their_forms.ensures.only ds p q [] (start behind) z path order uses reaches in (found.0, found.1)))

pub returns-clause-one : goal.returns-clause-one
returns-clause-one c = λ ds p behind a b order x y. one_cast ds p behind order a b x y

pub returns-clause-scripts : goal.returns-clause-scripts
returns-clause-scripts c = λ s is.
    let ns = zeros s.definitions in
    let many = zeros_for_each s.definitions in
    let ds = located_definitions s.definitions ns in
    let plain : map plain_definition ds ≡ definitions s.definitions = c.located_definitions_are_written.ensures s.definitions ns many in
    let main : without_numbers (located s.main.value) ≡ written s.main.value = c.located_is_written.ensures s.main.value in
    let order : AreInOrder [] (map plain_definition ds) = subst (λ (es : List Definition). AreInOrder [] es) (sym plain) is.order in
    let uses : UsesOnly (defined (map plain_definition ds)) (without_numbers (located s.main.value)) =
    subst (λ (w : Written). UsesOnly (defined (map plain_definition ds)) w) (sym main) (subst (λ (es : List Definition). UsesOnly (defined es) (written s.main.value)) (sym plain) is.uses) in
    let found = some_cast ds (located s.main.value) 0 (expansion (map plain_definition ds) [] (without_numbers (located s.main.value))).process
    (λ path y there. c.one_role.ensures.expanded ds (located s.main.value) 0 [] path y order uses there)
    (λ path z q reaches. (let f = c.places_have_their_forms.ensures.only ds (located s.main.value) q [] (start 0) z path order uses reaches in (f.0, f.1))) in
    (found.0, record { counts = ns; behind = 0; as_many = many; is = found.1 })
