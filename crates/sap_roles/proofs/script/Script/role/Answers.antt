use Rattle.std.proofs.Common.{◌<◌, ℕ, List, [], map, subst, sym}
use Rattle.std.specs.Prelude.{IfSome}
use Rattle.std.proofs.lemmas.List.{length-map}
use Rattle.sap_macro.specs.Order.{AreInOrder}
use Rattle.sap_macro.specs.Sources.{definition_of, definitions, located}
use Rattle.sap_macro.specs.Written.{Definition}
use Rattle.sap_origin.specs.Definitions.{located_definitions, plain_definition}
use Rattle.sap_roles.proofs.Casts.{role_is, same_names, within}
use Rattle.sap_roles.proofs.Plain.{zeros, zeros_for_each}
use Rattle.sap_roles.proofs.script.Script.role.Goals as goal

pub returns-clause-role : goal.returns-clause-role
returns-clause-role c = λ cast is.
    let s = c.args.self.now in
    let ds = located_definitions s.definitions is.counts in
    let order : AreInOrder [] (map plain_definition ds) = subst (λ (es : List Definition). AreInOrder [] es) (sym (c.located_definitions_are_written.ensures s.definitions is.counts is.as_many)) c.requires.order in
    role_is ds (located s.main.value) is.behind order (definitions s.definitions) (same_names s.definitions is.counts is.as_many) cast is.is c.args.path.now c.role_of.result
    (rw c.deref.ensures at (c.role_of.ensures is.counts is.behind is.as_many))

pub returns-clause-small : goal.returns-clause-small
returns-clause-small c =
    let s = c.args.self.now in
    let small = within (definitions s.definitions) c.role_of.result _ _ (c.role_of.ensures (zeros s.definitions) 0 (zeros_for_each s.definitions)) in
    subst (λ (n : ℕ). IfSome c.role_of.result (λ k. k < n)) (length-map s.definitions definition_of) small
