use Rattle.std.proofs.Common.{◌≡◌, ℕ, Option, Some, None, false, sym, ap, subst, ◌∙◌}
use Rattle.std.specs.Option.{option_copied}
use Rattle.sap_terms.specs.NameMap.{value_at}
use Rattle.sap_terms.specs.Variables.{is_known}
use Rattle.sap_macro.specs.Indexed.{IsIndex, defined}
use Rattle.sap_macro.specs.Sources.{definitions}
use Rattle.sap_roles.proofs.Uses.{goes_through, undefined}
use Rattle.sap_roles.proofs.role.through_use.Goals as goal

pub returns-in-None : goal.returns-in-None
returns-in-None c = λ ns path s count within l role so.
    let f = c.args.name.now in
    let none : value_at c.args.index.now f ≡ None = sym c.get.ensures ∙ ap option_copied c.in-None.is in
    let unknown : is_known (defined (definitions c.args.defs.now)) f ≡ false = subst (λ (o : Option ℕ). IsIndex (definitions c.args.defs.now) f o) none (c.requires.index f) in
    undefined c.located_is_written.ensures c.args.defs.now ns c.requires.order count c.args.here c.requires.is.0 f c.requires.is.1 c.requires.is.2 path s l role so within unknown

pub returns-in-Some : goal.returns-in-Some
returns-in-Some c = λ ns path s count within l role so.
    let f = c.args.name.now in
    let k = c.in-Some.k.now in
    let some : value_at c.args.index.now f ≡ Some k = sym c.get.ensures ∙ ap option_copied c.in-Some.is in
    let index : IsIndex (definitions c.args.defs.now) f (Some k) = subst (λ (o : Option ℕ). IsIndex (definitions c.args.defs.now) f o) some (c.requires.index f) in
    goes_through c.located_is_written.ensures c.args.defs.now ns c.requires.order count c.args.here c.requires.is.0 f c.requires.is.1 c.requires.is.2 path s l role so within
    k c.at.result.now c.at.ensures index c.deref.result c.deref.ensures
