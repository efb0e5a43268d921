use Rattle.std.proofs.Common.{◌≡◌, Option, Some, sym, ◌∙◌, subst}
use Rattle.sap_macro.specs.declared.definition.Definition.{Definition}
use Rattle.sap_origin.specs.Reached.{IsReplaced}
use Rattle.sap_origin.proofs.Uses.{goes_through}
use Rattle.sap_origin.proofs.trail.enter.Goals as goal

pub returns : goal.returns
returns c = λ path s so within.
    let r = c.requires.replacing in
    let same : ◌≡◌ {A = Option Definition} (Some r.definition) (Some c.at.result.now) = sym r.stands ∙ c.at.ensures in
    let is : r.definition ≡ c.at.result.now = cc (same) in
    goes_through c.located_is_written.ensures c.args.defs.now c.requires.order c.args.behind.now c.requires.count c.args.name.now c.args.k c.at.result.now c.at.ensures
    (subst (λ (d : Definition). d.name ≡ c.args.name.now) is r.name_is) c.args.replaced (subst (λ (d : Definition). IsReplaced c.args.replaced d.params) is r.replaced) c.args.here c.requires.is.0
    c.requires.is.1 c.requires.is.2 path s so within c.deref.result c.deref.ensures
