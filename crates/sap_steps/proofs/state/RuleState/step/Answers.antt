use Rattle.std.proofs.Common.{List}
use Rattle.sap_deduce.specs.Entries.{terms_of}
use Rattle.sap_terms.specs.Message.{AreMessageFacts}
use Rattle.sap_terms.specs.declared.fact.Fact.{Fact}
use Rattle.sap_rule.specs.RuleSteps.{RuleState}
use Rattle.sap_steps.specs.Lines.{IsLine, HasFewNodes}
use Rattle.sap_steps.specs.code.Ready.{rules_of}
use Rattle.sap_steps.proofs.Fired.{if_ok}
use Rattle.sap_steps.proofs.Shown.{shown}
use Rattle.sap_steps.proofs.state.RuleState.step.Goals as goal

pub returns-clause-shown : goal.returns-clause-shown
returns-clause-shown c =
    let g = c.self.inside.knowledge.sig in
    let ps = c.self.inside.rules in
    let known = terms_of c.self.inside.knowledge.entries in
    let s : RuleState = record { facts = c.self.inside.facts.slots; known = known; made = c.self.inside.made.keys } in
    let z = c.advance.new.self.at in
    let builtins = rw c.signature.ensures at c.builtins_are_held.ensures in
    let is = rw (← c.self.view_is) at c.advance.ensures.ok in
    rw (← c.self.view_is)
    (if_ok (λ (acts : List Fact). IsLine g (rules_of ps) HasFewNodes s c.args.s.now acts z) (AreMessageFacts g) c.advance.result
    (λ acts is. shown c.lines_are_steps.ensures.small_steps c.steps_keep_messages.ensures g ps s.facts known s.made z c.args.s.now acts builtins c.self.invariant.ready c.self.invariant.held c.each_is_deducible.ensures.messages is) is)
