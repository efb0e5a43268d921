use Rattle.std.proofs.Common.{map, refl, ap, sym, ◌∙◌}
use Rattle.std.specs.Option.{option_copied}
use Rattle.std.proofs.lemmas.Result.{err_from_is_err_and}
use Rattle.sap_deduce.specs.Entries.{terms_of}
use Rattle.sap_rule.specs.RuleSteps.{RuleState}
use Rattle.sap_sides.specs.SharedFacts.{fact_seen}
use Rattle.sap_steps.specs.code.Ready.{IsReady, rules_of}
use Rattle.sap_steps.specs.code.Piled.{table_of}
use Rattle.sap_steps.proofs.Kept.{keeps_moved}
use Rattle.sap_steps.proofs.Ready.{no_rule, its_rule, ready-all}
use Rattle.sap_steps.proofs.Tied.{tied_keeps, tied_used}
use Rattle.sap_steps.proofs.Used.{rule_fault, rule_line}
use Rattle.sap_steps.proofs.state.RuleState.rule.Goals as goal

pub returns-in_default-clause-refused : goal.returns-in_default-clause-refused
returns-in_default-clause-refused c =
    rw (← c.self.view_is) (no_rule c.self.inside.rules c.args.name.now (sym c.named.ensures ∙ ap option_copied c.in_default.is))

pub use_rule-requires-clause-ready : goal.use_rule-requires-clause-ready
use_rule-requires-clause-ready c =
    rw c.signature-sig.ensures
    (ready-all (IsReady c.self.inside.knowledge.sig) c.self.inside.rules c.args.name.now c.in-Some.rule.now c.self.invariant.ready (sym c.in-Some.ensures))

pub returns-in_err-fired-clause-refused : goal.returns-in_err-fired-clause-refused
returns-in_err-fired-clause-refused c =
    let p = err_from_is_err_and c.from_residual.result c.from_residual.ensures.1 in
    let s : RuleState = record { facts = c.self.inside.facts.slots; known = terms_of c.self.inside.knowledge.entries; made = c.self.inside.made.keys } in
    let named = its_rule c.self.inside.rules c.args.name.now c.in-Some.rule.now (sym c.in-Some.ensures) in
    rw (p.1, p.2, ← c.self.view_is)
    (rule_fault c.self.inside.knowledge.sig (rules_of c.self.inside.rules) s c.args.name.now c.args.numbers.now c.args.b.now c.in-Some.rule.now.rule _ named (rw c.signature-sig.ensures at c.in_err-fired.ensures.refused))

pub invariant_of-self-2 : goal.invariant_of-self-2
invariant_of-self-2 c =
    let used = tied_keeps c.numbers_stay.ensures c.self.inside.rules c.self.inside.facts c.use_rule.new.facts c.self.inside.knowledge c.self.invariant c.use_rule.ensures.slots c.use_rule.ensures.keeps in
    tied_used c.self.inside.rules c.use_rule.new.facts c.carry_out.new.facts c.self.inside.knowledge c.args.numbers.now (map (fact_seen c.use_rule.new.facts.trees) c.in_ok-fired.fired.right.items) used (rw c.signature-sig.ensures at c.in_ok-fired.ensures.held) c.carry_out.ensures.sig c.carry_out.ensures.trees c.in_ok-acts.ensures.ok

pub returns-clause-ok : goal.returns-clause-ok
returns-clause-ok c =
    let named = its_rule c.self.inside.rules c.args.name.now c.in-Some.rule.now (sym c.in-Some.ensures) in
    rw (c.in_ok-acts.ensures.acts, ← c.self.view_is)
    (rule_line c.self.inside.knowledge.sig (rules_of c.self.inside.rules) c.self.inside.facts.slots c.carry_out.new.facts.slots (terms_of c.self.inside.knowledge.entries) c.self.inside.made.keys c.args.name.now c.args.numbers.now c.args.b.now c.in-Some.rule.now.rule c.in_ok-fired.fired.acts (map (fact_seen c.use_rule.new.facts.trees) c.in_ok-fired.fired.right.items) named c.in_ok-fired.ensures.taken (rw c.signature-sig.ensures at c.in_ok-fired.ensures.fires)
    (rw (c.in_ok-acts.ensures.ok, c.in_ok-fired.ensures.slots) refl))

pub invariant_of-self : goal.invariant_of-self
invariant_of-self c =
    tied_keeps c.numbers_stay.ensures c.self.inside.rules c.self.inside.facts c.use_rule.new.facts c.self.inside.knowledge c.self.invariant c.use_rule.ensures.slots c.use_rule.ensures.keeps

pub invariant_of-self-in_err-acts : goal.invariant_of-self-in_err-acts
invariant_of-self-in_err-acts c =
    let keeps = keeps_moved _ _ (table_of c.carry_out.new.facts) c.use_rule.ensures.keeps c.carry_out.ensures.sig c.carry_out.ensures.trees in
    tied_keeps c.numbers_stay.ensures c.self.inside.rules c.self.inside.facts c.carry_out.new.facts c.self.inside.knowledge c.self.invariant (c.in_err-acts.ensures.err ∙ c.use_rule.ensures.slots) keeps
