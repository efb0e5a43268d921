use Rattle.std.proofs.Common.{map, sym, ap, subst, Err}
use Rattle.std.specs.List.{All}
use Rattle.sap_facts.specs.Cited.{cited_at}
use Rattle.sap_share.specs.Env.{given, bindings_of}
use Rattle.sap_sides.specs.Messages.{IsGroundFact, IsSmallMessageFact}
use Rattle.sap_sides.specs.SharedFacts.{fact_seen}
use Rattle.sap_steps.specs.Faults.{IsRuleRefusal}
use Rattle.sap_steps.specs.code.Firing.{limited_fault}
use Rattle.sap_steps.specs.declared.fault.RFault.TheVariants.{Unequal}
use Rattle.sap_terms.specs.Choice.{Choice}
use Rattle.sap_terms.specs.Modulo.{instance_facts}
use Rattle.sap_steps.proofs.Evaluated.{passed}
use Rattle.sap_steps.proofs.Fired.{fires, refused, right_held, ground_acts, ground_right, evaluates_bound, otherwise_bound, cut_bound}
use Rattle.sap_steps.proofs.Lists.{cited_all}
use Rattle.sap_steps.proofs.firing.fire_bound.Goals as goal

pub form-requires-clause-ground_acts : goal.form-requires-clause-ground_acts
form-requires-clause-ground_acts c =
    let g = c.args.sig.now in
    let r = c.args.rule.now.rule in
    let b = c.args.b.now in
    let ts = c.args.facts.now.trees in
    let env = c.args.env.now in
    let bs = bindings_of ts env in
    let laws = c.laws_below.ensures in
    let eq = laws.given ts env in
    let hs = cited_at c.args.facts.now.slots c.args.numbers.now in
    let held = cited_all (IsSmallMessageFact g) c.args.facts.now.slots c.args.numbers.now c.requires.held in
    subst (λ (σ : Choice). All IsGroundFact (instance_facts σ r.acts)) (sym eq) (ground_acts laws g r b bs hs c.requires.ready.well_made c.requires.right c.requires.found held)

pub form-requires-clause-ground_right : goal.form-requires-clause-ground_right
form-requires-clause-ground_right c =
    let g = c.args.sig.now in
    let r = c.args.rule.now.rule in
    let b = c.args.b.now in
    let ts = c.args.facts.now.trees in
    let env = c.args.env.now in
    let bs = bindings_of ts env in
    let laws = c.laws_below.ensures in
    let eq = laws.given ts env in
    let hs = cited_at c.args.facts.now.slots c.args.numbers.now in
    let held = cited_all (IsSmallMessageFact g) c.args.facts.now.slots c.args.numbers.now c.requires.held in
    subst (λ (σ : Choice). All IsGroundFact (instance_facts σ r.right)) (sym eq) (ground_right laws g r b bs hs c.requires.ready.well_made c.requires.right c.requires.found held)

pub returns-in_err-sides-clause-refused : goal.returns-in_err-sides-clause-refused
returns-in_err-sides-clause-refused c =
    let g = c.args.sig.now in
    let r = c.args.rule.now.rule in
    let b = c.args.b.now in
    let ts = c.args.facts.now.trees in
    let env = c.args.env.now in
    let bs = bindings_of ts env in
    let laws = c.laws_below.ensures in
    let eq = laws.given ts env in
    let hs = cited_at c.args.facts.now.slots c.args.numbers.now in
    let held = cited_all (IsSmallMessageFact g) c.args.facts.now.slots c.args.numbers.now c.requires.held in
    let k = c.in_err-sides.field-0.0 in
    let cut = cut_bound laws g r b bs hs c.requires.ready.well_made c.requires.right c.requires.found held c.args.facts.now.sig (given ts env) c.requires.sig eq k (λ e. c.in_err-sides.ensures.large (ap Err e)) in
    passed c.from_residual.result (IsRuleRefusal g r b hs) k (refused laws g r b bs hs c.requires.ready.well_made c.requires.right c.requires.found held (limited_fault k) cut) c.from_residual.ensures.1

pub returns-then-not-same-clause-refused : goal.returns-then-not-same-clause-refused
returns-then-not-same-clause-refused c =
    let g = c.args.sig.now in
    let r = c.args.rule.now.rule in
    let b = c.args.b.now in
    let ts = c.args.facts.now.trees in
    let env = c.args.env.now in
    let bs = bindings_of ts env in
    let laws = c.laws_below.ensures in
    let eq = laws.given ts env in
    let hs = cited_at c.args.facts.now.slots c.args.numbers.now in
    let held = cited_all (IsSmallMessageFact g) c.args.facts.now.slots c.args.numbers.now c.requires.held in
    let s = c.in_ok-sides.ensures.sides in
    let o = otherwise_bound laws g r b bs hs c.requires.ready.well_made c.requires.right c.requires.found held c.args.same c.if-not-same.true c.requires.same c.args.facts.now.sig (given ts env) c.requires.sig eq s.within_acts s.within_right in
    refused laws g r b bs hs c.requires.ready.well_made c.requires.right c.requires.found held Unequal o

pub returns-clause-below : goal.returns-clause-below
returns-clause-below c = c.in_ok-sides.ensures.sides.below

pub returns-clause-fires : goal.returns-clause-fires
returns-clause-fires c =
    let g = c.args.sig.now in
    let r = c.args.rule.now.rule in
    let b = c.args.b.now in
    let ts = c.args.facts.now.trees in
    let env = c.args.env.now in
    let bs = bindings_of ts env in
    let laws = c.laws_below.ensures in
    let eq = laws.given ts env in
    let hs = cited_at c.args.facts.now.slots c.args.numbers.now in
    let held = cited_all (IsSmallMessageFact g) c.args.facts.now.slots c.args.numbers.now c.requires.held in
    let x = c.in_ok-sides.sides in
    let right = map (fact_seen c.form.new.self.trees) x.right.items in
    let s = c.in_ok-sides.ensures.sides in
    let e = evaluates_bound laws g r b bs hs c.requires.ready.well_made c.requires.right c.requires.found held c.args.same c.if-not-same.false c.requires.same c.args.facts.now.sig (given ts env) c.requires.sig eq x.acts right s.acts_forms s.right_forms s.within_acts s.within_right in
    fires laws g r b bs hs c.requires.ready.well_made c.requires.right c.requires.found held x.acts right e

pub returns-clause-held : goal.returns-clause-held
returns-clause-held c =
    let g = c.args.sig.now in
    let r = c.args.rule.now.rule in
    let b = c.args.b.now in
    let ts = c.args.facts.now.trees in
    let env = c.args.env.now in
    let bs = bindings_of ts env in
    let laws = c.laws_below.ensures in
    let eq = laws.given ts env in
    let hs = cited_at c.args.facts.now.slots c.args.numbers.now in
    let held = cited_all (IsSmallMessageFact g) c.args.facts.now.slots c.args.numbers.now c.requires.held in
    let x = c.in_ok-sides.sides in
    let right = map (fact_seen c.form.new.self.trees) x.right.items in
    let s = c.in_ok-sides.ensures.sides in
    let e = evaluates_bound laws g r b bs hs c.requires.ready.well_made c.requires.right c.requires.found held c.args.same c.if-not-same.false c.requires.same c.args.facts.now.sig (given ts env) c.requires.sig eq x.acts right s.acts_forms s.right_forms s.within_acts s.within_right in
    right_held laws g r b bs hs c.requires.ready.well_made c.requires.right c.requires.found held c.builtins_are_held.ensures x.acts right e
