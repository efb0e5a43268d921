use Rattle.std.proofs.Common.{ap, Err}
use Rattle.sap_facts.specs.Cited.{cited_at}
use Rattle.sap_sides.specs.Messages.{IsSmallMessageFact}
use Rattle.sap_steps.specs.Faults.{IsRuleRefusal}
use Rattle.sap_steps.specs.code.Firing.{limited_fault}
use Rattle.sap_steps.proofs.Evaluated.{passed}
use Rattle.sap_steps.proofs.Fired.{messages, refused, cut_left}
use Rattle.sap_steps.proofs.Lists.{cited_all}
use Rattle.sap_steps.proofs.firing.fire_matched.Goals as goal

pub number-requires : goal.number-requires
number-requires c =
    let g = c.args.sig.now in
    let hs = cited_at c.args.facts.now.slots c.args.numbers.now in
    let held = cited_all (IsSmallMessageFact g) c.args.facts.now.slots c.args.numbers.now c.requires.held in
    rw c.requires.sig (messages c.laws_below.ensures g c.args.rule.now.rule c.args.b.now c.args.c.now hs c.requires.ready.well_made c.requires.right c.requires.found held)

pub returns-in_err-same-clause-refused : goal.returns-in_err-same-clause-refused
returns-in_err-same-clause-refused c =
    let g = c.args.sig.now in
    let r = c.args.rule.now.rule in
    let b = c.args.b.now in
    let bs = c.args.c.now in
    let laws = c.laws_below.ensures in
    let hs = cited_at c.args.facts.now.slots c.args.numbers.now in
    let held = cited_all (IsSmallMessageFact g) c.args.facts.now.slots c.args.numbers.now c.requires.held in
    let k = c.in_err-same.field-0.0 in
    let cut = cut_left laws g r b bs hs c.requires.ready.well_made c.requires.right c.requires.found held k (λ e. c.in_err-same.ensures.large (ap Err e)) in
    passed c.from_residual-in_err-same.result (IsRuleRefusal g r b hs) k (refused laws g r b bs hs c.requires.ready.well_made c.requires.right c.requires.found held (limited_fault k) cut) c.from_residual-in_err-same.ensures.1
