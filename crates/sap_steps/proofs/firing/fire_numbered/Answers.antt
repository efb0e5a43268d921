use Rattle.sap_facts.specs.Cited.{cited_at}
use Rattle.sap_share.specs.Env.{bindings_of}
use Rattle.sap_sides.specs.Messages.{IsSmallMessageFact}
use Rattle.sap_steps.proofs.Fired.{no_match, plain}
use Rattle.sap_steps.proofs.Lists.{cited_all}
use Rattle.sap_steps.proofs.firing.fire_numbered.Goals as goal

pub returns-then-not-branch-clause-refused : goal.returns-then-not-branch-clause-refused
returns-then-not-branch-clause-refused c =
    let hs = cited_at c.args.facts.now.slots c.args.numbers.now in
    no_match c.args.sig.now c.args.rule.now.rule c.args.b.now hs c.requires.ready.well_made c.requires.right (rw (c.requires.sig, c.requires.are) at (c.in_ok-fit_facts.ensures.not c.if-not-branch.true))

pub fire_bound-requires-clause-same : goal.fire_bound-requires-clause-same
fire_bound-requires-clause-same c =
    let g = c.args.sig.now in
    let hs = cited_at c.args.facts.now.slots c.args.numbers.now in
    let held = cited_all (IsSmallMessageFact g) c.args.facts.now.slots c.args.numbers.now c.requires.held in
    let found = rw (c.requires.sig, c.requires.are) at (c.in_ok-fit_facts.ensures.yes c.if-not-branch.false) in
    plain c.laws_below.ensures g c.args.rule.now.rule c.args.b.now (bindings_of c.args.facts.now.trees c.fit_facts.new.env) hs c.requires.ready.well_made c.requires.right found held c.requires.plain
