use Rattle.std.proofs.Common.{◌≡◌, ℕ, List, length, take, sym, subst, ◌∙◌, arith}
use Rattle.std.specs.Prelude.{IsSome}
use Rattle.sap_facts.specs.Facts.{fact_at}
use Rattle.sap_rule.specs.Variables.{facts_outer_vars}
use Rattle.sap_share.specs.Env.{bindings_of}
use Rattle.sap_sides.specs.Fitting.{FactsFit, IsOnlyChoice}
use Rattle.sap_terms.specs.declared.fact.Fact.{Fact}
use Rattle.sap_facts.specs.Cited.{cited_at}
use Rattle.sap_sides.specs.Messages.{HasNoDestructor}
use Rattle.sap_steps.proofs.Lists.{all_at, cited_get, cited_length, take_all}
use Rattle.sap_steps.proofs.Piled.{some_of}
use Rattle.sap_steps.proofs.pile.fit_facts.Goals as goal

pub fit-requires-clause-plain : goal.fit-requires-clause-plain
fit-requires-clause-plain c =
    all_at (HasNoDestructor c.args.facts.now.sig) c.args.fs.now c.loop-i.i c.at.result.now c.requires.plain c.at.ensures

pub returns-then-not-branch-clause-not : goal.returns-then-not-branch-clause-not
returns-then-not-branch-clause-not c = λ no.
    let g = c.args.facts.now.sig in
    let ts = c.args.facts.now.trees in
    let slots = c.args.facts.now.slots in
    let ks = c.args.numbers.now in
    let k = c.at-in-loop-i.result.now in
    let q = some_of (fact_at slots k) (all_at (λ (n : ℕ). IsSome (fact_at slots n)) ks c.loop-i.i k c.requires.live c.at-in-loop-i.ensures) in
    let at = cited_get slots ks c.loop-i.i k q.0 c.requires.live c.at-in-loop-i.ensures q.1 in
    c.facts_fit_in_turn.ensures.not g c.args.fs.now (cited_at slots ks) c.loop-i.i c.at.result.now q.0 (bindings_of ts c.args.env.now) (bindings_of ts c.loop-i.env) c.at.ensures at c.loop-i.invariant.found (c.in_ok-fit.ensures.not c.if-not-branch.true q.0 q.1)

pub loop-i-preserved : goal.loop-i-preserved
loop-i-preserved c =
    let g = c.args.facts.now.sig in
    let ts = c.args.facts.now.trees in
    let slots = c.args.facts.now.slots in
    let ks = c.args.numbers.now in
    let k = c.at-in-loop-i.result.now in
    let q = some_of (fact_at slots k) (all_at (λ (n : ℕ). IsSome (fact_at slots n)) ks c.loop-i.i k c.requires.live c.at-in-loop-i.ensures) in
    let at = cited_get slots ks c.loop-i.i k q.0 c.requires.live c.at-in-loop-i.ensures q.1 in
    record {
      found = c.facts_fit_in_turn.ensures.further g c.args.fs.now (cited_at slots ks) c.loop-i.i c.at.result.now q.0 (bindings_of ts c.args.env.now) (bindings_of ts c.loop-i.env) (bindings_of ts c.fit.new.env) c.at.ensures at c.loop-i.invariant.found (c.in_ok-fit.ensures.yes c.if-not-branch.false q.0 q.1);
      bound = c.in_ok-fit.ensures.bound;
    }

pub returns-clause-yes : goal.returns-clause-yes
returns-clause-yes c = λ yes.
    let g = c.args.facts.now.sig in
    let ts = c.args.facts.now.trees in
    let fs = c.args.fs.now in
    let hs = cited_at c.args.facts.now.slots c.args.numbers.now in
    let at_end : c.loop-i.i ≡ length fs = omega (arith, c.len-i-end.ensures) in
    let many = cited_length c.args.facts.now.slots c.args.numbers.now c.requires.live in
    let front = take_all fs c.loop-i.i at_end in
    let back = take_all hs c.loop-i.i (at_end ∙ sym c.requires.count ∙ sym many) in
    let b = bindings_of ts c.args.env.now in
    let d = bindings_of ts c.loop-i.env in
    subst (λ (ys : List Fact). IsOnlyChoice (FactsFit g fs ys) (facts_outer_vars g fs) b d) back (subst (λ (xs : List Fact). IsOnlyChoice (FactsFit g xs (take c.loop-i.i hs)) (facts_outer_vars g xs) b d) front c.loop-i.invariant.found)
