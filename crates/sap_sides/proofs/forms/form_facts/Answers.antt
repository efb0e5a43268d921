use Rattle.std.proofs.Common.{◌≡◌, List, length, map, subst, arith}
use Rattle.sap_terms.specs.declared.fact.Fact.{Fact}
use Rattle.sap_terms.specs.declared.limits.TheConstants.{MOST_TERM_NODES}
use Rattle.sap_share.specs.Env.{given}
use Rattle.sap_sides.specs.SharedFacts.{fact_seen}
use Rattle.sap_sides.proofs.ByNumbers.{forms_kept, fact_ground_then, fact_over_then, fact_large_before, facts_more}
use Rattle.sap_sides.proofs.Formed.{AreFactsFormed}
use Rattle.sap_sides.proofs.Kept.{keeps-both}
use Rattle.sap_sides.proofs.Lists.{take_all}
use Rattle.sap_sides.proofs.forms.form_facts.Goals as goal

pub form_fact-requires-clause-ground : goal.form_fact-requires-clause-ground
form_fact-requires-clause-ground c =
    fact_ground_then c.args.table.now c.loop-k.table c.args.env.now c.loop-k.invariant.keeps c.requires.env c.args.fs.now c.loop-k.k c.at.result.now c.requires.ground c.at.ensures

pub form_fact-requires-clause-over : goal.form_fact-requires-clause-over
form_fact-requires-clause-over c =
    fact_over_then c.args.table.now c.loop-k.table c.args.env.now c.loop-k.invariant.keeps c.requires.env c.args.fs.now c.loop-k.k c.at.result.now c.requires.over c.at.ensures

pub returns-in-Err-clause-large : goal.returns-in-Err-clause-large
returns-in-Err-clause-large c = λ i.
    fact_large_before c.args.table.now c.loop-k.table c.args.env.now c.loop-k.invariant.keeps c.requires.env c.args.fs.now c.loop-k.k c.at.result.now c.at.ensures (c.in-Err.ensures.large (cc i))

pub loop-k-preserved : goal.loop-k-preserved
loop-k-preserved c =
    let h = c.loop-k.invariant in
    let x = c.in-Ok.ensures in
    let q = facts_more c.args.table.now c.loop-k.table c.args.env.now h.keeps c.requires.env c.form_fact.new.table c.args.fs.now c.loop-k.k c.at.result.now c.loop-k.shared.items c.push_fact.new.shared.items c.in-Ok.f h.formed h.below x.keeps x.below x.form x.within c.at.ensures c.in_ok-push_fact-in-Ok.ensures in
    record { formed = q.0; below = q.1; keeps = keeps-both c.args.table.now c.loop-k.table c.form_fact.new.table h.keeps x.keeps }

pub form_fact-requires-clause-env : goal.form_fact-requires-clause-env
form_fact-requires-clause-env c =
    forms_kept MOST_TERM_NODES c.args.table.now c.loop-k.table c.args.env.now c.loop-k.invariant.keeps c.requires.env

pub returns-in-Err-clause-keeps : goal.returns-in-Err-clause-keeps
returns-in-Err-clause-keeps c = keeps-both c.args.table.now c.loop-k.table c.form_fact.new.table c.loop-k.invariant.keeps c.in-Err.ensures.keeps

pub returns-in_err-push_fact-in-Ok-clause-keeps : goal.returns-in_err-push_fact-in-Ok-clause-keeps
returns-in_err-push_fact-in-Ok-clause-keeps c = keeps-both c.args.table.now c.loop-k.table c.form_fact.new.table c.loop-k.invariant.keeps c.in-Ok.ensures.keeps

pub returns-clause-forms : goal.returns-clause-forms
returns-clause-forms c =
    let at_end : c.loop-k.k ≡ length c.args.fs.now = omega (arith, c.len-k-end.ensures) in
    let seen : List Fact = map (fact_seen c.loop-k.table.trees) c.loop-k.shared.items in
    (subst (λ (fs : List Fact). AreFactsFormed c.args.table.now.sig (given c.args.table.now.trees c.args.env.now) fs seen) (take_all c.args.fs.now c.loop-k.k at_end) c.loop-k.invariant.formed).forms

pub returns-clause-within : goal.returns-clause-within
returns-clause-within c =
    let at_end : c.loop-k.k ≡ length c.args.fs.now = omega (arith, c.len-k-end.ensures) in
    let seen : List Fact = map (fact_seen c.loop-k.table.trees) c.loop-k.shared.items in
    (subst (λ (fs : List Fact). AreFactsFormed c.args.table.now.sig (given c.args.table.now.trees c.args.env.now) fs seen) (take_all c.args.fs.now c.loop-k.k at_end) c.loop-k.invariant.formed).within
