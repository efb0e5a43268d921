use Rattle.std.proofs.Common.{List, length, ap, subst, ◌∙◌}
use Rattle.std.proofs.lemmas.Option.{MatchOption-at_none, MatchOption-at_some}
use Rattle.sap_rule.specs.Variables.{facts_outer_vars}
use Rattle.sap_sides.specs.Fitting.{IsOnlyChoice, HasNoChoice, FactsFit}
use Rattle.sap_terms.specs.declared.binding.Binding.{Binding}
use Rattle.sap_terms.specs.declared.fact.Fact.{Fact}
use Rattle.sap_facts.specs.Cited.{cited_at}
use Rattle.sap_steps.proofs.Fired.{no_match}
use Rattle.sap_steps.proofs.Lists.{cited_length}
use Rattle.sap_steps.proofs.firing.fire_built.Goals as goal

pub match_facts-requires : goal.match_facts-requires
match_facts-requires c =
    record {
      count = ap (λ (xs : List Fact). length xs) c.in_ok-cited.ensures ∙ cited_length c.args.facts.now.slots c.args.numbers.now c.requires.live ∙ c.requires.count;
    }

pub fire_matched-requires-clause-count : goal.fire_matched-requires-clause-count
fire_matched-requires-clause-count c =
    ap (λ (xs : List Fact). length xs) c.in_ok-cited.ensures ∙ cited_length c.args.facts.now.slots c.args.numbers.now c.requires.live ∙ c.requires.count

pub fire_matched-requires-clause-found : goal.fire_matched-requires-clause-found
fire_matched-requires-clause-found c =
    let g = c.args.sig.now in
    let fs = c.args.rule.now.rule.left in
    rw c.in_ok-cited.ensures at (subst (λ (xs : List Binding). IsOnlyChoice (FactsFit g fs c.in_ok-cited.cited) (facts_outer_vars g fs) xs c.in-Some.c) c.in_ok-copy.ensures (MatchOption-at_some _ _ c.in-Some.c c.in-Some.is c.in_ok-c.ensures))

pub returns-clause-refused : goal.returns-clause-refused
returns-clause-refused c =
    let g = c.args.sig.now in
    let r = c.args.rule.now.rule in
    let hs = cited_at c.args.facts.now.slots c.args.numbers.now in
    let nothing = rw c.in_ok-cited.ensures at (subst (λ (xs : List Binding). HasNoChoice (FactsFit g r.left c.in_ok-cited.cited) (facts_outer_vars g r.left) xs) c.in_ok-copy.ensures (MatchOption-at_none _ _ c.in-None.is c.in_ok-c.ensures)) in
    no_match g r c.args.b.now hs c.requires.ready.well_made c.requires.right nothing
