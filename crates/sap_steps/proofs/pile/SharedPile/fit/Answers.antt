use Rattle.std.proofs.Common.{false}
use Rattle.sap_terms.specs.Tree.{trees_of}
use Rattle.sap_terms.specs.declared.fact.Fact.{Fact}
use Rattle.sap_rewrite.specs.Around.{all_outer_vars}
use Rattle.sap_share.specs.Env.{bindings_of}
use Rattle.sap_sides.specs.Fitting.{HasNoChoice, FactFit}
use Rattle.sap_sides.specs.SharedFacts.{fact_seen}
use Rattle.sap_steps.proofs.Piled.{said_of}
use Rattle.sap_steps.proofs.pile.SharedPile.fit.Goals as goal

pub returns-in-Some-clause-not : goal.returns-in-Some-clause-not
returns-in-Some-clause-not c =
    let f = c.args.f.now in
    rw (← c.self.view_is) (said_of (λ (h : Fact). HasNoChoice (FactFit c.self.inside.table.sig f h) (all_outer_vars c.self.inside.table.sig (trees_of f.args)) (bindings_of c.self.inside.table.trees c.args.env.now)) false (fact_seen c.self.inside.table.trees c.in-Some.h.now) _ c.fit_fact.result (rw (← c.self.view_is) at c.in-Some.ensures.0) c.fit_fact.ensures.not)

pub returns-in-None-clause-not : goal.returns-in-None-clause-not
returns-in-None-clause-not c = λ no h live. cc (c.in-None.ensures, live)
