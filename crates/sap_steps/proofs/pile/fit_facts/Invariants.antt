use Rattle.std.proofs.Common.{length, take}
use Rattle.sap_facts.specs.Cited.{cited_at}
use Rattle.sap_rule.specs.Variables.{facts_outer_vars}
use Rattle.sap_share.specs.Env.{AreBound, bindings_of}
use Rattle.sap_sides.specs.Fitting.{FactsFit, IsOnlyChoice}
use Rattle.sap_steps.proofs.pile.fit_facts.Given as goal

abbrev pub invariant-loop-i : goal.invariant-loop-i
invariant-loop-i l =
    let g = l.facts.sig in
    let cited = cited_at l.facts.slots l.numbers in record {
      found : IsOnlyChoice (FactsFit g (take l.i l.fs) (take l.i cited)) (facts_outer_vars g (take l.i l.fs)) (bindings_of l.facts.trees l.initial.env) (bindings_of l.facts.trees l.env);
      bound : AreBound (length l.facts.trees) l.env;
    }
