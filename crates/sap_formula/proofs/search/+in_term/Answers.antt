use Rattle.std.proofs.Common.{ap, sym, ◌∙◌}
use Rattle.std.specs.Option.{option_copied, option_or}
use Rattle.sap_terms.specs.Tree.{trees_of}
use Rattle.std.proofs.Common.{drop, ◌+◌}
use Rattle.sap_formula.specs.Parts.{terms_parts}
use Rattle.sap_formula.specs.code.Scoped.{binders}
use Rattle.sap_formula.specs.code.Tests.{first_name}
use Rattle.sap_formula.proofs.Firsts.{first-from}
use Rattle.sap_terms.specs.View.{tree}
use Rattle.sap_formula.proofs.search.+in_term.Goals as goal

pub in_terms-returns-in-Some : goal.in_terms-returns-in-Some
in_terms-returns-in-Some t c =
    let a = c.args.aim.now in
    let rest = first_name a.sig.now a.reserved a.which (terms_parts (binders c.args.scope.now) (trees_of (drop (c.loop-k.k + 1) c.args.ts.now))) in
    sym (c.loop-k.invariant ∙ first-from a.sig.now a.reserved a.which (binders c.args.scope.now) c.args.ts.now c.loop-k.k (tree c.at.result.now) c.at.ensures.got ∙ ap (λ o. option_or o rest) (sym c.in_term.ensures ∙ ap option_copied c.in-Some.is))

pub in_terms-loop-k-preserved : goal.in_terms-loop-k-preserved
in_terms-loop-k-preserved t c =
    let a = c.args.aim.now in
    let rest = first_name a.sig.now a.reserved a.which (terms_parts (binders c.args.scope.now) (trees_of (drop (c.loop-k.k + 1) c.args.ts.now))) in
    c.loop-k.invariant ∙ first-from a.sig.now a.reserved a.which (binders c.args.scope.now) c.args.ts.now c.loop-k.k (tree c.at.result.now) c.at.ensures.got ∙ ap (λ o. option_or o rest) (sym c.in_term.ensures ∙ ap option_copied c.in-None.is)
