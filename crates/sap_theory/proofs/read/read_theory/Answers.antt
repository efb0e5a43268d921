use Rattle.std.proofs.Common.{sym, subst, Err, rules}
use Rattle.std.proofs.lemmas.Result.{err_from_is_err_and}
use Rattle.sap_theory.specs.declared.fault.TheoryFault.{TheoryFault}
use Rattle.sap_theory.specs.ReadTheory.{IsTheoryRead, no_tokens}
use Rattle.sap_theory.proofs.read.read_theory.Goals as goal

pub returns-in_err-tokens-clause-refused : goal.returns-in_err-tokens-clause-refused
returns-in_err-tokens-clause-refused c = λ e h n.
    let p = err_from_is_err_and c.from_residual.result c.from_residual.ensures.1 in
    let r = c.in_err-tokens.ensures.refused e (search (rules, p, h)) n in
    subst (λ (q : TheoryFault). IsTheoryRead c.args.bytes.now (Err q)) (sym r.1) (no_tokens r.2)
