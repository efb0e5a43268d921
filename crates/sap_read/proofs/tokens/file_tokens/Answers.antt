use Rattle.std.proofs.Common.{sym, subst, Err, rules}
use Rattle.std.proofs.lemmas.Result.{err_from_is_err_and}
use Rattle.sap_read.specs.declared.fault.ReadFault.{ReadFault}
use Rattle.sap_read.specs.Files.{IsRead, no_tokens}
use Rattle.sap_read.proofs.OneParting.{one_tokens}
use Rattle.sap_read.proofs.tokens.file_tokens.Goals as goal

pub returns-in_err-tokens-clause-refused : goal.returns-in_err-tokens-clause-refused
returns-in_err-tokens-clause-refused c = λ e h n.
    let p = err_from_is_err_and c.from_residual.result c.from_residual.ensures.1 in
    let r = c.in_err-tokens.ensures.refused e (search (rules, p, h)) n in
    subst (λ (q : ReadFault). IsRead c.args.bytes.now (Err q)) (sym r.1) (no_tokens r.2)

pub returns-in_err-tokens-clause-bytes : goal.returns-in_err-tokens-clause-bytes
returns-in_err-tokens-clause-bytes c = λ e h n.
    let p = err_from_is_err_and c.from_residual.result c.from_residual.ensures.1 in
    let r = c.in_err-tokens.ensures.refused e (search (rules, p, h)) n in
    (r.0, r.1)

pub returns-clause-tokens : goal.returns-clause-tokens
returns-clause-tokens c = record {
  are = c.in_ok-tokens.ensures.found;
  within = c.in_ok-tokens.ensures.within;
  only = λ us a. one_tokens c.one_answer.ensures a c.in_ok-tokens.ensures.found;
}
