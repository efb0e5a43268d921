use Rattle.std.proofs.Common.{rules}
use Rattle.std.proofs.lemmas.Result.{err_from_is_err_and}
use Rattle.sap_read.proofs.WrittenFiles.{items_early, words_early}
use Rattle.sap_read.proofs.written.written_file.Goals as goal

pub returns-in_err-said-clause-early : goal.returns-in_err-said-clause-early
returns-in_err-said-clause-early c = λ e h n.
    let p = err_from_is_err_and c.from_residual.result c.from_residual.ensures.1 in
    words_early e (c.in_err-said.ensures.words e (search (rules, p, h)) n)

pub returns-in_err-check_said-clause-refused : goal.returns-in_err-check_said-clause-refused
returns-in_err-check_said-clause-refused c = λ e h n.
    let p = err_from_is_err_and c.from_residual-in_err-check_said.result c.from_residual-in_err-check_said.ensures.1 in
    c.in_err-check_said.ensures.refused c.args.bytes.now e c.in_ok-said.ensures.said (search (rules, p, h)) n

pub returns-in_err-check_said-clause-early : goal.returns-in_err-check_said-clause-early
returns-in_err-check_said-clause-early c = λ e h n.
    let p = err_from_is_err_and c.from_residual-in_err-check_said.result c.from_residual-in_err-check_said.ensures.1 in
    items_early e (c.in_err-check_said.ensures.items e (search (rules, p, h)) n)

pub returns-clause-written : goal.returns-clause-written
returns-clause-written c = c.in_ok-written.ensures c.args.bytes.now c.in_ok-said.ensures.said
