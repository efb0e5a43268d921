use Rattle.std.proofs.Common.{rules}
use Rattle.std.proofs.lemmas.Result.{err_from_is_err_and}
use Rattle.sap_terms.specs.Signature.{pairs_alone}
use Rattle.sap_process.specs.Proc.{proc}
use Rattle.sap_grammar.specs.Signatures.{clash_from}
use Rattle.sap_read.specs.Item.{bodies, declarations}
use Rattle.sap_read.proofs.WrittenFiles.{written_accepted, written_parts, written_refused}
use Rattle.sap_read.proofs.file.judge_file.Goals as goal

pub returns-in_err-content-clause-refused : goal.returns-in_err-content-clause-refused
returns-in_err-content-clause-refused c = λ z e is h n.
    let p = err_from_is_err_and c.from_residual.result c.from_residual.ensures.1 in
    written_refused z c.args.written is e (c.in_err-content.ensures.refused (bodies is.standing) (clash_from pairs_alone (declarations is.standing)) e (written_parts z c.args.written is) (search (rules, p, h)) n)

pub returns-clause-accepted : goal.returns-clause-accepted
returns-clause-accepted c = λ z is.
    let parts = c.in_ok-file_of.ensures.parts in
    let lists = c.in_ok-file_of.ensures.lists in
    let content = c.in_ok-content.content in
    rw (parts.0, parts.1, parts.2, lists.0, lists.1) (written_accepted z c.args.written is (proc content.process.value) content.checked.restrictions content.checked.lemmas
    (c.in_ok-content.ensures.accepted (bodies is.standing) (clash_from pairs_alone (declarations is.standing)) (written_parts z c.args.written is)))
