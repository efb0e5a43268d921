use Rattle.std.proofs.Common.{◌≡◌, ◌++◌, ap, append_assoc, codes, sym, ◌∙◌}
use Rattle.std.specs.Prelude.{decimal}
use Rattle.std.proofs.lemmas.Result.{on_ok_weaker}
use Rattle.sap_verdicts.specs.VerdictText.{verdict_words}
use Rattle.sap_verdicts.proofs.verdict_text.push_words.Goals as goal

pub returns-in_ok-push_number-in-TooCostly : goal.returns-in_ok-push_number-in-TooCostly
returns-in_ok-push_number-in-TooCostly c =
    let first = codes "too costly: " in
    let cost = decimal c.in-TooCostly.cost in
    let last = codes ", the most is 10000000" in
    on_ok_weaker c.push_bytes-in-TooCostly-2.result
    (λ e. e ∙ ap (λ t. t ++ last) (c.in_ok-push_number-in-TooCostly.ensures.ok ∙ ap (λ t. t ++ cost) c.in_ok-push_bytes-in-TooCostly.ensures.ok)
    ∙ append_assoc (c.args.text.now ++ first) cost last ∙ append_assoc c.args.text.now first (cost ++ last)
    ∙ ap (λ v. c.args.text.now ++ verdict_words v) (sym c.in-TooCostly.is)) c.push_bytes-in-TooCostly-2.ensures.ok
