use Rattle.std.proofs.Common.{map, ◌∙◌}
use Rattle.std.proofs.lemmas.Result.{IfOk-weaker}
use Rattle.sap_match.specs.code.Digests.{fact_in}
use Rattle.sap_match.specs.View.{atom, held}
use Rattle.sap_match.proofs.Digests.{any_in_bucket}
use Rattle.sap_match.proofs.showing.is_shown_at.Goals as goal

pub returns-in-Some-digest_of-clause-answer : goal.returns-in-Some-digest_of-clause-answer
returns-in-Some-digest_of-clause-answer c =
    let enough = any_in_bucket c.in-Some.buckets.now c.in-Some-digest_of.digest c.args.n.now (atom c.args.a.now) (map held c.args.values.now.items) c.args.moment.now (map fact_in c.bucket_in.result.now) c.in-Some.ensures c.in-Some-digest_of.ensures c.bucket_in.ensures in
    IfOk-weaker c.is_shown_in.result _ _ (λ b e. e ∙ enough) c.is_shown_in.ensures.answer
