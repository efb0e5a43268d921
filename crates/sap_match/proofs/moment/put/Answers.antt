use Rattle.std.proofs.Common.{◌≡◌, [], ◌∷◌, Some, ap, cond, map, nat_eq, rules, sym, ◌∙◌}
use Rattle.std.proofs.lemmas.Result.{on_ok_weaker}
use Rattle.indexmap.specs.IndexMap.{get}
use Rattle.sap_match.proofs.Digests.{behind_bucket}
use Rattle.sap_match.specs.code.Digests.{bucket, fact_in, in_bucket}
use Rattle.sap_match.proofs.moment.put.Goals as goal

pub returns-in-Some : goal.returns-in-Some
returns-in-Some c =
    let w = c.push.new.self in
    let d = c.fact_digest-digest.result in
    let there : bucket c.args.buckets.now d ≡ map fact_in c.in-Some.bucket.now = ap in_bucket (sym c.in-Some.ensures.value) in
    on_ok_weaker c.push.result (λ e. behind_bucket c.args.buckets.now (c.get_mut.follows.lender w) c.args.x d c.in-Some.bucket.now c.fact_digest-digest.ensures there (λ k. ((c.get_mut.follows.holds w).3 (search rules)).0 k ∙ ap (λ z. cond (nat_eq d k) (Some z) (get nat_eq c.args.buckets.now k)) e)) c.push.ensures.ok

pub returns-in-None : goal.returns-in-None
returns-in-None c =
    let d = c.fact_digest-digest.result in
    let same : c.get_mut.follows.lender-at-none ≡ c.args.buckets.now = c.get_mut.follows.holds-at-none in
    let there : bucket c.args.buckets.now d ≡ [] = ap in_bucket (sym c.in-None.ensures.value) in
    on_ok_weaker c.start_bucket.result (λ u. behind_bucket c.args.buckets.now c.start_bucket.new.buckets c.args.x d [] c.fact_digest-digest.ensures there (λ k. u.0 k ∙ ap (λ m. cond (nat_eq d k) (Some (c.args.x ∷ [])) (get nat_eq m k)) same)) c.start_bucket.ensures
