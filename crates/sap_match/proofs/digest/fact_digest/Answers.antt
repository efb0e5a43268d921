use Rattle.std.proofs.Common.{ap, ◌∙◌}
use Rattle.std.specs.Hash as fed
use Rattle.std.specs.Hash.FoldHasher.{write}
use Rattle.std.specs.List.{fold}
use Rattle.sap_match.proofs.Digests.{digest_fed}
use Rattle.sap_match.proofs.digest.fact_digest.Goals as goal

pub returns : goal.returns
returns c =
    c.finish.ensures ∙ digest_fed c.args.x.now c.hash.new.state c.hash-2.new.state (c.hash.ensures ∙ ap (λ z. fold write z (fed.slice fed.u8 c.args.x.now.name)) c.default-state.ensures) c.hash-2.ensures
