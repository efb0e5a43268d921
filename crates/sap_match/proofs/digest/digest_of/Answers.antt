use Rattle.std.proofs.Common.{ℕ, ap, drop, map, subst, sym, ◌∙◌}
use Rattle.std.specs.Hash as fed
use Rattle.std.specs.Hash.FoldHasher.{write}
use Rattle.std.specs.List.{fold}
use Rattle.sap_match.specs.code.Digests.{IsDigestOf}
use Rattle.sap_match.specs.View.{atom, held}
use Rattle.sap_match.proofs.Digests.{digest_found}
use Rattle.sap_match.proofs.digest.digest_of.Goals as goal

pub returns-in-Some : goal.returns-in-Some
returns-in-Some c =
    let n = c.args.n.now in
    let a = atom c.args.a.now in
    let slots = map held c.args.values.now.items in
    subst (λ (d : ℕ). IsDigestOf d n a slots) (sym c.finish.ensures)
    (digest_found n a slots c.hash.new.state c.feed_each.new.state (drop c.in-Some.field-0 c.args.a.now.marks) (c.hash.ensures ∙ ap (λ z. fold write z (fed.slice fed.u8 n)) c.default-state.ensures) c.in-Some.ensures)
