use Rattle.std.proofs.Common.{◌≡◌, ◌+◌, ◌++◌, [], ◌∷◌, ap, ◌∙◌, sym, arith}
use Rattle.std.specs.List.{range_with_len}
use Rattle.sap_teller.proofs.Seconds.{range_push}
use Rattle.sap_teller.proofs.found_out.numbers_from.Goals as goal

pub loop-k-preserved : goal.loop-k-preserved
loop-k-preserved c =
    let same : c.in-Some.n ≡ c.args.first + c.loop-k.k = omega (arith, c.in-Some.ensures) in
    c.in_ok-push-in-Some.ensures.ok ∙ ap (λ ns. ns ++ c.in-Some.n ∷ []) c.loop-k.invariant ∙ ap (λ n. range_with_len c.args.first c.loop-k.k ++ n ∷ []) same ∙ sym (range_push c.args.first c.loop-k.k)
