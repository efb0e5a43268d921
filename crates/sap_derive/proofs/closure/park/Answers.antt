use Rattle.std.proofs.Common.{◌<◌, [], ◌∷◌, length, refl, ◌∙◌, inl, inr, arith}
use Rattle.std.proofs.lemmas.Option.{slice_get_read}
use Rattle.sap_derive.proofs.Gets.{append-none}
use Rattle.sap_derive.proofs.Waits.{waits-behind, waits-same, waits-pushed, waits-parked}
use Rattle.sap_derive.proofs.closure.park.Goals as goal

pub returns-in_err-push-clause-kept : goal.returns-in_err-push-clause-kept
returns-in_err-push-clause-kept c n k w a =
    let ws = c.reach.new.waiting.items in
    let l : c.args.n < length ws = omega (arith, c.in_ok-reach.ensures.reached) in
    let v = c.index_mut.result.now in
    let here = slice_get_read ws (length ws) c.args.n v refl l c.index_mut.ensures.value in
    waits-behind ws c.args.n v c.push.new.self here l [] (c.in_err-push.ensures.items ∙ append-none v.items) n k w (c.reach.ensures.kept n k w a)

pub returns-in_err-push-clause-only : goal.returns-in_err-push-clause-only
returns-in_err-push-clause-only c n k w a =
    let ws = c.reach.new.waiting.items in
    let l : c.args.n < length ws = omega (arith, c.in_ok-reach.ensures.reached) in
    let v = c.index_mut.result.now in
    let here = slice_get_read ws (length ws) c.args.n v refl l c.index_mut.ensures.value in
    inl (c.reach.ensures.only n k w (waits-same ws c.args.n v c.push.new.self here l c.in_err-push.ensures.items n k w a))

pub returns-clause-kept : goal.returns-clause-kept
returns-clause-kept c n k w a =
    let ws = c.reach.new.waiting.items in
    let l : c.args.n < length ws = omega (arith, c.in_ok-reach.ensures.reached) in
    let v = c.index_mut.result.now in
    let here = slice_get_read ws (length ws) c.args.n v refl l c.index_mut.ensures.value in
    waits-behind ws c.args.n v c.push.new.self here l (c.args.wait ∷ []) c.in_ok-push.ensures.items n k w (c.reach.ensures.kept n k w a)

pub returns-clause-only : goal.returns-clause-only
returns-clause-only c n k w a =
    let ws = c.reach.new.waiting.items in
    let l : c.args.n < length ws = omega (arith, c.in_ok-reach.ensures.reached) in
    let v = c.index_mut.result.now in
    let here = slice_get_read ws (length ws) c.args.n v refl l c.index_mut.ensures.value in
    elim (waits-pushed ws c.args.n v c.push.new.self here l c.args.wait c.in_ok-push.ensures.items n k w a)
    [ inl there ↦ inl (c.reach.ensures.only n k w there) | inr new ↦ inr new ]

pub returns-clause-parked : goal.returns-clause-parked
returns-clause-parked c =
    let ws = c.reach.new.waiting.items in
    let l : c.args.n < length ws = omega (arith, c.in_ok-reach.ensures.reached) in
    let v = c.index_mut.result.now in
    let here = slice_get_read ws (length ws) c.args.n v refl l c.index_mut.ensures.value in
    waits-parked ws c.args.n v c.push.new.self here l c.args.wait c.in_ok-push.ensures.items
