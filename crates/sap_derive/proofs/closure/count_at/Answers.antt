use Rattle.std.proofs.Common.{◌<◌, ◌≤◌, length, refl, arith}
use Rattle.std.proofs.lemmas.Bool.Decides.{nat_tests}
use Rattle.std.proofs.lemmas.Option.{slice_get_read, slice_get_past}
use Rattle.sap_derive.proofs.Waits.{wait-within, no-wait}
use Rattle.sap_derive.proofs.closure.count_at.Goals as goal

pub returns-in-Some-clause-all : goal.returns-in-Some-clause-all
returns-in-Some-clause-all c k h =
    let ws = c.args.waiting.now in
    let v = c.in-Some.waits.now in
    let told = c.in-Some.ensures.lookup in
    let l : c.args.n < length ws = grind (arith, nat_tests) in
    let here = slice_get_read ws (length ws) c.args.n v refl l told.1 in
    wait-within ws c.args.n v here k (omega arith)

pub returns-in-None-clause-within : goal.returns-in-None-clause-within
returns-in-None-clause-within c k w a =
    let ws = c.args.waiting.now in
    let told = c.in-None.ensures.lookup in
    let l : length ws ≤ c.args.n = grind (arith, nat_tests) in
    absurd (no-wait ws c.args.n k w (slice_get_past ws c.args.n l) a)
