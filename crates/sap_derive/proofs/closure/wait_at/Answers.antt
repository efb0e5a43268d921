use Rattle.std.proofs.Common.{◌≡◌, length, refl, ap, arith}
use Rattle.std.specs.Prelude.{Vec}
use Rattle.std.specs.declared.alloc.Global.{Global}
use Rattle.std.proofs.lemmas.Option.{slice_get_read, slice_get_within}
use Rattle.sap_derive.specs.declared.grounds.Wait.{Wait}
use Rattle.sap_derive.proofs.closure.wait_at.Goals as goal

pub returns : goal.returns
returns c =
    let there = c.requires.1 in
    let ws = c.args.waiting.now in
    let l = slice_get_within ws c.args.n there.waits there.at_number in
    let v : Vec Wait Global = c.index-waiting-n.result in
    let here = slice_get_read ws (length ws) c.args.n v refl l c.index-waiting-n.is in
    let same : there.waits ≡ v = cc in
    let m = slice_get_within there.waits.items c.args.k c.requires.0 there.at_index in
    let k = ap (λ (u : Vec Wait Global). length u.items) same in
    record { waits = v; at_number = here; at_index = slice_get_read v.items (length v.items) c.args.k c.index.result.now refl (omega arith) c.index.ensures }
