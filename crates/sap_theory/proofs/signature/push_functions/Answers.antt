use Rattle.std.proofs.Common.{◌<◌, length, refl, arith}
use Rattle.std.proofs.lemmas.Option.{slice_get_read}
use Rattle.sap_theory.proofs.Functions.{function_further}
use Rattle.sap_theory.proofs.signature.push_functions.Goals as goal

pub loop-s-preserved : goal.loop-s-preserved
loop-s-preserved c =
    let symbols = c.symbols-s-items.result.now in
    let k = c.loop-s.s-index in
    let s = c.s-item.result in
    let inside : k < length symbols = omega arith in
    let held = slice_get_read symbols (length symbols) k s refl inside c.s-item.is in
    function_further c.args.sig.now symbols c.args.text.now c.loop-s.text c.loop-s.is_first k s c.push_function.new.text c.in_ok-is_first.is_first held c.loop-s.invariant c.in_ok-is_first.ensures.text c.in_ok-is_first.ensures.first
