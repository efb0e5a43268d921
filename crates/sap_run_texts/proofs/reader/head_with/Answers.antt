use Rattle.std.proofs.Common.{◌<◌, ◌+◌, ◌++◌, length, length-append, arith}
use Rattle.std.proofs.lemmas.Grind.{common_steps}
use Rattle.sap_run_texts.proofs.Begun as begun
use Rattle.sap_run_texts.proofs.reader.head_with.Goals as goal

pub returns-then-saturating_add-gt-LONGEST_HEAD : goal.returns-then-saturating_add-gt-LONGEST_HEAD
returns-then-saturating_add-gt-LONGEST_HEAD c k z h =
    let long : 11 < length c.args.line.now.items + length c.args.part.now = grind (arith, common_steps) in
    let longer : 11 < length (c.args.line.now.items ++ c.args.part.now) = omega (arith, long, length-append c.args.line.now.items c.args.part.now) in
    begun.head_long k c.args.line.now.items z c.args.part.now c.requires longer h
