use Rattle.std.proofs.Common.{◌≡◌, [], arith}
use Rattle.std.proofs.lemmas.Grind.{common_steps}
use Rattle.sap_run_lines.proofs.WordsOn.{some_bindings_none}
use Rattle.sap_run_lines.proofs.take_steps.take_some_bindings.Goals as goal

pub returns-then-is_empty : goal.returns-then-is_empty
returns-then-is_empty c =
    let none : c.args.bytes.now ≡ [] = grind (arith, common_steps) in
    some_bindings_none c.args.bytes.now none
