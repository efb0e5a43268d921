use Rattle.std.proofs.Common.{◌≡◌, [], arith}
use Rattle.std.proofs.lemmas.Grind.{common_steps}
use Rattle.sap_run_lines.proofs.WordsOn.{numbers_whole}
use Rattle.sap_run_lines.proofs.take_steps.all_numbers.Goals as goal

pub returns-then-is_empty : goal.returns-then-is_empty
returns-then-is_empty c =
    let none : c.in_ok-numbers.rest.now ≡ [] = grind (arith, common_steps) in
    numbers_whole _ _ _ c.in_ok-numbers.ensures none
