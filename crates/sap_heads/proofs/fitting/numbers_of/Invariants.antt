use Rattle.std.proofs.Common.{◌≡◌, take}
use Rattle.sap_heads.specs.code.Rules.{args_numbers}
use Rattle.sap_heads.proofs.fitting.numbers_of.Given as goal

abbrev pub invariant-loop-s : goal.invariant-loop-s
invariant-loop-s l = l.out ≡ args_numbers (take l.s-index l.ss)
