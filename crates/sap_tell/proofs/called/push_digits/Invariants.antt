use Rattle.std.proofs.Common.{◌≡◌, ◌++◌, decimal, drop, flat_map}
use Rattle.sap_tell.proofs.called.push_digits.Given as goal

abbrev pub invariant-loop-digit : goal.invariant-loop-digit
invariant-loop-digit l = l.text ++ flat_map decimal (drop l.digit-index l.digits) ≡ l.initial.text ++ flat_map decimal l.digits
