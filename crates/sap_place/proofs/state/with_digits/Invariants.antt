use Rattle.std.proofs.Common.{◌≡◌, ◌++◌, take}
use Rattle.sap_place.specs.StateFacts.{digits}
use Rattle.sap_place.proofs.state.with_digits.Given as goal

abbrev pub invariant-loop-digit : goal.invariant-loop-digit
invariant-loop-digit l = l.name.items ≡ l.word ++ digits (take l.digit-index l.digit-items)
