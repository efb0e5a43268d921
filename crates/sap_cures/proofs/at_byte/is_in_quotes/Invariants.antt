use Rattle.std.proofs.Common.{◌≡◌, drop}
use Rattle.sap_cures.specs.ByteCures.{is_in_quotes, is_open_after}
use Rattle.sap_cures.proofs.at_byte.is_in_quotes.Given as goal

abbrev pub invariant-loop-byte : goal.invariant-loop-byte
invariant-loop-byte l = is_in_quotes l.bytes ≡ is_open_after l.quoted (drop l.byte-index l.bytes)
