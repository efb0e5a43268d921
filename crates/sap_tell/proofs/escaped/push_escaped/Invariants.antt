use Rattle.std.proofs.Common.{◌≡◌, ◌++◌, drop, flat_map}
use Rattle.sap_tell.specs.Escaped.{escaped_byte}
use Rattle.sap_tell.proofs.escaped.push_escaped.Given as goal

abbrev pub invariant-loop-b : goal.invariant-loop-b
invariant-loop-b l = l.text ++ flat_map escaped_byte (drop l.b-index l.bytes) ≡ l.initial.text ++ flat_map escaped_byte l.bytes
