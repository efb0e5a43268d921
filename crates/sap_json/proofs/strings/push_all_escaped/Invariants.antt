use Rattle.std.proofs.Common.{◌≡◌, ◌++◌, drop}
use Rattle.std.specs.List.{flat_map}
use Rattle.json.specs.Print.{escape_byte}
use Rattle.sap_json.proofs.strings.push_all_escaped.Given as goal

abbrev pub invariant-loop-b : goal.invariant-loop-b
invariant-loop-b l = l.text ++ flat_map escape_byte (drop l.b-index l.bytes) ≡ l.initial.text ++ flat_map escape_byte l.bytes
