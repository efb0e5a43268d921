use Rattle.std.proofs.Common.{true, false}
use Rattle.sap_json.proofs.ValueParts.{unless_two, keys_are}
use Rattle.sap_json.proofs.read.members.Goals as goal

pub returns-then-len-ne2 : goal.returns-then-len-ne2
returns-then-len-ne2 c = unless_two c.args.map.now.entries c.len.result c.len.ensures.len c.if-len-ne2.true

pub returns-then-are_keys : goal.returns-then-are_keys
returns-then-are_keys c =
    keys_are c.args.map.now.entries (c.in_ok-kind_key.kind_key.now, c.in_ok-kind_key.kind.now) (c.in_ok-steps_key.steps_key.now, c.in_ok-steps_key.steps.now) c.len.result c.as_bytes.result.now
    c.as_bytes-2.result.now true c.len.ensures.len c.if-len-ne2.false c.in_ok-kind_key.ensures.first c.in_ok-steps_key.ensures.last c.as_bytes.ensures.value c.as_bytes-2.ensures.value
    c.if-are_keys.ensures

pub returns-else-are_keys : goal.returns-else-are_keys
returns-else-are_keys c =
    keys_are c.args.map.now.entries (c.in_ok-kind_key.kind_key.now, c.in_ok-kind_key.kind.now) (c.in_ok-steps_key.steps_key.now, c.in_ok-steps_key.steps.now) c.len.result c.as_bytes.result.now
    c.as_bytes-2.result.now false c.len.ensures.len c.if-len-ne2.false c.in_ok-kind_key.ensures.first c.in_ok-steps_key.ensures.last c.as_bytes.ensures.value c.as_bytes-2.ensures.value
    c.if-are_keys.ensures
