use Rattle.serde_json.specs.View.{view}
use Rattle.sap_json.proofs.ValueParts.{list_some}
use Rattle.sap_json.proofs.values.list.Goals as goal

pub returns-in-Some : goal.returns-in-Some
returns-in-Some c = rw c.as_slice.ensures.value (list_some (view c.args.value.now) c.in-Some.items.now.items (rw c.in-Some.is at c.as_array.ensures))
