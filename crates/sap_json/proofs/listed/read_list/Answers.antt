use Rattle.std.proofs.Common.{◌≡◌, Some, map}
use Rattle.serde_json.specs.View.{view}
use Rattle.sap_run_lines.specs.WholeWords.{IsReadAs}
use Rattle.sap_json.specs.Arrays.{AreEach}
use Rattle.sap_json.specs.code.Reading.{list_in, IsListOf}
use Rattle.sap_json.proofs.ValueParts.{if_ok, list_read}
use Rattle.sap_json.proofs.listed.read_list.Goals as goal

pub returns-in-Some : goal.returns-in-Some
returns-in-Some g c =
    let d = view c.args.value.now in
    let ds = map view c.in-Some.values.now in
    let list : Some ds ≡ list_in d = rw c.in-Some.is at c.list.ensures in
    if_ok (IsReadAs (AreEach g.T.Listed.is) ds) (IsReadAs (IsListOf g.T.Listed.is) d) c.read_each.result (λ o h. list_read g.T.Listed.is d ds o list h) c.read_each.ensures
