use Rattle.std.proofs.Common.{rules, ◌≡◌, Some, slice_get}
use Rattle.sap_terms.specs.NameMap.{value_at}
use Rattle.sap_beyond.proofs.Indices.{kept_is}
use Rattle.sap_beyond.proofs.beyond.at_use.Goals as goal

pub returns-in-Some-clause-leads : goal.returns-in-Some-clause-leads
returns-in-Some-clause-leads c = λ shapes path is.
    let at : value_at c.args.index.now c.args.name.now ≡ Some c.in-Some.at = search rules in
    let found : slice_get c.args.extents.now c.in-Some.at ≡ Some c.in-Some.kept = search rules in
    c.into_or_past.ensures.leads shapes path (kept_is c.args.extents.now (value_at c.args.index.now c.args.name.now) c.in-Some.at c.in-Some.kept _ at found is)
