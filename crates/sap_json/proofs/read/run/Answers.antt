use Rattle.std.proofs.Common.{◌≡◌, Some, map, subst}
use Rattle.serde_json.specs.View.{view}
use Rattle.sap_json.specs.code.Reading.{run_in}
use Rattle.sap_json.specs.RunValues.{IsValueOf}
use Rattle.sap_json.proofs.RunsRead.{no_parts, run_is}
use Rattle.sap_json.proofs.read.run.Goals as goal

pub returns-in-None : goal.returns-in-None
returns-in-None c = λ z v. no_parts z (view c.args.value.now) (rw c.in-None.is at c.parts.ensures) v

pub returns-in-Some : goal.returns-in-Some
returns-in-Some c = λ z v.
    let parts : Some (c.in-Some.kind.now, map view c.in-Some.steps.now) ≡ run_in (view c.args.value.now) = rw c.in-Some.is at c.parts.ensures in
    c.run_of.ensures z (subst (IsValueOf z) (run_is (view c.args.value.now) c.in-Some.kind.now (map view c.in-Some.steps.now) parts) v)
