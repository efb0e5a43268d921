use Rattle.std.proofs.Common.{◌≡◌, ◌+◌, ◌∷◌, List, map, drop, subst}
use Rattle.serde_json.specs.Data.{Data}
use Rattle.serde_json.specs.View.{view}
use Rattle.sap_json.proofs.StepLists.{IsSoFar, none_is, goes_on}
use Rattle.sap_json.proofs.ValueParts.{next_value}
use Rattle.sap_json.proofs.listed.read_each.Goals as goal

pub returns-in-None : goal.returns-in-None
returns-in-None g c =
    let vs = c.args.values.now in
    let i = c.loop-value.value-index in
    let v = c.value-item.result in
    let next : map view (drop i vs) ≡ view v ∷ map view (drop (i + 1) vs) = next_value vs i v c.loop-value-test.true c.value-item.is in
    let so_far = subst (λ (rest : List Data). IsSoFar g.T.Listed.is c.loop-value.items (map view vs) rest) next c.loop-value.invariant in
    none_is g.T.Listed.is c.loop-value.items (map view vs) (view v) (map view (drop (i + 1) vs)) so_far (rw c.in-None.is at c.in_ok-read.ensures)

pub loop-value-preserved : goal.loop-value-preserved
loop-value-preserved g c =
    let vs = c.args.values.now in
    let i = c.loop-value.value-index in
    let v = c.value-item.result in
    let next : map view (drop i vs) ≡ view v ∷ map view (drop (i + 1) vs) = next_value vs i v c.loop-value-test.true c.value-item.is in
    let so_far = subst (λ (rest : List Data). IsSoFar g.T.Listed.is c.loop-value.items (map view vs) rest) next c.loop-value.invariant in
    rw c.in_ok-push-in-Some.ensures.ok
    (goes_on g.T.Listed.is c.loop-value.items c.in-Some.item (map view vs) (view v) (map view (drop (i + 1) vs)) so_far (rw c.in-Some.is at c.in_ok-read.ensures))
