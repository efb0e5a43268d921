use Rattle.std.proofs.Common.{◌≡◌, ◌<◌, ◌≤◌, ◌+◌, ◌∷◌, [], List, length, length-append, map, drop, ap, subst, arith}
use Rattle.std.proofs.lemmas.List.{drop_all}
use Rattle.serde_json.specs.Data.{Data}
use Rattle.serde_json.specs.View.{view}
use Rattle.sap_json.proofs.StepLists.{IsSoFar, goes_on, is_bad, is_many, is_all}
use Rattle.sap_json.proofs.ValueParts.{next_value}
use Rattle.sap_json.proofs.listed.read_steps.Goals as goal

pub returns-then-len-most : goal.returns-then-len-most
returns-then-len-most g c =
    let vs = c.args.values.now in
    let i = c.loop-value.value-index in
    let v = c.value-item.result in
    let next : map view (drop i vs) ≡ view v ∷ map view (drop (i + 1) vs) = next_value vs i v c.loop-value-test.true c.value-item.is in
    let so_far = subst (λ (rest : List Data). IsSoFar g.T.Listed.is c.loop-value.steps (map view vs) rest) next c.loop-value.invariant.so_far in
    let full : c.args.most ≤ length c.loop-value.steps = omega (arith, c.if-len-most.true, c.len.ensures) in
    is_many g.T.Listed.is c.args.most c.loop-value.steps (map view vs) (view v) (map view (drop (i + 1) vs)) so_far c.loop-value.invariant.few full

pub returns-in-None : goal.returns-in-None
returns-in-None g c =
    let vs = c.args.values.now in
    let i = c.loop-value.value-index in
    let v = c.value-item.result in
    let next : map view (drop i vs) ≡ view v ∷ map view (drop (i + 1) vs) = next_value vs i v c.loop-value-test.true c.value-item.is in
    let so_far = subst (λ (rest : List Data). IsSoFar g.T.Listed.is c.loop-value.steps (map view vs) rest) next c.loop-value.invariant.so_far in
    let low : length c.loop-value.steps < c.args.most = omega (arith, c.if-len-most.false, c.len.ensures) in
    rw c.len-in-None.ensures
    (is_bad g.T.Listed.is c.args.most c.loop-value.steps (map view vs) (view v) (map view (drop (i + 1) vs)) so_far low (rw c.in-None.is at c.in_ok-read.ensures))

pub loop-value-preserved : goal.loop-value-preserved
loop-value-preserved g c =
    let vs = c.args.values.now in
    let i = c.loop-value.value-index in
    let v = c.value-item.result in
    let next : map view (drop i vs) ≡ view v ∷ map view (drop (i + 1) vs) = next_value vs i v c.loop-value-test.true c.value-item.is in
    let so_far = subst (λ (rest : List Data). IsSoFar g.T.Listed.is c.loop-value.steps (map view vs) rest) next c.loop-value.invariant.so_far in
    let low : length c.loop-value.steps < c.args.most = omega (arith, c.if-len-most.false, c.len.ensures) in record {
      so_far = rw c.in_ok-push-in-Some.ensures.ok
          (goes_on g.T.Listed.is c.loop-value.steps c.in-Some.step (map view vs) (view v) (map view (drop (i + 1) vs)) so_far (rw c.in-Some.is at c.in_ok-read.ensures));
      few = omega (arith, ap length c.in_ok-push-in-Some.ensures.ok, length-append c.loop-value.steps (c.in-Some.step ∷ []), low);
    }

pub returns : goal.returns
returns g c =
    let vs = c.args.values.now in
    let none : map view (drop c.loop-value.value-index vs) ≡ [] = ap (map view) (drop_all c.loop-value.value-index vs c.loop-value-test.false) in
    let so_far = subst (λ (rest : List Data). IsSoFar g.T.Listed.is c.loop-value.steps (map view vs) rest) none c.loop-value.invariant.so_far in
    is_all g.T.Listed.is c.args.most c.loop-value.steps (map view vs) so_far c.loop-value.invariant.few
