use Rattle.std.proofs.Common.{◌≡◌, ◌<◌, ◌+◌, ℕ, List, Some, get_or, length, drop, ap, ◌∙◌, refl, arith}
use Rattle.std.specs.Prelude.{slice_get}
use Rattle.std.proofs.lemmas.Option.{slice_get_read}
use Rattle.sap_nodes.specs.HeadNodes.{facts_nodes}
use Rattle.sap_captures.specs.code.Bindings.{bound_all}
use Rattle.sap_captures.proofs.BoundNodes.{fact_step}
use Rattle.sap_captures.proofs.binding.bind_facts.Goals as goal

item_got : {X : Type 0} (xs : List X) (k : ℕ) (x : X) → k < length xs → x ≡ get_or xs k x → slice_get xs k ≡ Some x
item_got xs k x l e = slice_get_read xs (length xs) k x refl l e

pub loop-f-preserved : goal.loop-f-preserved
loop-f-preserved c =
    ap (λ b. bound_all c.args.part b (facts_nodes c.args.part (drop (c.loop-f.f-index + 1) c.as_slice-f-items.result.now))) c.in_ok-bind_fact.ensures
    ∙ fact_step c.args.part c.loop-f.binding c.as_slice-f-items.result.now c.loop-f.f-index c.f-item.result
    (item_got c.as_slice-f-items.result.now c.loop-f.f-index c.f-item.result (omega arith) c.f-item.is)
    ∙ c.loop-f.invariant
