use Rattle.std.proofs.Common.{◌≡◌, ◌-◌, ◌∙◌, Some, ap, map, slice_get, subst, arith}
use Rattle.std.specs.List.{list_any}
use Rattle.std.specs.Str.{bytes_eq}
use Rattle.sap_judge.proofs.SlotLaws.{all_slotted, none_later, none_slotted, one_later, one_slotted}
use Rattle.sap_judge.specs.code.Laid.{layers}
use Rattle.sap_search.specs.View.{slotted}
use Rattle.sap_judge.proofs.claiming.slots_of.Goals as goal

pub loop-k-init : goal.loop-k-init
loop-k-init c = record {
  later = λ n. ap (λ z. list_any (bytes_eq n) z) c.new-later.ensures ∙ none_later c.args.bs.now n;
  out = ap (map slotted) c.new-out.ensures ∙ none_slotted (layers c.args.levels.now) c.args.bs.now;
}

pub loop-k-preserved : goal.loop-k-preserved
loop-k-preserved c =
    let got = subst (λ n. slice_get c.args.bs.now (n - 1 - c.loop-k.k) ≡ Some c.at.result.now) c.len.ensures c.at.ensures in
    record {
      later = one_later c.args.bs.now c.loop-k.k c.at.result.now c.loop-k.later c.slot_last.new.later (omega (arith, c.loop-k-test.true)) got c.loop-k.invariant.later c.in_ok-slot_last.ensures.later;
      out = one_slotted (layers c.args.levels.now) c.args.bs.now c.loop-k.k c.at.result.now c.loop-k.later (map slotted c.loop-k.out) (map slotted c.slot_last.new.out) (omega (arith, c.loop-k-test.true)) got c.loop-k.invariant.later c.loop-k.invariant.out c.in_ok-slot_last.ensures.out;
    }

pub returns : goal.returns
returns c = c.loop-k.invariant.out ∙ all_slotted (layers c.args.levels.now) c.args.bs.now c.loop-k.k (omega (arith, c.loop-k-test.false))
