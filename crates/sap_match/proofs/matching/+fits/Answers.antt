use Rattle.std.proofs.Common.{◌∙◌, ap, drop, map, sym, arith, refl, true, false}
use Rattle.std.proofs.lemmas.Result.{IfOk-weaker}
use Rattle.sap_match.proofs.Slots.{leaf_matched, reached_as, symbol_missed, symbols_matched, all_end, all_lengths, each_met, each_missed, front_on, front_same, reached_none, reached_some}
use Rattle.sap_match.specs.View.{held}
use Rattle.sap_terms.specs.View.{tree}
use Rattle.sap_match.proofs.matching.+fits.Goals as goal

pub fits_each-returns-then-len-clause-reached : goal.fits_each-returns-then-len-clause-reached
fits_each-returns-then-len-clause-reached t c = all_lengths c.args.ps.now c.args.ts.now (record { marks = drop c.args.at c.args.marks.now; held = map held c.args.values.now.items }) (λ e. c.if-len.true (c.len.ensures ∙ e ∙ sym c.len-2.ensures))

pub fits_each-loop-k-init : goal.fits_each-loop-k-init
fits_each-loop-k-init t c = record { same_length = sym c.len.ensures ∙ c.if-len.false ∙ c.len-2.ensures; rest = refl; front = front_same _ }

pub fits_each-returns-in-None-clause-reached : goal.fits_each-returns-in-None-clause-reached
fits_each-returns-in-None-clause-reached t c =
    c.loop-k.invariant.rest ∙ each_missed c.args.ps.now c.args.ts.now c.loop-k.k (tree c.at.result.now) (tree c.at-in-loop-k.result.now) (record { marks = drop c.loop-k.place c.args.marks.now; held = map held c.loop-k.values.items }) c.at.ensures.got c.at-in-loop-k.ensures.got (reached_none c.args.marks.now (map held c.fits.new.values.items) c.in_ok-next.field-0 _ c.in_ok-next.ensures.reached c.in-None.is)

pub fits_each-loop-k-preserved : goal.fits_each-loop-k-preserved
fits_each-loop-k-preserved t c = record {
  same_length = c.loop-k.invariant.same_length;
  rest = c.loop-k.invariant.rest ∙ each_met c.args.ps.now c.args.ts.now c.loop-k.k (tree c.at.result.now) (tree c.at-in-loop-k.result.now) (record { marks = drop c.loop-k.place c.args.marks.now; held = map held c.loop-k.values.items }) (record { marks = drop c.in-Some.next c.args.marks.now; held = map held c.fits.new.values.items }) c.at.ensures.got c.at-in-loop-k.ensures.got (reached_some c.args.marks.now (map held c.fits.new.values.items) c.in_ok-next.field-0 _ c.in-Some.next c.in_ok-next.ensures.reached c.in-Some.is);
  front = front_on _ _ _ c.loop-k.invariant.front c.in_ok-next.ensures.front;
}

pub fits_each-returns-clause-reached : goal.fits_each-returns-clause-reached
fits_each-returns-clause-reached t c = c.loop-k.invariant.rest ∙ all_end c.args.ps.now c.args.ts.now c.loop-k.k (record { marks = drop c.loop-k.place c.args.marks.now; held = map held c.loop-k.values.items }) (omega (arith, c.len-k-end.ensures, c.loop-k-test.false)) (omega (arith, c.len-k-end.ensures, c.loop-k-test.false, c.loop-k.invariant.same_length))

pub fits_each-returns-clause-front : goal.fits_each-returns-clause-front
fits_each-returns-clause-front t c = c.loop-k.invariant.front

pub fits-returns-in-Var-clause-reached : goal.fits-returns-in-Var-clause-reached
fits-returns-in-Var-clause-reached t c = rw c.in-Var.is c.take.ensures.reached

pub fits-returns-then-same-clause-reached : goal.fits-returns-then-same-clause-reached
fits-returns-then-same-clause-reached t c =
    let same = symbols_matched (tree c.args.p.now) _ _ (tree c.args.t.now) _ _ (record { marks = drop c.args.at c.args.marks.now; held = map held c.args.values.now.items }) true (ap tree c.in-App.is) (ap tree c.in-App-t.is) (sym c.same.ensures.test ∙ c.if-same.true) in
    IfOk-weaker c.fits_each.result _ _ (λ o e. reached_as c.args.marks.now (map held c.fits_each.new.values.items) o _ _ same e) c.fits_each.ensures.reached

pub fits-returns-else-same-clause-reached : goal.fits-returns-else-same-clause-reached
fits-returns-else-same-clause-reached t c =
    symbols_matched (tree c.args.p.now) _ _ (tree c.args.t.now) _ _ (record { marks = drop c.args.at c.args.marks.now; held = map held c.args.values.now.items }) false (ap tree c.in-App.is) (ap tree c.in-App-t.is) (sym c.same.ensures.test ∙ c.if-same.false)

pub fits-returns-in_default-t-clause-reached : goal.fits-returns-in_default-t-clause-reached
fits-returns-in_default-t-clause-reached t c =
    symbol_missed (tree c.args.p.now) _ _ c.args.t.now (record { marks = drop c.args.at c.args.marks.now; held = map held c.args.values.now.items }) (ap tree c.in-App.is) c.in_default-t.not-App

pub fits-returns-then-same-2-clause-reached : goal.fits-returns-then-same-2-clause-reached
fits-returns-then-same-2-clause-reached t c =
    leaf_matched c.args.p.now (tree c.args.t.now) (record { marks = drop c.args.at c.args.marks.now; held = map held c.args.values.now.items }) true c.in_default.not-Var c.in_default.not-App (sym c.same-in_default.ensures.test ∙ c.if-same-2.true)

pub fits-returns-else-same-2-clause-reached : goal.fits-returns-else-same-2-clause-reached
fits-returns-else-same-2-clause-reached t c =
    leaf_matched c.args.p.now (tree c.args.t.now) (record { marks = drop c.args.at c.args.marks.now; held = map held c.args.values.now.items }) false c.in_default.not-Var c.in_default.not-App (sym c.same-in_default.ensures.test ∙ c.if-same-2.false)
