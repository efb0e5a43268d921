use Rattle.std.proofs.Common.{◌∙◌, ap, map, sym, arith}
use Rattle.std.proofs.lemmas.Result.{IfOk-weaker}
use Rattle.std.specs.Prelude.{option_map}
use Rattle.sap_match.proofs.Agreements.{each_agreed, each_differs, each_end, each_lengths, kinds_differ, leaf_is, right_is, symbols_differ}
use Rattle.sap_match.specs.Matched.{agreed}
use Rattle.sap_match.specs.View.{held}
use Rattle.sap_match.specs.code.Reached.{two_at}
use Rattle.sap_terms.specs.View.{tree}
use Rattle.sap_match.proofs.agreeing.+agree.Goals as goal

pub agree-returns-in-Var-clause-read : goal.agree-returns-in-Var-clause-read
agree-returns-in-Var-clause-read t c =
    IfOk-weaker c.agree_left.result _ _ (λ o e. e ∙ ap (λ s. agreed (tree s) (tree c.args.t.now) (two_at c.args.left.now c.args.right.now c.args.at) (map held c.args.values.now.items)) (sym c.in-Var.is)) c.agree_left.ensures.read

pub agree-returns-in-Var-t-clause-read : goal.agree-returns-in-Var-t-clause-read
agree-returns-in-Var-t-clause-read t c =
    IfOk-weaker c.agree_right.result _ _ (λ o e. e ∙ right_is (tree c.args.s.now) _ _ (tree c.args.t.now) _ (two_at c.args.left.now c.args.right.now c.args.at) (map held c.args.values.now.items) (ap tree c.in-App.is) (ap tree c.in-Var-t.is)) c.agree_right.ensures.read

pub agree-returns-else-same-clause-read : goal.agree-returns-else-same-clause-read
agree-returns-else-same-clause-read t c =
    sym (symbols_differ (tree c.args.s.now) _ _ (tree c.args.t.now) _ _ (two_at c.args.left.now c.args.right.now c.args.at) (map held c.args.values.now.items) (ap tree c.in-App.is) (ap tree c.in-App-t.is) (sym c.same.ensures.test ∙ c.if-same.false))

pub agree-returns-in_default-t-clause-read : goal.agree-returns-in_default-t-clause-read
agree-returns-in_default-t-clause-read t c =
    sym (kinds_differ (tree c.args.s.now) _ _ c.args.t.now (two_at c.args.left.now c.args.right.now c.args.at) (map held c.args.values.now.items) (ap tree c.in-App.is) c.in_default-t.not-Var c.in_default-t.not-App)

pub agree-returns-in_default-clause-read : goal.agree-returns-in_default-clause-read
agree-returns-in_default-clause-read t c =
    IfOk-weaker c.agree_leaf.result _ _ (λ o e. e ∙ leaf_is c.args.s.now (tree c.args.t.now) (two_at c.args.left.now c.args.right.now c.args.at) (map held c.args.values.now.items) c.in_default.not-Var c.in_default.not-App) c.agree_leaf.ensures.read

pub agree_each-returns-then-len-clause-read : goal.agree_each-returns-then-len-clause-read
agree_each-returns-then-len-clause-read t c = sym (each_lengths c.args.ss.now c.args.ts.now (two_at c.args.left.now c.args.right.now c.args.at) (map held c.args.values.now.items) (λ e. c.if-len.true (c.len.ensures ∙ e ∙ sym c.len-2.ensures)))

pub agree_each-returns-in-None-clause-read : goal.agree_each-returns-in-None-clause-read
agree_each-returns-in-None-clause-read t c =
    sym (c.loop-k.invariant.rest ∙ each_differs c.args.ss.now c.args.ts.now c.loop-k.k (tree c.at.result.now) (tree c.at-in-loop-k.result.now) (two_at c.args.left.now c.args.right.now c.loop-k.place) (map held c.loop-k.values.items) (option_map (two_at c.args.left.now c.args.right.now) c.in_ok-next.field-0) c.at.ensures.got c.at-in-loop-k.ensures.got c.in_ok-next.ensures.read (ap (option_map (two_at c.args.left.now c.args.right.now)) c.in-None.is))

pub agree_each-loop-k-preserved : goal.agree_each-loop-k-preserved
agree_each-loop-k-preserved t c = record {
  same_length = c.loop-k.invariant.same_length;
  rest = c.loop-k.invariant.rest ∙ each_agreed c.args.ss.now c.args.ts.now c.loop-k.k (tree c.at.result.now) (tree c.at-in-loop-k.result.now) (two_at c.args.left.now c.args.right.now c.loop-k.place) (two_at c.args.left.now c.args.right.now c.in-Some.next) c.loop-k.values.items c.agree.new.values.items (option_map (two_at c.args.left.now c.args.right.now) c.in_ok-next.field-0) c.at.ensures.got c.at-in-loop-k.ensures.got c.in_ok-next.ensures.read (ap (option_map (two_at c.args.left.now c.args.right.now)) c.in-Some.is) c.in_ok-next.ensures.same;
  same = c.in_ok-next.ensures.same ∙ c.loop-k.invariant.same;
}

pub agree_each-returns-clause-read : goal.agree_each-returns-clause-read
agree_each-returns-clause-read t c = sym (c.loop-k.invariant.rest ∙ each_end c.args.ss.now c.args.ts.now c.loop-k.k (two_at c.args.left.now c.args.right.now c.loop-k.place) (map held c.loop-k.values.items) (omega (arith, c.len-k-end.ensures, c.loop-k-test.false)) (omega (arith, c.len-k-end.ensures, c.loop-k-test.false, c.loop-k.invariant.same_length)))
