use Rattle.std.proofs.Common.{Some, None, sym, ◌++◌}
use Rattle.std.specs.Prelude.{map}
use Rattle.sap_expect.specs.code.SeenWords.{seen}
use Rattle.sap_expect.specs.code.WantedView.{all_wanted, row_of, stacked}
use Rattle.sap_expect.proofs.OnTop.{put_on_top}
use Rattle.sap_expect.proofs.Turns.{by_no_other, by_no_row, by_other, by_row, row_is}
use Rattle.sap_expect.proofs.walk.Attempt.step_part.Goals as goal

pub returns-then-not-passes-clause-step : goal.returns-then-not-passes-clause-step
returns-then-not-passes-clause-step c = λ l under.
    by_no_row c.args.self.now.levels c.args.most c.args.part l (seen c.args.word) c.in-Some.test (all_wanted c.in-Some.rest.now) (stacked (under ++ c.args.self.now.more.items))
    (row_is c.args.part _ (map row_of c.rows.result.now) (Some (c.in-Some.test, all_wanted c.in-Some.rest.now)) c.rows.ensures c.in-Some.ensures) c.if-not-passes.ensures

pub returns-in-Some-clause-step : goal.returns-in-Some-clause-step
returns-in-Some-clause-step c = λ l under.
    by_row c.args.self.now.levels c.args.most c.args.part l (seen c.args.word) c.in-Some.test (all_wanted c.in-Some.rest.now) (stacked (under ++ c.args.self.now.more.items)) _
    (row_is c.args.part _ (map row_of c.rows.result.now) (Some (c.in-Some.test, all_wanted c.in-Some.rest.now)) c.rows.ensures c.in-Some.ensures) c.if-not-passes.ensures (put_on_top under c.args.self.now.more.items c.push_all.new.stack.items _ c.in_ok-push_all.ensures)

pub returns-in_ok-push_all-in-Some-otherwise-clause-step : goal.returns-in_ok-push_all-in-Some-otherwise-clause-step
returns-in_ok-push_all-in-Some-otherwise-clause-step c = λ l under.
    by_other c.args.self.now.levels c.args.most c.args.part l (seen c.args.word) c.in-Some-otherwise.test (all_wanted c.in-Some-otherwise.other.now) (stacked (under ++ c.args.self.now.more.items)) _
    (row_is c.args.part _ (map row_of c.rows.result.now) None c.rows.ensures c.in_default.ensures) (sym c.in-Some-otherwise.ensures) c.if-not-passes-2.ensures (put_on_top under c.args.self.now.more.items c.push_all-in-Some-otherwise.new.stack.items _ c.in_ok-push_all-in-Some-otherwise.ensures)

pub returns-then-not-passes-2-clause-step : goal.returns-then-not-passes-2-clause-step
returns-then-not-passes-2-clause-step c = λ l under.
    by_no_other c.args.self.now.levels c.args.most c.args.part l (seen c.args.word) c.in-Some-otherwise.test (all_wanted c.in-Some-otherwise.other.now) (stacked (under ++ c.args.self.now.more.items))
    (row_is c.args.part _ (map row_of c.rows.result.now) None c.rows.ensures c.in_default.ensures) (sym c.in-Some-otherwise.ensures) c.if-not-passes-2.ensures
