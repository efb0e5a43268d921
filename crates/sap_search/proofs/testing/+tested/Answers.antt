use Rattle.std.proofs.Common.{ap, drop, length, map, not, refl, sym, ◌∙◌, ◌+◌, if◌then◌else◌, arith}
use Rattle.std.proofs.lemmas.Option.{slice_get_read}
use Rattle.std.proofs.lemmas.Result.{IfOk-weaker}
use Rattle.sap_match.specs.View.{held, sight}
use Rattle.sap_search.specs.View.{guard, plan}
use Rattle.sap_search.specs.code.Chosen.{chosen}
use Rattle.sap_search.specs.code.Connectives.{joined, settled}
use Rattle.sap_search.specs.Planned.{planned, searched}
use Rattle.sap_search.proofs.SearchSteps.{answers_differ, answers_same, chosen_met, chosen_missed, front_on, last_is, leads_end, leads_off, leads_on, met_none, met_some, no_guard, settled_is}
use Rattle.sap_search.proofs.SearchSteps.{by_facts, one_met, one_missed}
use Rattle.sap_search.proofs.testing.+tested.Goals as goal

pub pass-returns-then-g-ne1-clause-answer : goal.pass-returns-then-g-ne1-clause-answer
pass-returns-then-g-ne1-clause-answer t c =
    let leaf = planned c.args.trace.now (plan c.args.body.now) in
    c.in_ok-branch.ensures.answer ∙ sym (c.loop-at.invariant.rest ∙ by_facts c.args.d c.args.guards.now c.loop-at.at c.at-g.result.now (map held c.loop-at.values.items) leaf c.at-g.ensures)

pub pass-returns-then-not-branch-clause-answer : goal.pass-returns-then-not-branch-clause-answer
pass-returns-then-not-branch-clause-answer t c =
    let leaf = planned c.args.trace.now (plan c.args.body.now) in
    sym (c.loop-at.invariant.rest ∙ one_missed c.args.d c.args.guards.now c.loop-at.at c.at-g.result.now (map held c.loop-at.values.items) (map held c.meets_only.new.values.items) leaf c.at-g.ensures (λ d gs leaf. c.in_ok-meets_only.ensures.met d gs leaf ∙ ap (λ b. if b then searched d gs (map held c.meets_only.new.values.items) leaf else d) c.if-not-branch.true))

pub pass-loop-at-preserved : goal.pass-loop-at-preserved
pass-loop-at-preserved t c =
    let leaf = planned c.args.trace.now (plan c.args.body.now) in record {
      rest = c.loop-at.invariant.rest ∙ one_met c.args.d c.args.guards.now c.loop-at.at c.at-g.result.now (map held c.loop-at.values.items) (map held c.meets_only.new.values.items) leaf c.at-g.ensures (λ d gs leaf. c.in_ok-meets_only.ensures.met d gs leaf ∙ ap (λ b. if b then searched d gs (map held c.meets_only.new.values.items) leaf else d) c.if-not-branch.false);
      front = front_on _ _ _ c.loop-at.invariant.front c.in_ok-meets_only.ensures.front;
      on = omega (arith, c.loop-at.invariant.on);
    }

pub test-returns-in-Always-clause-answer : goal.test-returns-in-Always-clause-answer
test-returns-in-Always-clause-answer t c = sym (ap (λ p. planned c.args.trace.now (plan p) (map held c.args.values.now.items)) c.in-Always.is)

pub test-returns-in-Shows-clause-answer : goal.test-returns-in-Shows-clause-answer
test-returns-in-Shows-clause-answer t c =
    IfOk-weaker c.is_shown.result _ _ (λ b e. e ∙ sym (ap (λ p. planned c.args.trace.now (plan p) (map held c.args.values.now.items)) c.in-Shows.is)) c.is_shown.ensures.answer

pub test-returns-in-Equals-clause-answer : goal.test-returns-in-Equals-clause-answer
test-returns-in-Equals-clause-answer t c =
    IfOk-weaker c.are_equal.result _ _ (λ b e. e ∙ sym (ap (λ p. planned c.args.trace.now (plan p) (map held c.args.values.now.items)) c.in-Equals.is)) c.are_equal.ensures.answer

pub test-returns-in_ok-test-in-Not-clause-answer : goal.test-returns-in_ok-test-in-Not-clause-answer
test-returns-in_ok-test-in-Not-clause-answer t c =
    ap not (c.in_ok-test-in-Not.ensures.answer ∙ ap (λ p. planned c.args.trace.now (plan p) (map held c.args.values.now.items)) c.deref.ensures) ∙ sym (ap (λ p. planned c.args.trace.now (plan p) (map held c.args.values.now.items)) c.in-Not.is)

pub test-returns-in-And-clause-answer : goal.test-returns-in-And-clause-answer
test-returns-in-And-clause-answer t c =
    rw c.in-And.is (rw (c.deref-in-And.ensures, c.deref-in-And-2.ensures) at c.joined.ensures.answer)

pub test-returns-in-Or-clause-answer : goal.test-returns-in-Or-clause-answer
test-returns-in-Or-clause-answer t c =
    rw c.in-Or.is (rw (c.deref-in-Or.ensures, c.deref-in-Or-2.ensures) at c.joined-in-Or.ensures.answer)

pub test-returns-in-Imp-clause-answer : goal.test-returns-in-Imp-clause-answer
test-returns-in-Imp-clause-answer t c =
    rw c.in-Imp.is (rw (c.deref-in-Imp.ensures, c.deref-in-Imp-2.ensures) at c.joined-in-Imp.ensures.answer)

pub test-returns-in-Iff-clause-answer : goal.test-returns-in-Iff-clause-answer
test-returns-in-Iff-clause-answer t c =
    rw c.in-Iff.is (rw (c.deref-in-Iff.ensures, c.deref-in-Iff-2.ensures) at c.joined-in-Iff.ensures.answer)

pub joined-returns-in-Some-clause-answer : goal.joined-returns-in-Some-clause-answer
joined-returns-in-Some-clause-answer t c =
    sym (settled_is c.args.how (planned c.args.trace.now (plan c.args.p.now) (map held c.args.values.now.items)) c.in-Some.b (planned c.args.trace.now (plan c.args.q.now) (map held c.args.values.now.items)) (ap (settled c.args.how) (sym c.in_ok-first.ensures.answer) ∙ (sym c.settled.ensures ∙ c.in-Some.is)))

pub joined-returns-in_ok-test-in-None-clause-answer : goal.joined-returns-in_ok-test-in-None-clause-answer
joined-returns-in_ok-test-in-None-clause-answer t c =
    let second = c.in_ok-test-in-None.ensures.answer ∙ ap (λ vs. planned c.args.trace.now (plan c.args.q.now) (map held vs)) c.in_ok-first.ensures.same in
    c.last_of.ensures ∙ (sym (last_is c.args.how c.in_ok-first.first c.in_ok-test-in-None.field-0 (sym c.settled.ensures ∙ c.in-None.is)) ∙ (ap (λ a. joined c.args.how a c.in_ok-test-in-None.field-0) c.in_ok-first.ensures.answer ∙ ap (joined c.args.how (planned c.args.trace.now (plan c.args.p.now) (map held c.args.values.now.items))) second))

pub search-returns-clause-answer : goal.search-returns-clause-answer
search-returns-clause-answer t c = c.in_ok-answer.ensures.answer

pub pass-returns-clause-answer : goal.pass-returns-clause-answer
pass-returns-clause-answer t c =
    IfOk-weaker c.test.result _ _ (λ b e. e ∙ sym (c.loop-at.invariant.rest ∙ no_guard c.args.d c.args.guards.now c.loop-at.at (map held c.loop-at.values.items) (planned c.args.trace.now (plan c.args.body.now)) (omega (arith, c.len-at-end.ensures, c.loop-at-test.false)))) c.test.ensures.answer

pub branch-returns-then-branch-d-clause-answer : goal.branch-returns-then-branch-d-clause-answer
branch-returns-then-branch-d-clause-answer t c =
    let xs = c.args.facts.now in
    let got = slice_get_read xs (length xs) c.loop-s.s-index c.s-item.result refl c.loop-s-test.true c.s-item.is in
    let answer = c.in_ok-choose.ensures.answer ∙ ap (λ vs. chosen c.args.d (map guard (drop c.args.at c.args.guards.now)) (sight c.s-item.result) (map held vs) (planned c.args.trace.now (plan c.args.body.now))) c.loop-s.invariant.same in
    sym (c.loop-s.invariant.rest ∙ leads_off c.args.d (λ s. chosen c.args.d (map guard (drop c.args.at c.args.guards.now)) s (map held c.args.values.now.items) (planned c.args.trace.now (plan c.args.body.now))) xs c.loop-s.s-index c.s-item.result got (λ e. answers_differ c.in_ok-choose.field-0 c.args.d c.if-branch-d.true (answer ∙ e)))

pub branch-loop-s-preserved : goal.branch-loop-s-preserved
branch-loop-s-preserved t c =
    let xs = c.args.facts.now in
    let got = slice_get_read xs (length xs) c.loop-s.s-index c.s-item.result refl c.loop-s-test.true c.s-item.is in
    let answer = c.in_ok-choose.ensures.answer ∙ ap (λ vs. chosen c.args.d (map guard (drop c.args.at c.args.guards.now)) (sight c.s-item.result) (map held vs) (planned c.args.trace.now (plan c.args.body.now))) c.loop-s.invariant.same in record {
      rest = c.loop-s.invariant.rest ∙ leads_on c.args.d (λ s. chosen c.args.d (map guard (drop c.args.at c.args.guards.now)) s (map held c.args.values.now.items) (planned c.args.trace.now (plan c.args.body.now))) xs c.loop-s.s-index c.s-item.result got (sym answer ∙ answers_same c.in_ok-choose.field-0 c.args.d c.if-branch-d.false);
      within = c.loop-s.invariant.within;
      same = c.in_ok-choose.ensures.same ∙ c.loop-s.invariant.same;
    }

pub branch-returns-clause-answer : goal.branch-returns-clause-answer
branch-returns-clause-answer t c =
    sym (c.loop-s.invariant.rest ∙ leads_end c.args.d (λ s. chosen c.args.d (map guard (drop c.args.at c.args.guards.now)) s (map held c.args.values.now.items) (planned c.args.trace.now (plan c.args.body.now))) c.args.facts.now c.loop-s.s-index c.loop-s-test.false)

pub choose-returns-then-not-branch-clause-answer : goal.choose-returns-then-not-branch-clause-answer
choose-returns-then-not-branch-clause-answer t c =
    sym (chosen_missed c.args.d c.args.guards.now c.args.at c.at.result.now c.args.s.now (map held c.args.values.now.items) (planned c.args.trace.now (plan c.args.body.now)) c.at.ensures (met_none (map held c.meets.new.values.items) c.in_ok-meets.field-0 _ c.in_ok-meets.ensures.met c.if-not-branch.true))

pub choose-returns-clause-answer : goal.choose-returns-clause-answer
choose-returns-clause-answer t c =
    c.in_ok-answer.ensures.answer ∙ sym (chosen_met c.args.d c.args.guards.now c.args.at c.at.result.now c.args.s.now (map held c.args.values.now.items) (map held c.meets.new.values.items) (planned c.args.trace.now (plan c.args.body.now)) c.at.ensures (met_some (map held c.meets.new.values.items) c.in_ok-meets.field-0 _ c.in_ok-meets.ensures.met c.if-not-branch.false))
