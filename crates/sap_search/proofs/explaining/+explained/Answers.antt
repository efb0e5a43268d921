use Rattle.std.proofs.Common.{◌≡◌, ap, drop, false, length, map, subst, sym, take, vec_len, ◌∙◌, ◌+◌, if◌then◌else◌, None, arith}
use Rattle.std.proofs.lemmas.Result.{IfOk-weaker}
use Rattle.sap_match.specs.Matched.{onward}
use Rattle.sap_match.specs.View.{held, sight}
use Rattle.sap_search.specs.Explained.{explained, first_led, first_some, in_front, told}
use Rattle.sap_search.specs.View.{chosen_value, claim, guard, slotted}
use Rattle.sap_search.specs.code.Answers.{Answers, led_by}
use Rattle.sap_search.proofs.SearchSteps.{front_on, met_none, met_some}
use Rattle.sap_search.proofs.ExplainSteps.{Leaf, both_cut, led_by_facts, led_end, led_met, led_missed, led_on, nothing_answers, under_no}
use Rattle.sap_search.proofs.explaining.+explained.Goals as goal

pub both-returns-clause-answer : goal.both-returns-clause-answer
both-returns-clause-answer t c =
    let o = explained c.args.trace.now (claim c.args.c.now) (map held c.args.values.now.items) in
    let p = explained c.args.trace.now (claim c.args.d.now) (map held c.args.values.now.items) in
    let d = subst (λ vs. Answers c.in_ok-explain-2.field-0 (map chosen_value c.explain.new.out.items) (map chosen_value c.explain-2.new.out.items) (explained c.args.trace.now (claim c.args.d.now) (map held vs))) c.in_ok-explain.ensures.same c.in_ok-explain-2.ensures.answer in
    let cut = both_cut c.in_ok-explain.field-0 c.in_ok-explain-2.field-0 c.args.out.now.items c.explain.new.out.items c.explain-2.new.out.items o p c.in_ok-explain.ensures.answer c.if-not-branch.false d c.if-branch.false in
    let n : vec_len c.args.out.now ≡ length c.args.out.now.items = omega arith in
    subst (λ z. Answers false (map chosen_value c.args.out.now.items) (map chosen_value z) (onward o (λ cs. in_front cs p))) (sym (c.truncate.ensures.items ∙ ap (λ n. take n c.explain-2.new.out.items) (c.len-count.ensures ∙ n))) cut

pub under-returns-clause-answer : goal.under-returns-clause-answer
under-returns-clause-answer t c =
    let p = explained c.args.trace.now (claim c.args.c.now) (map held c.args.values.now.items) in
    let ts = told (map slotted c.args.slots.now) (map held c.args.values.now.items) in
    let cut = under_no c.in_ok-explain.field-0 c.args.out.now.items c.tell.new.out.items c.explain.new.out.items ts p c.in_ok-tell.ensures c.in_ok-explain.ensures.answer c.if-branch.false in
    let n : vec_len c.args.out.now ≡ length c.args.out.now.items = omega arith in
    subst (λ z. Answers false (map chosen_value c.args.out.now.items) (map chosen_value z) (in_front ts p)) (sym (c.truncate.ensures.items ∙ ap (λ n. take n c.explain.new.out.items) (c.len-count.ensures ∙ n))) cut

pub pass-returns-then-g-ne1-clause-answer : goal.pass-returns-then-g-ne1-clause-answer
pass-returns-then-g-ne1-clause-answer t c =
    let leaf : Leaf = λ h. in_front (told (map slotted c.args.slots.now) h) (explained c.args.trace.now (claim c.args.c.now) h) in
    let o = first_led (map guard (drop c.args.from c.args.guards.now)) (map held c.args.values.now.items) leaf in
    let e = c.loop-at.invariant.rest ∙ led_by_facts c.args.guards.now c.loop-at.at c.at-g.result.now (map held c.loop-at.values.items) leaf c.at-g.ensures in
    subst (λ z. Answers c.in_ok-branch.field-0 (map chosen_value z) (map chosen_value c.branch-trace.new.out.items) o) c.loop-at.invariant.put
    (subst (λ z. Answers c.in_ok-branch.field-0 (map chosen_value c.loop-at.out.items) (map chosen_value c.branch-trace.new.out.items) z) (sym e) c.in_ok-branch.ensures.answer)

pub pass-returns-then-not-branch-clause-answer : goal.pass-returns-then-not-branch-clause-answer
pass-returns-then-not-branch-clause-answer t c =
    let leaf : Leaf = λ h. in_front (told (map slotted c.args.slots.now) h) (explained c.args.trace.now (claim c.args.c.now) h) in
    let o = first_led (map guard (drop c.args.from c.args.guards.now)) (map held c.args.values.now.items) leaf in
    let e = c.loop-at.invariant.rest ∙ led_on c.args.guards.now c.loop-at.at c.at-g.result.now (map held c.loop-at.values.items) (map held c.fits_only.new.values.items) leaf c.in_ok-fits_only.field-0 c.at-g.ensures c.in_ok-fits_only.ensures.met ∙ ap (λ b. if b then first_led (map guard (drop (c.loop-at.at + 1) c.args.guards.now)) (map held c.fits_only.new.values.items) leaf else None) c.if-not-branch.true in
    subst (λ z. Answers false (map chosen_value c.args.out.now.items) (map chosen_value z) o) (sym c.loop-at.invariant.put) (nothing_answers (map chosen_value c.args.out.now.items) o e)

pub pass-loop-at-preserved : goal.pass-loop-at-preserved
pass-loop-at-preserved t c =
    let leaf : Leaf = λ h. in_front (told (map slotted c.args.slots.now) h) (explained c.args.trace.now (claim c.args.c.now) h) in
    record {
      rest = c.loop-at.invariant.rest ∙ led_on c.args.guards.now c.loop-at.at c.at-g.result.now (map held c.loop-at.values.items) (map held c.fits_only.new.values.items) leaf c.in_ok-fits_only.field-0 c.at-g.ensures c.in_ok-fits_only.ensures.met ∙ ap (λ b. if b then first_led (map guard (drop (c.loop-at.at + 1) c.args.guards.now)) (map held c.fits_only.new.values.items) leaf else None) c.if-not-branch.false;
      front = front_on _ _ _ c.loop-at.invariant.front c.in_ok-fits_only.ensures.front;
      on = omega (arith, c.loop-at.invariant.on);
      put = c.loop-at.invariant.put;
    }

pub pass-returns-clause-answer : goal.pass-returns-clause-answer
pass-returns-clause-answer t c =
    let leaf : Leaf = λ h. in_front (told (map slotted c.args.slots.now) h) (explained c.args.trace.now (claim c.args.c.now) h) in
    let o = first_led (map guard (drop c.args.from c.args.guards.now)) (map held c.args.values.now.items) leaf in
    let e = c.loop-at.invariant.rest ∙ led_end c.args.guards.now c.loop-at.at (map held c.loop-at.values.items) leaf (omega (arith, c.len-at-end.ensures, c.loop-at-test.false)) in
    IfOk-weaker c.under.result _ _ (λ b a. subst (λ z. Answers b (map chosen_value z) (map chosen_value c.under.new.out.items) o) c.loop-at.invariant.put (subst (λ z. Answers b (map chosen_value c.loop-at.out.items) (map chosen_value c.under.new.out.items) z) (sym e) a)) c.under.ensures.answer

pub choose-returns-then-not-branch-clause-answer : goal.choose-returns-then-not-branch-clause-answer
choose-returns-then-not-branch-clause-answer t c =
    let leaf : Leaf = λ h. in_front (told (map slotted c.args.slots.now) h) (explained c.args.trace.now (claim c.args.c.now) h) in
    nothing_answers (map chosen_value c.args.out.now.items) (led_by (map guard (drop c.args.at c.args.guards.now)) (sight c.args.s.now) (map held c.args.values.now.items) leaf) (led_missed c.args.guards.now c.args.at c.at.result.now c.args.s.now (map held c.args.values.now.items) leaf c.at.ensures (met_none (map held c.meets.new.values.items) c.in_ok-meets.field-0 _ c.in_ok-meets.ensures.met c.if-not-branch.true))

pub choose-returns-clause-answer : goal.choose-returns-clause-answer
choose-returns-clause-answer t c =
    let leaf : Leaf = λ h. in_front (told (map slotted c.args.slots.now) h) (explained c.args.trace.now (claim c.args.c.now) h) in
    subst (λ z. Answers c.in_ok-answer.answer (map chosen_value c.args.out.now.items) (map chosen_value c.search.new.out.items) z) (sym (led_met c.args.guards.now c.args.at c.at.result.now c.args.s.now (map held c.args.values.now.items) (map held c.meets.new.values.items) leaf c.at.ensures (met_some (map held c.meets.new.values.items) c.in_ok-meets.field-0 _ c.in_ok-meets.ensures.met c.if-not-branch.false))) c.in_ok-answer.ensures.answer
