use Rattle.std.proofs.Common.{length, arith, rules, sym, ap, subst, ◌∙◌}
use Rattle.sap_terms.specs.Message.{IsOver}
use Rattle.sap_terms.specs.Tree.{public}
use Rattle.sap_terms.specs.View.{tree}
use Rattle.sap_terms.specs.declared.term.Term.{Term}
use Rattle.sap_share.proofs.Kept.{ground_at, over_at, held_over, put_more, keeps-self, keeps-both, numbered_keeps, applied_given}
use Rattle.sap_share.proofs.Came.{few_more, few_of_all, few_one_more}
use Rattle.sap_share.proofs.table.Table.+put.Goals as goal

pub put-intern-requires-in-Ok-clause-held : goal.put-intern-requires-in-Ok-clause-held
put-intern-requires-in-Ok-clause-held t c =
    let over = subst (λ (u : Term). IsOver c.args.self.now.sig (tree u)) c.in-App.is c.requires.over in
    held_over c.args.self.now c.put_all.new.self c.in-App.f c.in_ok-name-in-App.name c.in-App.ts c.in-Ok.ks over c.in-Ok.ensures.keeps c.in_ok-name-in-App.ensures c.in-Ok.ensures.trees

pub put_all-put-requires : goal.put_all-put-requires
put_all-put-requires t c =
    let g = c.at.ensures.smaller in
    let d = c.decreases in
    let over_kept = subst (λ s. IsOver s (tree c.at.result.now)) (sym c.loop-i.invariant.keeps.sig) (over_at c.args.self.now.sig c.args.ts.now c.loop-i.i (tree c.at.result.now) c.requires.over c.at.ensures.got) in
    (omega (arith, g, d), (ground_at c.args.ts.now c.loop-i.i (tree c.at.result.now) c.requires.ground c.at.ensures.got, over_kept))

pub put_all-loop-i-preserved : goal.put_all-loop-i-preserved
put_all-loop-i-preserved t c =
    let h = c.loop-i.invariant in
    let m = put_more c.loop-i.self c.put.new.self c.args.ts.now c.loop-i.i (tree c.at.result.now) c.loop-i.ks c.push.new.self c.in-Ok.k h.trees h.below c.in-Ok.ensures.gives c.at.ensures.got c.in_ok-push-in-Ok.ensures.ok in
    record {
      trees = m.0;
      below = m.1;
      keeps = keeps-both c.args.self.now c.loop-i.self c.put.new.self h.keeps c.in-Ok.ensures.keeps;
      few = few_more c.args.ts.now c.loop-i.i (length c.args.self.now.trees) (length c.loop-i.self.trees) (length c.put.new.self.trees) (tree c.at.result.now) c.at.ensures.got h.few c.in-Ok.ensures.few;
    }

pub put-returns-in_err-name-in-Public-clause-keeps : goal.put-returns-in_err-name-in-Public-clause-keeps
put-returns-in_err-name-in-Public-clause-keeps t c = keeps-self c.args.self.now

pub put-returns-in_err-name-in-App-clause-keeps : goal.put-returns-in_err-name-in-App-clause-keeps
put-returns-in_err-name-in-App-clause-keeps t c = keeps-self c.args.self.now

pub put-returns-in-Err-clause-keeps : goal.put-returns-in-Err-clause-keeps
put-returns-in-Err-clause-keeps t c = c.in-Err.ensures.keeps

pub put-intern-requires-in-Ok-clause-below : goal.put-intern-requires-in-Ok-clause-below
put-intern-requires-in-Ok-clause-below t c = c.in-Ok.ensures.below

pub put-returns-in_ok-name-in-Public-clause-gives : goal.put-returns-in_ok-name-in-Public-clause-gives
put-returns-in_ok-name-in-Public-clause-gives t c = rw (ap tree c.in-Public.is ∙ ap public (sym c.in_ok-name-in-Public.ensures)) c.intern.ensures.ok

pub put-returns-in_ok-name-in-Public-clause-keeps : goal.put-returns-in_ok-name-in-Public-clause-keeps
put-returns-in_ok-name-in-Public-clause-keeps t c = numbered_keeps c.args.self.now c.intern.new.self _ c.intern.result c.intern.ensures.ok c.intern.ensures.err

pub put-returns-in-Fresh-clause-gives : goal.put-returns-in-Fresh-clause-gives
put-returns-in-Fresh-clause-gives t c = rw (ap tree c.in-Fresh.is) c.intern-in-Fresh.ensures.ok

pub put-returns-in-Fresh-clause-keeps : goal.put-returns-in-Fresh-clause-keeps
put-returns-in-Fresh-clause-keeps t c = numbered_keeps c.args.self.now c.intern-in-Fresh.new.self _ c.intern-in-Fresh.result c.intern-in-Fresh.ensures.ok c.intern-in-Fresh.ensures.err

pub put-returns-in-Ok-clause-gives : goal.put-returns-in-Ok-clause-gives
put-returns-in-Ok-clause-gives t c =
    rw (ap tree c.in-App.is) (applied_given c.args.self.now c.put_all.new.self c.intern-in-Ok.new.self c.in-App.f c.in_ok-name-in-App.name c.in-App.ts c.in-Ok.ks c.in-Ok.ensures.keeps c.in_ok-name-in-App.ensures c.in-Ok.ensures.trees c.intern-in-Ok.result c.intern-in-Ok.ensures.ok)

pub put-returns-in-Ok-clause-keeps : goal.put-returns-in-Ok-clause-keeps
put-returns-in-Ok-clause-keeps t c =
    keeps-both c.args.self.now c.put_all.new.self c.intern-in-Ok.new.self c.in-Ok.ensures.keeps (numbered_keeps c.put_all.new.self c.intern-in-Ok.new.self _ c.intern-in-Ok.result c.intern-in-Ok.ensures.ok c.intern-in-Ok.ensures.err)

pub put_all-returns-in_err-ks-clause-keeps : goal.put_all-returns-in_err-ks-clause-keeps
put_all-returns-in_err-ks-clause-keeps t c = keeps-self c.args.self.now

pub put_all-loop-i-init : goal.put_all-loop-i-init
put_all-loop-i-init t c = record { trees = search rules; below = search rules; keeps = keeps-self c.args.self.now; few = omega arith }

pub put_all-returns-in-Err-clause-keeps : goal.put_all-returns-in-Err-clause-keeps
put_all-returns-in-Err-clause-keeps t c = keeps-both c.args.self.now c.loop-i.self c.put.new.self c.loop-i.invariant.keeps c.in-Err.ensures.keeps

pub put_all-returns-in_err-push-in-Ok-clause-keeps : goal.put_all-returns-in_err-push-in-Ok-clause-keeps
put_all-returns-in_err-push-in-Ok-clause-keeps t c = keeps-both c.args.self.now c.loop-i.self c.put.new.self c.loop-i.invariant.keeps c.in-Ok.ensures.keeps

pub put_all-returns-in-Err-clause-few : goal.put_all-returns-in-Err-clause-few
put_all-returns-in-Err-clause-few t c =
    few_one_more c.args.ts.now c.loop-i.i (length c.args.self.now.trees) (length c.loop-i.self.trees) (length c.put.new.self.trees) (tree c.at.result.now) c.at.ensures.got c.loop-i.invariant.few c.in-Err.ensures.few

pub put_all-returns-in_err-push-in-Ok-clause-few : goal.put_all-returns-in_err-push-in-Ok-clause-few
put_all-returns-in_err-push-in-Ok-clause-few t c =
    few_one_more c.args.ts.now c.loop-i.i (length c.args.self.now.trees) (length c.loop-i.self.trees) (length c.put.new.self.trees) (tree c.at.result.now) c.at.ensures.got c.loop-i.invariant.few c.in-Ok.ensures.few

pub put_all-returns-clause-few : goal.put_all-returns-clause-few
put_all-returns-clause-few t c = few_of_all c.args.ts.now c.loop-i.i (length c.args.self.now.trees) (length c.loop-i.self.trees) c.loop-i.invariant.few

pub put-returns-in_ok-name-in-Public-clause-few : goal.put-returns-in_ok-name-in-Public-clause-few
put-returns-in_ok-name-in-Public-clause-few t c = let n = c.intern.ensures.few in rw (ap tree c.in-Public.is) (omega (arith, n))

pub put-returns-in-Fresh-clause-few : goal.put-returns-in-Fresh-clause-few
put-returns-in-Fresh-clause-few t c = let n = c.intern-in-Fresh.ensures.few in rw (ap tree c.in-Fresh.is) (omega (arith, n))

pub put-returns-in-Err-clause-few : goal.put-returns-in-Err-clause-few
put-returns-in-Err-clause-few t c = let n = c.in-Err.ensures.few in rw (ap tree c.in-App.is) (omega (arith, n))

pub put-returns-in-Ok-clause-few : goal.put-returns-in-Ok-clause-few
put-returns-in-Ok-clause-few t c =
    let n = c.in-Ok.ensures.few in
    let m = c.intern-in-Ok.ensures.few in
    rw (ap tree c.in-App.is) (omega (arith, n, m))
