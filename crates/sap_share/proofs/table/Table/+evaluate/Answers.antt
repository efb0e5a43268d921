use Rattle.std.proofs.Common.{length, rules, sym, ap, subst, ◌∙◌, arith}
use Rattle.sap_terms.specs.Choice.{instance, instances}
use Rattle.sap_terms.specs.Equations.{equations}
use Rattle.sap_terms.specs.Ground.{IsGround, AreGround}
use Rattle.sap_terms.specs.Message.{IsOver}
use Rattle.sap_terms.specs.Subterms.{itself, below}
use Rattle.sap_terms.specs.Tree.{public, fresh, trees_of, node_count}
use Rattle.sap_terms.specs.View.{tree}
use Rattle.sap_terms.specs.declared.term.Term.{Term}
use Rattle.sap_share.specs.Env.{given}
use Rattle.sap_share.specs.Shared.{tree_at}
use Rattle.sap_share.proofs.Kept.{keeps-self, keeps-both, over_at}
use Rattle.sap_share.proofs.Evaluated.{variable_fits, no_variable, symbol_held, symbol_form, symbol_large, symbol_fits, leaf_fits, within_instances, instances_within, instances-trees_of, step_env, step_ground, step_forms, step_rest, step_large, none_within}
use Rattle.sap_share.proofs.Grown.{if_ok, both_ok}
use Rattle.sap_share.proofs.Came.{few_more, few_of_all, few_one_more}
use Rattle.sap_share.proofs.table.Table.+evaluate.Goals as goal

pub evaluate-unreachable-requires : goal.evaluate-unreachable-requires
evaluate-unreachable-requires t c =
    let g : IsGround (given c.args.self.now.trees c.args.env.now c.in-Var.v) = subst (λ (u : Term). IsGround (instance (given c.args.self.now.trees c.args.env.now) (tree u))) c.in-Var.is c.requires.ground in
    no_variable c.args.self.now.trees c.args.env.now c.in-Var.v c.in-None.ensures g

pub evaluate-evaluate_all-requires : goal.evaluate-evaluate_all-requires
evaluate-evaluate_all-requires t c =
    let d = c.decreases in
    let n = ap (λ (u : Term). node_count (tree u)) c.in-App.is in
    let σ = given c.args.self.now.trees c.args.env.now in
    let g : AreGround (instances σ (trees_of c.in-App.ts)) = subst (λ (u : Term). IsGround (instance σ (tree u))) c.in-App.is c.requires.ground in
    let o = subst (λ (u : Term). IsOver c.args.self.now.sig (tree u)) c.in-App.is c.requires.over in
    (omega (arith, n, d), (c.requires.most, (c.requires.env, (subst AreGround (instances-trees_of σ c.in-App.ts) g, o.1))))

pub evaluate-form_within-requires-in-Ok-clause-held : goal.evaluate-form_within-requires-in-Ok-clause-held
evaluate-form_within-requires-in-Ok-clause-held t c =
    let o = subst (λ (u : Term). IsOver c.args.self.now.sig (tree u)) c.in-App.is c.requires.over in
    symbol_held c.args.self.now c.evaluate_all.new.self c.in-App.f c.in_ok-name-in-App.name c.in_ok-name-in-App.ensures c.in-App.ts (given c.args.self.now.trees c.args.env.now) c.in-Ok.ks c.in-Ok.ensures.keeps c.in-Ok.ensures.forms o

pub evaluate-returns-in-Some-clause-below : goal.evaluate-returns-in-Some-clause-below
evaluate-returns-in-Some-clause-below t c =
    (variable_fits c.equality_is_kept.ensures c.normal_forms_are_unique.ensures (equations c.args.self.now.sig) c.args.most c.args.self.now.trees c.args.env.now c.in-Var.v c.in-Some.k c.requires.env c.in-Some.ensures).below

pub evaluate-returns-in-Some-clause-form : goal.evaluate-returns-in-Some-clause-form
evaluate-returns-in-Some-clause-form t c =
    rw c.in-Var.is (variable_fits c.equality_is_kept.ensures c.normal_forms_are_unique.ensures (equations c.args.self.now.sig) c.args.most c.args.self.now.trees c.args.env.now c.in-Var.v c.in-Some.k c.requires.env c.in-Some.ensures).form

pub evaluate-returns-in-Some-clause-within : goal.evaluate-returns-in-Some-clause-within
evaluate-returns-in-Some-clause-within t c =
    rw c.in-Var.is (variable_fits c.equality_is_kept.ensures c.normal_forms_are_unique.ensures (equations c.args.self.now.sig) c.args.most c.args.self.now.trees c.args.env.now c.in-Var.v c.in-Some.k c.requires.env c.in-Some.ensures).within

pub evaluate-returns-in_ok-name-in-Public-clause-within : goal.evaluate-returns-in_ok-name-in-Public-clause-within
evaluate-returns-in_ok-name-in-Public-clause-within t c =
    let s = c.args.self.now in
    rw (ap tree c.in-Public.is ∙ ap public (sym c.in_ok-name-in-Public.ensures)) (both_ok c.form_within.result (λ k form le. leaf_fits c.equality_is_kept.ensures c.normal_forms_are_unique.ensures (equations s.sig) c.args.most (public c.in_ok-name-in-Public.name) (tree_at c.form_within.new.self.trees k) (λ f ts e. cc) form le) c.form_within.ensures.form c.form_within.ensures.within)

pub evaluate-returns-in_ok-name-in-Public-clause-large : goal.evaluate-returns-in_ok-name-in-Public-clause-large
evaluate-returns-in_ok-name-in-Public-clause-large t c =
    rw (ap tree c.in-Public.is ∙ ap public (sym c.in_ok-name-in-Public.ensures)) (λ i. itself (c.form_within.ensures.large i))

pub evaluate-returns-in-Fresh-clause-within : goal.evaluate-returns-in-Fresh-clause-within
evaluate-returns-in-Fresh-clause-within t c =
    let s = c.args.self.now in
    rw (ap tree c.in-Fresh.is) (both_ok c.form_within-in-Fresh.result (λ k form le. leaf_fits c.equality_is_kept.ensures c.normal_forms_are_unique.ensures (equations s.sig) c.args.most (fresh c.in-Fresh.k) (tree_at c.form_within-in-Fresh.new.self.trees k) (λ f ts e. cc) form le) c.form_within-in-Fresh.ensures.form c.form_within-in-Fresh.ensures.within)

pub evaluate-returns-in-Fresh-clause-large : goal.evaluate-returns-in-Fresh-clause-large
evaluate-returns-in-Fresh-clause-large t c =
    rw (ap tree c.in-Fresh.is) (λ i. itself (c.form_within-in-Fresh.ensures.large i))

pub evaluate-returns-in-Ok-clause-form : goal.evaluate-returns-in-Ok-clause-form
evaluate-returns-in-Ok-clause-form t c =
    let s = c.args.self.now in
    rw (ap tree c.in-App.is) (if_ok c.form_within-in-Ok.result (λ k form. symbol_form s c.evaluate_all.new.self c.in-App.f c.in_ok-name-in-App.name c.in_ok-name-in-App.ensures c.in-App.ts (given s.trees c.args.env.now) c.in-Ok.ks c.in-Ok.ensures.keeps c.in-Ok.ensures.forms c.equality_is_kept.ensures (tree_at c.form_within-in-Ok.new.self.trees k) form) c.form_within-in-Ok.ensures.form)

pub evaluate-returns-in-Ok-clause-within : goal.evaluate-returns-in-Ok-clause-within
evaluate-returns-in-Ok-clause-within t c =
    let s = c.args.self.now in
    let σ = given s.trees c.args.env.now in
    rw (ap tree c.in-App.is) (both_ok c.form_within-in-Ok.result (λ k form le.
    symbol_fits c.equality_is_kept.ensures c.normal_forms_are_unique.ensures (equations s.sig) c.args.most c.in-App.f (instances σ (trees_of c.in-App.ts)) (tree_at c.form_within-in-Ok.new.self.trees k)
    (λ w. c.in-Ok.ensures.within (instances_within (equations s.sig) c.args.most σ c.in-App.ts w))
    (symbol_form s c.evaluate_all.new.self c.in-App.f c.in_ok-name-in-App.name c.in_ok-name-in-App.ensures c.in-App.ts (given s.trees c.args.env.now) c.in-Ok.ks c.in-Ok.ensures.keeps c.in-Ok.ensures.forms c.equality_is_kept.ensures (tree_at c.form_within-in-Ok.new.self.trees k) form) le) c.form_within-in-Ok.ensures.form c.form_within-in-Ok.ensures.within)

pub evaluate-returns-in-Ok-clause-large : goal.evaluate-returns-in-Ok-clause-large
evaluate-returns-in-Ok-clause-large t c =
    let s = c.args.self.now in
    rw (ap tree c.in-App.is) (λ i. symbol_large s c.evaluate_all.new.self c.in-App.f c.in_ok-name-in-App.name c.in_ok-name-in-App.ensures c.in-App.ts (given s.trees c.args.env.now) c.in-Ok.ks c.in-Ok.ensures.keeps c.in-Ok.ensures.forms c.equality_is_kept.ensures c.args.most (c.form_within-in-Ok.ensures.large i))

pub evaluate-returns-in-Err-clause-large : goal.evaluate-returns-in-Err-clause-large
evaluate-returns-in-Err-clause-large t c = λ i.
    let s = c.args.self.now in
    rw c.in-App.is (below (within_instances (equations s.sig) c.args.most (given s.trees c.args.env.now) c.in-App.ts (c.in-Err.ensures.large (cc i))))

pub evaluate_all-evaluate-requires : goal.evaluate_all-evaluate-requires
evaluate_all-evaluate-requires t c =
    let s = c.args.self.now in
    let g = c.at.ensures.smaller in
    let d = c.decreases in
    let k = c.loop-i.invariant.keeps in
    let x = tree c.at.result.now in (
      omega (arith, g, d),
      (
        c.requires.most,
        (
          step_env s c.loop-i.self c.args.env.now c.args.most c.requires.env k c.args.ts.now c.loop-i.i x c.at.ensures.got,
          (
            step_ground s c.loop-i.self c.args.env.now c.args.most c.requires.env k c.args.ts.now c.loop-i.i x c.at.ensures.got c.requires.ground,
            subst (λ g. IsOver g x) (sym k.sig) (over_at s.sig c.args.ts.now c.loop-i.i x c.requires.over c.at.ensures.got),
          ),
        ),
      ),
    )

pub evaluate_all-returns-in-Err-clause-large : goal.evaluate_all-returns-in-Err-clause-large
evaluate_all-returns-in-Err-clause-large t c = λ i.
    let s = c.args.self.now in
    step_large s c.loop-i.self c.args.env.now c.args.most c.requires.env c.loop-i.invariant.keeps c.args.ts.now c.loop-i.i (tree c.at.result.now) c.at.ensures.got (c.in-Err.ensures.large (cc i))

pub evaluate_all-loop-i-preserved : goal.evaluate_all-loop-i-preserved
evaluate_all-loop-i-preserved t c =
    let s = c.args.self.now in
    let h = c.loop-i.invariant in
    let x = tree c.at.result.now in
    let m = step_forms s c.loop-i.self c.args.env.now c.args.most c.requires.env h.keeps c.args.ts.now c.loop-i.i x c.at.ensures.got c.evaluate.new.self c.in-Ok.k c.loop-i.ks c.push.new.self c.in-Ok.ensures.keeps c.in-Ok.ensures.below c.in-Ok.ensures.form h.forms h.below c.in_ok-push-in-Ok.ensures.ok in
    record {
      forms = m.0;
      below = m.1;
      keeps = keeps-both s c.loop-i.self c.evaluate.new.self h.keeps c.in-Ok.ensures.keeps;
      few = few_more c.args.ts.now c.loop-i.i (length s.trees) (length c.loop-i.self.trees) (length c.evaluate.new.self.trees) x c.at.ensures.got h.few c.in-Ok.ensures.few;
      rest = step_rest s c.loop-i.self c.args.env.now c.args.most c.requires.env h.keeps c.args.ts.now c.loop-i.i x c.at.ensures.got h.rest c.in-Ok.ensures.within;
    }

pub evaluate_all-returns-clause-within : goal.evaluate_all-returns-clause-within
evaluate_all-returns-clause-within t c = λ w.
    let l = c.len-i-end.ensures in
    let end = c.loop-i-test.false in
    none_within c.args.ts.now (given c.args.self.now.trees c.args.env.now) c.loop-i.i (omega (arith, l, end)) (c.loop-i.invariant.rest w)

pub evaluate-returns-in_err-name-in-Public-clause-keeps : goal.evaluate-returns-in_err-name-in-Public-clause-keeps
evaluate-returns-in_err-name-in-Public-clause-keeps t c = keeps-self c.args.self.now

pub evaluate-returns-in_err-name-in-App-clause-keeps : goal.evaluate-returns-in_err-name-in-App-clause-keeps
evaluate-returns-in_err-name-in-App-clause-keeps t c = keeps-self c.args.self.now

pub evaluate-returns-in-Some-clause-keeps : goal.evaluate-returns-in-Some-clause-keeps
evaluate-returns-in-Some-clause-keeps t c = keeps-self c.args.self.now

pub evaluate-returns-in_ok-name-in-Public-clause-form : goal.evaluate-returns-in_ok-name-in-Public-clause-form
evaluate-returns-in_ok-name-in-Public-clause-form t c = rw (ap tree c.in-Public.is ∙ ap public (sym c.in_ok-name-in-Public.ensures)) c.form_within.ensures.form

pub evaluate-returns-in-Fresh-clause-form : goal.evaluate-returns-in-Fresh-clause-form
evaluate-returns-in-Fresh-clause-form t c = rw (ap tree c.in-Fresh.is) c.form_within-in-Fresh.ensures.form

pub evaluate-returns-in-Ok-clause-keeps : goal.evaluate-returns-in-Ok-clause-keeps
evaluate-returns-in-Ok-clause-keeps t c = keeps-both c.args.self.now c.evaluate_all.new.self c.form_within-in-Ok.new.self c.in-Ok.ensures.keeps c.form_within-in-Ok.ensures.keeps

pub evaluate-returns-in-Err-clause-keeps : goal.evaluate-returns-in-Err-clause-keeps
evaluate-returns-in-Err-clause-keeps t c = c.in-Err.ensures.keeps

pub evaluate_all-returns-in_err-ks-clause-keeps : goal.evaluate_all-returns-in_err-ks-clause-keeps
evaluate_all-returns-in_err-ks-clause-keeps t c = keeps-self c.args.self.now

pub evaluate_all-loop-i-init : goal.evaluate_all-loop-i-init
evaluate_all-loop-i-init t c = record { forms = search rules; below = search rules; keeps = keeps-self c.args.self.now; few = omega arith; rest = λ w. w }

pub evaluate_all-returns-in_err-push-in-Ok-clause-keeps : goal.evaluate_all-returns-in_err-push-in-Ok-clause-keeps
evaluate_all-returns-in_err-push-in-Ok-clause-keeps t c = keeps-both c.args.self.now c.loop-i.self c.evaluate.new.self c.loop-i.invariant.keeps c.in-Ok.ensures.keeps

pub evaluate_all-returns-in-Err-clause-keeps : goal.evaluate_all-returns-in-Err-clause-keeps
evaluate_all-returns-in-Err-clause-keeps t c = keeps-both c.args.self.now c.loop-i.self c.evaluate.new.self c.loop-i.invariant.keeps c.in-Err.ensures.keeps

pub evaluate_all-returns-in-Err-clause-few : goal.evaluate_all-returns-in-Err-clause-few
evaluate_all-returns-in-Err-clause-few t c =
    few_one_more c.args.ts.now c.loop-i.i (length c.args.self.now.trees) (length c.loop-i.self.trees) (length c.evaluate.new.self.trees) (tree c.at.result.now) c.at.ensures.got c.loop-i.invariant.few c.in-Err.ensures.few

pub evaluate_all-returns-in_err-push-in-Ok-clause-few : goal.evaluate_all-returns-in_err-push-in-Ok-clause-few
evaluate_all-returns-in_err-push-in-Ok-clause-few t c =
    few_one_more c.args.ts.now c.loop-i.i (length c.args.self.now.trees) (length c.loop-i.self.trees) (length c.evaluate.new.self.trees) (tree c.at.result.now) c.at.ensures.got c.loop-i.invariant.few c.in-Ok.ensures.few

pub evaluate_all-returns-clause-few : goal.evaluate_all-returns-clause-few
evaluate_all-returns-clause-few t c = few_of_all c.args.ts.now c.loop-i.i (length c.args.self.now.trees) (length c.loop-i.self.trees) c.loop-i.invariant.few

pub evaluate-returns-in_ok-name-in-Public-clause-few : goal.evaluate-returns-in_ok-name-in-Public-clause-few
evaluate-returns-in_ok-name-in-Public-clause-few t c = let n = c.form_within.ensures.few in rw (ap tree c.in-Public.is) (omega (arith, n))

pub evaluate-returns-in-Fresh-clause-few : goal.evaluate-returns-in-Fresh-clause-few
evaluate-returns-in-Fresh-clause-few t c = let n = c.form_within-in-Fresh.ensures.few in rw (ap tree c.in-Fresh.is) (omega (arith, n))

pub evaluate-returns-in-Err-clause-few : goal.evaluate-returns-in-Err-clause-few
evaluate-returns-in-Err-clause-few t c = let n = c.in-Err.ensures.few in rw (ap tree c.in-App.is) (omega (arith, n))

pub evaluate-returns-in-Ok-clause-few : goal.evaluate-returns-in-Ok-clause-few
evaluate-returns-in-Ok-clause-few t c =
    let n = c.in-Ok.ensures.few in
    let m = c.form_within-in-Ok.ensures.few in
    rw (ap tree c.in-App.is) (omega (arith, n, m))
