use Rattle.std.proofs.Common.{min, ◌+◌, ◌∷◌, [], ◌++◌, ◌&&◌, map, take, drop, ap, sym, ◌∙◌, arith}
use Rattle.sap_terms.specs.Tree.{node_count, trees_of, trees_count}
use Rattle.sap_terms.specs.View.{tree}
use Rattle.sap_terms.specs.Equations.{equations}
use Rattle.sap_terms.proofs.PlainLaws.Lists.{map_got}
use Rattle.sap_rewrite.specs.code.Reduce.{nf, reduced}
use Rattle.sap_rewrite.specs.code.Fit.{all_fit}
use Rattle.sap_rewrite.proofs.ListLaws.{nf-apply}
use Rattle.sap_rewrite.proofs.Fits.{trees_count-push, all_fit-got, whole_within, whole_large, on_ok, on_error, as_term, as_count, leaf_form, leaf_count, leaf_fits, leaf_large}
use Rattle.sap_rewrite.specs.declared.within.Counted.{Counted}
use Rattle.sap_rewrite.proofs.within.+within.Goals as goal

pub within_all-loop-k-preserved : goal.within_all-loop-k-preserved
within_all-loop-k-preserved t c =
    let e = equations c.args.sig.now in
    let ts = c.args.ts.now in
    let k = c.loop-k.k in
    let u = tree c.at.result.now in
    let x = tree c.in_ok-form.form.term in
    let pushed = ap (λ us. trees_count (trees_of us)) c.in_ok-push.ensures.ok ∙ trees_count-push c.loop-k.terms x in
    let nodes = ap node_count c.in_ok-form.ensures.form in
    record {
      forms =
          c.in_ok-push.ensures.ok ∙ ap (λ us. us ++ x ∷ []) c.loop-k.invariant.forms ∙ ap (λ y. map (nf e) (take k ts) ++ y ∷ []) c.in_ok-form.ensures.form ∙ sym (map_got (nf e) ts k u c.at.ensures.got);
      count = omega (arith, pushed, nodes, c.in_ok-form.ensures.count, c.loop-k.invariant.count);
      fits =
          c.loop-k.invariant.fits ∙ all_fit-got e c.args.most ts k u c.at.ensures.got ∙ ap (λ b. b && all_fit e c.args.most (trees_of (drop (k + 1) ts))) c.in_ok-form.ensures.fits;
    }

pub within_term-returns-in_ok-reduce_counted-in-App-clause-fits : goal.within_term-returns-in_ok-reduce_counted-in-App-clause-fits
within_term-returns-in_ok-reduce_counted-in-App-clause-fits t c =
    let e = equations c.args.sig.now in
    let f = c.in-App.f in
    let ts = c.in-App.args in
    let form = c.in_ok-reduce_counted-in-App.ensures.form ∙ ap (λ us. reduced e f (trees_of us)) c.in_ok-parts-in-App.ensures.forms ∙ sym (nf-apply e f ts) in
    let nodes = ap node_count form in
    on_ok c.limited.result
    (λ h. whole_within e c.args.most 18446744073709551615 c.in_ok-reduce_counted-in-App.field-0.nodes (tree c.args.t.now) f (trees_of ts) (ap tree c.in-App.is) c.in_ok-parts-in-App.ensures.fits (omega (arith, nodes, c.in_ok-reduce_counted-in-App.ensures.count)) (omega arith) h)
    c.limited.ensures.within

pub within_term-returns-in_ok-reduce_counted-in-App-clause-large : goal.within_term-returns-in_ok-reduce_counted-in-App-clause-large
within_term-returns-in_ok-reduce_counted-in-App-clause-large t c = λ i.
    let e = equations c.args.sig.now in
    let f = c.in-App.f in
    let ts = c.in-App.args in
    let form = c.in_ok-reduce_counted-in-App.ensures.form ∙ ap (λ us. reduced e f (trees_of us)) c.in_ok-parts-in-App.ensures.forms ∙ sym (nf-apply e f ts) in
    let nodes = ap node_count form in
    whole_large e c.args.most 18446744073709551615 c.in_ok-reduce_counted-in-App.field-0.nodes (tree c.args.t.now) f (trees_of ts) (ap tree c.in-App.is) (omega (arith, nodes, c.in_ok-reduce_counted-in-App.ensures.count)) (on_error c.limited.result _ i c.limited.ensures.large)

pub within_term-returns-in_ok-reduce_counted-in-App-clause-form : goal.within_term-returns-in_ok-reduce_counted-in-App-clause-form
within_term-returns-in_ok-reduce_counted-in-App-clause-form t c =
    let e = equations c.args.sig.now in
    let form = c.in_ok-reduce_counted-in-App.ensures.form ∙ ap (λ us. reduced e c.in-App.f (trees_of us)) c.in_ok-parts-in-App.ensures.forms ∙ sym (nf-apply e c.in-App.f c.in-App.args) ∙ ap (nf e) (sym (ap tree c.in-App.is)) in
    as_term c.limited.result c.in_ok-reduce_counted-in-App.field-0 (nf e (tree c.args.t.now)) c.limited.ensures.ok form

pub within_term-returns-in_ok-reduce_counted-in-App-clause-count : goal.within_term-returns-in_ok-reduce_counted-in-App-clause-count
within_term-returns-in_ok-reduce_counted-in-App-clause-count t c =
    let e = equations c.args.sig.now in
    let form = c.in_ok-reduce_counted-in-App.ensures.form ∙ ap (λ us. reduced e c.in-App.f (trees_of us)) c.in_ok-parts-in-App.ensures.forms ∙ sym (nf-apply e c.in-App.f c.in-App.args) ∙ ap (nf e) (sym (ap tree c.in-App.is)) in
    as_count c.limited.result c.in_ok-reduce_counted-in-App.field-0 _ c.limited.ensures.ok (c.in_ok-reduce_counted-in-App.ensures.count ∙ ap (λ u. min (node_count u) 18446744073709551615) form)

pub within_term-returns-in_ok-term-in_default : goal.within_term-returns-in_ok-term-in_default
within_term-returns-in_ok-term-in_default t c =
    let e = equations c.args.sig.now in
    let leaf = c.args.t.now in
    let n = c.in_default.not-App in
    let r = c.limited-in_default.result in
    let counted : Counted = record { term = c.in_ok-term-in_default.term; nodes = 1 } in
    record {
      form = as_term r counted (nf e (tree leaf)) c.limited-in_default.ensures.ok (ap tree c.in_ok-term-in_default.ensures ∙ sym (leaf_form e leaf n));
      count = as_count r counted (min (node_count (nf e (tree leaf))) 18446744073709551615) c.limited-in_default.ensures.ok (sym (ap (λ k. min k 18446744073709551615) (leaf_count e leaf n)));
      fits = on_ok r (λ h. leaf_fits e c.args.most leaf n h) c.limited-in_default.ensures.within;
      large = λ i. leaf_large e c.args.most leaf n (on_error r _ i c.limited-in_default.ensures.large);
    }
