use Rattle.std.proofs.Common.{◌≡◌, Some, get_or, inl, inr, sym, ap, ◌∙◌, arith, subst}
use Rattle.std.specs.Prelude.{slice_get}
use Rattle.std.proofs.lemmas.Option.{slice_get-get_or, slice_get_within}
use Rattle.sap_derive.specs.code.Listed.{IsListed}
use Rattle.sap_derive.proofs.Gets.{same-or_not}
use Rattle.sap_derive.proofs.state.list_all.Goals as goal

pub returns-in_err-list-clause-only : goal.returns-in_err-list-clause-only
returns-in_err-list-clause-only c m l =
    let at = slice_get-get_or c.args.ns.now c.loop-n.n-index 0 c.loop-n-test.true in
    elim (c.list.ensures.only m l) [ inl x ↦ c.loop-n.invariant.only m x | inr e ↦ inr (c.loop-n.n-index, at ∙ ap (λ i. Some i) (sym e)) ]

pub loop-n-preserved : goal.loop-n-preserved
loop-n-preserved c =
    let i = c.loop-n.invariant in
    let at = slice_get-get_or c.args.ns.now c.loop-n.n-index 0 c.loop-n-test.true in
    record {
      only = λ m l. elim (c.list.ensures.only m l) [ inl x ↦ i.only m x | inr e ↦ inr (c.loop-n.n-index, at ∙ ap (λ j. Some j) (sym e)) ];
      places = λ k m e. c.list.ensures.places k m (i.places k m e);
      done = λ k n l e.
          elim (same-or_not k c.loop-n.n-index) [
            | inl q ↦ let here = subst (λ j. slice_get c.args.ns.now j ≡ Some n) q e in
                let same : get_or c.args.ns.now c.loop-n.n-index 0 ≡ n = cc in
                subst (λ j. IsListed c.list.new.items j) same c.in_ok-list.ensures.ok
            | inr q ↦ c.list.ensures.kept n (i.done k n (omega arith) e)
          ];
    }

pub returns-clause-ok : goal.returns-clause-ok
returns-clause-ok c k n e =
    let l = slice_get_within c.args.ns.now k n e in
    c.loop-n.invariant.done k n (omega arith) e
