use Rattle.std.proofs.Common.{◌≡◌, Some, get_or, inl, inr, arith, subst}
use Rattle.std.specs.Prelude.{slice_get}
use Rattle.std.proofs.lemmas.Option.{slice_get-get_or, slice_get_within}
use Rattle.sap_derive.specs.code.Needed.{IsCovered}
use Rattle.sap_derive.proofs.Gets.{same-or_not}
use Rattle.sap_derive.proofs.Ranks.{cover-kept}
use Rattle.sap_derive.proofs.needed.need_all.Goals as goal

pub need_number-requires-clause-known : goal.need_number-requires-clause-known
need_number-requires-clause-known c =
    c.requires.known c.loop-n.n-index (get_or c.args.numbers.now c.loop-n.n-index 0) (slice_get-get_or c.args.numbers.now c.loop-n.n-index 0 c.loop-n-test.true)

pub returns-in_err-need_number-clause-only : goal.returns-in_err-need_number-clause-only
returns-in_err-need_number-clause-only c j l =
    let at = slice_get-get_or c.args.numbers.now c.loop-n.n-index 0 c.loop-n-test.true in
    elim (c.need_number.ensures.only j l) [ inl x ↦ c.loop-n.invariant.only j x | inr x ↦ inr (c.loop-n.n-index, get_or c.args.numbers.now c.loop-n.n-index 0, at, x) ]

pub loop-n-preserved : goal.loop-n-preserved
loop-n-preserved c =
    let i = c.loop-n.invariant in
    let ns = c.args.numbers.now in
    let here = get_or ns c.loop-n.n-index 0 in
    let at = slice_get-get_or ns c.loop-n.n-index 0 c.loop-n-test.true in
    let now = c.need_number.new.ranks in
    record {
      kept = λ k j e. c.need_number.ensures.kept k j (i.kept k j e);
      only = λ j l. elim (c.need_number.ensures.only j l) [ inl x ↦ i.only j x | inr x ↦ inr (c.loop-n.n-index, here, at, x) ];
      once = λ h. c.need_number.ensures.once (i.once h);
      done = λ k n l e.
          elim (same-or_not k c.loop-n.n-index) [
            | inl q ↦ let there = subst (λ j. slice_get ns j ≡ Some n) q e in
                let same : here ≡ n = cc in
                subst (λ j. IsCovered c.args.known.now c.args.entries.now now j) same c.in_ok-need_number.ensures.ok
            | inr q ↦ cover-kept c.args.known.now c.args.entries.now c.loop-n.ranks now c.need_number.ensures.kept n (i.done k n (omega arith) e)
          ];
    }

pub returns-clause-ok : goal.returns-clause-ok
returns-clause-ok c k n e =
    let l = slice_get_within c.args.numbers.now k n e in
    c.loop-n.invariant.done k n (omega arith) e
