use Rattle.std.proofs.Common.{◌≡◌, [], ◌∷◌, ◌++◌, get_or, Some, sym, ◌∙◌, inl, inr, arith, subst}
use Rattle.std.specs.Prelude.{slice_get}
use Rattle.std.proofs.lemmas.List.{length_push}
use Rattle.std.proofs.lemmas.Option.{slice_get-get_or, slice_get_within}
use Rattle.sap_derive.proofs.Gets.{same-or_not, get-more, get-last}
use Rattle.sap_derive.proofs.write.places_of.Goals as goal

pub place_of-requires : goal.place_of-requires
place_of-requires c =
    c.requires c.loop-n.n-index (get_or c.args.numbers.now c.loop-n.n-index 0) (slice_get-get_or c.args.numbers.now c.loop-n.n-index 0 c.loop-n-test.true)

pub loop-n-preserved : goal.loop-n-preserved
loop-n-preserved c =
    let i = c.loop-n.invariant in
    let places = c.loop-n.places in
    let p = c.place_of.result in
    let at = slice_get-get_or c.args.numbers.now c.loop-n.n-index 0 c.loop-n-test.true in
    rw c.in_ok-push.ensures.ok record {
      count = (let l = length_push places p in let j = i.count in omega arith);
      each = λ k n l e.
          elim (same-or_not k c.loop-n.n-index) [
            | inl q ↦ let here = subst (λ j. slice_get c.args.numbers.now j ≡ Some n) q e in
                let same : get_or c.args.numbers.now c.loop-n.n-index 0 ≡ n = cc in
                (p, subst (λ j. slice_get (places ++ p ∷ []) j ≡ Some p) (i.count ∙ sym q) (get-last places p), subst (λ j. slice_get c.args.items.now p ≡ Some j) same c.place_of.ensures)
            | inr q ↦ let r = i.each k n (omega arith) e in (r.0, get-more places (p ∷ []) k r.0 r.1, r.2)
          ];
    }

pub returns : goal.returns
returns c = record {
  count = (let j = c.loop-n.invariant.count in omega arith);
  each = λ k n e. let w = slice_get_within c.args.numbers.now k n e in c.loop-n.invariant.each k n (omega arith) e;
}
