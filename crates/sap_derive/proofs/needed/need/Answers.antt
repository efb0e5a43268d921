use Rattle.std.proofs.Common.{ℕ, List, ◌∙◌, inl, inr, arith, subst, sym}
use Rattle.std.proofs.lemmas.Bool.Decides.{nat_tests}
use Rattle.sap_derive.specs.code.Listed.{IsListed, StandOnce}
use Rattle.sap_derive.proofs.Ranks.{none-taken, none-twice, needed-first, needed-next, needed-all}
use Rattle.sap_derive.proofs.needed.need.Goals as goal

pub loop-k-init : goal.loop-k-init
loop-k-init c =
    let s = c.args.closure.now in
    needed-first s c.args.entries.now c.args.goal c.requires.closure.sound c.at.result c.need_number.new.ranks c.at.ensures
    (λ j l. elim (c.need_number.ensures.only j l) [ inl x ↦ inl (subst (λ (xs : List ℕ). IsListed xs j) (c.cut.ensures ∙ none-taken c.args.ranks.now) x) | inr x ↦ inr x ])
    c.in_ok-need_number.ensures.ok
    (c.need_number.ensures.once (subst StandOnce (sym (c.cut.ensures ∙ none-taken c.args.ranks.now)) none-twice))

pub need_below-requires-clause-new : goal.need_below-requires-clause-new
need_below-requires-clause-new c n e = (c.loop-k.invariant.needed c.at-rank.result (c.loop-k.k, c.at-rank.ensures)).new n e

pub need_below-requires-clause-rank : goal.need_below-requires-clause-rank
need_below-requires-clause-rank c = (c.loop-k.invariant.needed c.at-rank.result (c.loop-k.k, c.at-rank.ensures)).below

pub loop-k-preserved : goal.loop-k-preserved
loop-k-preserved c =
    let s = c.args.closure.now in
    let e = c.need_below.ensures in
    needed-next s c.args.entries.now c.args.goal c.requires.closure.sound c.loop-k.ranks c.need_below.new.ranks c.loop-k.k c.at-rank.result c.at-rank.ensures e.kept e.only c.in_ok-need_below.ensures.ok e.once c.loop-k.invariant

pub returns-then-k-len : goal.returns-then-k-len
returns-then-k-len c = record {
  once = c.loop-k.invariant.once;
  needed = needed-all c.args.closure.now c.args.entries.now c.args.goal c.requires.closure.sound c.loop-k.ranks c.loop-k.k (let test = c.if-k-len.true in grind (arith, nat_tests)) c.loop-k.invariant;
}

pub returns : goal.returns
returns c = record {
  once = c.loop-k.invariant.once;
  needed = needed-all c.args.closure.now c.args.entries.now c.args.goal c.requires.closure.sound c.loop-k.ranks c.loop-k.k (omega arith) c.loop-k.invariant;
}
