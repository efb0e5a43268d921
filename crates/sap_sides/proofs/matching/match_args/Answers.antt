use Rattle.std.proofs.Common.{◌≡◌, length, sym, ◌∙◌, arith}
use Rattle.sap_terms.specs.View.{tree}
use Rattle.std.proofs.lemmas.Option.{MatchOption-at_none, MatchOption-at_some}
use Rattle.sap_sides.proofs.Found.{fit_length, args_past, args_not, args_end}
use Rattle.sap_sides.proofs.matching.match_args.Goals as goal

pub returns-then-len : goal.returns-then-len
returns-then-len c = λ one σ s a f. c.if-len.true (c.len.ensures ∙ fit_length c.args.sig.now c.args.ps.now c.args.ts.now σ f ∙ sym c.len-2.ensures)

pub returns-in-Ok-None : goal.returns-in-Ok-None
returns-in-Ok-None c =
    args_not c.args.sig.now c.args.ps.now c.args.ts.now c.args.b c.loop-k.c c.loop-k.k (tree c.at.result.now) (tree c.at-in-loop-k.result.now) c.at.ensures.got c.at-in-loop-k.ensures.got c.extensions_join.ensures c.loop-k.invariant (MatchOption-at_none _ _ c.in-Ok-None.field-0-is c.in-Ok-None.ensures)

pub loop-k-preserved : goal.loop-k-preserved
loop-k-preserved c =
    args_past c.args.sig.now c.args.ps.now c.args.ts.now c.args.b c.loop-k.c c.loop-k.k (tree c.at.result.now) (tree c.at-in-loop-k.result.now) c.at.ensures.got c.at-in-loop-k.ensures.got c.extensions_join.ensures c.in-Ok-Some.d c.loop-k.invariant (MatchOption-at_some _ _ c.in-Ok-Some.d c.in-Ok-Some.field-0-is c.in-Ok-Some.ensures)

pub returns : goal.returns
returns c =
    let at_end : c.loop-k.k ≡ length c.args.ps.now = omega (arith, c.len-k-end.ensures) in
    let same : length c.args.ps.now ≡ length c.args.ts.now = omega (arith, c.len.ensures, c.len-2.ensures, c.if-len.false) in
    args_end c.extensions_join.ensures c.args.sig.now c.args.ps.now c.args.ts.now c.args.b c.loop-k.c c.loop-k.k at_end (at_end ∙ same) c.loop-k.invariant
