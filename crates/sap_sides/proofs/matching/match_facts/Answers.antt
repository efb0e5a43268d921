use Rattle.std.proofs.Common.{◌≡◌, length, sym, ◌∙◌, arith}
use Rattle.std.proofs.lemmas.Option.{MatchOption-at_none, MatchOption-at_some}
use Rattle.sap_sides.proofs.Found.{facts_whole}
use Rattle.sap_sides.proofs.matching.match_facts.Goals as goal

pub returns-in-Ok-None : goal.returns-in-Ok-None
returns-in-Ok-None c =
    c.facts_fit_in_turn.ensures.not c.args.sig.now c.args.fs.now c.args.cited.now c.loop-k.k c.at.result.now c.at-in-loop-k.result.now c.args.b c.loop-k.c c.at.ensures c.at-in-loop-k.ensures c.loop-k.invariant (MatchOption-at_none _ _ c.in-Ok-None.field-0-is c.in-Ok-None.ensures)

pub loop-k-preserved : goal.loop-k-preserved
loop-k-preserved c =
    c.facts_fit_in_turn.ensures.further c.args.sig.now c.args.fs.now c.args.cited.now c.loop-k.k c.at.result.now c.at-in-loop-k.result.now c.args.b c.loop-k.c c.in-Ok-Some.d c.at.ensures c.at-in-loop-k.ensures c.loop-k.invariant (MatchOption-at_some _ _ c.in-Ok-Some.d c.in-Ok-Some.field-0-is c.in-Ok-Some.ensures)

pub returns : goal.returns
returns c =
    let at_end : c.loop-k.k ≡ length c.args.fs.now = omega (arith, c.len-k-end.ensures) in
    facts_whole c.args.sig.now c.args.fs.now c.args.cited.now c.args.b c.loop-k.c c.loop-k.k at_end (at_end ∙ sym c.requires.count) c.loop-k.invariant
