use Rattle.std.proofs.Common.{sym}
use Rattle.sap_terms.specs.View.{tree}
use Rattle.sap_deduce.specs.code.Views.{seen}
use Rattle.sap_deduce.specs.declared.origin.Origin.TheVariants.{Apply}
use Rattle.sap_deduce.proofs.Entered.{gains_line, entries_more, numbered_more}
use Rattle.sap_deduce.proofs.knowledge.Knowledge.enter_applied.Goals as goal

pub invariant_of-self-2 : goal.invariant_of-self-2
invariant_of-self-2 c =
    let a = c.self.inside in
    let t = tree c.in_ok-term.term in
    let origin = Apply c.args.f.now c.args.numbers.now in
    let adds = rw (← c.self.view_is) at c.requires.adds in
    rw c.in_ok-push_applied.ensures.ok
    (entries_more (seen a.sig a.entries) _ origin t c.self.invariant (gains_line a.sig a.entries c.args.number t origin) (rw c.in_ok-term.ensures adds) (rw c.in_ok-term.ensures c.requires.within))

pub returns-clause-numbered : goal.returns-clause-numbered
returns-clause-numbered c =
    let a = c.self.inside in
    let t = tree c.in_ok-term.term in
    let origin = Apply c.args.f.now c.args.numbers.now in
    let numbered = rw (← c.self.view_is) at c.requires.numbered in
    rw c.in_ok-push_applied.ensures.ok
    (numbered_more c.args.table.now (seen a.sig a.entries) _ origin t numbered (gains_line a.sig a.entries c.args.number t origin) c.requires.below (sym c.in_ok-term.ensures))
