use Rattle.sap_terms.specs.View.{tree}
use Rattle.sap_deduce.specs.code.Lines.{origin_given}
use Rattle.sap_deduce.specs.code.Views.{seen}
use Rattle.sap_deduce.proofs.Entered.{gains_line, entries_more}
use Rattle.sap_deduce.proofs.knowledge.Knowledge.enter.Goals as goal

pub invariant_of-self-2 : goal.invariant_of-self-2
invariant_of-self-2 c =
    let a = c.self.inside in
    let t = tree c.in_ok-term.term in
    let origin = origin_given c.args.given in
    let adds = rw (← c.self.view_is) at c.requires.adds in
    rw c.in_ok-push.ensures.ok
    (entries_more (seen a.sig a.entries) _ origin t c.self.invariant (gains_line a.sig a.entries c.args.number t origin) (rw c.in_ok-term.ensures adds) (rw c.in_ok-term.ensures c.requires.within))
