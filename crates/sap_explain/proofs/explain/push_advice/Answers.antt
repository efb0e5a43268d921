use Rattle.sap_explain.specs.Cures.{cured, uncured}
use Rattle.sap_explain.proofs.Telling.{advice_is}
use Rattle.sap_explain.proofs.explain.push_advice.Goals as goal

pub returns-in-Some : goal.returns-in-Some
returns-in-Some c =
    advice_is c.args.bytes.now c.args.text.now c.push_sentence.new.text c.args.fault.now c.in-Some.cure.now c.push_sentence.result (cured c.in-Some.ensures)
    (rw c.as_bytes.ensures.value at c.push_sentence.ensures)

pub returns-in-None : goal.returns-in-None
returns-in-None c =
    advice_is c.args.bytes.now c.args.text.now c.push_sentence-in-None.new.text c.args.fault.now _ c.push_sentence-in-None.result (uncured c.in-None.ensures)
    (rw c.advice.ensures at c.push_sentence-in-None.ensures)
