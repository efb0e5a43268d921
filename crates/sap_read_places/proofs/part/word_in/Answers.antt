use Rattle.std.proofs.Common.{◌≡◌, ◌∙◌, [], ◌∷◌, None, sym, arith}
use Rattle.std.proofs.lemmas.Grind.{common_steps}
use Rattle.sap_read_places.proofs.PartFound.{at_decided, at_end, at_faultless, at_none, at_other, over}
use Rattle.sap_read_places.proofs.part.word_in.Goals as goal

pub returns-then-starts : goal.returns-then-starts
returns-then-starts c = c.loop-rest.invariant None (at_end c.args.sig.now c.args.bytes.now c.args.name.now c.args.fault.now c.loop-rest.rest.now c.split_item.result.0.now c.split_item.result.1.now c.split_item.ensures.item c.loop-rest.later.now (sym c.starts.ensures ∙ c.if-starts.true))

pub returns-in_default : goal.returns-in_default
returns-in_default c =
    let none : c.loop-rest.later.now ≡ [] = grind (arith, common_steps) in
    c.loop-rest.invariant None (rw none (at_none c.args.sig.now c.args.bytes.now c.args.name.now c.args.fault.now c.loop-rest.rest.now c.split_item.result.0.now c.split_item.result.1.now c.split_item.ensures.item (sym c.is_stated.ensures ∙ c.if-is_stated.true)))

pub returns-in-Some-2 : goal.returns-in-Some-2
returns-in-Some-2 c =
    let more : c.loop-rest.later.now ≡ c.in-Some.statement.now ∷ c.in-Some.more.now = grind (arith, common_steps) in
    c.loop-rest.invariant (c.in-Some-2.word)
    (rw more (at_decided c.args.sig.now c.args.bytes.now c.args.name.now c.args.fault.now c.loop-rest.rest.now c.split_item.result.0.now c.split_item.result.1.now c.split_item.ensures.item c.in-Some.statement.now c.in-Some.more.now c.in-Some-2.word (sym c.is_stated.ensures ∙ c.if-is_stated.true) (rw c.in-Some-2.is at c.in_ok-word.ensures)))

pub loop-rest-preserved-in_default-2 : goal.loop-rest-preserved-in_default-2
loop-rest-preserved-in_default-2 c = λ o found.
    let more : c.loop-rest.later.now ≡ c.in-Some.statement.now ∷ c.in-Some.more.now = grind (arith, common_steps) in
    c.loop-rest.invariant o
    (rw more (at_faultless c.args.sig.now c.args.bytes.now c.args.name.now c.args.fault.now c.loop-rest.rest.now c.split_item.result.0.now c.split_item.result.1.now c.split_item.ensures.item c.in-Some.statement.now c.in-Some.more.now o (sym c.is_stated.ensures ∙ c.if-is_stated.true) c.one_fault.ensures.none (rw c.in_default-2.is at c.in_ok-word.ensures) found))

pub loop-rest-preserved : goal.loop-rest-preserved
loop-rest-preserved c = λ o found.
    c.loop-rest.invariant o (at_other c.args.sig.now c.args.bytes.now c.args.name.now c.args.fault.now c.loop-rest.rest.now c.split_item.result.0.now c.split_item.result.1.now c.split_item.ensures.item c.loop-rest.later.now o (sym c.starts.ensures ∙ c.if-starts.false) (sym c.is_stated.ensures ∙ c.if-is_stated.false) found)

pub returns : goal.returns
returns c =
    let none : c.loop-rest.rest.now ≡ [] = grind (arith, common_steps) in
    c.loop-rest.invariant None (over c.args.sig.now c.args.bytes.now c.args.name.now c.args.fault.now c.loop-rest.rest.now c.loop-rest.later.now None none)
