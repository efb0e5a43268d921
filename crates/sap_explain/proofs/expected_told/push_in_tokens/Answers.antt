use Rattle.sap_expect.specs.Expected.{expected_of}
use Rattle.sap_explain.proofs.ExpectedOnce.{file_told, word_told}
use Rattle.sap_explain.proofs.expected_told.push_in_tokens.Goals as goal

pub push_expected_text-requires-clause-within : goal.push_expected_text-requires-clause-within
push_expected_text-requires-clause-within c = c.requires.tokens.within

pub push_expected_text-requires-clause-wrong : goal.push_expected_text-requires-clause-wrong
push_expected_text-requires-clause-wrong c =
    let h = rw c.in-Some.is at c.requires.wrong in
    h

pub returns-in-Some : goal.returns-in-Some
returns-in-Some c =
    let h = rw c.in-Some.is at c.requires.wrong in
    word_told c.args.bytes.now c.args.tokens.now c.in-Some.wrong.number (expected_of c.in-Some.wrong.expected) _ _ _ c.requires.tokens.are h.first h.expected c.push_expected_text.ensures

pub returns-in-None : goal.returns-in-None
returns-in-None c =
    let h = rw c.in-None.is at c.requires.wrong in
    file_told c.args.bytes.now c.args.tokens.now _ c.requires.tokens.only h
