use Rattle.sap_explain.proofs.ExpectedOnce.{explanation_is, piece_of_words, syntax_of_words}
use Rattle.sap_explain.proofs.ReachedFiles.{syntax_reached, words_reached}
use Rattle.sap_explain.proofs.explain.push_explanation.Goals as goal

pub wrong_of-requires : goal.wrong_of-requires
wrong_of-requires c = words_reached c.args.bytes.now c.args.tokens.now c.args.fault.now c.args.reached c.requires.reached

pub push_place_told-requires-clause-wrong : goal.push_place_told-requires-clause-wrong
push_place_told-requires-clause-wrong c = λ line is. c.number_of.ensures _ (c.in_ok-wrong.ensures (piece_of_words c.args.fault.now line is))

pub push_expected_told-requires-clause-tokens : goal.push_expected_told-requires-clause-tokens
push_expected_told-requires-clause-tokens c = words_reached c.args.bytes.now c.args.tokens.now c.args.fault.now c.args.reached c.requires.reached

pub push_advice-requires-clause-tokens : goal.push_advice-requires-clause-tokens
push_advice-requires-clause-tokens c = syntax_reached c.args.bytes.now c.args.tokens.now c.args.fault.now c.args.reached c.requires.reached

pub push_advice-requires-clause-wrong : goal.push_advice-requires-clause-wrong
push_advice-requires-clause-wrong c = λ is. c.in_ok-wrong.ensures (syntax_of_words c.args.fault.now is)

pub returns : goal.returns
returns c =
    explanation_is c.args.bytes.now c.args.fault.now _ _ _ _ _ _ c.in_ok-push_place_told.ensures c.in_ok-push_other_told.ensures c.in_ok-push_expected_told.ensures
    c.push_advice.ensures
