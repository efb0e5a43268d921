use Rattle.sap_expect.specs.code.WantedView.{stacked}
use Rattle.sap_expect.specs.code.SeenWords.{seen}
use Rattle.sap_expect.proofs.SeenTokens.{seen_token}
use Rattle.sap_expect.proofs.TooDeepWords.{none_deep, told_at}
use Rattle.sap_expect.proofs.deep.deep_at.Goals as goal

pub returns-then-k-tokens : goal.returns-then-k-tokens
returns-then-k-tokens c =
    told_at c.args.bytes.now c.args.tokens.now c.args.k _ c.args.walk.now.levels (stacked c.args.walk.now.stack.items) (seen c.look.result)
    (seen_token c.args.bytes.now c.args.tokens.now c.args.k _ (seen c.look.result) c.token_bytes.result.now c.if-k-tokens.true c.look.ensures c.token_bytes.ensures)
    _ c.if-k-tokens.true c.requires.stands c.requires.wrong c.deep.ensures

pub returns-else-k-tokens : goal.returns-else-k-tokens
returns-else-k-tokens c = λ d. none_deep d c.args.bytes.now c.args.tokens.now c.args.k c.if-k-tokens.false c.requires.wrong
