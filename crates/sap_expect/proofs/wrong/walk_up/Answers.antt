use Rattle.std.proofs.Common.{◌≡◌, arith, length}
use Rattle.sap_grammar.specs.Words.{words_of}
use Rattle.sap_expect.specs.Letters.{AreLettered}
use Rattle.sap_expect.proofs.LetteredTokens.{words_lettered}
use Rattle.sap_expect.specs.code.SeenWords.{seen}
use Rattle.sap_expect.proofs.SeenTokens.{seen_token}
use Rattle.sap_expect.proofs.WalkedUp.{all_gone, gone_nowhere, gone_on, stops, stops_behind}
use Rattle.sap_expect.proofs.wrong.walk_up.Goals as goal

pub loop-k-init : goal.loop-k-init
loop-k-init c = gone_nowhere _ c.in_ok-way.ensures.0 c.in_ok-way.ensures.1 c.in_ok-way.ensures.2

pub returns-then-not-branch : goal.returns-then-not-branch
returns-then-not-branch c =
    let h = rw c.if-not-branch.true at c.in_ok-pass.ensures in
    let l : AreLettered (words_of c.args.bytes.now c.args.tokens.now) =
    words_lettered c.args.bytes.now c.args.tokens.now (λ k t e. c.spans_are_tokens.ensures c.args.bytes.now c.args.tokens.now k t c.requires e) in
    stops c.args.bytes.now c.args.tokens.now c.loop-k.k _ (seen c.look.result)
    (seen_token c.args.bytes.now c.args.tokens.now c.loop-k.k _ (seen c.look.result) c.token_bytes.result.now c.loop-k-test.true c.look.ensures c.token_bytes.ensures) c.loop-k-test.true c.loop-k.way c.pass.new.self l c.loop-k.invariant h

pub loop-k-preserved : goal.loop-k-preserved
loop-k-preserved c =
    let h = rw c.if-not-branch.false at c.in_ok-pass.ensures in
    gone_on c.args.bytes.now c.args.tokens.now c.loop-k.k _ (seen c.look.result)
    (seen_token c.args.bytes.now c.args.tokens.now c.loop-k.k _ (seen c.look.result) c.token_bytes.result.now c.loop-k-test.true c.look.ensures c.token_bytes.ensures) c.loop-k-test.true c.loop-k.way c.pass.new.self c.loop-k.invariant h

pub returns-then-is_empty : goal.returns-then-is_empty
returns-then-is_empty c =
    let none : length c.loop-k.way.walk.stack.items ≡ 0 = grind (arith, c.if-is_empty.ensures) in
    let l : AreLettered (words_of c.args.bytes.now c.args.tokens.now) =
    words_lettered c.args.bytes.now c.args.tokens.now (λ k t e. c.spans_are_tokens.ensures c.args.bytes.now c.args.tokens.now k t c.requires e) in
    all_gone c.args.bytes.now c.args.tokens.now c.loop-k.k c.loop-k.way l c.loop-k.auto.k-end c.loop-k-test.false c.loop-k.invariant none

pub returns-else-is_empty : goal.returns-else-is_empty
returns-else-is_empty c =
    let some : length c.loop-k.way.walk.stack.items ≡ 0 → ⊥ = λ e. grind (arith, c.if-is_empty.ensures, e) in
    let l : AreLettered (words_of c.args.bytes.now c.args.tokens.now) =
    words_lettered c.args.bytes.now c.args.tokens.now (λ k t e. c.spans_are_tokens.ensures c.args.bytes.now c.args.tokens.now k t c.requires e) in
    stops_behind c.args.bytes.now c.args.tokens.now c.loop-k.k c.loop-k.way l c.loop-k.auto.k-end c.loop-k-test.false c.loop-k.invariant some
