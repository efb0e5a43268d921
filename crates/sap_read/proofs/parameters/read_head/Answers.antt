use Rattle.std.proofs.Common.{◌≡◌, List, ℕ, drop, Some, None, sym, ap, subst, ◌∙◌}
use Rattle.sap_text.specs.declared.token.Token.{Token}
use Rattle.sap_grammar.specs.Words.{words_of}
use Rattle.sap_read.specs.ItemGrammar.{HasParameters}
use Rattle.sap_read.specs.code.Parameters.{params_in}
use Rattle.sap_read.proofs.ReadParameters.{neither_opens, plain_head, unclosed, whole_head, without_equals}
use Rattle.sap_grammar.proofs.ReadingLaws.Tokens.{words-drop}
use Rattle.sap_read.proofs.parameters.read_head.Goals as goal

-- the words of the tokens behind the first
behind : (z : List ℕ) (ts next : List Token) → next ≡ drop 1 ts → words_of z next ≡ drop 1 (words_of z ts)
behind z ts next e = ap (words_of z) e ∙ words-drop z 1 ts

pub returns-then-starts-clause-found : goal.returns-then-starts-clause-found
returns-then-starts-clause-found c =
    let next = behind c.args.bytes.now c.args.tokens.now c.beyond.result.now c.beyond.ensures in
    rw c.new.ensures (subst (HasParameters _ (words_of c.args.bytes.now c.args.tokens.now)) (sym next) (plain_head (words_of c.args.bytes.now c.args.tokens.now) (sym c.starts.ensures ∙ c.if-starts.true)))

pub returns-then-not-starts-clause-none : goal.returns-then-not-starts-clause-none
returns-then-not-starts-clause-none c =
    neither_opens (words_of c.args.bytes.now c.args.tokens.now) (sym c.starts.ensures ∙ c.if-starts.false) (sym c.starts-2.ensures ∙ c.if-not-starts.true)

pub returns-in_default-clause-none : goal.returns-in_default-clause-none
returns-in_default-clause-none c =
    let next = behind c.args.bytes.now c.args.tokens.now c.beyond-2.result.now c.beyond-2.ensures in
    let found : params_in (words_of c.args.bytes.now c.beyond-2.result.now) ≡ None = rw c.in_default.is at c.in_ok-params.ensures in
    unclosed (words_of c.args.bytes.now c.args.tokens.now) (sym c.starts-2.ensures ∙ c.if-not-starts.false) (ap params_in (sym next) ∙ found)

pub returns-then-starts-2-clause-found : goal.returns-then-starts-2-clause-found
returns-then-starts-2-clause-found c =
    let next = behind c.args.bytes.now c.args.tokens.now c.beyond-2.result.now c.beyond-2.ensures in
    let last = behind c.args.bytes.now c.in-Some.rest.now c.beyond-then-starts-2.result.now c.beyond-then-starts-2.ensures in
    let found : params_in (words_of c.args.bytes.now c.beyond-2.result.now) ≡ Some (c.in-Some.params, words_of c.args.bytes.now c.in-Some.rest.now) = rw c.in-Some.is at c.in_ok-params.ensures in
    subst (HasParameters c.in-Some.params (words_of c.args.bytes.now c.args.tokens.now)) (sym last)
    (whole_head (words_of c.args.bytes.now c.args.tokens.now) c.in-Some.params (words_of c.args.bytes.now c.in-Some.rest.now) (sym c.starts-2.ensures ∙ c.if-not-starts.false) (ap params_in (sym next) ∙ found) (sym c.starts-3.ensures ∙ c.if-starts-2.true))

pub returns-else-starts-2-clause-none : goal.returns-else-starts-2-clause-none
returns-else-starts-2-clause-none c =
    let next = behind c.args.bytes.now c.args.tokens.now c.beyond-2.result.now c.beyond-2.ensures in
    let found : params_in (words_of c.args.bytes.now c.beyond-2.result.now) ≡ Some (c.in-Some.params, words_of c.args.bytes.now c.in-Some.rest.now) = rw c.in-Some.is at c.in_ok-params.ensures in
    without_equals (words_of c.args.bytes.now c.args.tokens.now) c.in-Some.params (words_of c.args.bytes.now c.in-Some.rest.now) (sym c.starts-2.ensures ∙ c.if-not-starts.false) (ap params_in (sym next) ∙ found) (sym c.starts-3.ensures ∙ c.if-starts-2.false)
