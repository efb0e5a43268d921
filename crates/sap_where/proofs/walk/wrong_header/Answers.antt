use Rattle.std.proofs.Common.{sym, ◌∙◌}
use Rattle.sap_grammar.specs.Words.{words_of}
use Rattle.sap_where.proofs.Headers.{wrong_first, wrong_second, wrong_third}
use Rattle.sap_where.proofs.walk.wrong_header.Goals as goal

pub returns-then-not-stands_at : goal.returns-then-not-stands_at
returns-then-not-stands_at c =
    wrong_first (words_of c.args.bytes.now c.args.tokens.now) (sym c.stands_at.ensures ∙ c.if-not-stands_at.true)

pub returns-then-not-is_named_at : goal.returns-then-not-is_named_at
returns-then-not-is_named_at c =
    wrong_second (words_of c.args.bytes.now c.args.tokens.now) (sym c.stands_at.ensures ∙ c.if-not-stands_at.false)
    (sym c.is_named_at.ensures ∙ c.if-not-is_named_at.true)

pub returns-then-not-stands_at-2 : goal.returns-then-not-stands_at-2
returns-then-not-stands_at-2 c =
    wrong_third (words_of c.args.bytes.now c.args.tokens.now) (sym c.stands_at.ensures ∙ c.if-not-stands_at.false)
    (sym c.is_named_at.ensures ∙ c.if-not-is_named_at.false) (sym c.stands_at-2.ensures ∙ c.if-not-stands_at-2.true)
