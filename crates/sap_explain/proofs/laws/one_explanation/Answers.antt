use Rattle.std.proofs.Common.{◌≡◌, List}
use Rattle.std.specs.Prelude.{Ok}
use Rattle.sap_terms.specs.declared.limits.TheConstants.{MOST_FILE_NAME_BYTES}
use Rattle.sap_text.specs.declared.token.Token.{Token}
use Rattle.sap_text.specs.Tokens.{Lexed}
use Rattle.sap_explain.proofs.ExpectedOnce.{one_explanation_is}
use Rattle.sap_explain.proofs.laws.one_explanation.Goals as goal

ok_same : (ts us : List Token) → ◌≡◌ {A = Lexed} (Ok ts) (Ok us) → us ≡ ts
ok_same ts us e = cc

pub returns : goal.returns
returns c z e t u a b =
    one_explanation_is (λ x ts us f g. ok_same ts us (c.one_answer.ensures MOST_FILE_NAME_BYTES x (Ok ts) (Ok us) f g))
    (λ x ts are. c.table_is_the_grammar.ensures.letters x ts (MOST_FILE_NAME_BYTES, are)) c.one_expected.ensures.word c.one_expected.ensures.one
    c.one_place_text.ensures.positions z c.one_place.ensures (λ s t e. c.one_other_place.ensures z e s t) c.one_place_text.ensures.texts e t u a b
