use Rattle.std.proofs.Common.{◌≡◌, List}
use Rattle.std.specs.Prelude.{Ok}
use Rattle.sap_text.specs.declared.token.Token.{Token}
use Rattle.sap_text.specs.Tokens.{Lexed}
use Rattle.sap_terms.specs.declared.limits.TheConstants.{MOST_FILE_NAME_BYTES}
use Rattle.sap_where.proofs.FirstOfTwo.{one_other_is}
use Rattle.sap_where.proofs.laws.one_other_stretch.Goals as goal

ok_same : (ts us : List Token) → ◌≡◌ {A = Lexed} (Ok ts) (Ok us) → us ≡ ts
ok_same ts us e = cc

pub returns : goal.returns
returns c z e s t a b = one_other_is z e s t (λ ts us f g. ok_same ts us (c.one_answer.ensures MOST_FILE_NAME_BYTES z (Ok ts) (Ok us) f g)) a b
