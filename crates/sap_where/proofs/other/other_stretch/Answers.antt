use Rattle.std.proofs.Common.{sym, subst}
use Rattle.sap_read.specs.declared.fault.ReadFault.{ReadFault}
use Rattle.sap_where.specs.OtherPlaces.{HasOtherStretch, IsOtherWhere}
use Rattle.sap_where.proofs.OtherFaults.{stands_somewhere}
use Rattle.sap_where.proofs.OtherNowhere.{byte_alone, byte_has_none}
use Rattle.sap_where.proofs.other.other_stretch.Goals as goal

pub returns-in-Lex-clause-none : goal.returns-in-Lex-clause-none
returns-in-Lex-clause-none c = λ e s.
    subst (λ (f : ReadFault). IsOtherWhere c.args.bytes.now f s → ⊥) (sym c.in-Lex.is) (byte_alone c.args.bytes.now _ s)

pub returns-in-Lex-clause-told : goal.returns-in-Lex-clause-told
returns-in-Lex-clause-told c = λ h. absurd (subst (λ (f : ReadFault). HasOtherStretch f → ⊥) (sym c.in-Lex.is) (byte_has_none _) h)

pub other_among-requires : goal.other_among-requires
other_among-requires c = c.requires c.in_default.not-Lex

pub returns-in_default-clause-told : goal.returns-in_default-clause-told
returns-in_default-clause-told c =
    let tokens = c.requires c.in_default.not-Lex in
    stands_somewhere c.args.bytes.now c.args.tokens.now c.args.fault.now c.other_among.result tokens.only
    c.other_among.ensures.once c.other_among.ensures.declared c.other_among.ensures.none
