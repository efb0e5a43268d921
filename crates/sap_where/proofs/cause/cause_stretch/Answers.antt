use Rattle.std.proofs.Common.{◌≡◌, None, sym, subst}
use Rattle.std.specs.Prelude.{Err, IfSome}
use Rattle.sap_read.specs.Files.{IsRead}
use Rattle.sap_read.specs.declared.fault.ReadFault.{ReadFault}
use Rattle.sap_stretches.specs.declared.stretch.Stretch.{Stretch}
use Rattle.sap_where.specs.Where.{IsWhere}
use Rattle.sap_where.proofs.Faults.{byte_place, byte_stands}
use Rattle.sap_where.proofs.ItemPlace.{stands_among}
use Rattle.sap_where.proofs.cause.cause_stretch.Goals as goal

pub returns-in-Lex-clause-place : goal.returns-in-Lex-clause-place
returns-in-Lex-clause-place c =
    subst (λ (e : ReadFault). IfSome c.byte_of.result (λ (s : Stretch). IsWhere c.args.bytes.now e s)) (sym c.in-Lex.is)
    (byte_place c.args.bytes.now c.in-Lex.lex c.byte_of.result c.byte_of.ensures)

pub returns-in-Lex-clause-told : goal.returns-in-Lex-clause-told
returns-in-Lex-clause-told c = λ h.
    subst (λ (e : ReadFault). IsRead c.args.bytes.now (Err e) → c.byte_of.result ≡ None → ⊥) (sym c.in-Lex.is)
    (byte_stands c.args.bytes.now c.in-Lex.lex c.byte_of.result c.byte_of.ensures)

pub place_among_tokens-requires-clause-tokens : goal.place_among_tokens-requires-clause-tokens
place_among_tokens-requires-clause-tokens c = c.requires.tokens c.in_default.not-Lex

pub returns-clause-told : goal.returns-clause-told
returns-clause-told c =
    let tokens = c.requires.tokens c.in_default.not-Lex in
    stands_among c.args.bytes.now c.args.tokens.now c.args.fault.now c.place_among_tokens.result
    c.in_default.not-Lex tokens.only c.place_among_tokens.ensures.header
    c.place_among_tokens.ensures.once
    c.place_among_tokens.ensures.clash
    c.place_among_tokens.ensures.item
    tokens.are
    (λ ts line. c.files_are_their_words.ensures.refused c.args.bytes.now ts line)
    c.place_among_tokens.ensures.none
