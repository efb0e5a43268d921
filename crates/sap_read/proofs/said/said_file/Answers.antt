use Rattle.std.proofs.Common.{◌≡◌, List, ℕ, Option, Some, sym, subst, ◌∙◌, ap, Err, rules, drop}
use Rattle.std.proofs.lemmas.Result.{err_from_is_err_and}
use Rattle.std.specs.Option.{option_copied}
use Rattle.sap_text.specs.declared.token.Token.{Token}
use Rattle.sap_terms.specs.Signature.{Sig, pairs_alone}
use Rattle.sap_grammar.specs.Cut.{placed, IsCut}
use Rattle.sap_grammar.specs.Signatures.{clash_from, signature_from}
use Rattle.sap_grammar.specs.ItemReading.{cut, declared_in_all}
use Rattle.sap_grammar.specs.ItemLaws.{ItemLaws}
use Rattle.sap_read.specs.ItemGrammar.{IsFaultyFile}
use Rattle.sap_read.specs.declared.fault.ReadFault.{ReadFault}
use Rattle.sap_read.specs.declared.fault.ReadFault.TheVariants.{Header}
use Rattle.sap_read.specs.Files.{IsRead, no_header}
use Rattle.sap_read.specs.SaidFiles.{IsOfWords}
use Rattle.sap_read.specs.declared.said.SaidFile.{SaidFile}
use Rattle.sap_read.proofs.Parts.{is_declared, items_of, items_are_cut, IsDeclared}
use Rattle.sap_read.proofs.SaidFiles.{as_syntax, is_faulty, is_said}
use Rattle.sap_read.proofs.said.said_file.Goals as goal

pub returns-in_default-clause-refused : goal.returns-in_default-clause-refused
returns-in_default-clause-refused c = λ e h n.
    let same : Header ≡ e = search (rules, h) in
    subst (λ (q : ReadFault). IsRead c.args.bytes.now (Err q)) same (no_header c.requires (c.item_laws.ensures.header_none c.args.bytes.now c.args.tokens.now (sym c.header_name.ensures ∙ ap option_copied c.in_default.is)))

pub returns-in_default-clause-words : goal.returns-in_default-clause-words
returns-in_default-clause-words c = λ e h n.
    let same : Header ≡ e = search (rules, h) in
    subst (λ (q : ReadFault). IsOfWords q) same tt

-- what the items behind a header declare, where they are read from the tokens behind it
told : ItemLaws → (z : List ℕ) (ts rest : List Token) (g : Sig) (clash : Option (List ℕ)) → rest ≡ drop 3 ts → g ≡ signature_from pairs_alone (declared_in_all (cut (placed z rest)))
    → clash ≡ clash_from pairs_alone (declared_in_all (cut (placed z rest))) → IsDeclared z ts g clash
told laws z ts rest g clash same e f = is_declared laws z ts g clash (rw (← same) e) (rw (← same) f)

cut_behind : ItemLaws → (z : List ℕ) (ts rest : List Token) → rest ≡ drop 3 ts → IsCut (placed z rest) (items_of z ts)
cut_behind laws z ts rest same = subst (λ (us : List Token). IsCut (placed z us) (items_of z ts)) (sym same) (items_are_cut laws z ts)

pub returns-in_err-contents-clause-words : goal.returns-in_err-contents-clause-words
returns-in_err-contents-clause-words c = λ e h n.
    let p = err_from_is_err_and c.from_residual-in_err-contents.result c.from_residual-in_err-contents.ensures.1 in
    let is = c.in_err-contents.ensures.other e (search (rules, p, h)) n in
    subst (λ (q : ReadFault). IsOfWords q) (sym is.1) tt

pub returns-in_err-contents-clause-refused : goal.returns-in_err-contents-clause-refused
returns-in_err-contents-clause-refused c = λ e h n.
    let p = err_from_is_err_and c.from_residual-in_err-contents.result c.from_residual-in_err-contents.ensures.1 in
    let z = c.args.bytes.now in
    let ts = c.args.tokens.now in
    let is = c.in_err-contents.ensures.other e (search (rules, p, h)) n in
    let faulty = c.in_err-contents.ensures.faulty is.0 (as_syntax _ e is.0 (search (rules, p, h)) is.1) (items_of z ts) (cut_behind c.item_laws.ensures z ts c.beyond-rest.result.now c.beyond-rest.ensures) in
    is_faulty c.item_laws.ensures z ts c.in-Some.name.now is.0 e c.requires (sym c.header_name.ensures ∙ ap option_copied c.in-Some.is)
    (subst (λ (n : ℕ). IsFaultyFile n (items_of z ts) is.0) (c.last_line.ensures z) faulty) is.1

pub returns-clause-said : goal.returns-clause-said
returns-clause-said c =
    let z = c.args.bytes.now in
    let ts = c.args.tokens.now in
    let rest = c.beyond-rest.result.now in
    let found = sym c.header_name.ensures ∙ ap option_copied c.in-Some.is in
    let contents = c.in_ok-contents.contents in
    let file : SaidFile = record { name = c.in_ok-title.title; declared = c.in_ok-declared.declared; identifiers = c.in_ok-identifiers.identifiers; entries = contents.entries; statements = contents.statements } in
    is_said c.item_laws.ensures z ts file c.requires (found ∙ ap Some (sym c.in_ok-title.ensures))
    (told c.item_laws.ensures z ts rest c.in_ok-declared.declared.signature c.in_ok-declared.declared.clash c.beyond-rest.ensures c.in_ok-declared.ensures.signature c.in_ok-declared.ensures.clash)
    c.in_ok-identifiers.ensures
    (c.in_ok-contents.ensures.good (items_of z ts) (cut_behind c.item_laws.ensures z ts rest c.beyond-rest.ensures))
