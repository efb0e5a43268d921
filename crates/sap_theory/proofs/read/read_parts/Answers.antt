use Rattle.std.proofs.Common.{◌≡◌, List, ℕ, Option, sym, subst, ◌∙◌, ap, Err, rules, drop}
use Rattle.std.proofs.lemmas.Result.{err_from_is_err_and}
use Rattle.std.specs.Option.{option_copied}
use Rattle.sap_text.specs.declared.token.Token.{Token}
use Rattle.sap_terms.specs.Signature.{Sig, pairs_alone}
use Rattle.sap_grammar.specs.Cut.{placed, IsCut}
use Rattle.sap_grammar.specs.Signatures.{clash_from, signature_from}
use Rattle.sap_grammar.specs.ItemReading.{cut, declared_in_all}
use Rattle.sap_grammar.specs.ItemLaws.{ItemLaws}
use Rattle.sap_theory.specs.code.Judged.{IsRefusedCut}
use Rattle.sap_theory.specs.declared.fault.TheoryFault.{TheoryFault}
use Rattle.sap_theory.specs.declared.fault.TheoryFault.TheVariants.{Header}
use Rattle.sap_theory.specs.ReadTheory.{IsTheoryRead, no_header}
use Rattle.sap_theory.proofs.Parts.{is_refused, is_accepted, is_declared, pieces_of, IsDeclared}
use Rattle.sap_theory.proofs.read.read_parts.Goals as goal

pub returns-in_default-clause-refused : goal.returns-in_default-clause-refused
returns-in_default-clause-refused c = λ e h n.
    let same : Header ≡ e = search (rules, h) in
    subst (λ (q : TheoryFault). IsTheoryRead c.args.bytes.now (Err q)) same (no_header c.requires (c.headers_are_read.ensures.none c.args.bytes.now c.args.tokens.now (sym c.header_name.ensures ∙ ap option_copied c.in_default.is)))

-- what the items behind a header declare, where they are read from the tokens behind it
told : ItemLaws → (z : List ℕ) (ts rest : List Token) (g : Sig) (clash : Option (List ℕ)) → rest ≡ drop 3 ts → g ≡ signature_from pairs_alone (declared_in_all (cut (placed z rest)))
    → clash ≡ clash_from pairs_alone (declared_in_all (cut (placed z rest))) → IsDeclared z ts g clash
told laws z ts rest g clash same e f = is_declared laws z ts g clash (rw (← same) e) (rw (← same) f)

cut_behind : ItemLaws → (z : List ℕ) (ts rest : List Token) → rest ≡ drop 3 ts → IsCut (placed z rest) (pieces_of z ts)
cut_behind laws z ts rest same = subst (λ (us : List Token). IsCut (placed z us) (pieces_of z ts)) (sym same) (laws.is_cut (placed z (drop 3 ts)))

pub returns-in_err-content-clause-refused : goal.returns-in_err-content-clause-refused
returns-in_err-content-clause-refused c = λ e h n.
    let p = err_from_is_err_and c.from_residual-in_err-content.result c.from_residual-in_err-content.ensures.1 in
    let z = c.args.bytes.now in
    let ts = c.args.tokens.now in
    let rest = c.beyond-rest.result.now in
    let g = c.in_ok-declared.declared.signature in
    let clash = c.in_ok-declared.declared.clash in
    let refusal = c.in_err-content.ensures.refused e (search (rules, p, h)) n (pieces_of z ts) (cut_behind c.item_laws.ensures z ts rest c.beyond-rest.ensures) in
    is_refused c.item_laws.ensures c.headers_are_read.ensures.found z ts c.in-Some.name.now g clash c.requires (sym c.header_name.ensures ∙ ap option_copied c.in-Some.is)
    (told c.item_laws.ensures z ts rest g clash c.beyond-rest.ensures c.in_ok-declared.ensures.signature c.in_ok-declared.ensures.clash) e
    (subst (λ (n : ℕ). IsRefusedCut g clash n (pieces_of z ts) e) (c.last_line.ensures z) refusal)

pub returns-clause-accepted : goal.returns-clause-accepted
returns-clause-accepted c =
    let z = c.args.bytes.now in
    let ts = c.args.tokens.now in
    let rest = c.beyond-rest.result.now in
    let g = c.in_ok-declared.declared.signature in
    let clash = c.in_ok-declared.declared.clash in
    let found = sym c.header_name.ensures ∙ ap option_copied c.in-Some.is in
    let head = c.theory_of.ensures.head in
    let lists = c.theory_of.ensures.lists in
    let content = c.in_ok-content.content in
    rw (head.0, c.in_ok-title.ensures, head.1, lists.0, lists.1, lists.2) (is_accepted c.item_laws.ensures c.headers_are_read.ensures.found z ts c.in-Some.name.now g clash c.requires found
    (told c.item_laws.ensures z ts rest g clash c.beyond-rest.ensures c.in_ok-declared.ensures.signature c.in_ok-declared.ensures.clash)
    content.rules content.checked.restrictions content.checked.lemmas
    (c.in_ok-content.ensures.accepted (pieces_of z ts) (cut_behind c.item_laws.ensures z ts rest c.beyond-rest.ensures)))
