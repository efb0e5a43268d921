use Rattle.std.proofs.Common.{◌≡◌, ℕ, List, [], ◌++◌, append_assoc, append-nil, drop, sym, ap, ◌∙◌, arith}
use Rattle.std.specs.Option.{option_to_list}
use Rattle.std.proofs.lemmas.Grind.{common_steps}
use Rattle.sap_text.specs.declared.token.Token.{Token}
use Rattle.sap_grammar.specs.Reading.{name_at}
use Rattle.sap_grammar.specs.Words.{words_of}
use Rattle.sap_read.specs.Identifiers.{identifiers_of}
use Rattle.sap_read.proofs.FromParts.{identifiers_turn}
use Rattle.sap_grammar.proofs.ReadingLaws.Tokens.{words-drop}
use Rattle.sap_read.proofs.identifiers.identifiers.Goals as goal

turned : (z : List ℕ) (rest next : List Token) (all names more : List (List ℕ)) → all ≡ names ++ identifiers_of (words_of z rest) → more ≡ names ++ option_to_list (name_at (words_of z rest)) → next ≡ drop 1 rest
    → all ≡ more ++ identifiers_of (words_of z next)
turned z rest next all names more so_far put is =
    let behind : words_of z next ≡ drop 1 (words_of z rest) = ap (words_of z) is ∙ words-drop z 1 rest in
    so_far ∙ ap (λ ns. names ++ ns) (identifiers_turn (words_of z rest)) ∙ sym (append_assoc names (option_to_list (name_at (words_of z rest))) (identifiers_of (drop 1 (words_of z rest))))
    ∙ (λ i. sym put i ++ identifiers_of (sym behind i))

pub loop-rest-preserved : goal.loop-rest-preserved
loop-rest-preserved c =
    turned c.args.bytes.now c.loop-rest.rest.now c.beyond-rest.result.now (identifiers_of (words_of c.args.bytes.now c.args.tokens.now)) c.loop-rest.names c.put_first.new.names c.loop-rest.invariant c.in_ok-put_first.ensures c.beyond-rest.ensures

pub returns : goal.returns
returns c =
    let none : c.loop-rest.rest.now ≡ [] = grind (arith, common_steps) in
    sym (append-nil c.loop-rest.names) ∙ sym (ap (λ ts. c.loop-rest.names ++ identifiers_of (words_of c.args.bytes.now ts)) none) ∙ sym c.loop-rest.invariant
