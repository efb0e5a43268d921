use Rattle.std.proofs.Common.{◌≡◌, [], ◌∷◌, ◌++◌, Some, sym, ap, ◌∙◌, arith}
use Rattle.std.specs.Option.{option_copied}
use Rattle.std.proofs.lemmas.Grind.{common_steps}
use Rattle.sap_grammar.specs.Reading.{name_at}
use Rattle.sap_grammar.specs.Words.{words_of}
use Rattle.sap_read.proofs.ReadParameters.{closes, goes_on, no_more, stops}
use Rattle.sap_read.proofs.parameters.read_parameters.Goals as goal

pub returns-in_default : goal.returns-in_default
returns-in_default c =
    no_more c.args.bytes.now c.args.tokens.now c.loop-rest.rest.now c.loop-rest.params c.loop-rest.invariant (sym c.name_at.ensures ∙ ap option_copied c.in_default.is)

pub returns-then-starts : goal.returns-then-starts
returns-then-starts c =
    let name : name_at (words_of c.args.bytes.now c.loop-rest.rest.now) ≡ Some c.in-Some.name.now = sym c.name_at.ensures ∙ ap option_copied c.in-Some.is in
    let pushed : c.push.new.self ≡ c.loop-rest.params ++ (c.in-Some.name.now ∷ []) = grind (arith, common_steps) in
    rw pushed (closes c.args.bytes.now c.args.tokens.now c.loop-rest.rest.now c.loop-rest.params c.loop-rest.invariant c.in-Some.name.now name c.beyond-behind.result.now c.beyond-behind.ensures c.beyond.result.now c.beyond.ensures (sym c.starts.ensures ∙ c.if-starts.true))

pub returns-then-not-starts : goal.returns-then-not-starts
returns-then-not-starts c =
    let name : name_at (words_of c.args.bytes.now c.loop-rest.rest.now) ≡ Some c.in-Some.name.now = sym c.name_at.ensures ∙ ap option_copied c.in-Some.is in
    stops c.args.bytes.now c.args.tokens.now c.loop-rest.rest.now c.loop-rest.params c.loop-rest.invariant c.in-Some.name.now name c.beyond-behind.result.now c.beyond-behind.ensures (sym c.starts.ensures ∙ c.if-starts.false) (sym c.starts-in-loop-rest.ensures ∙ c.if-not-starts.true)

pub loop-rest-preserved : goal.loop-rest-preserved
loop-rest-preserved c =
    let name : name_at (words_of c.args.bytes.now c.loop-rest.rest.now) ≡ Some c.in-Some.name.now = sym c.name_at.ensures ∙ ap option_copied c.in-Some.is in
    let pushed : c.push.new.self ≡ c.loop-rest.params ++ (c.in-Some.name.now ∷ []) = grind (arith, common_steps) in
    rw pushed (goes_on c.args.bytes.now c.args.tokens.now c.loop-rest.rest.now c.loop-rest.params c.loop-rest.invariant c.in-Some.name.now name c.beyond-behind.result.now c.beyond-behind.ensures c.beyond-rest.result.now c.beyond-rest.ensures (sym c.starts-in-loop-rest.ensures ∙ c.if-not-starts.false))

pub returns : goal.returns
returns c =
    let none : c.loop-rest.rest.now ≡ [] = grind (arith, common_steps) in
    no_more c.args.bytes.now c.args.tokens.now c.loop-rest.rest.now c.loop-rest.params c.loop-rest.invariant (ap (λ ts. name_at (words_of c.args.bytes.now ts)) none)
