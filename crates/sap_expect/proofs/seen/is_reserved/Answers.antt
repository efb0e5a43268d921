use Rattle.std.proofs.Common.{ℕ, List, ◌≡◌, ◌∙◌, subst, sym}
use Rattle.std.specs.List.{list_any}
use Rattle.std.specs.Str.{bytes_eq}
use Rattle.sap_grammar.specs.Words.{is_grammar_word}
use Rattle.sap_expect.proofs.seen.is_reserved.Goals as goal

pub returns-in-Some : goal.returns-in-Some
returns-in-Some c =
    c.is_one.ensures
    ∙ subst (λ (t : List ℕ). list_any (λ word. bytes_eq t word.now) c.words_from.result.now ≡ is_grammar_word t) (sym c.in-Some.ensures.cases.0) (c.words_from.ensures c.in-Some.field-0-1.now)
