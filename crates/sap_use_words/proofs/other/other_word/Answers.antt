use Rattle.std.proofs.Common.{ℕ, List, ap, sym, ◌∙◌}
use Rattle.std.specs.Option.{option_map, unwrap_or}
use Rattle.std.specs.Prelude.{slice_index_or}
use Rattle.sap_terms.specs.NameMap.{value_at}
use Rattle.sap_macro.specs.Sources.{located}
use Rattle.sap_macro.specs.declared.source.Source.{Source}
use Rattle.sap_origin.specs.Definitions.{located_definitions}
use Rattle.sap_origin.specs.Origins.{start, words_left}
use Rattle.sap_use_words.specs.WrittenUses.{uses_at}
use Rattle.sap_use_words.specs.code.Words.{first_word}
use Rattle.sap_origin.specs.Definitions.{with_words}
use Rattle.sap_use_words.proofs.Others.{word_found, word_pass}
use Rattle.sap_use_words.proofs.other.other_word.Goals as goal

pub returns-in-Some : goal.returns-in-Some
returns-in-Some c =
    let count = λ (f : List ℕ). unwrap_or (value_at c.args.counts.now f) 0 in
    let d = c.at.result.now in
    let b = slice_index_or c.args.behind.now c.loop-k.k 0 in
    sym
    (c.loop-k.invariant
    ∙ word_found count c.args.behind_main (located c.args.main.now) (located_definitions c.args.defs.now c.args.behind.now) c.loop-k.k (with_words d b) (words_left c.in-Some.word)
    (c.located_definitions_by_number.ensures.located c.args.defs.now c.args.behind.now c.loop-k.k d c.requires c.at.ensures)
    (ap (λ (s : Source). first_word count (uses_at (start b) (located s))) (sym c.deref.ensures) ∙ sym c.other_in-found.ensures
    ∙ ap (option_map words_left) c.in-Some.is))

pub loop-k-preserved : goal.loop-k-preserved
loop-k-preserved c =
    let count = λ (f : List ℕ). unwrap_or (value_at c.args.counts.now f) 0 in
    let d = c.at.result.now in
    let b = slice_index_or c.args.behind.now c.loop-k.k 0 in
    c.loop-k.invariant
    ∙ word_pass count c.args.behind_main (located c.args.main.now) (located_definitions c.args.defs.now c.args.behind.now) c.loop-k.k (with_words d b)
    (c.located_definitions_by_number.ensures.located c.args.defs.now c.args.behind.now c.loop-k.k d c.requires c.at.ensures)
    (ap (λ (s : Source). first_word count (uses_at (start b) (located s))) (sym c.deref.ensures) ∙ sym c.other_in-found.ensures
    ∙ ap (option_map words_left) c.in_default.is)
