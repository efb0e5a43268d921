use Rattle.std.proofs.Common.{ℕ, List, ap, map, sym, ◌∙◌}
use Rattle.std.specs.Option.{unwrap_or}
use Rattle.sap_terms.specs.NameMap.{value_at}
use Rattle.sap_macro.specs.MacroCauses.{parameter_count}
use Rattle.sap_macro.specs.Sources.{located}
use Rattle.sap_macro.specs.Written.{Definition}
use Rattle.sap_origin.specs.Definitions.{located_definitions, plain_definition}
use Rattle.sap_use_words.specs.WrittenUses.{written_uses}
use Rattle.sap_use_words.proofs.Others.{word_by}
use Rattle.sap_use_words.proofs.other.other_use.Goals as goal

pub returns : goal.returns
returns c =
    let ds = located_definitions c.args.defs.now c.args.behind.now in
    let law = c.located_definitions_are_written.ensures c.args.defs.now c.args.behind.now c.requires in
    c.other_word-word.ensures
    ∙ word_by (λ (f : List ℕ). unwrap_or (value_at c.in_ok-counts.counts f) 0) (parameter_count (map plain_definition ds)) (written_uses ds c.args.behind_main (located c.args.main.now))
    (λ f. c.in_ok-counts.ensures f ∙ ap (λ (xs : List Definition). parameter_count xs f) (sym law))
