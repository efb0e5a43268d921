use Rattle.std.proofs.Common.{◌≡◌, drop}
use Rattle.std.specs.Option.{unwrap_or}
use Rattle.sap_terms.specs.NameMap.{value_at}
use Rattle.sap_macro.specs.Sources.{located}
use Rattle.sap_origin.specs.Definitions.{located_definitions}
use Rattle.sap_use_words.specs.WrittenUses.{written_uses}
use Rattle.sap_use_words.specs.code.Words.{first_word}
use Rattle.sap_use_words.proofs.other.other_word.Given as goal

abbrev pub invariant-loop-k : goal.invariant-loop-k
invariant-loop-k l =
    first_word (λ f. unwrap_or (value_at l.counts f) 0) (written_uses (located_definitions l.defs l.behind) l.behind_main (located l.main))
    ≡ first_word (λ f. unwrap_or (value_at l.counts f) 0) (written_uses (drop l.k (located_definitions l.defs l.behind)) l.behind_main (located l.main))
