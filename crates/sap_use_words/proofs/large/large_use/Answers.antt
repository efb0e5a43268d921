use Rattle.std.proofs.Common.{◌≡◌, None, sym, ap, ◌∙◌}
use Rattle.std.specs.Option.{option_map}
use Rattle.sap_macro.specs.Expansion.{unchanged}
use Rattle.sap_macro.specs.Sources.{located}
use Rattle.sap_origin.specs.Definitions.{located_definitions}
use Rattle.sap_use_words.specs.ExpandedUses.{words_of}
use Rattle.sap_use_words.specs.code.Walk.{IsThere, found}
use Rattle.sap_use_words.proofs.Walking.{found_start, unchanged_sizes, words_at_end}
use Rattle.sap_use_words.proofs.large.large_use.Goals as goal

pub returns-in-None : goal.returns-in-None
returns-in-None c =
    let ds = located_definitions c.args.defs.now c.args.behind.now in
    let us = c.new-above.result.items in
    let none : found ds c.args.behind_main us unchanged (located c.args.main.now) ≡ None =
    rw c.in-None.is at (c.in_ok-large_in.ensures.found unchanged (unchanged_sizes c.new-sizes.result c.new-sizes.ensures)) in
    sym (ap (option_map words_of) (sym (found_start ds c.args.behind_main us (located c.args.main.now) c.new-above.ensures.items) ∙ none))

pub returns : goal.returns
returns c =
    let ds = located_definitions c.args.defs.now c.args.behind.now in
    let us = c.new-above.result.items in
    let there : IsThere (found ds c.args.behind_main us unchanged (located c.args.main.now)) c.in-Some.word c.large_in.new.uses.items =
    rw c.in-Some.is at (c.in_ok-large_in.ensures.found unchanged (unchanged_sizes c.new-sizes.result c.new-sizes.ensures)) in
    sym
    (ap (option_map words_of) (sym (found_start ds c.args.behind_main us (located c.args.main.now) c.new-above.ensures.items))
    ∙ words_at_end (found ds c.args.behind_main us unchanged (located c.args.main.now)) c.in-Some.word c.large_in.new.uses.items c.reverse.new.self.items there c.reverse.ensures.items)
