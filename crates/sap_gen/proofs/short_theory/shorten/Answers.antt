use Rattle.std.proofs.Common.{refl, subst, sym}
use Rattle.std.proofs.lemmas.Result.{IfOk-weaker}
use Rattle.sap_read.specs.Files.{told_by}
use Rattle.sap_rule.specs.declared.theory.Theory.{Theory}
use Rattle.sap_gen.specs.ShortTheories.{IsShortTheory}
use Rattle.sap_gen.specs.code.Shorter.{HasShortRules}
use Rattle.sap_gen.specs.code.Takers.{NamesTell}
use Rattle.sap_gen.proofs.ShortOf.{file_names_tell, short_of}
use Rattle.sap_gen.proofs.Theories.{PlaceLaws}
use Rattle.sap_gen.proofs.short_theory.shorten.Goals as goal

pub with_short_rules-requires : goal.with_short_rules-requires
with_short_rules-requires c =
    let laws : PlaceLaws = record { sound = c.rules_show_the_process.ensures.sound; origin = c.rules_are_found_by_name.ensures.origin; placed = c.rules_are_found_by_name.ensures.placed } in
    ((told_by c.args.f.now).process, subst (λ (t : Theory). NamesTell (told_by c.args.f.now).process t.rules) (sym (c.in_ok-theory_of.ensures.plain refl)) (file_names_tell laws (told_by c.args.f.now) c.requires))

pub returns : goal.returns
returns c =
    let laws : PlaceLaws = record { sound = c.rules_show_the_process.ensures.sound; origin = c.rules_are_found_by_name.ensures.origin; placed = c.rules_are_found_by_name.ensures.placed } in
    IfOk-weaker c.with_short_rules.result (λ s. HasShortRules c.in_ok-theory_of.field-0 s) (λ s. IsShortTheory (told_by c.args.f.now) s)
    (λ s h. short_of laws (told_by c.args.f.now) c.requires c.in_ok-theory_of.field-0 s (c.in_ok-theory_of.ensures.plain refl) h) c.with_short_rules.ensures
