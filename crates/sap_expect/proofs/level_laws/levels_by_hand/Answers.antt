use Rattle.std.proofs.Common.{refl}
use Rattle.sap_expect.specs.declared.wanted.Part.TheVariants.{Conjunction, Equivalence, Formula, Implication, Process, Sequence, Term}
use Rattle.sap_expect.specs.LevelExamples.{behind_replicated, deep_branch, deep_second, no_terms, not_group, one_term, symbol_first, three_in_body, three_parts, three_sides, three_terms, two_actions, two_ands, two_bars, two_implications, two_parts, two_sides}
use Rattle.sap_expect.proofs.LevelsByHand.{begins, begins_not}
use Rattle.sap_expect.proofs.level_laws.levels_by_hand.Goals as goal

pub returns : goal.returns
returns c = record {
  terms = (begins Term 2 two_parts refl, begins Term 3 three_parts refl, begins Term 2 symbol_first refl, begins Term 1 no_terms refl, begins Term 2 one_term refl, begins Term 2 three_terms refl);
  not_terms = (begins_not Term 1 two_parts refl, begins_not Term 2 three_parts refl, begins_not Term 1 symbol_first refl, begins_not Term 1 one_term refl, begins_not Term 1 three_terms refl);
  processes = (begins Process 3 behind_replicated refl, begins Process 3 two_bars refl, begins Sequence 3 two_actions refl, begins Sequence 3 deep_branch refl);
  not_processes = (begins_not Process 2 behind_replicated refl, begins_not Process 2 two_bars refl, begins_not Sequence 2 two_actions refl, begins_not Sequence 2 deep_branch refl);
  formulas = (begins Conjunction 3 two_ands refl, begins Conjunction 3 deep_second refl, begins Implication 3 two_implications refl, begins Equivalence 2 two_sides refl, begins Formula 3 not_group refl);
  not_formulas = (begins_not Conjunction 2 two_ands refl, begins_not Conjunction 2 deep_second refl, begins_not Implication 2 two_implications refl, begins_not Equivalence 1 two_sides refl, begins_not Formula 2 not_group refl, begins_not Equivalence 100 three_sides refl, begins_not Equivalence 100 three_in_body refl);
}
