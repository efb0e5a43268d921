use Rattle.std.proofs.Common.{◌≡◌, map, take}
use Rattle.sap_restrict.specs.Inline.{formulas}
use Rattle.sap_gen.specs.Theories.{inlined_lemma}
use Rattle.sap_gen.proofs.theory.inlined_lemmas.Given as goal

abbrev pub invariant-loop-lemma : goal.invariant-loop-lemma
invariant-loop-lemma l = l.inlined ≡ map (inlined_lemma (formulas l.restrictions)) (take l.lemma-index l.lemma-items)
