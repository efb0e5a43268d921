use Rattle.std.proofs.Common.{◌≡◌, ◌++◌, drop}
use Rattle.sap_theory.specs.StatementText.{lemmas_text}
use Rattle.sap_theory.proofs.statements.push_lemmas.Given as goal

abbrev pub invariant-loop-lemma : goal.invariant-loop-lemma
invariant-loop-lemma l = l.text ++ lemmas_text (drop l.lemma-index l.lemma-items) ≡ l.initial.text ++ lemmas_text l.lemma-items
