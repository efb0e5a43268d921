-- What is written of the words of a cause.
use Rattle.std.specs.Prelude.{ℕ, codes, decimal, List, ◌++◌}
use Rattle.sap_refusals.specs.declared.words.Words.{Words}
use Rattle.sap_refusals.specs.declared.words.Words.TheVariants.{Plain, Number, Numbered, Name, Named, Placed, Flawed, Formula}
use Rattle.sap_refusals.specs.Refusals.{at_place, between, flaw_text, formula_text}

abbrev pub words_text : Words → List ℕ
words_text (Plain all) = all.now
words_text (Number before number) = before.now ++ decimal number
words_text (Numbered before number after) = between before.now (decimal number) after.now
words_text (Name before name) = before.now ++ name.now
words_text (Named before name after) = between before.now name.now after.now
words_text (Placed path what) = at_place path.now what.now
words_text (Flawed name which path) = between (codes "process ") name.now (codes ": " ++ at_place path.now (flaw_text which))
words_text (Formula name fault) = name.now ++ (codes ": " ++ formula_text fault.now)
