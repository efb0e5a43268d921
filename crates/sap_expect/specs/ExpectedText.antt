-- How it is put what is expected.
use Rattle.std.specs.Prelude.{ℕ, codes, List}
use Rattle.sap_expect.specs.declared.nested.Nested.{Nested}
use Rattle.sap_expect.specs.declared.nested.Nested.TheVariants.{Term as ATerm, Process as AProcess, Formula as AFormula}
use Rattle.sap_expect.specs.Expected.{Expected, fewer_levels, one_of}
use Rattle.sap_expect.specs.KindText.{wanted_text}

-- the limit of levels
abbrev pub limit_text : Nested → List ℕ
limit_text ATerm = codes "No term has more than 100 levels"
limit_text AProcess = codes "No process has more than 300 levels"
limit_text AFormula = codes "No formula has more than 100 levels"

abbrev pub expected_text : Expected → List ℕ
expected_text (one_of ks) = wanted_text ks
expected_text (fewer_levels c) = limit_text c
