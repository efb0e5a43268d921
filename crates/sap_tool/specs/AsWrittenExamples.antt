-- Lemmas of small files, to try by hand what holds of a process as it is written.
use Rattle.std.specs.Prelude.{codes, List, [], ◌∷◌}
use Rattle.sap_terms.specs.Signature.{pairs_alone}
use Rattle.sap_formula.specs.Form.{Form, LemmaForm, RestrictionForm, action, exists, negation}
use Rattle.sap_formula.specs.declared.binder.Binder.TheVariants.{Time}
use Rattle.sap_formula.specs.declared.lemma.Mode.TheVariants.{AllTraces, ExistsTrace}
use Rattle.sap_process.specs.Proc.{nil}
use Rattle.sap_macro.specs.ExpansionExamples.{a, b}
use Rattle.sap_macro.specs.WrittenExamples.{two_apart}
use Rattle.sap_read.specs.Files.{FileContent}

-- Ex #i. Apart('a','b')@i
abbrev pub some_apart : Form
some_apart = exists (Time (codes "i") ∷ []) (action (two_apart a b) (codes "i"))

-- lemma sometimes: exists-trace "Ex #i. Apart('a','b')@i", and lemma never: "not Ex #i. Apart('a','b')@i"
abbrev pub sometimes : LemmaForm
sometimes = record { name = codes "sometimes"; attributes = []; mode = ExistsTrace; formula = some_apart }

abbrev pub never : LemmaForm
never = record { name = codes "never"; attributes = []; mode = AllTraces; formula = negation some_apart }

-- restriction none: "not Ex #i. Apart('a','b')@i"
abbrev pub none_apart : RestrictionForm
none_apart = record { name = codes "none"; formula = negation some_apart }

-- what a file tells whose process is `0`, with these restrictions
abbrev pub about_nothing : List RestrictionForm → FileContent
about_nothing rs = record { name = codes "T"; signature = pairs_alone; process = nil; restrictions = rs; lemmas = [] }
