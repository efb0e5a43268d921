-- Small files, and theories that differ from theirs in one thing, to try by hand what a theory keeps.
use Rattle.std.specs.Prelude.{List, [], ◌∷◌, codes}
use Rattle.sap_terms.specs.Signature.{Sig}
use Rattle.sap_formula.specs.Form.{LemmaForm, RestrictionForm, falsity, negation, truth}
use Rattle.sap_formula.specs.declared.lemma.Mode.TheVariants.{AllTraces, ExistsTrace}
use Rattle.sap_process.specs.Proc.{nil}
use Rattle.sap_read.specs.Files.{FileContent}
use Rattle.sap_rule.specs.declared.theory.Theory.{Theory}
use Rattle.sap_gen.specs.LemmaExamples.{sends_secret, some_start}

-- the restriction `T`, which is true on each trace
abbrev pub anyway : RestrictionForm
anyway = record { name = codes "anyway"; formula = truth }

-- the lemma `T`, of each trace; it holds of every file and theory
abbrev pub ever : LemmaForm
ever = record { name = codes "ever"; attributes = []; mode = AllTraces; formula = truth }

-- new ~s; event Secret(~s); out(~s), with that restriction and that lemma
abbrev pub small_file : Sig → FileContent
small_file g = record { name = codes "Small"; signature = g; process = sends_secret; restrictions = anyway ∷ []; lemmas = ever ∷ [] }

-- the process `0`, with the restriction `Ex #i. Init()@i`, which speaks of a hidden fact
abbrev pub restricted_idle_file : Sig → FileContent
restricted_idle_file g =
    record { name = codes "Idle"; signature = g; process = nil; restrictions = record { name = codes "must_start"; formula = some_start } ∷ []; lemmas = [] }

-- the theory under another name
abbrev pub renamed : Theory → Theory
renamed t = record t { name = codes "Other" }

-- over this signature
abbrev pub over_signature : Theory → Sig → Theory
over_signature t h = record t { signature = h }

-- with these restrictions
abbrev pub with_restrictions : Theory → List RestrictionForm → Theory
with_restrictions t rs = record t { restrictions = rs }

-- with these lemmas
abbrev pub with_lemmas : Theory → List LemmaForm → Theory
with_lemmas t ls = record t { lemmas = ls }

-- the lemma `T` under another name; with an attribute; of some trace; and as `not F`, which is true where `T` is
abbrev pub ever_renamed : LemmaForm
ever_renamed = record ever { name = codes "always" }

abbrev pub ever_with_attribute : LemmaForm
ever_with_attribute = record ever { attributes = codes "reuse" ∷ [] }

abbrev pub ever_of_some : LemmaForm
ever_of_some = record ever { mode = ExistsTrace }

abbrev pub ever_otherwise : LemmaForm
ever_otherwise = record ever { formula = negation falsity }
