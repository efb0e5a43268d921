use Rattle.std.proofs.Common.{[], ◌∷◌, inl, lit<, refl}
use Rattle.sap_terms.specs.Equal.{same}
use Rattle.sap_terms.specs.Signature.{Sig, pairs_alone}
use Rattle.sap_terms.specs.Trace.{Trace}
use Rattle.sap_formula.specs.Truth.{IsTrueOn}
use Rattle.sap_macro.specs.ExpansionExamples.{a, b}
use Rattle.sap_macro.specs.WrittenExamples.{two_apart}
use Rattle.sap_tool.specs.AsWrittenExamples.{some_apart}
use Rattle.sap_tool.proofs.laws.lemmas_as_written_by_hand.Goals as goal

-- Apart('a','b')
abbrev apart : Trace
apart = (two_apart a b ∷ []) ∷ []

is_apart : (g : Sig) → IsTrueOn g some_apart apart
is_apart g = (0, lit< tt, inl (refl, (same, (same, tt))))

pub returns-clause-some_trace : goal.returns-clause-some_trace
returns-clause-some_trace c = (apart, c.files_by_hand_as_written.ensures.apart pairs_alone, tt, is_apart pairs_alone)

pub returns-clause-not_all : goal.returns-clause-not_all
returns-clause-not_all c = λ h. h apart (c.files_by_hand_as_written.ensures.apart pairs_alone) tt (is_apart pairs_alone)

pub returns-clause-not_restricted : goal.returns-clause-not_restricted
returns-clause-not_restricted c = λ h. h.2.0 h.3
