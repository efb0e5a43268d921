-- What the answers of the reader of formulas stand for.
use Rattle.std.specs.Prelude.{ℕ, ◌-◌, codes, List}
use Rattle.sap_terms.specs.Signature.{Sig}
use Rattle.sap_formula.specs.Form.{Form, both, either, implies, equivalent, every, exists}
use Rattle.sap_formula.specs.View.{form}
use Rattle.sap_formula.specs.declared.binder.Binder.{Binder}
use Rattle.sap_grammar.specs.declared.limits.Limits.{Limits}
use Rattle.sap_grammar.specs.Reading.{Reader}
use Rattle.sap_formula_grammar.specs.declared.formula.build.Connective.{Connective}
use Rattle.sap_formula_grammar.specs.declared.formula.build.Connective.TheVariants.{And, Or, Imp, Iff}
use Rattle.sap_formula_grammar.specs.declared.formula.build.Measured.{Measured}
use Rattle.sap_formula_grammar.specs.declared.formula.build.Quantifier.{Quantifier}
use Rattle.sap_formula_grammar.specs.declared.formula.build.Quantifier.TheVariants.{Every, Exists}
use Rattle.sap_formula_grammar.specs.FormulaReading.{Levelled, chain, un, imp}

-- the formula and the levels of its text
abbrev pub levelled : Measured → Levelled
levelled m = (form m.formula.value, m.levels)

-- what the connective makes of two formulas
abbrev pub made : Connective → Form → Form → Form
made And = both
made Or = either
made Imp = implies
made Iff = equivalent

-- its sign
abbrev pub sign_of : Connective → List ℕ
sign_of And = codes "&"
sign_of Or = codes "|"
sign_of Imp = codes "==>"
sign_of Iff = codes "<=>"

-- what stands behind its sign, where both together have so many levels at most
abbrev pub operand : Sig → Limits → ℕ → Connective → Reader Levelled
operand g m d And = un g m d
operand g m d Or = chain (un g m d) d both (codes "&")
operand g m d Imp = imp g m (d - 1)
operand g m d Iff = imp g m d

-- what the quantifier makes of a formula
abbrev pub bound : Quantifier → List Binder → Form → Form
bound Every = every
bound Exists = exists
