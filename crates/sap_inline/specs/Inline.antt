-- Formulas under restrictions that they carry themselves.
use Rattle.std.specs.Prelude.{List, [], ◌∷◌, map}
use Rattle.sap_formula.specs.Form.{Form, RestrictionForm, both, implies, truth}
use Rattle.sap_formula.specs.declared.lemma.Mode.{Mode}
use Rattle.sap_formula.specs.declared.lemma.Mode.TheVariants.{AllTraces, ExistsTrace}

-- the first formula and each of these, the leftmost first
abbrev pub joined : Form → List Form → Form
joined r [] = r
joined r (s ∷ rs) = joined (both r s) rs

-- all of these; `T` where there are none
abbrev pub conjunction : List Form → Form
conjunction [] = truth
conjunction (r ∷ rs) = joined r rs

-- the formulas of restrictions
abbrev pub formulas : List RestrictionForm → List Form
formulas rs = map (λ (r : RestrictionForm). r.formula) rs

-- what is said of each trace, where all of us are true; or of some trace, where they are
abbrev pub inlined : Mode → List Form → Form → Form
inlined AllTraces us f = implies (conjunction us) f
inlined ExistsTrace us f = both (conjunction us) f
