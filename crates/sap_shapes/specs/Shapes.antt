-- What shapes of formulas say.
use Rattle.std.specs.Prelude.{ℕ, [], ◌∷◌, map, cond, ltb}
use Rattle.sap_formula.specs.Form.{Form, action, both, earlier, either, equal, every, exists, implies, negation, same_time}
use Rattle.sap_formula.specs.declared.binder.Binder.{Binder}
use Rattle.sap_formula.specs.declared.binder.Binder.TheVariants.{Message, Time}
use Rattle.sap_shapes.specs.Formulas.{any_message}
use Rattle.sap_shapes.specs.declared.shape.Shape.{Shape}
use Rattle.sap_shapes.specs.declared.shape.Shape.TheVariants.{Shows, Equal, Same, Less, Not', And', Or', Imp', All', Ex'}
use Rattle.sap_terms.specs.AdversaryFacts.{linear}
use Rattle.sap_terms.specs.Tree.{variable}

-- what a letter binds: a capital a message variable, a small one a time variable
abbrev pub binder : ℕ → Binder
binder n = cond (ltb n 97) (Message (any_message (n ∷ []))) (Time (n ∷ []))

-- the formula of a shape
abbrev pub says : Shape → Form
says (Shows name letters t) = action (linear name.now (map (λ v. variable (any_message (v ∷ []))) letters.now)) t.now
says (Equal v w) = equal (variable (any_message (v ∷ []))) (variable (any_message (w ∷ [])))
says (Same a b) = same_time a.now b.now
says (Less a b) = earlier a.now b.now
says (Not' a f) = negation (says f)
says (And' a f b g) = both (says f) (says g)
says (Or' a f b g) = either (says f) (says g)
says (Imp' a f b g) = implies (says f) (says g)
says (All' letters a f) = every (map binder letters.now) (says f)
says (Ex' letters a f) = exists (map binder letters.now) (says f)
