-- Formulas made after shapes.
use Rattle.std.specs.Prelude.{ℕ, ◌+◌, List}
use Rattle.sap_formula.specs.Form.{Form, both, earlier, either, every, exists, implies, same_time}
use Rattle.sap_formula.specs.declared.binder.Binder.{Binder}
use Rattle.sap_shapes.specs.declared.shape.Shape.{Shape}
use Rattle.sap_shapes.specs.declared.shape.Shape.TheVariants.{Shows, Equal, Same, Less, Not', And', Or', Imp', All', Ex'}

-- the connective of a shape between two formulas
abbrev pub joined : Shape → Form → Form → Form
joined (And' a f b g) p q = both p q
joined (Or' a f b g) p q = either p q
joined _ p q = implies p q

-- its relation between two times
abbrev pub timed : Shape → List ℕ → List ℕ → Form
timed (Same a b) i j = same_time i j
timed _ i j = earlier i j

-- its quantifier over a formula
abbrev pub quantified : Shape → List Binder → Form → Form
quantified (All' letters a f) bs p = every bs p
quantified _ bs p = exists bs p

-- how much it says
abbrev pub size : Shape → ℕ
size (Shows name letters t) = 0
size (Equal v w) = 0
size (Same a b) = 0
size (Less a b) = 0
size (Not' a f) = size f + 1
size (And' a f b g) = size f + size g + 2
size (Or' a f b g) = size f + size g + 2
size (Imp' a f b g) = size f + size g + 2
size (All' letters a f) = size f + 1
size (Ex' letters a f) = size f + 1
