-- What is made, where memory isn't wanting.
use Rattle.std.specs.Prelude.{◌≡◌, Result, IfOk}

-- it is this
abbrev pub Makes : {T E : Type 0} → Result T E → T → Type 0
Makes made x = IfOk made (λ y. y ≡ x)
