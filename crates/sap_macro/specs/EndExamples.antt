-- Small chains of names, to try their ends by hand.
use Rattle.std.specs.Prelude.{codes, [], ◌∷◌}
use Rattle.sap_macro.specs.ExpansionExamples.{a, b}
use Rattle.sap_macro.specs.Written.{Written, call, Definition}

-- C and D, as they are written
abbrev pub use_c : Written
use_c = call (codes "C") []

abbrev pub use_d : Written
use_d = call (codes "D") []

-- A('a','b')
abbrev pub use_two : Written
use_two = call (codes "A") (a ∷ b ∷ [])

-- let D = C
abbrev pub naming_c : Definition
naming_c = record { name = codes "D"; params = []; body = use_c }
