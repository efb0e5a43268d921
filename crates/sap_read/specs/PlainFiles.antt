-- Files whose definitions have no parameters and whose uses no arguments.
use Rattle.std.specs.Prelude.{◌≡◌, List, [], ◌∷◌, Contains}
use Rattle.sap_macro.specs.MacroCauses.{Use, uses}
use Rattle.sap_macro.specs.Written.{Written}
use Rattle.sap_read.specs.Item.{Body}

-- no use in the process has arguments
abbrev pub UsesNamesAlone : Written → Type 0
UsesNamesAlone p = (u : Use) → Contains (uses p) u → u.1 ≡ []

-- a definition without parameters, or the process of a file, no use of which has arguments
pub record IsPlain (b : Body) : Type 0 where
  pub params : b.params ≡ []
  pub uses : UsesNamesAlone b.content

-- each of them is plain
abbrev pub ArePlain : List Body → Type 0
ArePlain [] = Unit {0}
ArePlain (b ∷ bs) = IsPlain b × ArePlain bs
