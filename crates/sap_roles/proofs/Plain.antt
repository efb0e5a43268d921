-- Without its numbers what is written is plain.
use Rattle.std.proofs.Common.{◌≡◌, ℕ, suc, List, [], ◌∷◌, length, refl, ap}
use Rattle.sap_macro.specs.Located.{without_numbers}
use Rattle.sap_macro.specs.Sources.{located, written}
use Rattle.sap_macro.specs.declared.definition.Definition.{Definition}
use Rattle.sap_macro.specs.declared.source.Source.{Source}

-- what the law of places says
abbrev pub IsPlain : Type 0
IsPlain = (s : Source) → without_numbers (located s) ≡ written s

-- a number for each definition
abbrev pub zeros : List Definition → List ℕ
zeros [] = []
zeros (d ∷ ds) = 0 ∷ zeros ds

pub zeros_for_each : (ds : List Definition) → length (zeros ds) ≡ length ds
zeros_for_each [] = refl
zeros_for_each (d ∷ ds) = ap suc (zeros_for_each ds)
