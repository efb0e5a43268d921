-- Definitions by their indices.
use Rattle.std.proofs.Common.{◌≡◌, ℕ, suc, List, [], ◌∷◌, Some, length, refl, sym, ap, ◌∙◌}
use Rattle.std.proofs.lemmas.Option.{slice_get-map}
use Rattle.std.specs.Option.{option_map}
use Rattle.std.specs.Prelude.{slice_get}
use Rattle.sap_macro.specs.Sources.{definition_of, definitions}
use Rattle.sap_macro.specs.declared.definition.Definition as code

-- the definition at an index of the program's own
pub there : (defs : List code.Definition) (k : ℕ) (d : code.Definition) → slice_get defs k ≡ Some d → slice_get (definitions defs) k ≡ Some (definition_of d)
there defs k d is = slice_get-map definition_of defs k ∙ ap (option_map definition_of) is

length_of : (defs : List code.Definition) → length (definitions defs) ≡ length defs
length_of [] = refl
length_of (d ∷ ds) = ap suc (length_of ds)

pub as_many : (defs : List code.Definition) → length defs ≡ length (definitions defs)
as_many defs = sym (length_of defs)
