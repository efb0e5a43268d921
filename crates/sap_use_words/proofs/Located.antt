-- Definitions with the words of their places, by their indices.
use Rattle.std.proofs.Common.{◌≡◌, ◌≤◌, ℕ, zero, suc, List, [], ◌∷◌, length, drop, Some, refl, ap, ◌∙◌, arith}
use Rattle.std.proofs.lemmas.Option.{slice_get-map}
use Rattle.std.specs.Prelude.{option_map, slice_get}
use Rattle.sap_macro.specs.Sources.{definition_of, definitions}
use Rattle.sap_macro.specs.declared.definition.Definition as code
use Rattle.sap_origin.specs.Definitions.{located_definitions}

pub none_left : (ds : List code.Definition) (ns : List ℕ) (k : ℕ) → length ds ≤ k → drop k (located_definitions ds ns) ≡ []
none_left [] ns zero h = refl
none_left [] ns (suc k) h = refl
none_left (d ∷ ds) [] zero h = absurd (omega (arith, h))
none_left (d ∷ ds) [] (suc k) h = refl
none_left (d ∷ ds) (n ∷ ns) zero h = absurd (omega (arith, h))
none_left (d ∷ ds) (n ∷ ns) (suc k) h = none_left ds ns k (omega (arith, h))

-- the same without the words
pub plain_there : (ds : List code.Definition) (k : ℕ) (d : code.Definition) → slice_get ds k ≡ Some d → slice_get (definitions ds) k ≡ Some (definition_of d)
plain_there ds k d e = slice_get-map definition_of ds k ∙ ap (option_map definition_of) e
