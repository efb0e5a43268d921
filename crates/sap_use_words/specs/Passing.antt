-- Uses through which one comes to places of an expansion.
use Rattle.std.specs.Prelude.{◌≡◌, ℕ, List, ◌∷◌, ◌++◌}
use Rattle.sap_macro.specs.Located.{Located}
use Rattle.sap_origin.specs.Definitions.{LocatedDefinition}
use Rattle.sap_origin.specs.Reached.{Reaches, Standing}
use Rattle.sap_use_words.specs.WrittenUses.{LocatedUse}

-- along some path one comes from there through the use to a place: before it through those above it alone, and behind it through inner ones
pub record IsPassed (ds : List LocatedDefinition) (s : Standing) (p : Located) (u : LocatedUse)
    : Type 0 where
  pub path : List ℕ
  pub standing : Standing
  pub place : Located
  pub inner : List ℕ
  pub reaches : Reaches ds s p path standing place
  pub uses_are : standing.uses ≡ inner ++ u.word ∷ u.above
