-- A written node as the program has it.
use Rattle.std.specs.Prelude.{◌≡◌, ℕ, ◌-◌, ◌^◌, min, List, length, slice_get, Option, Some, None}
use Rattle.sap_macro.specs.Located.{Located}
use Rattle.sap_macro.specs.Sources.{located}
use Rattle.sap_origin.specs.Definitions.{LocatedDefinition}
use Rattle.sap_stems.specs.Stems.{Stem}
use Rattle.sap_stems.specs.StemsAt.{AreStems}
use Rattle.sap_stems.specs.declared.making.WrittenNode.{WrittenNode}

-- it is this written node: its place, its number, from the greatest u64 on that, and how many uses are above it
pub record IsNodeOf (s : Stem) (w : WrittenNode) : Type 0 where
  pub place_is : s.place ≡ located w.source.now
  pub index_is : w.index ≡ min s.index (2 ^ 64 - 1)
  pub behind_is : s.standing.behind ≡ w.behind
  pub uses_are : w.uses ≡ length s.standing.uses

-- both are there, or neither
abbrev pub IsSome : Option Stem → Option WrittenNode → Type 0
IsSome None None = Unit {0}
IsSome None (Some w) = ⊥
IsSome (Some s) None = ⊥
IsSome (Some s) (Some w) = IsNodeOf s w

-- node k of the place to which one comes along this path stems from this written node; there is none where the head has no such node
abbrev pub IsStemAt : List LocatedDefinition → Located → ℕ → List ℕ → ℕ → Option WrittenNode → Type 0
IsStemAt ds p behind path k r =
    (ss : List Stem) × AreStems ds p behind path ss × IsSome (slice_get ss k) r
