-- The written place to which one comes along a path, and the uses through which one comes, as the program has them.
use Rattle.std.specs.Prelude.{◌≡◌, ℕ, List, Some, slice_get}
use Rattle.std.specs.List.{AllZip}
use Rattle.sap_macro.specs.Located.{Located}
use Rattle.sap_macro.specs.Sources.{located}
use Rattle.sap_origin.specs.Definitions.{LocatedDefinition}
use Rattle.sap_origin.specs.Origins.{start}
use Rattle.sap_origin.specs.Reached.{ReachesBy, Standing, number_of}
use Rattle.sap_origin.specs.UsesAlong.{UseAt, uses_along}
use Rattle.sap_origin.specs.declared.origin.FileWord.{FileWord}
use Rattle.sap_origin.specs.declared.trail.Replaced.{Replaced}
use Rattle.sap_origin.specs.declared.trail.Replaced.TheVariants.{Every}
use Rattle.sap_origin.specs.declared.trail.Trail.{Trail}
use Rattle.sap_origin.specs.declared.trail.Use.{Use}

-- it is this use
pub record IsUse (ds : List LocatedDefinition) (u : UseAt) (v : Use) : Type 0 where
  pub place_is : u.place ≡ located v.source.now
  pub behind_is : u.standing.behind ≡ v.behind
  pub definition_is : slice_get ds v.definition ≡ Some u.definition

-- they are these, one by one
abbrev pub AreUses : List LocatedDefinition → List UseAt → List Use → Type 0
AreUses ds us vs = AllZip (IsUse ds) us vs

-- where these names are replaced, one comes along this path, from a process behind whose item so many words of the file are, to this
-- place, through these uses
pub record IsTrailBy (ds : List LocatedDefinition) (v : Replaced) (p : Located) (behind : ℕ) (path : List ℕ)
    (t : Trail) : Type 0 where
  pub standing : Standing
  pub reaches : ReachesBy ds v (start behind) p path standing (located t.source.now)
  pub behind_is : standing.behind ≡ t.behind
  pub uses : AreUses ds (uses_along reaches) t.uses

-- in the expansion
abbrev pub IsTrail : List LocatedDefinition → Located → ℕ → List ℕ → Trail → Type 0
IsTrail ds p behind path t = IsTrailBy ds Every p behind path t

-- the word of the name of a use
abbrev pub use_word : Use → FileWord
use_word u = record { left = number_of (located u.source.now); behind = u.behind }
