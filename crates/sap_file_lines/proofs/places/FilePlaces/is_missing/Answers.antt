use Rattle.std.proofs.Common.{◌≡◌, ℕ, ◌-◌, ◌⊎◌, inl, inr, List, [], length, take, subst, arith}
use Rattle.std.proofs.lemmas.Grind.{common_steps}
use Rattle.sap_macro.specs.Sources.{located}
use Rattle.sap_origin.specs.Definitions.{LocatedDefinition, located_definitions}
use Rattle.sap_origin.specs.declared.trail.Replaced.TheVariants.{Every}
use Rattle.sap_file_lines.specs.code.Spots.{IsMissed, IsSpot}
use Rattle.sap_file_lines.proofs.Missed.{in_front, missed, not_false}
use Rattle.sap_file_lines.proofs.Some.{HasLast, split}
use Rattle.sap_file_lines.proofs.places.FilePlaces.is_missing.Goals as goal

pub returns-in-Some : goal.returns-in-Some
returns-in-Some c = by (split path)
  where
    path : List ℕ
    path = c.args.path.now

    ds : List LocatedDefinition
    ds = located_definitions c.args.self.now.definitions.now c.args.self.now.behind.now

    by : (path ≡ []) ⊎ HasLast path → IsMissed ds (located c.args.self.now.main.now) c.args.self.now.behind_main path c.args.spot c.is_one_word.result
    by (inl e) = let never : ⊥ = grind (arith, common_steps, e, c.if-is_empty.false) in absurd never
    by (inr h) =
        let up : IsSpot ds (located c.args.self.now.main.now) c.args.self.now.behind_main (take (length path - 1) path) c.in-Some.above = rw c.in-Some.is at c.in_ok-spot.ensures in
        missed (λ fs. c.one_written_place.ensures.one fs Every) ds (located c.args.self.now.main.now) c.args.self.now.behind_main path h.0 h.1 c.args.spot c.in-Some.above c.is_one_word.result h.2 (not_false c.args.spot.is_nothing c.if-not-spot.false)
        (subst (λ (i : List ℕ). IsSpot ds (located c.args.self.now.main.now) c.args.self.now.behind_main i c.in-Some.above) (in_front path h.0 h.1 h.2) up) c.is_one_word.ensures
