-- The plain values of what slots are laid out by, without the addresses of their parts.
use Rattle.std.specs.Prelude.{[], ◌∷◌}
use Rattle.sap_judge.specs.Guards.{Action}
use Rattle.sap_judge.specs.code.Ready.{Layers, Place, inside, place_of}
use Rattle.sap_judge.specs.declared.laying.ActionAtom.{ActionAtom}
use Rattle.sap_judge.specs.declared.laying.Levels.{Levels}
use Rattle.sap_judge.specs.declared.laying.Levels.TheVariants.{Outside, Inside'}
use Rattle.sap_judge.specs.declared.laying.Spot.{Spot}
use Rattle.sap_judge.specs.declared.laying.Spot.TheVariants.{Anywhere, Guards}

-- the names of the slots, the innermost quantifier first
abbrev pub layers : Levels → Layers
layers Outside = []
layers (Inside' names a outer) = names.now ∷ layers outer

-- where an atom stands
abbrev pub place : Spot → Place
place (Anywhere levels) = inside (layers levels.now)
place (Guards bs levels) = place_of bs.now (layers levels.now)

-- an action atom as it is written
abbrev pub action : ActionAtom → Action
action a = record { pattern = a.fact.now; time = a.time.now }
