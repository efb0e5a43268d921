use Rattle.std.proofs.Common.{◌≡◌, ℕ, List, length}
use Rattle.sap_macro.specs.Sources.{definitions, located}
use Rattle.sap_origin.specs.Definitions.{located_definitions}
use Rattle.sap_roles.specs.code.Steps.{Tells, way_of}
use Rattle.sap_roles.proofs.role.role_of.Given as goal

abbrev pub invariant-loop-step : goal.invariant-loop-step
invariant-loop-step l =
    (ns : List ℕ) (behind : ℕ) → length ns ≡ length l.fn.defs → Tells (definitions l.fn.defs) (located_definitions l.fn.defs ns) l.fn.path behind (located l.fn.main) l.step

abbrev pub decreases-loop-step : goal.decreases-loop-step
decreases-loop-step l = way_of l.fn.path l.step
