use Rattle.std.proofs.Common.{◌≡◌, ◌∷◌, ◌++◌, drop}
use Rattle.std.specs.Prelude.{filter_map, slice_get}
use Rattle.sap_forward.proofs.embedding.looked_up.Given as goal

abbrev pub invariant-loop-place : goal.invariant-loop-place
invariant-loop-place l = l.numbers ++ filter_map (slice_get l.table) (drop l.place-index l.place-items) ≡ l.first ∷ filter_map (slice_get l.table) l.places
