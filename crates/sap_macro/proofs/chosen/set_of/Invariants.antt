use Rattle.std.proofs.Common.{◌≡◌, ℕ, List, take}
use Rattle.std.specs.List.{list_any}
use Rattle.std.specs.Str.{bytes_eq}
use Rattle.sap_terms.specs.Variables.{is_known}
use Rattle.sap_macro.proofs.chosen.set_of.Given as goal

abbrev pub invariant-loop-k : goal.invariant-loop-k
invariant-loop-k l = (x : List ℕ) → list_any (bytes_eq x) l.set ≡ is_known (take l.k l.names) x
