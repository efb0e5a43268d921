-- The guards of quantifiers, and the facts of a trace that have a name.
use Rattle.std.specs.Prelude.{ℕ, ◌+◌, List, [], ◌∷◌, ◌++◌, if◌then◌else◌}
use Rattle.std.specs.Str.{bytes_eq}
use Rattle.sap_formula.specs.Form.{Form, action, both, earlier, either, equal, equivalent, every, exists, falsity, implies, negation, same_time, truth}
use Rattle.sap_match.specs.Atoms.{Sight}
use Rattle.sap_terms.specs.Trace.{Trace}
use Rattle.sap_terms.specs.declared.fact.Fact.{Fact}

-- the facts of this name, at time k
abbrev pub sights_at : List ℕ → ℕ → List Fact → List Sight
sights_at n k [] = []
sights_at n k (x ∷ xs) = if bytes_eq n x.name then record { time = k; fact = x } ∷ sights_at n k xs else sights_at n k xs

-- at the times from k on
abbrev pub sights_from : List ℕ → ℕ → Trace → List Sight
sights_from n k [] = []
sights_from n k (p ∷ tr) = sights_at n k p ++ sights_from n (k + 1) tr

-- at all times of the trace
abbrev pub sights : List ℕ → Trace → List Sight
sights n tr = sights_from n 0 tr

-- an action atom as it is written
pub record Action : Type 0 where
  pub pattern : Fact
  pub time : List ℕ

-- those among the conjuncts
abbrev pub guards : Form → List Action
guards (both f g) = guards f ++ guards g
guards (action f i) = record { pattern = f; time = i } ∷ []
guards truth = []
guards falsity = []
guards (equal s t) = []
guards (same_time i j) = []
guards (earlier i j) = []
guards (negation f) = []
guards (either f g) = []
guards (implies f g) = []
guards (equivalent f g) = []
guards (every bs f) = []
guards (exists bs f) = []
