use Rattle.std.proofs.Common.{[], ◌∷◌, Some, None, arith}
use Rattle.sap_nodes.specs.NodeExamples.{many, three_names, locked}
use Rattle.sap_nodes.proofs.FullByHand.{no_other, third_name, the_lock, below_the_lock, other_node}
use Rattle.sap_nodes.proofs.laws.filled_by_hand.Goals as goal

pub returns-clause-third : goal.returns-clause-third
returns-clause-third c = third_name

pub returns-clause-not_second : goal.returns-clause-not_second
returns-clause-not_second c =
    no_other (many 62) three_names (1 ∷ []) 0 0 (Some 4) (Some 3) third_name (λ h. other_node 4 3 (λ e. omega (arith, e)) h.1)

pub returns-clause-lock : goal.returns-clause-lock
returns-clause-lock c = the_lock

pub returns-clause-not_below : goal.returns-clause-not_below
returns-clause-not_below c = no_other (many 64) locked (1 ∷ 1 ∷ []) 0 1 None (Some 0) the_lock (λ h. let e = h.0 in omega (arith, e))

pub returns-clause-below : goal.returns-clause-below
returns-clause-below c = below_the_lock

pub returns-clause-not_lock : goal.returns-clause-not_lock
returns-clause-not_lock c = no_other (many 63) locked (1 ∷ 1 ∷ []) 1 0 (Some 0) None below_the_lock (λ h. let e = h.0 in omega (arith, e))
