use Rattle.std.proofs.Common.{◌≡◌, ℕ, ◌+◌, ◌*◌, ◌||◌, List, drop}
use Rattle.std.specs.List.{list_any}
use Rattle.std.specs.Str.{bytes_eq}
use Rattle.sap_terms.specs.Tree.{node_count, trees_count, trees_of}
use Rattle.sap_terms.specs.View.{tree}
use Rattle.sap_formula.specs.code.Tests.{stands_in_any}
use Rattle.sap_formula.proofs.guards.+note_term.Given as goal

abbrev pub decreases-note_term : goal.decreases-note_term
decreases-note_term l = 2 * node_count (tree l.t.now)

abbrev pub decreases-note_terms : goal.decreases-note_terms
decreases-note_terms l = 2 * trees_count (trees_of l.ts.now) + 1

abbrev pub invariant-note_terms-loop-k : goal.invariant-note_terms-loop-k
invariant-note_terms-loop-k l = (n : List ℕ) → (stands_in_any n (trees_of l.ts) || list_any (bytes_eq n) l.initial.names) ≡ (stands_in_any n (trees_of (drop l.k l.ts)) || list_any (bytes_eq n) l.names)
