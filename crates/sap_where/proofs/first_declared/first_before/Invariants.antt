use Rattle.std.proofs.Common.{◌≡◌, ◌≤◌, ◌<◌, ◌-◌, ℕ}
use Rattle.std.specs.Prelude.{codes}
use Rattle.sap_where.specs.FileDeclarations.{in_item, is_next}
use Rattle.sap_where.specs.OtherPlaces.{DeclaresAt}
use Rattle.sap_where.proofs.first_declared.first_before.Given as goal

abbrev pub invariant-loop-k : goal.invariant-loop-k
invariant-loop-k l = record {
  builtins : l.before.builtins ≡ in_item l.bytes l.tokens (codes "builtins") l.k;
  functions : l.before.functions ≡ in_item l.bytes l.tokens (codes "functions") l.k;
  next : l.before.next ≡ is_next l.bytes l.tokens l.k;
  on : l.k ≤ l.end;
  none : (i : ℕ) → i < l.k → DeclaresAt l.bytes l.tokens l.name i → ⊥;
}

abbrev pub decreases-loop-k : goal.decreases-loop-k
decreases-loop-k l = l.end - l.k
