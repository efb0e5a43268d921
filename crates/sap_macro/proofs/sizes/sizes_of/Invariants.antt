use Rattle.std.proofs.Common.{◌≡◌, ℕ, List, drop}
use Rattle.sap_terms.specs.NameMap.{value_at}
use Rattle.sap_macro.specs.Sources.{definitions}
use Rattle.sap_macro.specs.KeptSizes.{levels_kept, nodes_kept}
use Rattle.sap_macro.specs.code.Sizes.{deeper, levels_of, nodes_of, plus, size_after}
use Rattle.sap_macro.proofs.sizes.sizes_of.Given as goal

abbrev pub invariant-loop-k : goal.invariant-loop-k
invariant-loop-k l = record {
  nodes : (f : List ℕ) → nodes_of (definitions l.defs) f ≡ size_after plus (λ g. nodes_kept (value_at l.sizes g)) (drop l.k (definitions l.defs)) f;
  levels : (f : List ℕ) → levels_of (definitions l.defs) f ≡ size_after deeper (λ g. levels_kept (value_at l.sizes g)) (drop l.k (definitions l.defs)) f;
}
