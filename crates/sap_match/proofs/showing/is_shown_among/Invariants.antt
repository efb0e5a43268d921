use Rattle.std.proofs.Common.{◌≡◌, drop, map}
use Rattle.std.specs.List.{list_any}
use Rattle.sap_match.specs.View.{atom, held}
use Rattle.sap_match.specs.Matched.{fits_atom}
use Rattle.sap_match.proofs.showing.is_shown_among.Given as goal

abbrev pub invariant-loop-x : goal.invariant-loop-x
invariant-loop-x l = record {
  rest : list_any (fits_atom l.n (atom l.a) (map held l.initial.values.items)) l.x-items ≡ list_any (fits_atom l.n (atom l.a) (map held l.initial.values.items)) (drop l.x-index l.x-items);
  same : l.values.items ≡ l.initial.values.items;
}
