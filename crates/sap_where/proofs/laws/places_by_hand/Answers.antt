use Rattle.std.proofs.Common.{refl}
use Rattle.sap_where.proofs.PlacesByHand.{again, alone, no_begin, no_name, no_word, not_before, not_first_stated, not_last, stated_again}
use Rattle.sap_where.proofs.DeclaredByHand.{builtin_clashes, function_clashes, not_behind, not_declared_first, not_once, not_the_first, not_the_same, not_the_second, not_the_third, twice_at}
use Rattle.sap_where.proofs.laws.places_by_hand.Goals as goal

pub returns : goal.returns
returns c = record {
  byte = refl;
  headers = (no_begin, no_name, no_word, not_last);
  names = (again, not_before, alone, stated_again, not_first_stated);
  parameters = (twice_at, not_once, not_the_first, not_the_third, not_behind);
  clashes = (builtin_clashes, function_clashes);
  no_clashes = (not_declared_first, not_the_same, not_the_second);
}
