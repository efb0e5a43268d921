use Rattle.sap_back.proofs.LinesTried.{alone, in_order, symbol, waits, shown_next, taken, not_taken}
use Rattle.sap_back.proofs.laws.turns_by_hand.Goals as goal

pub returns : goal.returns
returns c = record {
  alone = alone;
  in_order = in_order;
  symbol = symbol;
  waits = waits;
  shown_next = shown_next;
  taken = taken;
  not_taken = not_taken;
}
