use Rattle.sap_back.proofs.LinesTried.{given, copied, learned, embedded}
use Rattle.sap_back.proofs.laws.numbers_by_hand.Goals as goal

pub returns : goal.returns
returns c = record {
  given = given;
  copied = copied;
  learned = learned;
  embedded = embedded;
}
