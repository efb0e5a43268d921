use Rattle.sap_rewrite.proofs.Choices.{extended_among}
use Rattle.sap_rewrite.proofs.WalkLemmas.{extends_none, extends_join}
use Rattle.sap_rewrite.proofs.laws.extensions_join.Goals as goal

pub returns : goal.returns
returns c = record {
  by_none = extends_none;
  in_turn = extends_join;
  bind_no_others = λ b c vs x v m. extended_among b vs c v x m;
}
