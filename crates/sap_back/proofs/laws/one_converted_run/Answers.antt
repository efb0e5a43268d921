use Rattle.sap_back.proofs.OneConverted.{one_converted, one_in_turn}
use Rattle.sap_back.proofs.laws.one_converted_run.Goals as goal

pub returns : goal.returns
returns c = record {
  in_turn = one_in_turn;
  run = λ g p q rule_lines lines others pairs hold ready small annotated.
      one_converted g q rule_lines (c.rule_runs_have_one_answer.ensures g p q rule_lines pairs hold ready small annotated).one_run lines others;
}
