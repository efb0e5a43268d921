use Rattle.sap_expect.proofs.Alone.{all_fewer, one_keeps}
use Rattle.sap_expect.proofs.Taken.{all_more, file_goes, goes_file}
use Rattle.sap_expect.proofs.expected_laws.levels_that_count.Goals as goal

pub returns : goal.returns
returns c = record {
  file = goes_file;
  goes = file_goes;
  more = λ s ws g. (g.0, g.1, all_more s g.2);
  alone = λ d ws g. (g.0, g.1, all_fewer d g.2);
  kept = one_keeps;
}
