use Rattle.sap_replay.proofs.JudgedTexts.{judged_texts}
use Rattle.sap_replay.proofs.laws.written_runs_are_judged_alike.Goals as goal

pub returns : goal.returns
returns c = judged_texts
