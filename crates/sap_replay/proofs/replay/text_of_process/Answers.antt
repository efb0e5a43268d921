use Rattle.sap_replay.specs.Replays.{to_process}
use Rattle.sap_replay.proofs.replay.text_of_process.Goals as goal

pub returns-clause-given : goal.returns-clause-given
returns-clause-given c = rw c.in_ok-print_prun.ensures.text (to_process _ c.in_ok-lines.ensures.given c.in_ok-print_prun.ensures.numbers)
