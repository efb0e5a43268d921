use Rattle.sap_replay.proofs.Lines.{both_put}
use Rattle.sap_replay.proofs.verdicts.verdicts_on.Goals as goal

pub returns : goal.returns
returns c = λ g m h k. both_put g c.args.trace.now c.args.restrictions.now c.args.lemmas.now _ _ _ c.new-text.ensures (c.in_ok-push_restrictions.ensures g m h) (c.in_ok-push_lemmas.ensures g m k)
