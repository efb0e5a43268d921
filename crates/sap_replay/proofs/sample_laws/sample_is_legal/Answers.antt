use Rattle.sap_replay.proofs.SampleLegal.{legal}
use Rattle.sap_replay.proofs.sample_laws.sample_is_legal.Goals as goal

pub returns : goal.returns
returns c =
    legal c.leaves_are_normal.ensures c.names_are_messages.ensures c.destructors_head_left_sides.ensures c.normal_forms_are_unique.ensures
