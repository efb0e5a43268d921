use Rattle.sap_lines.proofs.OneChannel.{one_channel, channel_answer, missing_channels}
use Rattle.sap_lines.proofs.laws.channels_are_one.Goals as goal

pub returns-clause-one : goal.returns-clause-one
returns-clause-one c = one_channel c.normal_forms_are_unique.ensures

pub returns-clause-answer : goal.returns-clause-answer
returns-clause-answer c = channel_answer

pub returns-clause-cause : goal.returns-clause-cause
returns-clause-cause c = missing_channels
