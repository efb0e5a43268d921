use Rattle.std.proofs.Common.{Ok, Err, refl}
use Rattle.sap_replay.specs.Sample.{sample_file_text, told_sample}
use Rattle.sap_replay.proofs.SampleRead.{is_memory, never_refused, only_told}
use Rattle.sap_replay.proofs.sample.sample_file.Goals as goal

pub returns-in-Ok-clause-tells : goal.returns-in-Ok-clause-tells
returns-in-Ok-clause-tells c =
    only_told _ (c.one_file.ensures sample_file_text (Ok told_sample) _ c.sample_is_read.ensures c.in-Ok.ensures.accepted)

pub want_of_memory-requires : goal.want_of_memory-requires
want_of_memory-requires c =
    is_memory _ (λ other. never_refused _ (c.one_file.ensures sample_file_text (Ok told_sample) (Err _) c.sample_is_read.ensures (c.in-Err.ensures.refused _ refl other)))
