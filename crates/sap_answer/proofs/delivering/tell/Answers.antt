use Rattle.std.proofs.Common.{rules, ap, ◌∙◌}
use Rattle.std.proofs.KnownBytes.{Appends-trans}
use Rattle.sap_answer.specs.Answer.{broken, wanting}
use Rattle.sap_outside.specs.Outside.{one_more}
use Rattle.sap_answer.proofs.Rises.{rose_later}
use Rattle.sap_answer.proofs.Appending.{last_of, cut_after_fault, cut_after_want, write_fault_is, memory_is}
use Rattle.sap_answer.proofs.delivering.tell.Goals as goal

pub returns-in-Err-Failed : goal.returns-in-Err-Failed
returns-in-Err-Failed g c = λ out none some.
    let part = c.in-Err-Failed.ensures.part in
    let failed = c.put.ensures.cause (search rules) in
    let word = c.last_word.ensures in
    broken part.0 word.ends.0 word.status (rose_later _ _ _ failed word.faults)
    (none, (Appends-trans _ _ _ _ _ part.1 word.ends.1, word.asked write_fault_is ∙ ap one_more (c.put.ensures.asked some)))
    (last_of _ _ (cut_after_fault _ _ _ _ _ _ failed word.faults c.put.ensures.later_wants) word.ends.2)

pub returns-in-Err-Mem : goal.returns-in-Err-Mem
returns-in-Err-Mem g c = λ out none some.
    let part = c.in-Err-Mem.ensures.part in
    let wanted = c.put.ensures.want (search rules) in
    let word = c.last_word-in-Err-Mem.ensures in
    wanting part.0 word.ends.0 word.status (rose_later _ _ _ wanted word.wants)
    (none, (Appends-trans _ _ _ _ _ part.1 word.ends.1, word.asked memory_is ∙ ap one_more (c.put.ensures.asked some)))
    (last_of _ _ (cut_after_want _ _ _ _ _ _ wanted word.wants c.put.ensures.later) word.ends.2)
