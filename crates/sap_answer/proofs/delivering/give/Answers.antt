use Rattle.std.proofs.Common.{rules, refl}
use Rattle.sap_answer.specs.Answer.{whole, broken, wanting}
use Rattle.sap_answer.proofs.Appending.{nothing_put, write_fault_is, memory_is}
use Rattle.sap_answer.proofs.delivering.give.Goals as goal

pub returns-in-Ok : goal.returns-in-Ok
returns-in-Ok g c = whole refl (c.in-Ok.ensures.whole, nothing_put _ _)

pub returns-in-Err-Failed : goal.returns-in-Err-Failed
returns-in-Err-Failed g c =
    let part = c.in-Err-Failed.ensures.part in
    let word = c.last_word.ensures.ends in
    broken part.0 word.0 c.last_word.ensures.status (c.put_pieces.ensures.cause (search rules))
    (part.1, (word.1, c.last_word.ensures.asked write_fault_is)) word.2

pub returns-in-Err-Mem : goal.returns-in-Err-Mem
returns-in-Err-Mem g c =
    let part = c.in-Err-Mem.ensures.part in
    let word = c.last_word-in-Err-Mem.ensures.ends in
    wanting part.0 word.0 c.last_word-in-Err-Mem.ensures.status (c.put_pieces.ensures.want (search rules))
    (part.1, (word.1, c.last_word-in-Err-Mem.ensures.asked memory_is)) word.2
