use Rattle.std.proofs.Common.{rules, inl, inr}
use Rattle.sap_answer.proofs.Appending.{word_whole, word_cut}
use Rattle.sap_answer.proofs.delivering.last_word.Goals as goal

pub returns-in-Ok-clause-ends : goal.returns-in-Ok-clause-ends
returns-in-Ok-clause-ends g c = word_whole _ _ _ _ c.in-Ok.ensures.whole

pub returns-in-Err-Failed-clause-ends : goal.returns-in-Err-Failed-clause-ends
returns-in-Err-Failed-clause-ends g c = word_cut _ _ _ _ c.in-Err-Failed.ensures.part (inl (c.put.ensures.cause (search rules)))

pub returns-in-Err-Mem-clause-ends : goal.returns-in-Err-Mem-clause-ends
returns-in-Err-Mem-clause-ends g c = word_cut _ _ _ _ c.in-Err-Mem.ensures.part (inr (c.put.ensures.want (search rules)))
