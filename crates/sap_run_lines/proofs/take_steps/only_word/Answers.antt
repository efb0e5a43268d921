use Rattle.std.proofs.Common.{◌≡◌, ◌<◌, [], length, Some, None, sym, arith}
use Rattle.std.proofs.lemmas.Grind.{common_steps}
use Rattle.sap_run_lines.specs.code.WordTaking.{line_word, word_at, behind_blank}
use Rattle.sap_run_lines.proofs.WordsOn.{only_none, only_last, only_more}
use Rattle.sap_run_lines.proofs.take_steps.only_word.Goals as goal

pub returns-in-None : goal.returns-in-None
returns-in-None c =
    let none : behind_blank word_at c.args.bytes.now ≡ None = rw c.in-None.is at c.in_ok-word_behind.ensures in
    sym (only_none c.args.bytes.now none)

pub returns-then-is_empty : goal.returns-then-is_empty
returns-then-is_empty c =
    let is : behind_blank word_at c.args.bytes.now ≡ Some (line_word c.in-Some.word, c.in-Some.rest.now) = rw c.in-Some.is at c.in_ok-word_behind.ensures in
    let none : c.in-Some.rest.now ≡ [] = grind (arith, common_steps) in
    sym (only_last c.args.bytes.now c.in-Some.rest.now (line_word c.in-Some.word) is none)

pub returns-else-is_empty : goal.returns-else-is_empty
returns-else-is_empty c =
    let is : behind_blank word_at c.args.bytes.now ≡ Some (line_word c.in-Some.word, c.in-Some.rest.now) = rw c.in-Some.is at c.in_ok-word_behind.ensures in
    let some : 0 < length c.in-Some.rest.now = grind (arith, common_steps) in
    sym (only_more c.args.bytes.now c.in-Some.rest.now (line_word c.in-Some.word) is some)
