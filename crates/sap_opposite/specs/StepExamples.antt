-- Small runs of rules with those of the process that they are converted to, to try by hand which lines are opposite.
use Rattle.std.specs.Prelude.{List, [], ◌∷◌, codes}
use Rattle.sap_runs.specs.declared.process_step.PStep.{PStep}
use Rattle.sap_runs.specs.declared.process_step.PStep.TheVariants as line
use Rattle.sap_runs.specs.declared.rule_step.RStep.{RStep}
use Rattle.sap_runs.specs.declared.rule_step.RStep.TheVariants.{Apply, Fresh, Know, Learn, Own, Public, Rule}

-- Of `new n; (event A() | out(n); in(x))` a run whose `know` waits among lines that have none: 1 all starts, 2 Fr is made, 3 taken, 4 there
-- are two threads, 5 what the adversary writes down is 6 given, 7 another Fr is made, 8 a term is put out, 9 learned, 10 an event is shown,
-- before which what was given is written, 11 what was learned is given, 12 taken, 13 what was written down is given once more
abbrev pub waiting_rule_lines : List RStep
waiting_rule_lines =
    Rule (codes "Init") [] [] ∷ Fresh 0 ∷ Rule (codes "New_") (0 ∷ 1 ∷ []) [] ∷ Rule (codes "Par_1") (2 ∷ []) [] ∷ Public (codes "a") ∷ Know 0
    ∷ Fresh 1 ∷ Rule (codes "Out_12") (4 ∷ []) [] ∷ Learn 7 ∷ Rule (codes "Event_11") (3 ∷ []) [] ∷ Know 1 ∷ Rule (codes "In_121") (8 ∷ 10 ∷ []) []
    ∷ Know 0 ∷ []

abbrev pub waiting_lines : List PStep
waiting_lines =
    line.New 0 0 ∷ line.Par 0 ∷ line.Public (codes "a") ∷ line.Out 1 ∷ line.Know 0 ∷ line.Event 0 ∷ line.In 1 1 ∷ line.Know 0 ∷ []

-- Of a process with a channel: one thread sends to another by 4 and 5, and goes on by 6; of three entries that the adversary gives, the one
-- of 8 is sent on by 11, that of 12 waits until the next is given by 15, and that until the end. A replication starts by 14.
abbrev pub sending_rule_lines : List RStep
sending_rule_lines =
    Rule (codes "Init") [] [] ∷ Rule (codes "Par_") (0 ∷ []) [] ∷ Fresh 5 ∷ Rule (codes "OutMsg_1") (1 ∷ 3 ∷ []) [] ∷ Rule (codes "InMsg_2") (2 ∷ 4 ∷ []) []
    ∷ Rule (codes "OutAck_1") (5 ∷ 6 ∷ []) [] ∷ Public (codes "c") ∷ Know 0 ∷ Fresh 6 ∷ Own 10 ∷ Rule (codes "OutAdv_21") (7 ∷ 9 ∷ []) [] ∷ Know 1
    ∷ Apply (codes "f") (0 ∷ []) ∷ Rule (codes "RepStart_11") (8 ∷ []) [] ∷ Know 2 ∷ Rule (codes "RepCopy_11") (14 ∷ []) [] ∷ []

abbrev pub sending_lines : List PStep
sending_lines =
    line.Par 0 ∷ line.Sync 0 1 ∷ line.Public (codes "c") ∷ line.Name 6 ∷ line.Send 1 0 ∷ line.Apply (codes "f") (0 ∷ []) ∷ line.Know 1 ∷ line.Rep 0
    ∷ line.Know 3 ∷ []
