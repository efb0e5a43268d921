-- Lines of small runs of rules with lines of the process, to try by hand where a `know` stands, and which numbers lines name.
use Rattle.std.specs.Prelude.{List, [], ◌∷◌, codes}
use Rattle.sap_terms.specs.AdversaryFacts.{k_fact, linear}
use Rattle.sap_terms.specs.Trace.{Trace}
use Rattle.sap_terms.specs.Tree.{public}
use Rattle.sap_terms.specs.declared.fact.Fact.{Fact}
use Rattle.sap_restrict.specs.ReservedFacts.{event_fact, init_fact, input_fact}
use Rattle.sap_rule.specs.declared.rule.Rule.{Rule}
use Rattle.sap_rule_lines.specs.RuleLines.{init_line}
use Rattle.sap_runs.specs.declared.process_step.PStep.{PStep}
use Rattle.sap_runs.specs.declared.process_step.PStep.TheVariants as line
use Rattle.sap_runs.specs.declared.rule_step.RStep.{RStep}
use Rattle.sap_runs.specs.declared.rule_step.RStep.TheVariants.{Apply, Know, Learn, Public}
use Rattle.sap_back.specs.LinesFor.{uses}

-- an entry is made and given, another is made and given, an input takes it, it is given once more, an event is shown
abbrev pub given_rule_lines : List RStep
given_rule_lines =
    init_line ∷ Public (codes "x") ∷ Know 0 ∷ Public (codes "y") ∷ Know 1 ∷ uses (codes "In_") [] (0 ∷ 2 ∷ []) []
    ∷ Know 1 ∷ uses (codes "Event_") (1 ∷ []) (3 ∷ []) [] ∷ []

-- what they show
abbrev pub given_shown : Trace
given_shown =
    (init_fact ∷ []) ∷ [] ∷ (k_fact (public (codes "x")) ∷ []) ∷ [] ∷ (k_fact (public (codes "y")) ∷ []) ∷ (input_fact (public (codes "y")) ∷ [])
    ∷ (k_fact (public (codes "y")) ∷ []) ∷ (event_fact ∷ []) ∷ []

-- the lines of the process: entry 0 is shown where entry 1 is given, which the input takes; then entry 1 is shown before the event
abbrev pub given_lines : List PStep
given_lines = line.Public (codes "x") ∷ line.Public (codes "y") ∷ line.Know 0 ∷ line.In 0 1 ∷ line.Know 1 ∷ line.Event 0 ∷ []

-- a replication is copied twice, and the second copy, whose fact has the number 3, shows its event; the first is the same but for that
abbrev pub copied_rule_lines : List RStep
copied_rule_lines =
    init_line ∷ uses (codes "RepStart_") [] (0 ∷ []) [] ∷ uses (codes "RepCopy_") [] (1 ∷ []) [] ∷ uses (codes "RepCopy_") [] (1 ∷ []) []
    ∷ uses (codes "Event_") (1 ∷ []) (3 ∷ []) [] ∷ []

abbrev pub copied_shown : Trace
copied_shown = (init_fact ∷ []) ∷ [] ∷ [] ∷ [] ∷ (event_fact ∷ []) ∷ []

-- it is thread 2
abbrev pub copied_lines : List PStep
copied_lines = line.Rep 0 ∷ line.Rep 0 ∷ line.Event 2 ∷ []

-- a term is put out, a public name is written down, then once more, and then the adversary learns what was put out; a symbol is applied
-- to the second of the two equal names, and to what was learned
abbrev pub learned_rule_lines : List RStep
learned_rule_lines =
    init_line ∷ uses (codes "Out_") [] (0 ∷ []) [] ∷ Public (codes "x") ∷ Public (codes "x") ∷ Learn 1 ∷ Apply (codes "f") (1 ∷ 2 ∷ []) ∷ []

abbrev pub learned_shown : Trace
learned_shown = (init_fact ∷ []) ∷ [] ∷ [] ∷ [] ∷ [] ∷ [] ∷ []

-- what was put out is entry 0 of the process
abbrev pub learned_lines : List PStep
learned_lines = line.Out 0 ∷ line.Public (codes "x") ∷ line.Public (codes "x") ∷ line.Apply (codes "f") (2 ∷ 0 ∷ []) ∷ []

-- a fact
abbrev pub some_fact : Fact
some_fact = linear (codes "F") []

-- two embedded rules, of which the first adds two facts that are the same, beside that of its thread
abbrev pub embedded_rules : List Rule
embedded_rules =
    (record { name = codes "Rule_"; left = []; acts = []; right = some_fact ∷ some_fact ∷ some_fact ∷ [] })
    ∷ (record { name = codes "Rule_1"; left = []; acts = []; right = some_fact ∷ [] }) ∷ []

-- the second takes the second of them
abbrev pub embedded_rule_lines : List RStep
embedded_rule_lines = init_line ∷ uses (codes "Rule_") [] (0 ∷ []) [] ∷ uses (codes "Rule_") (1 ∷ []) (1 ∷ 3 ∷ []) [] ∷ []

abbrev pub embedded_shown : Trace
embedded_shown = (init_fact ∷ []) ∷ [] ∷ [] ∷ []

-- which is fact 1 of the process
abbrev pub embedded_lines : List PStep
embedded_lines = line.Embedded 0 [] [] ∷ line.Embedded 0 (1 ∷ []) [] ∷ []

-- what the run shows whose `know` waits among silent lines: x is the term that is put out
abbrev pub waiting_shown : Trace
waiting_shown =
    (init_fact ∷ []) ∷ [] ∷ [] ∷ [] ∷ [] ∷ (k_fact (public (codes "a")) ∷ []) ∷ [] ∷ [] ∷ [] ∷ (event_fact ∷ []) ∷ (k_fact (public (codes "x")) ∷ [])
    ∷ (input_fact (public (codes "x")) ∷ []) ∷ (k_fact (public (codes "a")) ∷ []) ∷ []

-- and the one with a channel
abbrev pub sending_shown : Trace
sending_shown =
    (init_fact ∷ []) ∷ [] ∷ [] ∷ [] ∷ [] ∷ [] ∷ [] ∷ (k_fact (public (codes "c")) ∷ []) ∷ [] ∷ [] ∷ (input_fact (public (codes "c")) ∷ [])
    ∷ (k_fact (public (codes "n")) ∷ []) ∷ [] ∷ [] ∷ (k_fact (public (codes "m")) ∷ []) ∷ [] ∷ []
