-- Lines of verdicts by hand.
use Rattle.std.specs.Prelude.{◌≡◌, ℕ, codes, List, [], ◌∷◌}
use Rattle.sap_called.specs.Names.{Draw, draw}
use Rattle.sap_formula.specs.declared.binder.Binder.TheVariants.{Message, Time}
use Rattle.sap_formula.specs.declared.lemma.Mode.TheVariants.{AllTraces, ExistsTrace}
use Rattle.sap_judge.specs.declared.verdict.Verdict.TheVariants.{Holds, Fails, TooCostly}
use Rattle.sap_match.specs.Atoms.{held_term, held_time}
use Rattle.sap_search.specs.Claims.{Chosen}
use Rattle.sap_terms.specs.Tree.{fresh}
use Rattle.sap_terms.specs.declared.var.Sort.TheVariants.{Fresh, Msg}
use Rattle.sap_judge.specs.declared.verdict.Verdict.{Verdict}
use Rattle.sap_verdicts.specs.Findings.{Found}
use Rattle.sap_verdicts.specs.VerdictText.{verdict_line, verdicts_text}
use Rattle.sap_verdicts.specs.declared.standing.Standing.{Standing}
use Rattle.sap_verdicts.specs.declared.statement.Statement.{Statement}
use Rattle.sap_verdicts.specs.declared.standing.Standing.TheVariants.{Counts, Excluded, Undecided}
use Rattle.sap_verdicts.specs.declared.statement.Statement.TheVariants.{Restriction, Lemma}

-- the names of the run
abbrev pub two_names : List Draw
two_names = draw 0 (codes "handle") ∷ draw 1 (codes "key") ∷ []

-- the lines that show its times
abbrev pub five_and_twenty : List ℕ
five_and_twenty = 5 ∷ 11 ∷ 17 ∷ 20 ∷ []

-- handle, key, #i, #j
abbrev pub four_choices : List Chosen
four_choices =
    record { binder = Message (record { name = codes "handle"; sort = Msg }); value = held_term (fresh 0) }
    ∷ record { binder = Message (record { name = codes "key"; sort = Fresh }); value = held_term (fresh 1) }
    ∷ record { binder = Time (codes "i"); value = held_time 0 }
    ∷ record { binder = Time (codes "j"); value = held_time 3 }
    ∷ []

-- what is found, without a reason
abbrev pub said : List ℕ → Statement → Verdict → Found
said name what v = record { name = name; what = what; verdict = v; reason = [] }

-- a lemma of all traces that fails, with the four choices
abbrev pub secret : Found
secret = record (said (codes "secret") (Lemma AllTraces) Fails) { reason = four_choices }

-- restrictions
abbrev pub once : Verdict → Found
once v = said (codes "once") Restriction v

-- what is found, and whether the run counts
abbrev pub standings : List (List Found × Standing)
standings =
    ([], Counts)
    ∷ (once Holds ∷ once Holds ∷ secret ∷ [], Counts)
    ∷ (once Holds ∷ once Fails ∷ once Holds ∷ [], Excluded)
    ∷ (once (TooCostly 10000001) ∷ once Fails ∷ [], Excluded)
    ∷ (once Fails ∷ once (TooCostly 10000001) ∷ [], Excluded)
    ∷ (once Holds ∷ once (TooCostly 10000001) ∷ once Holds ∷ [], Undecided)
    ∷ (once Holds ∷ said (codes "heavy") (Lemma ExistsTrace) (TooCostly 10000001) ∷ [], Counts)
    ∷ []

-- lines, and their texts
abbrev pub lines : List (List ℕ × List ℕ)
lines =
    (verdict_line two_names five_and_twenty Counts secret, codes "secret (all-traces): fails, so it is false -- handle = ~handle.1, ~key = ~key.1, #i = line 5, #j = line 20")
    ∷ (verdict_line two_names five_and_twenty Excluded (said (codes "secret") (Lemma AllTraces) Fails), codes "secret (all-traces): fails, but this run doesn't count")
    ∷ (verdict_line [] [] Undecided (said (codes "secret") (Lemma AllTraces) Fails), codes "secret (all-traces): fails, if this run counts")
    ∷ (verdict_line [] [] Excluded (said (codes "secret") (Lemma AllTraces) Holds), codes "secret (all-traces): holds on this run")
    ∷ (verdict_line [] [] Counts (said (codes "opens") (Lemma ExistsTrace) Holds), codes "opens (exists-trace): holds, so it is true")
    ∷ (verdict_line [] [] Excluded (said (codes "opens") (Lemma ExistsTrace) Holds), codes "opens (exists-trace): holds, but this run doesn't count")
    ∷ (verdict_line [] [] Undecided (said (codes "opens") (Lemma ExistsTrace) Holds), codes "opens (exists-trace): holds, if this run counts")
    ∷ (verdict_line [] [] Counts (said (codes "opens") (Lemma ExistsTrace) Fails), codes "opens (exists-trace): fails on this run")
    ∷ (verdict_line [] [] Counts (once Holds), codes "once (restriction): holds")
    ∷ (verdict_line [] [] Excluded (once Fails), codes "once (restriction): fails, so this run doesn't count")
    ∷ (verdict_line [] [] Excluded (said (codes "heavy") (Lemma AllTraces) (TooCostly 12400000)), codes "heavy (all-traces): too costly: 12400000, the most is 10000000")
    ∷ (verdict_line [] [] Undecided (once (TooCostly 10000001)), codes "once (restriction): too costly: 10000001, the most is 10000000")
    ∷ []

-- a restriction that fails, beside a lemma that fails
abbrev pub two_lines : Type 0
two_lines =
    verdicts_text [] [] (once Fails ∷ said (codes "secret") (Lemma AllTraces) Fails ∷ [])
    ≡ codes "once (restriction): fails, so this run doesn't count\nsecret (all-traces): fails, but this run doesn't count\n"
