-- The line of a verdict: what the formula is, whether it is true on the run, what that says of the file, and why.
use Rattle.std.specs.Prelude.{ℕ, codes, decimal, flat_map, slice_get, List, [], ◌∷◌, ◌++◌, Option, Some, None, map}
use Rattle.sap_called.specs.NamedTerms.{named}
use Rattle.sap_called.specs.Names.{Draw}
use Rattle.sap_formula.specs.declared.binder.Binder.{Binder}
use Rattle.sap_formula.specs.declared.binder.Binder.TheVariants.{Message, Time}
use Rattle.sap_formula.specs.declared.lemma.Mode.TheVariants.{AllTraces, ExistsTrace}
use Rattle.sap_grammar.specs.TermText.{tree_text, variable_text}
use Rattle.sap_judge.specs.declared.verdict.Verdict.{Verdict}
use Rattle.sap_judge.specs.declared.verdict.Verdict.TheVariants.{Holds, Fails, TooCostly}
use Rattle.sap_match.specs.Atoms.{Held, held_term, held_time}
use Rattle.sap_search.specs.Claims.{Chosen}
use Rattle.sap_verdicts.specs.Findings.{Found}
use Rattle.sap_verdicts.specs.Standing.{standing}
use Rattle.sap_verdicts.specs.declared.standing.Standing.{Standing}
use Rattle.sap_verdicts.specs.declared.standing.Standing.TheVariants.{Counts, Excluded, Undecided}
use Rattle.sap_verdicts.specs.declared.statement.Statement.{Statement}
use Rattle.sap_verdicts.specs.declared.statement.Statement.TheVariants.{Restriction, Lemma}

-- what the formula is
abbrev pub kind_text : Statement → List ℕ
kind_text Restriction = codes " (restriction)"
kind_text (Lemma AllTraces) = codes " (all-traces)"
kind_text (Lemma ExistsTrace) = codes " (exists-trace)"

-- the verdict, with the cost where that is too high
abbrev pub verdict_words : Verdict → List ℕ
verdict_words Holds = codes "holds"
verdict_words Fails = codes "fails"
verdict_words (TooCostly cost) = codes "too costly: " ++ (decimal cost ++ codes ", the most is 10000000")

-- what decides a lemma where the run counts
abbrev pub decided : List ℕ → Standing → List ℕ
decided what Counts = codes ", " ++ what
decided what Excluded = codes ", but this run doesn't count"
decided what Undecided = codes ", if this run counts"

-- what the verdict says of the file
abbrev pub conclusion : Statement → Verdict → Standing → List ℕ
conclusion s (TooCostly cost) c = []
conclusion Restriction Holds c = []
conclusion Restriction Fails c = codes ", so this run doesn't count"
conclusion (Lemma AllTraces) Holds c = codes " on this run"
conclusion (Lemma AllTraces) Fails c = decided (codes "so it is false") c
conclusion (Lemma ExistsTrace) Holds c = decided (codes "so it is true") c
conclusion (Lemma ExistsTrace) Fails c = codes " on this run"

-- the number of the line that shows the time
abbrev pub number_or_none : Option ℕ → ℕ
number_or_none None = 0
number_or_none (Some n) = n

-- a variable and what it stands for: a term with its names as they are called, or a time by the line that shows it
abbrev pub choice_text : List Draw → List ℕ → Binder → Held → List ℕ
choice_text ds lines (Message v) (held_term t) = variable_text v ++ (codes " = " ++ tree_text (named ds t))
choice_text ds lines (Message v) (held_time k) = []
choice_text ds lines (Time n) (held_term t) = []
choice_text ds lines (Time n) (held_time k) = codes "#" ++ (n ++ (codes " = line " ++ decimal (number_or_none (slice_get lines k))))

-- each behind a comma
abbrev pub more_choices : List Draw → List ℕ → List Chosen → List ℕ
more_choices ds lines [] = []
more_choices ds lines (c ∷ cs) = codes ", " ++ (choice_text ds lines c.binder c.value ++ more_choices ds lines cs)

-- the reason, where choices are told, behind two hyphens
abbrev pub reason_text : List Draw → List ℕ → List Chosen → List ℕ
reason_text ds lines [] = []
reason_text ds lines (c ∷ cs) = codes " -- " ++ (choice_text ds lines c.binder c.value ++ more_choices ds lines cs)

-- the line of a formula, without its line feed
abbrev pub verdict_line : List Draw → List ℕ → Standing → Found → List ℕ
verdict_line ds lines c y =
    y.name ++ (kind_text y.what ++ (codes ": " ++ (verdict_words y.verdict ++ (conclusion y.what y.verdict c ++ reason_text ds lines y.reason))))

-- the lines of all, by whether the run counts
abbrev pub verdict_lines : List Draw → List ℕ → List Found → List (List ℕ)
verdict_lines ds lines ys = map (verdict_line ds lines (standing ys)) ys

-- and their text
abbrev pub verdicts_text : List Draw → List ℕ → List Found → List ℕ
verdicts_text ds lines ys = flat_map (λ line. line ++ codes "\n") (verdict_lines ds lines ys)

-- the row that shows a time which is told, by its line's number, with the formula's name and the variable
abbrev pub choice_marks : List ℕ → List ℕ → Binder → Held → List (ℕ × List ℕ)
choice_marks lines name (Time n) (held_time k) = (number_or_none (slice_get lines k), name ++ (codes " #" ++ n)) ∷ []
choice_marks lines name (Time n) (held_term t) = []
choice_marks lines name (Message v) h = []

-- those of a formula, choice by choice, and those of all
abbrev pub found_marks : List ℕ → Found → List (ℕ × List ℕ)
found_marks lines y = flat_map (λ c. choice_marks lines y.name c.binder c.value) y.reason

abbrev pub verdict_marks : List ℕ → List Found → List (ℕ × List ℕ)
verdict_marks lines ys = flat_map (found_marks lines) ys
