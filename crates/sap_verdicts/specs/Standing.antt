-- Whether a run counts: whether each restriction of the file is true on what it shows.
use Rattle.std.specs.Prelude.{◌≡◌, ◌⊎◌, List, [], ◌∷◌}
use Rattle.sap_judge.specs.declared.verdict.Verdict.{Verdict}
use Rattle.sap_judge.specs.declared.verdict.Verdict.TheVariants.{Holds, Fails, TooCostly}
use Rattle.sap_verdicts.specs.Findings.{Found}
use Rattle.sap_verdicts.specs.declared.standing.Standing.{Standing}
use Rattle.sap_verdicts.specs.declared.standing.Standing.TheVariants.{Counts, Excluded, Undecided}
use Rattle.sap_verdicts.specs.declared.statement.Statement.{Statement}
use Rattle.sap_verdicts.specs.declared.statement.Statement.TheVariants.{Restriction, Lemma}

-- one verdict more on a formula; those on lemmas say nothing
abbrev pub with_verdict : Statement → Verdict → Standing → Standing
with_verdict (Lemma m) v s = s
with_verdict Restriction Holds s = s
with_verdict Restriction Fails s = Excluded
with_verdict Restriction (TooCostly c) Counts = Undecided
with_verdict Restriction (TooCostly c) Excluded = Excluded
with_verdict Restriction (TooCostly c) Undecided = Undecided

-- it counts where all restrictions hold; it doesn't where one fails; else one is too costly to tell
abbrev pub standing : List Found → Standing
standing [] = Counts
standing (y ∷ ys) = with_verdict y.what y.verdict (standing ys)

-- it holds, if it is a restriction
abbrev pub IsKept : Found → Type 0
IsKept y = y.what ≡ Restriction → y.verdict ≡ Holds

-- it is a restriction, and fails
abbrev pub IsBroken : Found → Type 0
IsBroken y = (y.what ≡ Restriction) × (y.verdict ≡ Fails)

-- one of them is so
abbrev pub SomeIn : (Found → Type 0) → List Found → Type 0
SomeIn P [] = ⊥
SomeIn P (y ∷ ys) = P y ⊎ SomeIn P ys
