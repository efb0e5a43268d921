-- Turns of the walk over what is wanted: n and `before` are the levels of what ended last and what is wanted before a turn, k and
-- `after` those then.
use Rattle.std.specs.Prelude.{◌<◌, ◌+◌, ℕ, Bool, true, false, List, [], ◌∷◌, Option, Some, None}
use Rattle.sap_grammar.specs.Words.{Word}
use Rattle.sap_expect.specs.declared.wanted.Part.{Part}
use Rattle.sap_expect.specs.declared.wanted.Part.TheVariants.{MoreBuiltins, MoreFunctions, Privacy, Process, Facts, Terms, Equivalence, Implication, Disjunction, Conjunction, Formula, Arguments, Then, Else, Application, Truth, MoreBinders}
use Rattle.sap_expect.specs.FileTable.{Counting, Open, TakesBy, Wanted, part}

-- more than what the part is otherwise
abbrev pub part_weight : Part → ℕ
part_weight MoreBuiltins = 2
part_weight MoreFunctions = 2
part_weight Privacy = 3
part_weight Process = 3
part_weight Arguments = 2
part_weight Then = 2
part_weight Else = 2
part_weight Facts = 3
part_weight Application = 2
part_weight Terms = 3
part_weight Equivalence = 11
part_weight Implication = 9
part_weight Disjunction = 7
part_weight Conjunction = 5
part_weight Formula = 3
part_weight Truth = 2
part_weight MoreBinders = 2
part_weight p = 1

abbrev pub weight : Wanted → ℕ
weight (part p l) = part_weight p
weight v = 1

abbrev pub total : List Open → ℕ
total [] = 0
total (v ∷ vs) = weight v.0 + total vs

-- the word goes on where the one is wanted as where the other is, where levels count so
pub record SameTakes (s : Counting) (n : ℕ) (before : List Open) (w : Word) (k : ℕ) (after : List Open) : Type 0 where
  pub on : (j : ℕ) (next : List Open) → TakesBy s k after w j next → TakesBy s n before w j next
  pub back : (j : ℕ) (next : List Open) → TakesBy s n before w j next → TakesBy s k after w j next

-- the word is taken, or it is wrong
abbrev pub Taken : Counting → ℕ → List Open → Word → ℕ → List Open → Bool → Type 0
Taken s n before w k after true = TakesBy s n before w k after
Taken s n before w k after false = (j : ℕ) (next : List Open) → TakesBy s n before w j next → ⊥

-- or nothing yet, and less is wanted that may be something else
pub record IsNothingYet (s : Counting) (n : ℕ) (before : List Open) (w : Word) (k : ℕ) (after : List Open) : Type 0 where
  pub same : SameTakes s n before w k after
  pub less : total after < total before

abbrev pub Stepped : Counting → ℕ → List Open → Word → ℕ → List Open → Option Bool → Type 0
Stepped s n before w k after (Some b) = Taken s n before w k after b
Stepped s n before w k after None = IsNothingYet s n before w k after
