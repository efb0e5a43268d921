-- The names that runs make, and the least names that are left for locks and tags.
use Rattle.std.specs.List.{flat_map}
use Rattle.std.specs.Prelude.{◌≡◌, ◌≤◌, ◌<◌, ℕ, zero, suc, Bool, true, false, not, ◌||◌, nat_eq, List, [], ◌∷◌, ◌++◌, filter}
use Rattle.sap_runs.specs.declared.process_step.PStep.{PStep}
use Rattle.sap_runs.specs.declared.process_step.PStep.TheVariants.{New, Name}
use Rattle.sap_runs.specs.declared.rule_step.RStep.{RStep}
use Rattle.sap_runs.specs.declared.rule_step.RStep.TheVariants.{Fresh}

-- the number is one of these
abbrev pub is_among : List ℕ → ℕ → Bool
is_among [] n = false
is_among (m ∷ ms) n = nat_eq m n || is_among ms n

-- the names that a line makes, for a process or for the adversary
abbrev pub drawn_by : PStep → List ℕ
drawn_by (New t n) = n ∷ []
drawn_by (Name n) = n ∷ []
drawn_by line = []

-- those that lines make
abbrev pub names_drawn : List PStep → List ℕ
names_drawn lines = flat_map drawn_by lines

-- the names of which a line of rules has Fr made
abbrev pub made_by : RStep → List ℕ
made_by (Fresh n) = n ∷ []
made_by line = []

-- those of which lines of rules have it made
abbrev pub names_made : List RStep → List ℕ
names_made lines = flat_map made_by lines

-- those of these that are not drawn
abbrev pub not_drawn : List ℕ → List ℕ → List ℕ
not_drawn drawn ns = filter (λ n. not (is_among drawn n)) ns

-- the numbers below this one
abbrev pub numbers_below : ℕ → List ℕ
numbers_below zero = []
numbers_below (suc n) = numbers_below n ++ n ∷ []

-- these are the least numbers that are not drawn, in ascending order: all of those below some number
abbrev pub AreLeast : List ℕ → List ℕ → Type 0
AreLeast drawn ns = (bound : ℕ) × (ns ≡ not_drawn drawn (numbers_below bound))

-- the least number from the bound on that is not drawn
pub record IsNext (drawn : List ℕ) (bound n : ℕ) : Type 0 where
  pub from : bound ≤ n
  pub free : is_among drawn n ≡ false
  pub least : (m : ℕ) → bound ≤ m → m < n → is_among drawn m ≡ true
