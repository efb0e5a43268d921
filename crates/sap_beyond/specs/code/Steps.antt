-- How far a walk comes towards a place.
use Rattle.std.specs.Prelude.{◌≡◌, ◌<◌, ◌≤◌, ◌⊎◌, ℕ, ◌+◌, ◌-◌, ◌^◌, min, true, List, [], ◌∷◌, length, Option, Some, None, slice_get}
use Rattle.sap_terms.specs.NameMap.{value_at}
use Rattle.sap_terms.specs.Variables.{is_known}
use Rattle.sap_macro.specs.Indexed.{defined}
use Rattle.sap_macro.specs.Order.{UsesOnly}
use Rattle.sap_macro.specs.Sources.{written}
use Rattle.sap_macro.specs.Walked.{Cost, steps}
use Rattle.sap_macro.specs.Written.{Written, nil, call, parallel, replicated, act, test, lookup, Definition}
use Rattle.sap_beyond.specs.code.Shapes.{Shape, one, two, depth, kept_after, paths_from, place_count, shaped, stands}
use Rattle.sap_beyond.specs.declared.beyond.Below.{Below}
use Rattle.sap_beyond.specs.declared.beyond.Below.TheVariants.{Nothing, One, Two}
use Rattle.sap_beyond.specs.declared.beyond.By.{By}
use Rattle.sap_beyond.specs.declared.beyond.By.TheVariants.{Number, Digits}
use Rattle.sap_beyond.specs.declared.beyond.Step.{Step}
use Rattle.sap_beyond.specs.declared.beyond.Step.TheVariants.{Past, Here, In}

-- the first of these paths that has so many digits
pub data IsFirstLong (n : ℕ) : List (List ℕ) → List ℕ → Type 0 where
  first_here : {v : List ℕ} {vs : List (List ℕ)} → length v ≡ n → IsFirstLong n (v ∷ vs) v
  first_later : {w v : List ℕ} {vs : List (List ℕ)} → ¬ (length w ≡ n) → IsFirstLong n vs v
      → IsFirstLong n (w ∷ vs) v

-- of the paths of a shape that stands at the first, the one with this number, or the first with so many digits more
abbrev pub IsFound : By → List ℕ → Shape → ℕ → List ℕ → Type 0
IsFound Number from s k path = slice_get (paths_from from s) k ≡ Some path
IsFound Digits from s k path = IsFirstLong (length from + k) (paths_from from s) path

-- there is one where the number is less than this
abbrev pub extent : By → Shape → ℕ
extent Number s = place_count s
extent Digits s = depth s

-- and what is kept at the index of a definition
abbrev pub kept_at : List ℕ → Option ℕ → Option ℕ
kept_at extents None = None
kept_at extents (Some k) = slice_get extents k

-- where there is none, so much is left behind it
abbrev pub left_behind : By → ℕ → Shape → ℕ
left_behind Number k s = k - place_count s
left_behind Digits k s = k

-- what is kept of these names is right, up to the greatest number
abbrev pub AreKept : By → (List ℕ → Shape) → List (List ℕ) → List (List ℕ × ℕ) → List ℕ → Type 0
AreKept by c names index extents =
    (f : List ℕ) → is_known names f ≡ true
    → kept_at extents (value_at index f) ≡ Some (min (extent by (c f)) (2 ^ 64 - 1))

-- of the first so many definitions it is
pub record AreFirstKept (by : By) (ds : List Definition) (n : ℕ) (extents : List ℕ) : Type 0 where
  pub many : length extents ≡ n
  pub each : (k : ℕ) (d : Definition) → k < n → slice_get ds k ≡ Some d
      → slice_get extents k ≡ Some (min (extent by (stands ds d.name)) (2 ^ 64 - 1))

-- the index in a step is that of the name
abbrev pub IsAt : List (List ℕ × ℕ) → Step → Type 0
IsAt index (Past left) = Unit {0}
IsAt index Here = Unit {0}
IsAt index (In f k left) = value_at index f.now ≡ Some k

-- a walk that wants this from the shape at this path comes so far, with this path then; past it, with that one
abbrev pub Leads : By → (List ℕ → Shape) → List ℕ → List ℕ → Shape → ℕ → List ℕ → Step → Type 0
Leads by c back from s k to (Past left) =
    (extent by s ≤ k) × (left ≡ left_behind by k s) × (to ≡ back)
Leads by c back from s k to Here = IsFound by from s k to
Leads by c back from s k to (In f at left) =
    (left < extent by (c f.now))
    × ((path : List ℕ) → IsFound by to (c f.now) left path → IsFound by from s k path)

-- how far it comes from a place, where it comes so far from below it
abbrev pub passed : By → Step → Step
passed Number step = step
passed Digits (Past left) = Past (left + 1)
passed Digits Here = Here
passed Digits (In f at left) = In f at left

-- what is wanted then
abbrev pub wanted_at : Step → ℕ
wanted_at (Past left) = left
wanted_at Here = 0
wanted_at (In f at left) = left

-- the name is used in what is written
pub record IsUsed (w : Written) (f : List ℕ) : Type 0 where
  pub known : (names : List (List ℕ)) → UsesOnly names w → is_known names f ≡ true
  pub less : (c : Cost) → c f < steps c w

abbrev pub Uses : Written → Step → Type 0
Uses w (Past left) = Unit {0}
Uses w Here = Unit {0}
Uses w (In f at left) = IsUsed w f.now

-- one of these two
abbrev pub UsesOf : Written → Written → Step → Type 0
UsesOf w u (Past left) = Unit {0}
UsesOf w u Here = Unit {0}
UsesOf w u (In f at left) = IsUsed w f.now ⊎ IsUsed u f.now

-- it is this name
abbrev pub Names : Step → List ℕ → Type 0
Names (Past left) g = Unit {0}
Names Here g = Unit {0}
Names (In f at left) g = f.now ≡ g

-- what is written has the shape of this, and uses and steps no fewer
pub record IsOver (w p : Written) : Type 0 where
  pub shape : (c : List ℕ → Shape) → shaped c w ≡ one (shaped c p)
  pub uses : (names : List (List ℕ)) → UsesOnly names w → UsesOnly names p
  pub further : (c : Cost) → steps c p < steps c w

pub record IsOverBoth (w p q : Written) : Type 0 where
  pub shape : (c : List ℕ → Shape) → shaped c w ≡ two (shaped c p) (shaped c q)
  pub uses : (names : List (List ℕ)) → UsesOnly names w → UsesOnly names p × UsesOnly names q
  pub further : (c : Cost) → steps c p + steps c q < steps c w

-- it is no use
abbrev pub IsPlace : Written → Type 0
IsPlace nil = Unit {0}
IsPlace (call f ts) = ⊥
IsPlace (parallel p q) = Unit {0}
IsPlace (replicated p) = Unit {0}
IsPlace (act a p) = Unit {0}
IsPlace (test t u p q) = Unit {0}
IsPlace (lookup t x p q) = Unit {0}

-- these stand directly below it
abbrev pub AreBelow : Below → Written → Type 0
AreBelow Nothing w = w ≡ nil
AreBelow (One p) w = IsOver w (written p.now)
AreBelow (Two p q) w = IsOverBoth w (written p.now) (written q.now)

-- how many steps a walk makes at most that goes into what the name stands for
abbrev pub steps_of : List Definition → List ℕ → ℕ
steps_of ds f = kept_after steps (λ g. 0) ds f

-- the steps that are left
abbrev pub steps_at : List Definition → Step → ℕ
steps_at ds (Past left) = 0
steps_at ds Here = 0
steps_at ds (In f at left) = steps_of ds f.now + 1

-- from the whole a walk has come so far
abbrev pub ComesTo : By → List Definition → Shape → ℕ → List ℕ → Step → Type 0
ComesTo by ds s k path (Past left) = extent by s ≤ k
ComesTo by ds s k path Here = IsFound by [] s k path
ComesTo by ds s k path (In f at left) =
    (left < extent by (stands ds f.now)) × (left < 2 ^ 64 - 1) × (is_known (defined ds) f.now ≡ true)
    × ((to : List ℕ) → IsFound by path (stands ds f.now) left to → IsFound by [] s k to)
