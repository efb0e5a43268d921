-- Lines of small runs, tried by hand.
use Rattle.std.proofs.Common.{◌≡◌, ℕ, zero, suc, List, [], ◌∷◌, ◌++◌, refl, sym, ap, ◌∙◌, arith}
use Rattle.std.specs.Prelude.{codes}
use Rattle.sap_runs.specs.declared.process_step.PStep.{PStep}
use Rattle.sap_runs.specs.declared.process_step.PStep.TheVariants as line
use Rattle.sap_runs.specs.declared.rule_step.RStep.{RStep}
use Rattle.sap_runs.specs.declared.rule_step.RStep.TheVariants.{Fresh}
use Rattle.sap_rule_lines.specs.Least.{not_drawn, numbers_below}
use Rattle.sap_forward.specs.LineExamples.{lock_and_new, with_names, lock_then_new, new_then_lock, test_then_lock, made_early}
use Rattle.sap_forward.specs.LinesFor.{uses, AreRuleLinesFor, AreRuleLinesForAll, no_lines, more}
use Rattle.sap_forward.specs.Opposite.{RuleLinesStandInTurn}
use Rattle.sap_forward.proofs.Given.{not_drawn_join}

-- the first lines of a run that begins with a lock, and what is left
pub record HasLock (lines : List PStep) (rest : List RStep) (names : List ℕ) : Type 0 where
  pub name : ℕ
  pub path : List ℕ
  pub facts : List ℕ
  pub left : List RStep
  pub later : List ℕ
  pub is : rest ≡ Fresh name ∷ uses (codes "Lock_") path facts [] ∷ left
  pub named : names ≡ name ∷ later
  pub all : AreRuleLinesForAll lines left later

lock_first : {t : ℕ} {lines : List PStep} {rest : List RStep} {names : List ℕ} → AreRuleLinesForAll (line.Lock t ∷ lines) rest names → HasLock lines rest names
lock_first (more {rest = left} {names = later} (AreRuleLinesFor.locks t n path ks) all) = record { name = n; path = path; facts = ks; left = left; later = later; is = refl; named = refl; all = all }

-- of one that begins with a new name
pub record HasNew (n : ℕ) (lines : List PStep) (rest : List RStep) (names : List ℕ) : Type 0 where
  pub path : List ℕ
  pub facts : List ℕ
  pub left : List RStep
  pub is : rest ≡ Fresh n ∷ uses (codes "New_") path facts [] ∷ left
  pub all : AreRuleLinesForAll lines left names

new_first : {t n : ℕ} {lines : List PStep} {rest : List RStep} {names : List ℕ} → AreRuleLinesForAll (line.New t n ∷ lines) rest names → HasNew n lines rest names
new_first (more {rest = left} (AreRuleLinesFor.makes_name t n path ks) all) = record { path = path; facts = ks; left = left; is = refl; all = all }

-- none are named by an unlock at the end
unlock_last : {t : ℕ} {rest : List RStep} {names : List ℕ} → AreRuleLinesForAll (line.Unlock t ∷ []) rest names → names ≡ []
unlock_last (more (AreRuleLinesFor.unlocks t path ks) no_lines) = refl

-- a test makes nothing
test_first : {t : ℕ} {lines : List PStep} {rest left : List RStep} {names : List ℕ} {n : ℕ} → AreRuleLinesForAll (line.Then t ∷ lines) rest names → rest ≡ Fresh n ∷ left → ⊥
test_first (more (AreRuleLinesFor.agrees t path ks) all) e = absurd (cc)

-- beyond 0 the least name is 1
from_one : (k : ℕ) → (ns : List ℕ) × (not_drawn (0 ∷ []) (numbers_below (suc (suc k))) ≡ 1 ∷ ns)
from_one zero = ([], refl)
from_one (suc k) =
    let h = from_one k in
    let next = not_drawn (0 ∷ []) (suc (suc k) ∷ []) in
    (h.0 ++ next, not_drawn_join (0 ∷ []) (numbers_below (suc (suc k))) (suc (suc k) ∷ []) ∙ ap (λ x. x ++ next) h.1)

one_least : (bound n : ℕ) → n ∷ [] ≡ not_drawn (0 ∷ []) (numbers_below bound) → n ≡ 1
one_least zero n e = absurd (cc)
one_least (suc zero) n e = let none : n ∷ [] ≡ [] = e in absurd (cc)
one_least (suc (suc k)) n e = let h = from_one k in let same : n ∷ [] ≡ 1 ∷ h.0 = e ∙ h.1 in cc

pub right_names : RuleLinesStandInTurn lock_and_new (with_names 1 0)
right_names = record {
  rest = _;
  given = 1 ∷ [];
  starts = refl;
  each = more (AreRuleLinesFor.locks 0 1 [] _) (more (AreRuleLinesFor.makes_name 0 0 (1 ∷ []) _) (more (AreRuleLinesFor.unlocks 0 (1 ∷ 1 ∷ []) _) no_lines));
  least = (2, refl);
}

pub no_other_names : (n m : ℕ) → RuleLinesStandInTurn lock_and_new (with_names n m) → (n ≡ 1) × (m ≡ 0)
no_other_names n m h =
    let lock = lock_first h.each in
    let make = new_first lock.all in
    let rest : Fresh n ∷ uses (codes "Lock_") [] (0 ∷ 1 ∷ []) [] ∷ Fresh m ∷ uses (codes "New_") (1 ∷ []) (2 ∷ 3 ∷ []) [] ∷ uses (codes "Unlock_") (1 ∷ 1 ∷ []) (4 ∷ []) [] ∷ [] ≡ h.rest = cc in
    let one = rest ∙ lock.is in
    let locked : n ≡ lock.name = cc in
    let left : Fresh m ∷ uses (codes "New_") (1 ∷ []) (2 ∷ 3 ∷ []) [] ∷ uses (codes "Unlock_") (1 ∷ 1 ∷ []) (4 ∷ []) [] ∷ [] ≡ lock.left = cc in
    let two = left ∙ make.is in
    let made : m ≡ 0 = cc in
    let given : h.given ≡ lock.name ∷ [] = lock.named ∙ ap (λ x. lock.name ∷ x) (unlock_last make.all) in
    (locked ∙ one_least h.least.0 lock.name (sym given ∙ h.least.1), made)

pub no_other_order : (n m : ℕ) → RuleLinesStandInTurn lock_then_new (new_then_lock n m) → ⊥
no_other_order n m h =
    let lock = lock_first h.each in
    let rest : Fresh n ∷ uses (codes "New_") (2 ∷ []) (2 ∷ 3 ∷ []) [] ∷ Fresh m ∷ uses (codes "Lock_") (1 ∷ []) (1 ∷ 5 ∷ []) [] ∷ [] ≡ h.rest = cc in
    let one = rest ∙ lock.is in
    let words : uses (codes "New_") (2 ∷ []) (2 ∷ 3 ∷ []) [] ≡ uses (codes "Lock_") lock.path lock.facts [] = cc in
    -- N isn't L
    let first : ℕ = 78 in
    let letters : first ≡ 76 = cc in
    absurd (omega (arith, letters))

pub none_early : (n : ℕ) → RuleLinesStandInTurn test_then_lock (made_early n) → ⊥
none_early n h =
    let rest : Fresh n ∷ uses (codes "Then_") [] (0 ∷ []) [] ∷ uses (codes "Lock_") (1 ∷ []) (2 ∷ 1 ∷ []) [] ∷ [] ≡ h.rest = cc in
    test_first h.each (sym rest)
