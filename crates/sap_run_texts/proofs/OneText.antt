-- A text is one run at most, or has one fault.
use Rattle.std.proofs.Common.{◌≡◌, ◌≤◌, ◌<◌, ◌+◌, ℕ, List, [], ◌∷◌, ◌++◌, append_assoc, length, refl, sym, ap, subst, ◌∙◌, arith}
use Rattle.std.specs.Prelude.{Result, Ok, Err}
use Rattle.std.proofs.lemmas.List.{length-append, append-nil}
use Rattle.sap_text.specs.Tokens.{is_not_feed}
use Rattle.sap_run_texts.specs.declared.run_fault.RunFault.{RunFault}
use Rattle.sap_run_texts.specs.declared.run_fault.RunFault.TheVariants as fault
use Rattle.sap_run_lines.specs.StepLines.{IsOpenLine}
use Rattle.sap_run_texts.specs.RunTexts.{lines_text, AreStepLines, no_lines, lines_more, BeginsBadly, no_step, not_ended, IsBody, all_steps, bad_line, too_many, IsText, headed, headless}
use Rattle.sap_run_texts.proofs.Fronts.{one_front, no_longer}

-- how a body ends behind its first step lines: with them, with a line that is none, or with too many
pub data Ending : Type 0 where
  whole : Ending
  bad : Ending
  long : Ending

abbrev pub answer : {A : Type 0} → List A → Ending → Result (List A) RunFault
answer ss whole = Ok ss
answer ss bad = Err (fault.BadLine (length ss + 2))
answer ss long = Err fault.TooManySteps

-- the first step line differs from what ends no line
longer_front : (line w x y : List ℕ) → IsOpenLine x → (line ++ (10 ∷ w)) ++ y ≡ x → ⊥
longer_front line w x y o e =
    let all : x ++ [] ≡ line ++ (10 ∷ (w ++ y)) = append-nil x ∙ (sym e ∙ append_assoc line (10 ∷ w) y) in
    let long : length x ≡ length (line ++ (10 ∷ (w ++ y))) = ap length (sym e ∙ append_assoc line (10 ∷ w) y) in
    let parts : length (line ++ (10 ∷ (w ++ y))) ≡ length line + (length (w ++ y) + 1) = length-append line (10 ∷ (w ++ y)) ∙ (omega arith) in
    omega (arith, no_longer x [] line (w ++ y) o all, long, parts)

module _ {A : Type 0} (IsStepLine : A → List ℕ → Type 0) (most : ℕ) where
  -- behind so many step lines this stands, and ends the body so
  abbrev pub Ends : Ending → ℕ → List ℕ → Type 0
  Ends whole n z = (z ≡ []) × (n ≤ most)
  Ends bad n z = (n < most) × BeginsBadly IsStepLine z
  Ends long n z = (n ≡ most) × (0 < length z)

  -- the step lines of a body and what stands behind them
  record Parts (z : List ℕ) (o : Result (List A) RunFault) : Type 0 where
    ss : List A
    lines : List (List ℕ)
    rest : List ℕ
    ending : Ending
    is : z ≡ lines_text lines ++ rest
    steps : AreStepLines IsStepLine ss lines
    ends : Ends ending (length ss) rest
    told : o ≡ answer ss ending

  parts : (z : List ℕ) (o : Result (List A) RunFault) → IsBody IsStepLine most z o → Parts z o
  parts _ _ (all_steps {ss = ss} {lines = lines} steps few) =
      record { ss = ss; lines = lines; rest = []; ending = whole; is = sym (append-nil (lines_text lines)); steps = steps; ends = (refl, few); told = refl }
  parts _ _ (bad_line {ss = ss} {lines = lines} {z = z} steps few begins) =
      record { ss = ss; lines = lines; rest = z; ending = bad; is = refl; steps = steps; ends = (few, begins); told = refl }
  parts _ _ (too_many {ss = ss} {lines = lines} z steps all some) =
      record { ss = ss; lines = lines; rest = z; ending = long; is = refl; steps = steps; ends = (all, some); told = refl }

  some_bytes : (z : List ℕ) → BeginsBadly IsStepLine z → 0 < length z
  some_bytes _ (no_step line z o none) = omega (arith, length-append line (10 ∷ z))
  some_bytes _ (not_ended z o some) = some

  same_ending : (e d : Ending) (n : ℕ) (z : List ℕ) → Ends e n z → Ends d n z → e ≡ d
  same_ending whole whole n z p q = refl
  same_ending whole bad n z p q = let none : length z ≡ 0 = ap length p.0 in absurd (omega (arith, none, some_bytes z q.1))
  same_ending whole long n z p q = let none : length z ≡ 0 = ap length p.0 in absurd (omega (arith, none, q.1))
  same_ending bad whole n z p q = let none : length z ≡ 0 = ap length q.0 in absurd (omega (arith, none, some_bytes z p.1))
  same_ending bad bad n z p q = refl
  same_ending bad long n z p q = absurd (omega (arith, p.0, q.0))
  same_ending long whole n z p q = let none : length z ≡ 0 = ap length q.0 in absurd (omega (arith, none, p.1))
  same_ending long bad n z p q = absurd (omega (arith, p.0, q.0))
  same_ending long long n z p q = refl

  -- what is told of steps behind so many others
  few_enough : (d : Ending) (n : ℕ) (z : List ℕ) → Ends d n z → n ≤ most
  few_enough whole n z p = p.1
  few_enough bad n z p = omega (arith, p.0)
  few_enough long n z p = omega (arith, p.0)

  -- a step line that may come doesn't begin badly
  no_bad : (s : A) (line w y z : List ℕ) → IsOpenLine line → IsStepLine s line → (line ++ (10 ∷ w)) ++ y ≡ z → BeginsBadly IsStepLine z → ⊥
  no_bad s line w y _ o here e (no_step other v p none) =
      let same : line ≡ other = (one_front is_not_feed line other (10 ∷ (w ++ y)) (10 ∷ v) o p refl refl (sym (append_assoc line (10 ∷ w) y) ∙ e)).0 in
      none s (subst (IsStepLine s) same here)
  no_bad s line w y _ o here e (not_ended z p some) = longer_front line w z y p e

  no_end : (e d : Ending) (n m : ℕ) (s : A) (line w x y : List ℕ) → n < m → IsOpenLine line → IsStepLine s line → (line ++ (10 ∷ w)) ++ y ≡ x
      → Ends e n x → Ends d m y → ⊥
  no_end whole d n m s line w x y lt o here e p q =
      let none : length ((line ++ (10 ∷ w)) ++ y) ≡ 0 = ap length (e ∙ p.0) in
      omega (arith, none, length-append (line ++ (10 ∷ w)) y, length-append line (10 ∷ w))
  no_end bad d n m s line w x y lt o here e p q = no_bad s line w y x o here e p.1
  no_end long d n m s line w x y lt o here e p q = omega (arith, lt, p.0, few_enough d m y q)

  module _ (one : (s u : A) (z : List ℕ) → IsStepLine s z → IsStepLine u z → s ≡ u) (opened : (s : A) (z : List ℕ) → IsStepLine s z → IsOpenLine z) where
    same : (n a b : ℕ) (e d : Ending) (x y : List ℕ) (ss ts : List A) (ls ms : List (List ℕ)) → AreStepLines IsStepLine ss ls → AreStepLines IsStepLine ts ms
        → a ≡ n + length ss → b ≡ n + length ts → lines_text ls ++ x ≡ lines_text ms ++ y → Ends e a x → Ends d b y → (ss ≡ ts) × (e ≡ d)
    same n a b e d x y _ _ _ _ no_lines no_lines h k w p q =
        let equal : b ≡ a = omega (arith, h, k) in
        let there : Ends d a x = subst (Ends d a) (sym w) (subst (λ (i : ℕ). Ends d i y) equal q) in
        (refl, same_ending e d a x p there)
    same n a b e d x y _ _ _ _ no_lines (lines_more {s = t} {ss = ts} {line = m} {lines = ms} here more) h k w p q =
        absurd (no_end e d a b t m (lines_text ms) x y (omega (arith, h, k)) (opened t m here) here (sym w) p q)
    same n a b e d x y _ _ _ _ (lines_more {s = s} {ss = ss} {line = l} {lines = ls} here more) no_lines h k w p q =
        absurd (no_end d e b a s l (lines_text ls) y x (omega (arith, h, k)) (opened s l here) here w q p)
    same n a b e d x y _ _ _ _ (lines_more {s = s} {ss = ss} {line = l} {lines = ls} here more) (lines_more {s = t} {ss = ts} {line = m} {lines = ms} there later) h k w p q =
        let fronts : l ++ (10 ∷ (lines_text ls ++ x)) ≡ m ++ (10 ∷ (lines_text ms ++ y)) =
        sym (append_assoc l (10 ∷ lines_text ls) x) ∙ (w ∙ append_assoc m (10 ∷ lines_text ms) y) in
        let cut = one_front is_not_feed l m (10 ∷ (lines_text ls ++ x)) (10 ∷ (lines_text ms ++ y)) (opened s l here) (opened t m there) refl refl fronts in
        let line : l ≡ m = cut.0 in
        let behind : lines_text ls ++ x ≡ lines_text ms ++ y = let all : 10 ∷ (lines_text ls ++ x) ≡ 10 ∷ (lines_text ms ++ y) = cut.1 in cc in
        let step : s ≡ t = one s t m (subst (IsStepLine s) line here) there in
        let rest = same (n + 1) a b e d x y ss ts ls ms more later (omega (arith, h)) (omega (arith, k)) behind p q in
        let tails : ss ≡ ts = rest.0 in
        (cc, rest.1)

    one_body : (z : List ℕ) (o r : Result (List A) RunFault) → IsBody IsStepLine most z o → IsBody IsStepLine most z r → o ≡ r
    one_body z o r f g =
        let p = parts z o f in
        let q = parts z r g in
        let both = same 0 (length p.ss) (length q.ss) p.ending q.ending p.rest q.rest p.ss q.ss p.lines q.lines p.steps q.steps (omega arith) (omega arith) (sym p.is ∙ q.is) p.ends q.ends in
        let steps : p.ss ≡ q.ss = both.0 in
        let ending : p.ending ≡ q.ending = both.1 in
        p.told ∙ ((λ i. answer (steps i) (ending i)) ∙ sym q.told)

    pub one_text : (head z : List ℕ) (o r : Result (List A) RunFault) → IsOpenLine head → IsText head IsStepLine most z o → IsText head IsStepLine most z r → o ≡ r
    one_text head z o r opens (headed {body = body} at is) (headed {body = other} there was) =
        let both : 10 ∷ body ≡ 10 ∷ other = (one_front is_not_feed head head (10 ∷ body) (10 ∷ other) opens opens refl refl (sym at ∙ there)).1 in
        let same_body : other ≡ body = cc in
        one_body body o r is (subst (λ (y : List ℕ). IsBody IsStepLine most y r) same_body was)
    one_text head z o _ opens (headed {body = body} at is) (headless none) = absurd (none body at)
    one_text head z _ r opens (headless none) (headed {body = body} at is) = absurd (none body at)
    one_text head z _ _ opens (headless none) (headless also) = refl
