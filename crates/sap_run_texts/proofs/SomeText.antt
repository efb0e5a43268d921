-- Each text is a run or has a fault.
use Rattle.std.proofs.Common.{◌≡◌, ◌≤◌, ◌<◌, ◌+◌, ℕ, Bool, true, false, List, [], ◌∷◌, ◌++◌, append_assoc, length, refl, sym, ap, subst, ◌∙◌, ◌⊎◌, inl, inr, arith}
use Rattle.std.specs.Prelude.{Result, Ok, Err}
use Rattle.std.specs.List.{list_all}
use Rattle.std.specs.Str.{bytes_eq}
use Rattle.std.proofs.lemmas.List.{length-append, append-nil}
use Rattle.std.proofs.lemmas.Slice.Eq.{bytes_eq-Decides}
use Rattle.sap_text.specs.Tokens.{is_not_feed}
use Rattle.sap_terms.proofs.PlainLaws.Tests.{and_true}
use Rattle.sap_run_texts.specs.declared.run_fault.RunFault.{RunFault}
use Rattle.sap_run_texts.specs.declared.run_fault.RunFault.TheVariants as fault
use Rattle.sap_run_lines.specs.StepLines.{IsOpenLine}
use Rattle.sap_run_texts.specs.RunTexts.{lines_text, AreStepLines, no_lines, BeginsBadly, no_step, not_ended, IsBody, all_steps, bad_line, too_many, IsHeaded, IsHeadless, IsText, headed, headless}
use Rattle.sap_run_texts.proofs.Fronts.{below_or_not}
use Rattle.sap_run_texts.proofs.Begun.{other_head, open_head, one_line_more, one_step_more}

-- none of these holds a line feed
abbrev pub AreOpen : List (List ℕ) → Type 0
AreOpen [] = Unit {0}
AreOpen (l ∷ ls) = IsOpenLine l × AreOpen ls

-- the lines that have ended, and what stands behind them
record Lined (z : List ℕ) : Type 0 where
  lines : List (List ℕ)
  rest : List ℕ
  is : z ≡ lines_text lines ++ rest
  opened : AreOpen lines
  last : IsOpenLine rest

a_feed : (c : ℕ) → is_not_feed c ≡ false → c ≡ 10
a_feed c e = grind arith

with_byte : (c : ℕ) (z rest : List ℕ) (lines : List (List ℕ)) → is_not_feed c ≡ true → z ≡ lines_text lines ++ rest → AreOpen lines → IsOpenLine rest
    → Lined (c ∷ z)
with_byte c z rest [] p e o l = record { lines = []; rest = c ∷ rest; is = ap (λ y. c ∷ y) e; opened = tt; last = and_true (is_not_feed c) (list_all is_not_feed rest) p l }
with_byte c z rest (line ∷ lines) p e o l =
    record { lines = (c ∷ line) ∷ lines; rest = rest; is = ap (λ y. c ∷ y) e; opened = (and_true (is_not_feed c) (list_all is_not_feed line) p o.0, o.1); last = l }

lined_step : (c : ℕ) (z : List ℕ) (b : Bool) → is_not_feed c ≡ b → Lined z → Lined (c ∷ z)
lined_step c z true p s = with_byte c z s.rest s.lines p s.is s.opened s.last
lined_step c z false p s =
    let feed : c ≡ 10 = a_feed c p in
    record { lines = [] ∷ s.lines; rest = s.rest; is = λ i. feed i ∷ s.is i; opened = (refl, s.opened); last = s.last }

lined : (z : List ℕ) → Lined z
lined [] = record { lines = []; rest = []; is = refl; opened = tt; last = refl }
lined (c ∷ z) = lined_step c z (is_not_feed c) refl (lined z)

-- a text begins with this head, or doesn't
pub headed_or_not : (head z : List ℕ) → IsOpenLine head → ((body : List ℕ) × IsHeaded head body z) ⊎ IsHeadless head z
headed_or_not head z o = split (lined z) where
  equal_or_not : (line rest : List ℕ) (lines : List (List ℕ)) (b : Bool) → bytes_eq line head ≡ b → z ≡ (line ++ (10 ∷ lines_text lines)) ++ rest → IsOpenLine line
      → ((body : List ℕ) × IsHeaded head body z) ⊎ IsHeadless head z
  equal_or_not line rest lines true e is l =
      let same : line ≡ head = (bytes_eq-Decides line head).0 e in
      inl (lines_text lines ++ rest, is ∙ (append_assoc line (10 ∷ lines_text lines) rest ∙ ap (λ y. y ++ (10 ∷ (lines_text lines ++ rest))) same))
  equal_or_not line rest lines false e is l =
      inr (subst (IsHeadless head) (sym (is ∙ append_assoc line (10 ∷ lines_text lines) rest))
      (other_head head line (lines_text lines ++ rest) o l (λ same. let equal : bytes_eq line head ≡ true = (bytes_eq-Decides line head).1 same in absurd (cc))))

  from : (rest : List ℕ) (lines : List (List ℕ)) → z ≡ lines_text lines ++ rest → AreOpen lines → IsOpenLine rest
      → ((body : List ℕ) × IsHeaded head body z) ⊎ IsHeadless head z
  from rest [] is opened last = inr (subst (IsHeadless head) (sym is) (open_head head rest last))
  from rest (line ∷ lines) is opened last = equal_or_not line rest lines (bytes_eq line head) refl is opened.0

  split : Lined z → ((body : List ℕ) × IsHeaded head body z) ⊎ IsHeadless head z
  split s = from s.rest s.lines s.is s.opened s.last

module _ {A : Type 0} (IsStepLine : A → List ℕ → Type 0) (most : ℕ) (decide : (z : List ℕ) → ((s : A) × IsStepLine s z) ⊎ ((s : A) → IsStepLine s z → ⊥)) where
  -- what lines behind step lines make
  abbrev pub Told : List ℕ → Type 0
  Told z = (o : Result (List A) RunFault) × IsBody IsStepLine most z o

  abbrev Behind : List (List ℕ) → List ℕ → Type 0
  Behind lines z = (o : Result (List A) RunFault) × IsBody IsStepLine most (lines_text lines ++ z) o

  -- so many step lines, and then this
  full : (ss : List A) (lines : List (List ℕ)) (z : List ℕ) → AreStepLines IsStepLine ss lines → length ss ≡ most → Behind lines z
  full ss lines [] steps all = (Ok ss, subst (λ (y : List ℕ). IsBody IsStepLine most y (Ok ss)) (sym (append-nil (lines_text lines))) (all_steps steps (omega (arith, all))))
  full ss lines (c ∷ z) steps all = (Err fault.TooManySteps, too_many (c ∷ z) steps all (omega arith))

  -- fewer, and then no whole line
  last_bytes : (ss : List A) (lines : List (List ℕ)) (z : List ℕ) → AreStepLines IsStepLine ss lines → length ss < most → IsOpenLine z → Behind lines z
  last_bytes ss lines [] steps few o = (Ok ss, subst (λ (y : List ℕ). IsBody IsStepLine most y (Ok ss)) (sym (append-nil (lines_text lines))) (all_steps steps (omega (arith, few))))
  last_bytes ss lines (c ∷ z) steps few o = (Err (fault.BadLine (length ss + 2)), bad_line steps few (not_ended (c ∷ z) o (omega arith)))

  -- a line that follows, and what stands behind it where it is a step's
  one_line : (ss : List A) (lines : List (List ℕ)) (l : List ℕ) (ls : List (List ℕ)) (rest : List ℕ) → AreStepLines IsStepLine ss lines → length ss < most
      → IsOpenLine l → ((s : A) × IsStepLine s l) ⊎ ((s : A) → IsStepLine s l → ⊥)
      → ((ts : List A) (ms : List (List ℕ)) → AreStepLines IsStepLine ts ms → length ts ≤ most → Behind ms (lines_text ls ++ rest))
      → Behind lines (lines_text (l ∷ ls) ++ rest)
  one_line ss lines l ls rest steps few opened (inl here) later =
      let more = later (ss ++ here.0 ∷ []) (lines ++ l ∷ []) (one_step_more IsStepLine ss lines here.0 l steps here.1)
      (omega (arith, few, length-append ss (here.0 ∷ []))) in
      let same : lines_text (lines ++ l ∷ []) ++ (lines_text ls ++ rest) ≡ lines_text lines ++ ((l ++ (10 ∷ lines_text ls)) ++ rest) =
      ap (λ y. y ++ (lines_text ls ++ rest)) (one_line_more lines l)
      ∙ (append_assoc (lines_text lines) (l ++ 10 ∷ []) (lines_text ls ++ rest)
      ∙ ap (λ y. lines_text lines ++ y) (append_assoc l (10 ∷ []) (lines_text ls ++ rest) ∙ sym (append_assoc l (10 ∷ lines_text ls) rest))) in
      (more.0, subst (λ (y : List ℕ). IsBody IsStepLine most y more.0) same more.1)
  one_line ss lines l ls rest steps few opened (inr none) later = (
    Err (fault.BadLine (length ss + 2)),
    bad_line steps few
        (subst (BeginsBadly IsStepLine) (sym (append_assoc l (10 ∷ lines_text ls) rest)) (no_step l (lines_text ls ++ rest) opened none)),
  )

  behind : (ss : List A) (lines ls : List (List ℕ)) (rest : List ℕ) → AreStepLines IsStepLine ss lines → length ss ≤ most → AreOpen ls → IsOpenLine rest
      → Behind lines (lines_text ls ++ rest)
  behind ss lines [] rest steps few opened last =
      elim (below_or_not (length ss) most) [ inl lt ↦ last_bytes ss lines rest steps lt last | inr ge ↦ full ss lines rest steps (omega (arith, few, ge)) ]
  behind ss lines (l ∷ ls) rest steps few opened last =
      elim (below_or_not (length ss) most) [
        | inl lt ↦ one_line ss lines l ls rest steps lt opened.0 (decide l) (λ ts ms these within. behind ts ms ls rest these within opened.1 last)
        | inr ge ↦ full ss lines (lines_text (l ∷ ls) ++ rest) steps (omega (arith, few, ge))
      ]

  body_some : (z : List ℕ) → Told z
  body_some z = from (lined z) where
    from : Lined z → (o : Result (List A) RunFault) × IsBody IsStepLine most z o
    from s = let given = behind [] [] s.lines s.rest no_lines (omega arith) s.opened s.last in (given.0, subst (λ (y : List ℕ). IsBody IsStepLine most y given.0) (sym s.is) given.1)

  -- a text with this head, or without it
  pub text_headed : (head body z : List ℕ) → IsHeaded head body z → (o : Result (List A) RunFault) × IsText head IsStepLine most z o
  text_headed head body z e = let given = body_some body in (given.0, headed e given.1)

  pub text_headless : (head z : List ℕ) → IsHeadless head z → (o : Result (List A) RunFault) × IsText head IsStepLine most z o
  text_headless head z none = (Err fault.BadHead, headless none)
