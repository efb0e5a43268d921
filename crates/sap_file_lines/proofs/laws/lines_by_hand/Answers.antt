use Rattle.std.proofs.Common.{◌≡◌, ℕ, false, List, [], ◌∷◌, refl, arith, true, sym, ◌∙◌}
use Rattle.sap_macro.specs.Located.{Located}
use Rattle.sap_origin.specs.Origins.{start}
use Rattle.sap_origin.specs.Reached.{Reaches, Standing, reaches_here, reaches_use, reaches_left, reaches_right, reaches_copy, reaches_behind, reaches_then, reaches_else}
use Rattle.sap_origin.specs.declared.trail.Replaced.TheVariants.{Every}
use Rattle.sap_file_lines.specs.FileLines.{IsMissing, is_nothing, line_before, words_from}
use Rattle.sap_file_lines.specs.LineExamples.{HasLine, HasNoLine, all, bytes, copies, main, words}
use Rattle.sap_file_lines.proofs.Lines.{OneReach, missing_has_none, one_line, written_by}
use Rattle.sap_file_lines.proofs.laws.lines_by_hand.Goals as goal

-- a place that is no `0`
here : {path : List ℕ} {z : Standing} {q : Located} (n : ℕ) → Reaches all (start 1) main path z q → is_nothing q ≡ false → n ≡ line_before bytes words (words_from z q) → HasLine path n
here n r e line = record { standing = _; place = _; reaches = r; is_written = λ m. (let never : true ≡ false = sym m.nothing ∙ e in cc (never)); line_is = line }

module _ (one : OneReach) where
  other : {path : List ℕ} {m : ℕ} (n : ℕ) → HasLine path m → (m ≡ n → ⊥) → HasLine path n → ⊥
  other n a differs b = differs (one_line one a b)

  none : {path : List ℕ} {z : Standing} {q : Located} → Reaches all (start 1) main path z q → IsMissing all main 1 path z q → HasNoLine path
  none r m n h = missing_has_none one r m h

root : HasLine ([]) 8
root = here 8 (reaches_here tt) refl refl

first : HasLine (1 ∷ []) 3
first = here 3 (reaches_left (reaches_use refl tt (reaches_use refl tt (reaches_here tt)))) refl refl

second : HasLine (2 ∷ []) 9
second = here 9 (reaches_right (reaches_here tt)) refl refl

other_use : HasLine (2 ∷ 1 ∷ []) 3
other_use = here 3 (reaches_right (reaches_left (reaches_use refl tt (reaches_here tt)))) refl refl

third : HasLine (2 ∷ 2 ∷ []) 10
third = here 10 (reaches_right (reaches_right (reaches_here tt))) refl refl

copy : HasLine (2 ∷ 2 ∷ 1 ∷ []) 9
copy = here 9 (reaches_right (reaches_right (reaches_left (reaches_here tt)))) refl refl

tested : HasLine (2 ∷ 2 ∷ 2 ∷ []) 10
tested = here 10 (reaches_right (reaches_right (reaches_right (reaches_here tt)))) refl refl

module _ (one : OneReach) where
  copied : HasLine (2 ∷ 2 ∷ 1 ∷ 1 ∷ []) 9
  copied = record { standing = _; place = _; reaches = reaches_right (reaches_right (reaches_left (reaches_copy (reaches_here tt)))); is_written = written_by one (2 ∷ 2 ∷ 1 ∷ []) 1 (reaches_right (reaches_right (reaches_left (reaches_here tt)))) (λ e. omega (arith, e)); line_is = refl }

  whole : HasLine (2 ∷ 2 ∷ 2 ∷ 1 ∷ []) 5
  whole = record { standing = _; place = _; reaches = reaches_right (reaches_right (reaches_right (reaches_then (reaches_use refl tt (reaches_here tt))))); is_written = written_by one (2 ∷ 2 ∷ 2 ∷ []) 1 (reaches_right (reaches_right (reaches_right (reaches_here tt)))) (λ e. omega (arith, e)); line_is = refl }

  first_end : HasNoLine (1 ∷ 1 ∷ [])
  first_end = none one (reaches_left (reaches_use refl tt (reaches_use refl tt (reaches_behind (reaches_here tt))))) (record { nothing = refl; front = 1 ∷ []; digit = 1; path_is = refl; standing = _; above = _; reaches = reaches_left (reaches_use refl tt (reaches_use refl tt (reaches_here tt))); one_word = refl })

  other_end : HasNoLine (2 ∷ 1 ∷ 1 ∷ [])
  other_end = none one (reaches_right (reaches_left (reaches_use refl tt (reaches_behind (reaches_here tt))))) (record { nothing = refl; front = 2 ∷ 1 ∷ []; digit = 1; path_is = refl; standing = _; above = _; reaches = reaches_right (reaches_left (reaches_use refl tt (reaches_here tt))); one_word = refl })

  without : HasNoLine (2 ∷ 2 ∷ 2 ∷ 2 ∷ [])
  without = none one (reaches_right (reaches_right (reaches_right (reaches_else (reaches_here tt))))) (record { nothing = refl; front = 2 ∷ 2 ∷ 2 ∷ []; digit = 2; path_is = refl; standing = _; above = _; reaches = reaches_right (reaches_right (reaches_right (reaches_here tt))); one_word = refl })

no_second : {s z : Standing} {q : Located} → Reaches all s copies (2 ∷ []) z q → ⊥
no_second r = elim r [ ]

to_copies : {z : Standing} {q : Located} → Reaches all (start 1) main (2 ∷ 2 ∷ 1 ∷ 2 ∷ []) z q → Reaches all (start 1) copies (2 ∷ []) z q
to_copies (reaches_right (reaches_right (reaches_left r))) = r

no_third : {z : Standing} {q : Located} → Reaches all (start 1) main (3 ∷ []) z q → ⊥
no_third r = elim r [ ]

pub returns-clause-sign : goal.returns-clause-sign
returns-clause-sign c = (root, second, third)

pub returns-clause-no_left_side : goal.returns-clause-no_left_side
returns-clause-no_left_side c =
    let one : OneReach = λ fs. c.one_written_place.ensures.one fs Every in
    (other one 7 root (λ e. omega (arith, e)), other one 8 second (λ e. omega (arith, e)))

pub returns-clause-through_both : goal.returns-clause-through_both
returns-clause-through_both c = first

pub returns-clause-no_use : goal.returns-clause-no_use
returns-clause-no_use c =
    let one : OneReach = λ fs. c.one_written_place.ensures.one fs Every in
    (other one 7 first (λ e. omega (arith, e)), other one 4 first (λ e. omega (arith, e)), other one 2 first (λ e. omega (arith, e)))

pub returns-clause-other_use : goal.returns-clause-other_use
returns-clause-other_use c = (other_use, other (λ fs. c.one_written_place.ensures.one fs Every) 8 other_use (λ e. omega (arith, e)))

pub returns-clause-copies : goal.returns-clause-copies
returns-clause-copies c = (copy, copied (λ fs. c.one_written_place.ensures.one fs Every))

pub returns-clause-test : goal.returns-clause-test
returns-clause-test c = tested

pub returns-clause-whole_definition : goal.returns-clause-whole_definition
returns-clause-whole_definition c =
    let one : OneReach = λ fs. c.one_written_place.ensures.one fs Every in
    (whole one, other one 10 (whole one) (λ e. omega (arith, e)))

pub returns-clause-missing : goal.returns-clause-missing
returns-clause-missing c =
    let one : OneReach = λ fs. c.one_written_place.ensures.one fs Every in
    (first_end one, other_end one, without one)

pub returns-clause-nowhere : goal.returns-clause-nowhere
returns-clause-nowhere c = (λ n h. no_second (to_copies h.reaches), λ n h. no_third h.reaches)
