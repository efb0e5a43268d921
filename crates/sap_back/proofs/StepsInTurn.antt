-- Lines that stand in turn are opposite to the lines of rules that are counted.
use Rattle.std.proofs.Common.{◌≡◌, ℕ, zero, suc, ◌+◌, Bool, true, false, cond, List, [], ◌∷◌, ◌++◌, Option, Some, None, refl, sym, ap, subst, ◌∙◌, arith, add-one, append_assoc, drop, map}
use Rattle.std.specs.List.{count_by}
use Rattle.std.specs.Option.{unwrap_or}
use Rattle.std.specs.Prelude.{if◌then◌else◌, slice_get}
use Rattle.std.proofs.lemmas.List.Sums.{sum_by-append}
use Rattle.sap_opposite.specs.Steps.{ends_wait, gives, has_own, is_know, is_no_know, numbers_where, opposite_step, opposite_steps, steps_behind}
use Rattle.sap_process_lines.specs.Tables.{ProcessTables, first_process_tables}
use Rattle.sap_rule.specs.declared.rule.Rule.{Rule}
use Rattle.sap_runs.specs.declared.process_step.PStep.{PStep}
use Rattle.sap_runs.specs.declared.process_step.PStep.TheVariants as line
use Rattle.sap_runs.specs.declared.rule_step.RStep.{RStep}
use Rattle.sap_terms.specs.Trace.{Trace}
use Rattle.sap_terms.specs.declared.binding.Binding.{Binding}
use Rattle.sap_terms.specs.declared.fact.Fact.{Fact}
use Rattle.sap_back.specs.LinesFor.{AreProcessLinesFor, AreProcessLinesForAll, no_lines, more, ProcessLinesStandInTurn, left_pending, lines_before, pending_lines}
use Rattle.sap_back.specs.Steps.{given_behind, last_given, steps_in_turn, steps_of_each, written_for}

-- ---- lines that are dealt with one by one

-- each line takes the first of these numbers that it is opposite to, and leaves the others
abbrev dealt : (own given : List ℕ) → List PStep → List ℕ
dealt own given [] = []
dealt own given (l ∷ ls) =
    (if is_know l then unwrap_or (slice_get given 0) 0 else unwrap_or (slice_get own 0) 0)
    ∷ dealt (if is_no_know l then drop 1 own else own) (if ends_wait l then drop 1 given else given) ls

got_there : (n : ℕ) (xs : List ℕ) → slice_get (drop n xs) 0 ≡ slice_get xs n
got_there zero [] = refl
got_there zero (x ∷ xs) = refl
got_there (suc n) [] = refl
got_there (suc n) (x ∷ xs) = got_there n xs

left_there : (n : ℕ) (xs : List ℕ) → drop 1 (drop n xs) ≡ drop (n + 1) xs
left_there n xs = at n xs ∙ ap (λ (m : ℕ). drop m xs) (sym (add-one n))
  where
    at : (n : ℕ) (xs : List ℕ) → drop 1 (drop n xs) ≡ drop (suc n) xs
    at zero xs = refl
    at (suc n) [] = refl
    at (suc n) (x ∷ xs) = at n xs

one_counted : (p : PStep → Bool) (before : List PStep) (l : PStep) → count_by p (before ++ l ∷ []) ≡ count_by p before + (0 + cond (p l) 1 0)
one_counted p before l = sum_by-append (λ (x : PStep). cond (p x) 1 0) before (l ∷ [])

-- what is left behind so many lines of a kind
left_behind : (p : PStep → Bool) (before : List PStep) (l : PStep) (xs : List ℕ)
    → (if p l then drop 1 (drop (count_by p before) xs) else drop (count_by p before) xs) ≡ drop (count_by p (before ++ l ∷ [])) xs
left_behind p before l xs = by (p l) ∙ ap (λ (n : ℕ). drop n xs) (sym (one_counted p before l))
  where
    by : (b : Bool) → (if b then drop 1 (drop (count_by p before) xs) else drop (count_by p before) xs) ≡ drop (count_by p before + (0 + cond b 1 0)) xs
    by true = left_there (count_by p before) xs
    by false = let same : count_by p before ≡ count_by p before + 0 = omega arith in ap (λ (n : ℕ). drop n xs) same

counted_is_dealt : (run : List RStep) (before lines : List PStep)
    → steps_behind run before lines ≡ dealt (drop (count_by is_no_know before) (numbers_where has_own 1 run)) (drop (count_by ends_wait before) (numbers_where gives 1 run)) lines
counted_is_dealt run before [] = refl
counted_is_dealt run before (l ∷ ls) =
    let own = numbers_where has_own 1 run in
    let given = numbers_where gives 1 run in
    let n = count_by is_no_know before in
    let m = count_by ends_wait before in
    let first : opposite_step run before l ≡ (if is_know l then unwrap_or (slice_get (drop m given) 0) 0 else unwrap_or (slice_get (drop n own) 0) 0) =
    λ i. if is_know l then unwrap_or (sym (got_there m given) i) 0 else unwrap_or (sym (got_there n own) i) 0 in
    let rest = counted_is_dealt run (before ++ l ∷ []) ls in
    (λ i. first i ∷ rest i) ∙ (λ i. (if is_know l then unwrap_or (slice_get (drop m given) 0) 0 else unwrap_or (slice_get (drop n own) 0) 0)
    ∷ dealt (sym (left_behind is_no_know before l own) i) (sym (left_behind ends_wait before l given) i) ls)

-- ---- the lines for a line of rules

-- the number of the line that gave what is pending
abbrev waits : Option ℕ → ℕ → List ℕ
waits None given = []
waits (Some e) given = given ∷ []

module _ (given number : ℕ) (own others : List ℕ) (rest : List PStep) where
  -- they take the numbers that are theirs
  abbrev AreDealt : Option ℕ → RStep → List PStep → Option ℕ → Type 0
  AreDealt pending step ls left =
      dealt (if has_own step then number ∷ own else own) (waits pending given ++ (if gives step then number ∷ others else others)) (ls ++ rest)
      ≡ map (written_for given number) ls ++ dealt own (waits left (given_behind given number step) ++ others) rest

  -- a line that shows facts has what is pending written first
  shows_pending : (o : Option ℕ) (t : ℕ) → dealt (number ∷ own) (waits o given ++ others) ((pending_lines o ++ line.Event t ∷ []) ++ rest) ≡ map (written_for given number) (pending_lines o ++ line.Event t ∷ []) ++ dealt own others rest
  shows_pending None t = refl
  shows_pending (Some e) t = refl

  embeds_pending : (acts : List Fact) (o : Option ℕ) (t : ℕ) (ks : List ℕ) (b : List Binding)
      → dealt (number ∷ own) (waits o given ++ others) ((lines_before acts o ++ line.Embedded t ks b ∷ []) ++ rest)
      ≡ map (written_for given number) (lines_before acts o ++ line.Embedded t ks b ∷ []) ++ dealt own (waits (left_pending acts o) given ++ others) rest
  embeds_pending [] o t ks b = refl
  embeds_pending (f ∷ fs) None t ks b = refl
  embeds_pending (f ∷ fs) (Some e) t ks b = refl

  -- and so has one that gives the next
  gives_next : (o : Option ℕ) → dealt own (waits o given ++ number ∷ others) (pending_lines o ++ rest) ≡ map (written_for given number) (pending_lines o) ++ dealt own (number ∷ others) rest
  gives_next None = refl
  gives_next (Some e) = refl

  -- what is pending is taken, or sent on
  takes_it : (o : Option ℕ) (t e : ℕ) → o ≡ Some e → dealt (number ∷ own) (waits o given ++ others) (line.In t e ∷ rest) ≡ number ∷ dealt own others rest
  takes_it o t e is = subst (λ (p : Option ℕ). dealt (number ∷ own) (waits p given ++ others) (line.In t e ∷ rest) ≡ number ∷ dealt own others rest) (sym is) refl

  sends_it : (o : Option ℕ) (t e : ℕ) → o ≡ Some e → dealt (number ∷ own) (waits o given ++ others) (line.Send t e ∷ rest) ≡ number ∷ dealt own others rest
  sends_it o t e is = subst (λ (p : Option ℕ). dealt (number ∷ own) (waits p given ++ others) (line.Send t e ∷ rest) ≡ number ∷ dealt own others rest) (sym is) refl

  each_dealt : {tables next : ProcessTables} {count : ℕ} {step : RStep} {acts : List Fact} {ls : List PStep} → AreProcessLinesFor tables count step acts ls next → AreDealt tables.pending step ls next.pending
  each_dealt (AreProcessLinesFor.starts b) = refl
  each_dealt (AreProcessLinesFor.starts_copies t k path ks b is) = refl
  each_dealt (AreProcessLinesFor.sends t k path ks b is) = refl
  each_dealt (AreProcessLinesFor.goes_on t k path ks b is) = refl
  each_dealt (AreProcessLinesFor.ends t k path ks b is) = refl
  each_dealt (AreProcessLinesFor.splits t k path ks b is) = refl
  each_dealt (AreProcessLinesFor.copies t k path ks b is) = refl
  each_dealt (AreProcessLinesFor.makes_name t k n j path ks b is made) = refl
  each_dealt (AreProcessLinesFor.outputs t k path ks b is) = refl
  each_dealt {tables = tables} (AreProcessLinesFor.outputs_on t k e path ks b is taken) = sends_it tables.pending t e taken
  each_dealt {tables = tables} (AreProcessLinesFor.inputs t k e path ks b is taken) = takes_it tables.pending t e taken
  each_dealt {tables = tables} (AreProcessLinesFor.inputs_on t k e path ks b is taken) = takes_it tables.pending t e taken
  each_dealt (AreProcessLinesFor.meets a t k j path ks b is sender) = refl
  each_dealt {tables = tables} (AreProcessLinesFor.shows t k path ks b is) = shows_pending tables.pending t
  each_dealt (AreProcessLinesFor.inserts t k path ks b is) = refl
  each_dealt (AreProcessLinesFor.deletes t k path ks b is) = refl
  each_dealt (AreProcessLinesFor.locks t k path ks b is) = refl
  each_dealt (AreProcessLinesFor.unlocks t k path ks b is) = refl
  each_dealt (AreProcessLinesFor.agrees t k path ks b is) = refl
  each_dealt (AreProcessLinesFor.differs t k path ks b is) = refl
  each_dealt (AreProcessLinesFor.finds t k path ks b is) = refl
  each_dealt (AreProcessLinesFor.misses t k path ks b is) = refl
  each_dealt {tables = tables} {acts = acts} (AreProcessLinesFor.embeds t k many js taken path b is all counts) = embeds_pending acts tables.pending t taken b
  each_dealt (AreProcessLinesFor.makes n) = refl
  each_dealt (AreProcessLinesFor.learns k e is) = refl
  each_dealt (AreProcessLinesFor.owns k n is) = refl
  each_dealt (AreProcessLinesFor.writes a) = refl
  each_dealt (AreProcessLinesFor.applies f ks js all) = refl
  each_dealt {tables = tables} (AreProcessLinesFor.knows k e is) = gives_next tables.pending

-- ---- all lines

-- behind the last, what is still pending
ends_so : (o : Option ℕ) (given : ℕ) → dealt [] (waits o given ++ []) (pending_lines o) ≡ map (written_for given 0) (pending_lines o)
ends_so None given = refl
ends_so (Some e) given = refl

all_dealt : (rules : List Rule) (tables last : ProcessTables) (steps : List RStep) (full : Trace) (lines : List PStep) (turns : AreProcessLinesForAll rules tables steps full lines last) (given number : ℕ)
    → dealt (numbers_where has_own number steps) (waits tables.pending given ++ numbers_where gives number steps) (lines ++ pending_lines last.pending)
    ≡ steps_of_each turns given number ++ map (written_for (last_given given number steps) 0) (pending_lines last.pending)
all_dealt rules tables _ _ _ _ no_lines given number = ends_so tables.pending given
all_dealt rules tables last _ _ _ (more {next = next} {step = step} {own = ls} {rule_lines = steps} {full = full} {rest = rest} here turns) given number =
    let own = numbers_where has_own (number + 1) steps in
    let others = numbers_where gives (number + 1) steps in
    let behind = given_behind given number step in
    let tail = map (written_for (last_given behind (number + 1) steps) 0) (pending_lines last.pending) in
    ap (dealt (numbers_where has_own number (step ∷ steps)) (waits tables.pending given ++ numbers_where gives number (step ∷ steps))) (append_assoc ls rest (pending_lines last.pending))
    ∙ each_dealt given number own others (rest ++ pending_lines last.pending) here
    ∙ ap (λ (ns : List ℕ). map (written_for given number) ls ++ ns) (all_dealt rules next last steps full rest turns behind (number + 1))
    ∙ sym (append_assoc (map (written_for given number) ls) (steps_of_each turns behind (number + 1)) tail)

pub counted_in_turn : (rules : List Rule) (run : List RStep) (full : Trace) (lines : List PStep) (turns : ProcessLinesStandInTurn rules run full lines) → opposite_steps run lines ≡ steps_in_turn turns
counted_in_turn rules run full lines turns =
    ap (opposite_steps run) turns.is ∙ counted_is_dealt run [] (turns.own ++ pending_lines turns.last.pending)
    ∙ all_dealt rules first_process_tables turns.last run full turns.own turns.each 0 1
