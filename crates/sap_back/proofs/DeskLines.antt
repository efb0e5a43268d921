-- What the tables tell for a line of rules is what is written for it.
use Rattle.std.proofs.Common.{◌≡◌, ◌<◌, ◌+◌, ◌-◌, ◌↔◌, ℕ, Bool, true, false, List, [], ◌∷◌, ◌++◌, Option, Some, None, refl, ap, subst, ◌∙◌, arith, length, map, slice_get}
use Rattle.std.specs.Prelude.{IsTrue}
use Rattle.std.specs.Option.{option_map}
use Rattle.sap_terms.specs.declared.binding.Binding.{Binding}
use Rattle.sap_terms.specs.declared.fact.Fact.{Fact}
use Rattle.sap_runs.specs.declared.process_step.PStep.{PStep}
use Rattle.sap_runs.specs.declared.process_step.PStep.TheVariants as line
use Rattle.sap_runs.specs.declared.rule_step.RStep.{RStep}
use Rattle.sap_back.specs.LinesFor.{AreProcessLinesFor, lines_before, left_pending, pending_lines}
use Rattle.sap_process_lines.specs.Tables.{with_pile, ProcessTables, come, with_known, enters, waiting}
use Rattle.sap_back.specs.code.Desk.{WritesProcess}
use Rattle.sap_process_lines.specs.Told.{GivesTold, before_all, left_if, lines_if, numbers_of, told_embedded, told, told_at, told_where}
use Rattle.sap_process_lines.specs.declared.kind.Kind.{Kind}
use Rattle.sap_process_lines.specs.declared.kind.Kind.TheVariants as kind
use Rattle.sap_back.proofs.Turns.{written_lines}

-- what is told for a rule that is used on the fact of a thread
at_seat : (t : ProcessTables) (of : Kind) (k n : ℕ) (ks : List ℕ) (b : List Binding) (shows : Bool) (count : ℕ) → slice_get t.facts k ≡ Some n
    → told_where t (Some of) (slice_get t.facts k) ks b shows count ≡ told_at t of n ks b shows count
at_seat t of k n ks b shows count e = ap (λ (o : Option ℕ). told_where t (Some of) o ks b shows count) e

-- numbers that are there are found
all_found : (table js ks : List ℕ) → map (slice_get table) js ≡ map Some ks → numbers_of table js ≡ Some ks
all_found table [] [] e = refl
all_found table [] (k ∷ ks) e = cc
all_found table (j ∷ js) [] e = cc
all_found table (j ∷ js) (k ∷ ks) e =
    let first : slice_get table j ≡ Some k = cc in
    let others : map (slice_get table) js ≡ map Some ks = cc in
    ap (λ (o : Option ℕ). before_all o (numbers_of table js)) first ∙ ap (before_all (Some k)) (all_found table js ks others)

-- how many facts of the process come is what is left of how many came
facts_left : (t : ProcessTables) (many count : ℕ) → count ≡ length t.facts + 1 + many → count - length t.facts - 1 ≡ many
facts_left t many count e = omega (arith, e)

-- what is written first is told by whether facts are shown
lines_shown : (shows : Bool) (acts : List Fact) (k : Option ℕ) → (IsTrue shows ↔ (0 < length acts)) → lines_if shows k ≡ lines_before acts k
lines_shown true [] k h = absurd (let some : 0 < 0 = h.0 refl in omega arith)
lines_shown true (f ∷ fs) k h = refl
lines_shown false [] k h = refl
lines_shown false (f ∷ fs) k h = let some : false ≡ true = h.1 (omega arith) in cc

-- and what is pending then
left_shown : (shows : Bool) (acts : List Fact) (k : Option ℕ) → (IsTrue shows ↔ (0 < length acts)) → left_if shows k ≡ left_pending acts k
left_shown true [] k h = absurd (let some : 0 < 0 = h.0 refl in omega arith)
left_shown true (f ∷ fs) k h = refl
left_shown false [] k h = refl
left_shown false (f ∷ fs) k h = let some : false ≡ true = h.1 (omega arith) in cc

-- what is told for an embedded rule
embedded_told : (t : ProcessTables) (n k : ℕ) (js ks : List ℕ) (b : List Binding) (shows : Bool) (count many : ℕ) (acts : List Fact) → map (slice_get t.facts) js ≡ map Some ks
    → count ≡ length t.facts + 1 + many → (IsTrue shows ↔ (0 < length acts))
    → told_embedded t n (k ∷ js) b shows count
    ≡ Some (lines_before acts t.pending ++ line.Embedded n ks b ∷ [], waiting (with_pile t n many) (left_pending acts t.pending))
embedded_told t n k js ks b shows count many acts all counts flag =
    let there = all_found t.facts js ks all in
    let left = facts_left t many count counts in
    let first = lines_shown shows acts t.pending flag in
    let last = left_shown shows acts t.pending flag in
    ap (λ (o : Option (List ℕ)). from (count - length t.facts - 1) (lines_if shows t.pending) (left_if shows t.pending) o) there
    ∙ ap (λ (i : ℕ). from i (lines_if shows t.pending) (left_if shows t.pending) (Some ks)) left
    ∙ ap (λ (ls : List PStep). from many ls (left_if shows t.pending) (Some ks)) first
    ∙ ap (λ (p : Option ℕ). from many (lines_before acts t.pending) p (Some ks)) last
  where
    from : ℕ → List PStep → Option ℕ → Option (List ℕ) → Option (List PStep × ProcessTables)
    from i ls p o = option_map {U = List PStep × ProcessTables} (λ (is : List ℕ). (ls ++ line.Embedded n is b ∷ [], waiting (with_pile t n i) p)) o

-- what stands opposite to a line of rules is told for it
pub told_lines : (t : ProcessTables) (step : RStep) (shows : Bool) (count : ℕ) (acts : List Fact) (own : List PStep) (behind : ProcessTables)
    → AreProcessLinesFor t count step acts own behind → (IsTrue shows ↔ (0 < length acts)) → told t step shows count ≡ Some (own, behind)
told_lines t step shows count acts own behind (AreProcessLinesFor.starts b) flag = refl
told_lines t step shows count acts own behind (AreProcessLinesFor.starts_copies n k path ks b number) flag = at_seat t kind.RepStart k n (k ∷ ks) b shows count number
told_lines t step shows count acts own behind (AreProcessLinesFor.sends n k path ks b number) flag = at_seat t kind.OutMsg k n (k ∷ ks) b shows count number
told_lines t step shows count acts own behind (AreProcessLinesFor.goes_on n k path ks b number) flag = at_seat t kind.OutAck k n (k ∷ ks) b shows count number
told_lines t step shows count acts own behind (AreProcessLinesFor.ends n k path ks b number) flag = at_seat t kind.Nil k n (k ∷ ks) b shows count number
told_lines t step shows count acts own behind (AreProcessLinesFor.splits n k path ks b number) flag = at_seat t kind.Par k n (k ∷ ks) b shows count number
told_lines t step shows count acts own behind (AreProcessLinesFor.copies n k path ks b number) flag = at_seat t kind.RepCopy k n (k ∷ ks) b shows count number
told_lines t step shows count acts own behind (AreProcessLinesFor.makes_name n k m j path ks b number made) flag =
    at_seat t kind.New k n (k ∷ j ∷ ks) b shows count number ∙ ap (option_map {U = List PStep × ProcessTables} (λ (i : ℕ). (line.New n i ∷ [], come t (n ∷ [])))) made
told_lines t step shows count acts own behind (AreProcessLinesFor.outputs n k path ks b number) flag = at_seat t kind.Out k n (k ∷ ks) b shows count number
told_lines t step shows count acts own behind (AreProcessLinesFor.outputs_on n k e path ks b number is) flag =
    at_seat t kind.OutAdv k n (k ∷ ks) b shows count number ∙ ap (option_map {U = List PStep × ProcessTables} (λ (i : ℕ). (line.Send n i ∷ [], waiting (with_known (come t (t.known ∷ n ∷ []))) None))) is
told_lines t step shows count acts own behind (AreProcessLinesFor.inputs n k e path ks b number is) flag =
    at_seat t kind.In k n (k ∷ ks) b shows count number ∙ ap (option_map {U = List PStep × ProcessTables} (λ (i : ℕ). (line.In n i ∷ [], waiting (come t (n ∷ [])) None))) is
told_lines t step shows count acts own behind (AreProcessLinesFor.inputs_on n k e path ks b number is) flag =
    at_seat t kind.In k n (k ∷ ks) b shows count number ∙ ap (option_map {U = List PStep × ProcessTables} (λ (i : ℕ). (line.In n i ∷ [], waiting (come t (n ∷ [])) None))) is
told_lines t step shows count acts own behind (AreProcessLinesFor.meets a n k j path ks b number sender) flag =
    at_seat t kind.InMsg k n (k ∷ j ∷ ks) b shows count number ∙ ap (option_map {U = List PStep × ProcessTables} (λ (h : ℕ). (line.Sync h n ∷ [], come t (h ∷ n ∷ [])))) sender
told_lines t step shows count acts own behind (AreProcessLinesFor.shows n k path ks b number) flag = at_seat t kind.Event k n (k ∷ ks) b shows count number
told_lines t step shows count acts own behind (AreProcessLinesFor.inserts n k path ks b number) flag = at_seat t kind.Insert k n (k ∷ ks) b shows count number
told_lines t step shows count acts own behind (AreProcessLinesFor.deletes n k path ks b number) flag = at_seat t kind.Delete k n (k ∷ ks) b shows count number
told_lines t step shows count acts own behind (AreProcessLinesFor.locks n k path ks b number) flag = at_seat t kind.Lock k n (k ∷ ks) b shows count number
told_lines t step shows count acts own behind (AreProcessLinesFor.unlocks n k path ks b number) flag = at_seat t kind.Unlock k n (k ∷ ks) b shows count number
told_lines t step shows count acts own behind (AreProcessLinesFor.agrees n k path ks b number) flag = at_seat t kind.Then k n (k ∷ ks) b shows count number
told_lines t step shows count acts own behind (AreProcessLinesFor.differs n k path ks b number) flag = at_seat t kind.Else k n (k ∷ ks) b shows count number
told_lines t step shows count acts own behind (AreProcessLinesFor.finds n k path ks b number) flag = at_seat t kind.Found k n (k ∷ ks) b shows count number
told_lines t step shows count acts own behind (AreProcessLinesFor.misses n k path ks b number) flag = at_seat t kind.Missing k n (k ∷ ks) b shows count number
told_lines t step shows count acts own behind (AreProcessLinesFor.embeds n k many js taken path b number all counts) flag =
    at_seat t kind.Embedded k n (k ∷ js) b shows count number ∙ embedded_told t n k js taken b shows count many acts all counts flag
told_lines t step shows count acts own behind (AreProcessLinesFor.makes n) flag = refl
told_lines t step shows count acts own behind (AreProcessLinesFor.learns k e number) flag = ap (option_map {U = List PStep × ProcessTables} (λ (i : ℕ). ([], enters t i))) number
told_lines t step shows count acts own behind (AreProcessLinesFor.owns k n number) flag = ap (option_map {U = List PStep × ProcessTables} (λ (i : ℕ). (line.Name i ∷ [], with_known (enters t t.known)))) number
told_lines t step shows count acts own behind (AreProcessLinesFor.writes a) flag = refl
told_lines t step shows count acts own behind (AreProcessLinesFor.applies f ks js all) flag = ap (option_map {U = List PStep × ProcessTables} (λ (is : List ℕ). (line.Apply f is ∷ [], with_known (enters t t.known)))) (all_found t.entries ks js all)
told_lines t step shows count acts own behind (AreProcessLinesFor.knows k e number) flag = ap (option_map {U = List PStep × ProcessTables} (λ (i : ℕ). (pending_lines t.pending, waiting (come t (0 ∷ [])) (Some i)))) number

-- what is given of what is told
given : (o : Option (List PStep × ProcessTables)) (behind tables : ProcessTables) (before after more : List PStep) → o ≡ Some (more, tables) → GivesTold o behind before after → (after ≡ before ++ more) × (behind ≡ tables)
given o behind tables before after more e = subst (λ (p : Option (List PStep × ProcessTables)). GivesTold p behind before after) e

-- what gives what is told writes what is written
pub gives_writes : (t behind : ProcessTables) (step : RStep) (shows : Bool) (count : ℕ) (before after : List PStep) → GivesTold (told t step shows count) behind before after → WritesProcess t behind step shows count before after
gives_writes t behind step shows count before after h =
    λ g agents pending s acts more next later tables w counts flag. given (told t step shows count) behind tables before after more (told_lines t step shows count acts more tables (written_lines count w counts) flag) h
