-- Lines that are written rank by rank.
use Rattle.std.proofs.Common.{◌≡◌, ◌<◌, ◌≤◌, ◌+◌, ℕ, List, [], ◌∷◌, ◌++◌, length, Some, sym, ap, ◌∙◌, ◌⊎◌, inl, inr, arith, subst}
use Rattle.std.specs.Prelude.{slice_get}
use Rattle.std.proofs.lemmas.Bool.{cases_lt}
use Rattle.std.proofs.lemmas.List.{append_assoc}
use Rattle.std.proofs.lemmas.Option.{slice_get_within}
use Rattle.sap_derive.specs.code.Lines.{premises_of}
use Rattle.sap_derive.specs.code.Closed.{IsSound, IsStep}
use Rattle.sap_derive.specs.code.Listed.{IsListed, AreListed, Ascend}
use Rattle.sap_derive.specs.code.Needed.{AreNeeded, IsCovered, IsLineOver, no_lines, one_more, Writes, there, one_line, IsWrittenTo}
use Rattle.sap_derive.specs.declared.clause.Clause.{Clause}
use Rattle.sap_derive.specs.declared.closure.Closure.{Closure}
use Rattle.sap_derive.specs.declared.line.Line.{Line}
use Rattle.sap_derive.specs.declared.grounds.Grounds.TheVariants.{By}
use Rattle.sap_derive.proofs.Gets.{same-or_not, append-none, get-more, get-last}

module _ (s : Closure) (entries : List ℕ) (goal : ℕ) (ranks : List ℕ) where
  -- before the first rank nothing is written
  pub written-none : IsWrittenTo s entries goal ranks 0 entries []
  written-none = record { found = []; are = append-none entries; written = no_lines; done = λ k j n l at e. absurd (omega arith) }

  -- an entry stands in the list still
  pub listed-still : (items : List ℕ) (lines : List Line) (count : ℕ) → IsWrittenTo s entries goal ranks count items lines → (n : ℕ) → IsListed entries n → IsListed items n
  listed-still items lines count w n l = rw w.are (l.0, get-more entries w.found l.0 n l.1)

  module _ (sound : IsSound s) (needed : AreNeeded s entries goal ranks) where
    -- what the next rank stands on stands in the list
    pub premises-there : (items : List ℕ) (lines : List Line) (count rank : ℕ) → Ascend ranks → slice_get ranks count ≡ Some rank → IsWrittenTo s entries goal ranks count items lines
        → (n c : ℕ) (clause : Clause) → slice_get s.known rank ≡ Some n → ¬ IsListed items n → slice_get s.ways.items rank ≡ Some (By c) → slice_get s.clauses c ≡ Some clause
        → AreListed items (premises_of clause.line)
    premises-there items lines count rank ascend at w n c clause e new way is k p q =
        stands (needed.closed rank before.0 p (count, at) (record { clause = clause; by = record { number = n; at = e; new = no_entry; index = c; way = way; is = is }; place = k; number = p; premise = q; at = before.2 }) before.2)
      where
        step : IsStep s.clauses s.known rank c
        step = sound.steps rank c way

        before : (j : ℕ) × (j < rank) × (slice_get s.known j ≡ Some p)
        before =
            let a = step.is in
            let same : step.clause ≡ clause = cc in
            step.before k p (subst (λ (x : Clause). slice_get (premises_of x.line) k ≡ Some p) (sym same) q)

        no_entry : ¬ IsListed entries n
        no_entry = λ l. new (listed-still items lines count w n l)

        stands : IsCovered s.known entries ranks p → IsListed items p
        stands (inl l) = listed-still items lines count w p l
        stands (inr h) = earlier (h before.0 before.2) where
          earlier : IsListed ranks before.0 → IsListed items p
          earlier l = go (cases_lt l.0 count) where
            go : (l.0 < count) ⊎ (count ≤ l.0) → IsListed items p
            go (inl x) = w.done l.0 before.0 p x l.1 before.2
            go (inr x) = let o = ascend count l.0 rank before.0 x at l.1 in let b = before.1 in absurd (omega arith)

    -- one rank more
    pub written-next : (items : List ℕ) (lines : List Line) (count rank : ℕ) → slice_get ranks count ≡ Some rank → IsWrittenTo s entries goal ranks count items lines
        → (new_items : List ℕ) (new_lines : List Line) → Writes s rank items lines new_items new_lines → IsWrittenTo s entries goal ranks (count + 1) new_items new_lines
    written-next items lines count rank at w _ _ (there m known listed e f) = rw (e, f) record {
      found = w.found;
      are = w.are;
      written = w.written;
      done = λ k j n l h q.
          elim (same-or_not k count) [
            | inl x ↦ let here = subst (λ (i : ℕ). slice_get ranks i ≡ Some j) x h in
                let one : rank ≡ j = cc in
                let two = subst (λ (i : ℕ). slice_get s.known i ≡ Some m) one known in
                let same : m ≡ n = cc in
                subst (λ (i : ℕ). IsListed items i) same listed
            | inr x ↦ w.done k j n (omega arith) h q
          ];
    }
    written-next items lines count rank at w _ _ (one_line c clause line known is new over e f) = rw (e, f) record {
      found = w.found ++ clause.gives ∷ [];
      are = ap (λ (xs : List ℕ). xs ++ clause.gives ∷ []) w.are ∙ append_assoc entries w.found (clause.gives ∷ []);
      written = one_more lines w.found rank c clause line w.written (needed.needed rank (count, at)).needed known is (subst (λ (xs : List ℕ). ¬ IsListed xs clause.gives) w.are new) (subst (λ (xs : List ℕ). IsLineOver xs clause.line line) w.are over);
      done = λ k j n l h q.
          elim (same-or_not k count) [
            | inl x ↦ let here = subst (λ (i : ℕ). slice_get ranks i ≡ Some j) x h in
                let one : rank ≡ j = cc in
                let two = subst (λ (i : ℕ). slice_get s.known i ≡ Some clause.gives) one known in
                let same : clause.gives ≡ n = cc in
                (length items, subst (λ (i : ℕ). slice_get (items ++ clause.gives ∷ []) (length items) ≡ Some i) same (get-last items clause.gives))
            | inr x ↦ let before = w.done k j n (omega arith) h q in (before.0, get-more items (clause.gives ∷ []) before.0 n before.1)
          ];
    }

    -- the goal stands in the list then
    pub goal-there : (items : List ℕ) (lines : List Line) (count : ℕ) → length ranks ≤ count → IsWrittenTo s entries goal ranks count items lines → (n : ℕ) → slice_get s.known goal ≡ Some n → IsListed items n
    goal-there items lines count all w n e = stands (needed.itself n e) where
      stands : IsCovered s.known entries ranks n → IsListed items n
      stands (inl l) = listed-still items lines count w n l
      stands (inr h) = (let l = h goal e in let b = slice_get_within ranks l.0 goal l.1 in w.done l.0 goal n (omega arith) l.1 e)
