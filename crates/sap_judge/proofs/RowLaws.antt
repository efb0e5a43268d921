-- The map of a trace's facts.
use Rattle.std.proofs.Common.{◌≡◌, ℕ, suc, ◌+◌, List, [], ◌∷◌, ◌++◌, Bool, true, false, Some, drop, length, map, append_assoc, append-nil, refl, sym, ap, ◌∙◌, if◌then◌else◌, arith}
use Rattle.std.specs.Prelude.{slice_get}
use Rattle.std.specs.Option.{unwrap_or}
use Rattle.std.specs.Str.{bytes_eq}
use Rattle.std.proofs.lemmas.List.{length-append, length-map, map_push}
use Rattle.std.proofs.lemmas.Slice.Eq.{bytes_eq-Decides}
use Rattle.sap_judge.proofs.Tests.{names_turn}
use Rattle.sap_formula.specs.Cost.{time_facts, trace_facts}
use Rattle.sap_match.specs.View.{sight}
use Rattle.sap_judge.specs.Guards.{sights, sights_at, sights_from}
use Rattle.sap_judge.specs.code.Rows.{Adds, if_named, row_of}
use Rattle.sap_match.specs.declared.sighted.Sighted.{Sighted}
use Rattle.sap_terms.proofs.PlainLaws.Lists.{drop_got}
use Rattle.sap_terms.specs.NameMap.{Puts, items_at, value_at}
use Rattle.sap_terms.specs.Trace.{Trace}
use Rattle.sap_terms.specs.declared.fact.Fact.{Fact}

-- a fact more in the row of its name
pub behind_row : (old new : List (List ℕ × List Sighted)) (s : Sighted) → Puts old new s.fact.now.name (Some (items_at old s.fact.now.name ++ s ∷ [])) → Adds old new (λ n. if_named n s)
behind_row old new s put n = by (bytes_eq s.fact.now.name n) refl where
  name : List ℕ
  name = s.fact.now.name

  longer : List Sighted
  longer = items_at old name ++ s ∷ []

  by : (b : Bool) → bytes_eq s.fact.now.name n ≡ b → row_of new n ≡ row_of old n ++ if_named n s
  by true e =
      let here : value_at new n ≡ Some longer = put n ∙ ap (λ (b : Bool). if b then Some longer else value_at old n) e in
      let new_row : row_of new n ≡ row_of old name ++ sight s ∷ [] = ap (λ o. map sight (unwrap_or o [])) here ∙ map_push sight (items_at old name) s in
      let old_row : row_of old name ≡ row_of old n = ap (row_of old) ((bytes_eq-Decides name n).0 e) in
      let one : if_named n s ≡ sight s ∷ [] = ap (λ (b : Bool). if b then sight s ∷ [] else []) (names_turn n name ∙ e) in
      new_row ∙ (λ i. old_row i ++ sym one i)
  by false e =
      let here : value_at new n ≡ value_at old n = put n ∙ ap (λ (b : Bool). if b then Some longer else value_at old n) e in
      let none : if_named n s ≡ [] = ap (λ (b : Bool). if b then sight s ∷ [] else []) (names_turn n name ∙ e) in
      ap (λ o. map sight (unwrap_or o [])) here ∙ sym (append-nil (row_of old n)) ∙ ap (λ z. row_of old n ++ z) (sym none)

-- one time more
pub times_more : (tr : Trace) (rows more : List (List ℕ × List Sighted)) (k : ℕ) (p : List Fact) → ((n : List ℕ) → sights n tr ≡ row_of rows n ++ sights_from n k (drop k tr))
    → slice_get tr k ≡ Some p → Adds rows more (λ n. sights_at n k p) → (n : List ℕ) → sights n tr ≡ row_of more n ++ sights_from n (k + 1) (drop (k + 1) tr)
times_more tr rows more k p i h a n =
    let rest = sights_from n (k + 1) (drop (k + 1) tr) in
    i n ∙ ap (λ z. row_of rows n ++ sights_from n k z) (drop_got tr k p h) ∙ sym (append_assoc (row_of rows n) (sights_at n k p) rest) ∙ ap (λ z. z ++ rest) (sym (a n))

none_more : (k l m : ℕ) → k ≡ 0 → l ≡ m → l ≡ k + m
none_more k l m e h = omega arith

one_more : (k l m : ℕ) → k ≡ 1 → l ≡ m → suc l ≡ k + m
one_more k l m e h = omega arith

-- how many facts of the name a time has
counted_at : (n : List ℕ) (k : ℕ) (xs : List Fact) → length (sights_at n k xs) ≡ time_facts n xs
counted_at n k [] = refl
counted_at n k (x ∷ xs) = by (bytes_eq n x.name) refl (counted_at n k xs) where
  by : (b : Bool) → bytes_eq n x.name ≡ b → length (sights_at n k xs) ≡ time_facts n xs → length (if b then record { time = k; fact = x } ∷ sights_at n k xs else sights_at n k xs) ≡ (if bytes_eq x.name n then 1 else 0) + time_facts n xs
  by true e i = one_more (if bytes_eq x.name n then 1 else 0) (length (sights_at n k xs)) (time_facts n xs) (ap (λ (b : Bool). if b then 1 else 0) (names_turn x.name n ∙ e)) i
  by false e i = none_more (if bytes_eq x.name n then 1 else 0) (length (sights_at n k xs)) (time_facts n xs) (ap (λ (b : Bool). if b then 1 else 0) (names_turn x.name n ∙ e)) i

counted_from : (n : List ℕ) (k : ℕ) (tr : Trace) → length (sights_from n k tr) ≡ trace_facts n tr
counted_from n k [] = refl
counted_from n k (p ∷ tr) = length-append (sights_at n k p) (sights_from n (k + 1) tr) ∙ λ i. counted_at n k p i + counted_from n (k + 1) tr i

-- how many the trace has
pub counted : (n : List ℕ) (tr : Trace) (row : List Sighted) → map sight row ≡ sights n tr → length row ≡ trace_facts n tr
counted n tr row e = sym (length-map row sight) ∙ ap length e ∙ counted_from n 0 tr
