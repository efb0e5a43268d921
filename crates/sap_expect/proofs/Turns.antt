-- Turns of the walk over what is wanted.
use Rattle.std.proofs.Common.{◌≡◌, ℕ, Bool, true, false, List, [], ◌∷◌, ◌++◌, Option, Some, None, refl, sym, ◌∙◌, ap, subst, arith}
use Rattle.std.specs.Prelude.{map, reverse}
use Rattle.std.proofs.lemmas.List.{map-append, reverse-append}
use Rattle.sap_grammar.specs.Words.{Word}
use Rattle.sap_expect.specs.declared.wanted.Change.{Change}
use Rattle.sap_expect.specs.declared.wanted.Limit.{Limit}
use Rattle.sap_expect.specs.declared.wanted.Test.{Test}
use Rattle.sap_expect.specs.declared.wanted.Wanted as code
use Rattle.sap_expect.specs.declared.wanted.Wanted.TheVariants.{Mark, Named, Name, Lower, Upper, Quoted, Zero, Arity, A, Level}
use Rattle.sap_expect.specs.declared.wanted.Part.{Part}
use Rattle.sap_expect.specs.FileTable.{Counting, Open, Row, TakesBy, Turn, Wanted, all_opened, changed, is_wanted, level, otherwise, part, passes, row, row_among, rows, takes_level, takes_other, takes_row, takes_word}
use Rattle.sap_expect.specs.code.Steps.{IsNothingYet, Taken}
use Rattle.sap_expect.specs.code.WantedView.{open_of, stacked, wanted}
use Rattle.sap_expect.proofs.Lighter.{lighter}
use Rattle.sap_expect.proofs.Takes.{level_back, other_not, part_back, part_no, plain_no, row_not}

pub row_is : (p : Part) (w : Word) (rs : List Row) (o : Option Turn) → rs ≡ rows p → o ≡ row_among rs w → row p w ≡ o
row_is p w rs o e f = sym (f ∙ ap (λ (r : List Row). row_among r w) e)

-- a row of the part begins with the word, and may
pub by_row : {s : Counting} (n m : ℕ) (p : Part) (l : Limit) (w : Word) (t : Test) (rest : List Wanted) (vs after : List Open) → row p w ≡ Some (t, rest) → true ≡ passes s p t m n → after ≡ all_opened m n rest ++ vs
    → TakesBy s n ((part p l, m) ∷ vs) w n after
by_row {s = s} n m p l w t rest vs after e h f = subst (λ (us : List Open). TakesBy s n ((part p l, m) ∷ vs) w n us) (sym f) (takes_row e (sym h))

-- or may not
pub by_no_row : {s : Counting} (n m : ℕ) (p : Part) (l : Limit) (w : Word) (t : Test) (rest : List Wanted) (vs : List Open) → row p w ≡ Some (t, rest) → false ≡ passes s p t m n
    → (k : ℕ) (next : List Open) → TakesBy s n ((part p l, m) ∷ vs) w k next → ⊥
by_no_row n m p l w t rest vs e h k next = row_not n p l m vs w t rest k next e (sym h)

-- none does, and the part is something else
pub by_other : {s : Counting} (n m : ℕ) (p : Part) (l : Limit) (w : Word) (t : Test) (other : List Wanted) (vs after : List Open) → row p w ≡ None → otherwise p ≡ Some (t, other) → true ≡ passes s p t m n
    → after ≡ all_opened m n other ++ vs → IsNothingYet s n ((part p l, m) ∷ vs) w n after
by_other {s = s} n m p l w t other vs after e o h f = subst (λ (us : List Open). IsNothingYet s n ((part p l, m) ∷ vs) w n us) (sym f) (record {
  same = record { on = λ k next r. takes_other e o (sym h) r; back = λ k next r. (part_back n p l m vs w k next t other e o r).1 };
  less = lighter m n p l m t other vs o;
})

-- or would be, and may not
pub by_no_other : {s : Counting} (n m : ℕ) (p : Part) (l : Limit) (w : Word) (t : Test) (other : List Wanted) (vs : List Open) → row p w ≡ None → otherwise p ≡ Some (t, other) → false ≡ passes s p t m n
    → (k : ℕ) (next : List Open) → TakesBy s n ((part p l, m) ∷ vs) w k next → ⊥
by_no_other n m p l w t other vs e o h k next = other_not n p l m vs w t other k next e o (sym h)

-- nor anything else
pub by_none : {s : Counting} (n m : ℕ) (p : Part) (l : Limit) (w : Word) (vs : List Open) → row p w ≡ None → otherwise p ≡ None → (k : ℕ) (next : List Open) → TakesBy s n ((part p l, m) ∷ vs) w k next → ⊥
by_none n m p l w vs e o k next = part_no n p l m vs w k next e o

by_word : (s : Counting) (n : ℕ) (v : Wanted) (i : ℕ) (w : Word) (vs : List Open) (b : Bool) → ((p : Part) (l : Limit) → v ≡ part p l → ⊥) → ((c : Change) → v ≡ level c → ⊥) → b ≡ is_wanted v w
    → Taken s n ((v, i) ∷ vs) w n vs b
by_word s n v i w vs true never nor e = takes_word (sym e)
by_word s n v i w vs false never nor e = λ k next t. plain_no n v i vs w k next never nor (sym e) t

-- the levels change
by_level : {s : Counting} (n i k : ℕ) (c : Change) (w : Word) (vs : List Open) → k ≡ changed c n i → IsNothingYet s n ((level c, i) ∷ vs) w k vs
by_level {s = s} n i k c w vs e = subst (λ (j : ℕ). IsNothingYet s n ((level c, i) ∷ vs) w j vs) (sym e) (record {
  same = record { on = λ j next r. takes_level r; back = λ j next r. level_back n c i vs w j next r };
  less = omega arith;
})

-- what is pushed last is wanted first
pub stacked-push : (vs : List (code.Wanted × ℕ)) (v : code.Wanted × ℕ) → stacked (vs ++ v ∷ []) ≡ open_of v ∷ stacked vs
stacked-push vs v = ap reverse (map-append open_of vs (v ∷ [])) ∙ reverse-append (map open_of vs) (open_of v ∷ [])

-- a token that isn't of a part: what was popped, and what is left
pub popped : (s : Counting) (n : ℕ) (vs rest : List (code.Wanted × ℕ)) (v : code.Wanted) (i : ℕ) (w : Word) (b : Bool) → vs ≡ rest ++ (v, i) ∷ [] → ((p : Part) (l : Limit) → v ≡ A p l → ⊥)
    → ((c : Change) → v ≡ Level c → ⊥) → b ≡ is_wanted (wanted v) w → Taken s n (stacked vs) w n (stacked rest) b
popped s n vs rest v i w b e never nor f =
    subst (λ (us : List Open). Taken s n us w n (stacked rest) b) (sym (ap stacked e ∙ stacked-push rest (v, i)))
    (by_word s n (wanted v) i w (stacked rest) b (no_part v never) (no_level v nor) f)
  where
    no_part : (v : code.Wanted) → ((p : Part) (l : Limit) → v ≡ A p l → ⊥) → (p : Part) (l : Limit) → wanted v ≡ part p l → ⊥
    no_part (Mark m) never p l e = absurd (cc)
    no_part (Named x) never p l e = absurd (cc)
    no_part Name never p l e = absurd (cc)
    no_part Lower never p l e = absurd (cc)
    no_part Upper never p l e = absurd (cc)
    no_part Quoted never p l e = absurd (cc)
    no_part Zero never p l e = absurd (cc)
    no_part Arity never p l e = absurd (cc)
    no_part (A q k) never p l e = never q k refl
    no_part (Level c) never p l e = absurd (cc)

    no_level : (v : code.Wanted) → ((c : Change) → v ≡ Level c → ⊥) → (c : Change) → wanted v ≡ level c → ⊥
    no_level (Mark m) never c e = absurd (cc)
    no_level (Named x) never c e = absurd (cc)
    no_level Name never c e = absurd (cc)
    no_level Lower never c e = absurd (cc)
    no_level Upper never c e = absurd (cc)
    no_level Quoted never c e = absurd (cc)
    no_level Zero never c e = absurd (cc)
    no_level Arity never c e = absurd (cc)
    no_level (A q k) never c e = absurd (cc)
    no_level (Level d) never c e = never d refl

-- a change of levels that was popped
pub popped_level : {s : Counting} (n k : ℕ) (vs rest : List (code.Wanted × ℕ)) (c : Change) (i : ℕ) (w : Word) → vs ≡ rest ++ (Level c, i) ∷ [] → k ≡ changed c n i
    → IsNothingYet s n (stacked vs) w k (stacked rest)
popped_level {s = s} n k vs rest c i w e f = subst (λ (us : List Open). IsNothingYet s n us w k (stacked rest)) (sym (ap stacked e ∙ stacked-push rest (Level c, i))) (by_level n i k c w (stacked rest) f)

-- a part that was popped
pub popped_part : (P : List Open → Type 0) (vs rest : List (code.Wanted × ℕ)) (p : Part) (l : Limit) (i : ℕ) → vs ≡ rest ++ (A p l, i) ∷ [] → P ((part p l, i) ∷ stacked rest) → P (stacked vs)
popped_part P vs rest p l i e h = subst P (sym (ap stacked e ∙ stacked-push rest (A p l, i))) h
