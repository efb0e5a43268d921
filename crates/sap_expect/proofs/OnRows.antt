-- Words one by one before those that read on.
use Rattle.std.proofs.Common.{◌≡◌, ℕ, Bool, true, false, List, [], ◌∷◌, ◌++◌, drop, Some, None, refl, ◌∙◌}
use Rattle.sap_grammar.specs.Words.{Word}
use Rattle.sap_expect.specs.declared.wanted.Change.{Change}
use Rattle.sap_expect.specs.declared.wanted.Limit.{Limit}
use Rattle.sap_expect.specs.declared.wanted.Part.{Part}
use Rattle.sap_expect.specs.declared.wanted.Test.{Test}
use Rattle.sap_expect.specs.declared.wanted.Test.TheVariants.{Always}
use Rattle.sap_expect.specs.FileTable.{Open, Reads, Row, Takes, Wanted, all_opened, changed, holds, is_wanted, level, otherwise, part, reads_word, row, row_among, rows, takes_level, takes_other, takes_row, takes_word}

-- no row of the part begins with the next word
abbrev pub NoRow : Part → List Word → Type 0
NoRow p [] = ⊥
NoRow p (w ∷ ws) = row p w ≡ None

-- there is a word
abbrev pub NotNone : List Word → Type 0
NotNone [] = ⊥
NotNone (w ∷ ws) = Unit {0}

pub taken_first : {n : ℕ} {us : List Open} {w : Word} {ws : List Word} → Reads n us (w ∷ ws) → (k : ℕ) × (next : List Open) × Takes n us w k next × Reads k next ws
taken_first (reads_word {k = k} {next = x} t r) = (k, x, t, r)

pub instead : {n m : ℕ} {p : Part} {l : Limit} {t : Test} {other : List Wanted} {vs : List Open} (ws : List Word) → otherwise p ≡ Some (t, other) → holds t m n ≡ true → NoRow p ws
    → Reads n (all_opened m n other ++ vs) ws → Reads n ((part p l, m) ∷ vs) ws
instead [] e o none r = absurd none
instead (w ∷ ws) e o none r = let h = taken_first r in reads_word (takes_other none e o h.2) h.3

pub on_level : {n k : ℕ} {c : Change} {vs : List Open} (ws : List Word) → NotNone ws → Reads (changed c n k) vs ws → Reads n ((level c, k) ∷ vs) ws
on_level [] some r = absurd some
on_level (w ∷ ws) some r = let h = taken_first r in reads_word (takes_level h.2) h.3

pub on_row : {n m : ℕ} {p : Part} {l : Limit} {w : Word} {t : Test} {rest : List Wanted} {vs : List Open} {ws : List Word} → row p w ≡ Some (t, rest) → holds t m n ≡ true
    → Reads n (all_opened m n rest ++ vs) ws → Reads n ((part p l, m) ∷ vs) (w ∷ ws)
on_row e o r = reads_word (takes_row e o) r

pub on_word : {n k : ℕ} {v : Wanted} {w : Word} {vs : List Open} {ws : List Word} → is_wanted v w ≡ true → Reads n vs ws → Reads n ((v, k) ∷ vs) (w ∷ ws)
on_word e r = reads_word (takes_word e) r

-- the first row of the table from some on, where no row before it begins with the word
abbrev pub begins_first : List Row → Word → Bool
begins_first [] w = false
begins_first (r ∷ rs) w = is_wanted r.0 w

abbrev pub test_of_first : List Row → Test
test_of_first [] = Always
test_of_first (r ∷ rs) = r.1

abbrev pub behind_first : List Row → List Wanted
behind_first [] = []
behind_first (r ∷ rs) = r.2

among_first : (rs : List Row) (w : Word) → begins_first rs w ≡ true → row_among rs w ≡ Some (test_of_first rs, behind_first rs)
among_first [] w e = absurd (cc)
among_first (r ∷ rs) w e = rw e refl

-- row number i
pub on_nth : (p : Part) (i : ℕ) {n m : ℕ} {l : Limit} {w : Word} {vs : List Open} {ws : List Word} → row p w ≡ row_among (drop i (rows p)) w → begins_first (drop i (rows p)) w ≡ true
    → holds (test_of_first (drop i (rows p))) m n ≡ true → Reads n (all_opened m n (behind_first (drop i (rows p))) ++ vs) ws → Reads n ((part p l, m) ∷ vs) (w ∷ ws)
on_nth p i {w = w} e f o h = on_row (e ∙ among_first (drop i (rows p)) w f) o h
