-- What is wanted is always of the words that the table has.
use Rattle.std.proofs.Common.{◌≡◌, ℕ, Bool, true, false, List, [], ◌∷◌, ◌++◌, Option, Some, None, refl, subst}
use Rattle.std.specs.Prelude.{if◌then◌else◌}
use Rattle.std.specs.List.{list_all}
use Rattle.sap_grammar.specs.Words.{Word}
use Rattle.sap_expect.specs.declared.wanted.Part.{Part}
use Rattle.sap_expect.specs.declared.wanted.Part.TheVariants.{File}
use Rattle.sap_expect.specs.declared.wanted.Test.{Test}
use Rattle.sap_expect.specs.FileTable.{Open, Row, Takes, Turn, Wanted, all_opened, is_wanted, otherwise, row_among, rows, takes_level, takes_other, takes_row, takes_word}
use Rattle.sap_expect.specs.code.Going.{is_listed, listed}
use Rattle.sap_expect.proofs.Quiet.{both_true, true_both}

abbrev pub row_listed : Row → Bool
row_listed r = list_all is_listed r.2

pub rows_listed : (p : Part) → list_all row_listed (rows p) ≡ true
rows_listed File = refl
rows_listed p = refl

abbrev pub turn_listed : Option Turn → Bool
turn_listed None = true
turn_listed (Some t) = list_all is_listed t.1

others_listed : (p : Part) → turn_listed (otherwise p) ≡ true
others_listed File = refl
others_listed p = refl

opened_listed : (m n : ℕ) (us : List Wanted) (vs : List Open) → list_all is_listed us ≡ true → listed vs ≡ true → listed (all_opened m n us ++ vs) ≡ true
opened_listed m n [] vs e f = f
opened_listed m n (u ∷ us) vs e f =
    let h = both_true (is_listed u) (list_all is_listed us) e in
    true_both h.0 (opened_listed m n us vs h.1 f)

among_listed : (rs : List Row) (w : Word) (t : Test) (rest : List Wanted) → list_all row_listed rs ≡ true → row_among rs w ≡ Some (t, rest) → list_all is_listed rest ≡ true
among_listed [] w t rest h e = absurd (cc (e))
among_listed (r ∷ rs) w t rest h e =
    let both = both_true (row_listed r) (list_all row_listed rs) h in
    by (is_wanted r.0 w) both.0 (λ f. among_listed rs w t rest both.1 f) e
  where
    by : (b : Bool) → list_all is_listed r.2 ≡ true → (row_among rs w ≡ Some (t, rest) → list_all is_listed rest ≡ true) → (if b then Some (r.1, r.2) else row_among rs w) ≡ Some (t, rest)
        → list_all is_listed rest ≡ true
    by true first others f = subst (λ (o : Option Turn). turn_listed o ≡ true) f first
    by false first others f = others f

pub row_is_listed : (p : Part) (w : Word) (t : Test) (rest : List Wanted) (m n : ℕ) (vs : List Open) → row_among (rows p) w ≡ Some (t, rest) → listed vs ≡ true → listed (all_opened m n rest ++ vs) ≡ true
row_is_listed p w t rest m n vs e h = opened_listed m n rest vs (among_listed (rows p) w t rest (rows_listed p) e) h

pub other_is_listed : (p : Part) (t : Test) (other : List Wanted) (m n : ℕ) (vs : List Open) → otherwise p ≡ Some (t, other) → listed vs ≡ true → listed (all_opened m n other ++ vs) ≡ true
other_is_listed p t other m n vs e h =
    let f : list_all is_listed other ≡ true = subst (λ (o : Option Turn). turn_listed o ≡ true) e (others_listed p) in
    opened_listed m n other vs f h

-- so it stays, word by word
pub listed_on : {n k : ℕ} {vs next : List Open} {w : Word} → Takes n vs w k next → listed vs ≡ true → listed next ≡ true
listed_on (takes_word {v = v} {vs = vs} e) h = (both_true (is_listed v) (listed vs) h).1
listed_on (takes_row {n = n} {m = m} {p = p} {t = t} {rest = rest} {vs = vs} {w = w} e o) h = row_is_listed p w t rest m n vs e h
listed_on (takes_other {n = n} {m = m} {p = p} {t = t} {other = other} {vs = vs} none e o s) h = listed_on s (other_is_listed p t other m n vs e h)
listed_on (takes_level {vs = vs} s) h = listed_on s h
