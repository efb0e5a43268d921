-- One word of a kind may stand where all may.
use Rattle.std.proofs.Common.{◌≡◌, ◌⊎◌, inl, inr, ℕ, Bool, true, false, List, [], ◌∷◌, ◌++◌, Option, Some, None, refl, sym, ◌∙◌, subst, arith}
use Rattle.std.specs.Prelude.{codes, if◌then◌else◌, is_some}
use Rattle.std.specs.List.{list_all, list_any}
use Rattle.std.specs.Str.{bytes_eq}
use Rattle.sap_terms.proofs.PlainLaws.Known.{clash, one_name}
use Rattle.sap_grammar.specs.Words.{Word, is_lower, is_upper, name, number, quoted}
use Rattle.sap_expect.specs.declared.wanted.Part.{Part}
use Rattle.sap_expect.specs.declared.wanted.Part.TheVariants.{Attribute, Builtin, Formula, Mode, Sequence, Truth}
use Rattle.sap_expect.specs.declared.wanted.Limit.{Limit}
use Rattle.sap_expect.specs.declared.wanted.Limit.TheVariants.{Same}
use Rattle.sap_expect.specs.declared.wanted.Test.{Test}
use Rattle.sap_expect.specs.declared.wanted.Test.TheVariants.{Always}
use Rattle.sap_expect.specs.Kinds.{file_names}
use Rattle.sap_expect.specs.FileTable.{Open, Row, Takes, Turn, Wanted, all_opened, arity, capital, holds, is_arity, is_wanted, nil, otherwise, part, row, row_among, rows, small, takes_level, takes_other, takes_row, takes_word, word}
use Rattle.sap_expect.specs.code.Going.{CanGo, capital_one, is_listed, listed, small_one}
use Rattle.sap_expect.proofs.KindListed.{other_is_listed}
use Rattle.sap_expect.proofs.Quiet.{both_true}

-- a part goes on with the second word where it does with the first: by the same row, or by one that may always
pub record RowFollows (p : Part) (u w : Word) : Type 0 where
  pub on : (t : Test) (rest : List Wanted) → row p u ≡ Some (t, rest) → row p w ≡ Some (t, rest)
  pub other : row p u ≡ None → is_some (otherwise p) ≡ true → (row p w ≡ None) ⊎ ((rest : List Wanted) × (row p w ≡ Some (Always, rest)))

pub record Follows (u w : Word) : Type 0 where
  pub as_word : (v : Wanted) → is_listed v ≡ true → is_wanted v u ≡ true → is_wanted v w ≡ true
  pub as_row : (p : Part) → RowFollows p u w

other_go : {n m : ℕ} {p : Part} {l : Limit} {t : Test} {other : List Wanted} {vs : List Open} {w : Word} → otherwise p ≡ Some (t, other) → holds t m n ≡ true
    → CanGo n (all_opened m n other ++ vs) w → (row p w ≡ None) ⊎ ((rest : List Wanted) × (row p w ≡ Some (Always, rest))) → CanGo n ((part p l, m) ∷ vs) w
other_go o h g (inl none) = (g.0, g.1, takes_other none o h g.2)
other_go {n = n} {m = m} {vs = vs} o h g (inr r) = (n, all_opened m n r.0 ++ vs, takes_row r.1 refl)

some_turn : {t : Test} {other : List Wanted} (o : Option Turn) → o ≡ Some (t, other) → is_some o ≡ true
some_turn None e = absurd (cc (e))
some_turn (Some x) e = refl

pub can_follow : {u w : Word} {n k : ℕ} {vs next : List Open} → Follows u w → listed vs ≡ true → Takes n vs u k next → CanGo n vs w
can_follow {n = n} f h (takes_word {v = v} {vs = vs} e) = (n, vs, takes_word (f.as_word v (both_true (is_listed v) (listed vs) h).0 e))
can_follow {n = n} f h (takes_row {m = m} {p = p} {t = t} {rest = rest} {vs = vs} e o) = (n, all_opened m n rest ++ vs, takes_row ((f.as_row p).on t rest e) o)
can_follow {n = n} f h (takes_other {m = m} {p = p} {t = t} {other = other} {vs = vs} none e o s) =
    other_go e o (can_follow f (other_is_listed p t other m n vs e h) s) ((f.as_row p).other none (some_turn (otherwise p) e))
can_follow f h (takes_level s) =
    let g = can_follow f h s in
    (g.0, g.1, takes_level g.2)

-- neither a name of its own nor the number 0
abbrev pub is_plain_wanted : Wanted → Bool
is_plain_wanted (word x) = false
is_plain_wanted nil = false
is_plain_wanted v = true

pub among_same : (rs : List Row) (u w : Word) → list_all (λ (r : Row). is_plain_wanted r.0) rs ≡ true → ((v : Wanted) → is_plain_wanted v ≡ true → is_wanted v u ≡ is_wanted v w)
    → row_among rs u ≡ row_among rs w
among_same [] u w e h = refl
among_same (r ∷ rs) u w e h =
    let b = both_true (is_plain_wanted r.0) (list_all (λ (r : Row). is_plain_wanted r.0) rs) e in
    rw (h r.0 b.0, among_same rs u w b.1 h) refl

-- the parts with such rows
abbrev pub is_special : Part → Bool
is_special Builtin = true
is_special Attribute = true
is_special Mode = true
is_special Formula = true
is_special Sequence = true
is_special p = false

pub plain_rows : (p : Part) → is_special p ≡ false → list_all (λ (r : Row). is_plain_wanted r.0) (rows p) ≡ true
plain_rows Builtin e = absurd (cc (e))
plain_rows Attribute e = absurd (cc (e))
plain_rows Mode e = absurd (cc (e))
plain_rows Formula e = absurd (cc (e))
plain_rows Sequence e = absurd (cc (e))
plain_rows p e = refl

pub special : (C : Part → Type 0) → C Builtin → C Attribute → C Mode → C Formula → C Sequence → (p : Part) → is_special p ≡ true → C p
special C b a m f s Builtin e = b
special C b a m f s Attribute e = a
special C b a m f s Mode e = m
special C b a m f s Formula e = f
special C b a m f s Sequence e = s
special C b a m f s p e = absurd (cc (e))

same_row : (p : Part) (u w : Word) → row p u ≡ row p w → RowFollows p u w
same_row p u w e = record { on = λ t rest f. sym e ∙ f; other = λ f g. inl (sym e ∙ f) }

not_there : {A : Type 0} {t : Test} {rest : List Wanted} (o : Option Turn) → o ≡ None → o ≡ Some (t, rest) → A
not_there None e f = absurd (cc (f))
not_there (Some x) e f = absurd (cc (e))

not_some : {A : Type 0} (o : Option Turn) → o ≡ None → is_some o ≡ true → A
not_some None e f = absurd (cc (f))
not_some (Some x) e f = absurd (cc (e))

no_row : (p : Part) (u w : Word) → row p u ≡ None → otherwise p ≡ None → RowFollows p u w
no_row p u w e o = record { on = λ t rest f. not_there (row p u) e f; other = λ f g. not_some (otherwise p) o g }

pub rows_follow : (u w : Word) → ((v : Wanted) → is_plain_wanted v ≡ true → is_wanted v u ≡ is_wanted v w)
    → RowFollows Builtin u w → RowFollows Attribute u w → RowFollows Mode u w → RowFollows Formula u w → RowFollows Sequence u w → (p : Part) → RowFollows p u w
rows_follow u w same b a m f s p = by (is_special p) refl
  where
    by : (c : Bool) → is_special p ≡ c → RowFollows p u w
    by true e = special (λ q. RowFollows q u w) b a m f s p e
    by false e = same_row p u w (among_same (rows p) u w (plain_rows p e) same)

-- names

pub same_names : (x s : List ℕ) → is_lower x ≡ is_lower s → is_upper x ≡ is_upper s → (v : Wanted) → is_plain_wanted v ≡ true → is_wanted v (name x) ≡ is_wanted v (name s)
same_names x s e f (word y) p = absurd (cc (p))
same_names x s e f nil p = absurd (cc (p))
same_names x s e f small p = e
same_names x s e f capital p = f
same_names x s e f v p = refl

abbrev pub formula_row : Bool → Bool → Option Turn
formula_row true b = Some (Always, part Truth Same ∷ [])
formula_row false true = Some (Always, part Truth Same ∷ [])
formula_row false false = None

name_in_formula : (s : List ℕ) → row Formula (name s) ≡ formula_row (bytes_eq s (codes "T")) (bytes_eq s (codes "F"))
name_in_formula s = by (bytes_eq s (codes "T")) (bytes_eq s (codes "F"))
  where
    by : (a b : Bool) → ◌≡◌ {A = Option Turn} (if a then Some (Always, part Truth Same ∷ []) else (if b then Some (Always, part Truth Same ∷ []) else None)) (formula_row a b)
    by true b = refl
    by false true = refl
    by false false = refl

formula_name : (s : List ℕ) → (row Formula (name s) ≡ None) ⊎ ((rest : List Wanted) × (row Formula (name s) ≡ Some (Always, rest)))
formula_name s = by (bytes_eq s (codes "T")) (bytes_eq s (codes "F")) (name_in_formula s)
  where
    by : (a b : Bool) → row Formula (name s) ≡ formula_row a b → (row Formula (name s) ≡ None) ⊎ ((rest : List Wanted) × (row Formula (name s) ≡ Some (Always, rest)))
    by true b e = inr (_, e)
    by false true e = inr (_, e)
    by false false e = inl e

-- a name that isn't in the list is no name of the list
abbrev pub is_file_name : List ℕ → Bool
is_file_name x = list_any (bytes_eq x) file_names

no_file_name : {A : Type 0} (x y : List ℕ) → is_file_name x ≡ false → is_file_name y ≡ true → bytes_eq x y ≡ true → A
no_file_name x y e f g = clash (is_file_name x) (subst (λ (z : List ℕ). is_file_name z ≡ true) (sym (one_name x y g)) f) e

pub name_follows : (x s : List ℕ) → is_lower x ≡ is_lower s → is_upper x ≡ is_upper s → is_file_name x ≡ false → row Builtin (name x) ≡ None → row Attribute (name x) ≡ None
    → row Mode (name x) ≡ None → row Formula (name x) ≡ None → Follows (name x) (name s)
name_follows x s e f other b a m t = record {
  as_word = as_word;
  as_row = rows_follow (name x) (name s) (same_names x s e f) (no_row Builtin (name x) (name s) b refl) (no_row Attribute (name x) (name s) a refl)
      (no_row Mode (name x) (name s) m refl) (record { on = λ u rest g. not_there (row Formula (name x)) t g; other = λ g h. formula_name s }) (same_row Sequence (name x) (name s) refl);
}
  where
    as_word : (v : Wanted) → is_listed v ≡ true → is_wanted v (name x) ≡ true → is_wanted v (name s) ≡ true
    as_word (word y) g h = no_file_name x y other g h
    as_word nil g h = absurd (cc (h))
    as_word small g h = sym e ∙ h
    as_word capital g h = sym f ∙ h
    as_word v g h = h

pub lower_alone : (x : List ℕ) → is_lower x ≡ true → is_upper x ≡ false
lower_alone [] e = refl
lower_alone (b ∷ x) e = grind arith

pub upper_alone : (x : List ℕ) → is_upper x ≡ true → is_lower x ≡ false
upper_alone x e = by (is_lower x) refl
  where
    by : (b : Bool) → is_lower x ≡ b → b ≡ false
    by false f = refl
    by true f = clash (is_upper x) e (lower_alone x f)

pub small_follows : (s : List ℕ) → is_lower s ≡ true → Follows small_one (name s)
small_follows s e = name_follows (codes "x") s (sym e) (sym (lower_alone s e)) refl refl refl refl refl

pub capital_follows : (s : List ℕ) → is_upper s ≡ true → Follows capital_one (name s)
capital_follows s e = name_follows (codes "X") s (sym (upper_alone s e)) (sym e) refl refl refl refl refl

-- names in quotes

same_quoted : (x s : List ℕ) (v : Wanted) → is_plain_wanted v ≡ true → is_wanted v (quoted x) ≡ is_wanted v (quoted s)
same_quoted x s (word y) p = refl
same_quoted x s v p = refl

pub quoted_follows : (x s : List ℕ) → Follows (quoted x) (quoted s)
quoted_follows x s = record {
  as_word = as_word;
  as_row = rows_follow (quoted x) (quoted s) (same_quoted x s) (same_row Builtin (quoted x) (quoted s) refl) (same_row Attribute (quoted x) (quoted s) refl)
      (same_row Mode (quoted x) (quoted s) refl) (same_row Formula (quoted x) (quoted s) refl) (same_row Sequence (quoted x) (quoted s) refl);
}
  where
    as_word : (v : Wanted) → is_listed v ≡ true → is_wanted v (quoted x) ≡ true → is_wanted v (quoted s) ≡ true
    as_word (word y) g h = h
    as_word v g h = h

-- numbers

abbrev pub one : Word
one = number (codes "1")

same_numbers : (s : List ℕ) → is_arity s ≡ true → (v : Wanted) → is_plain_wanted v ≡ true → is_wanted v one ≡ is_wanted v (number s)
same_numbers s e nil p = absurd (cc (p))
same_numbers s e arity p = sym e
same_numbers s e v p = refl

pub arity_follows : (s : List ℕ) → is_arity s ≡ true → Follows one (number s)
arity_follows s e = record {
  as_word = as_word;
  as_row = rows_follow one (number s) (same_numbers s e) (same_row Builtin one (number s) refl) (same_row Attribute one (number s) refl) (same_row Mode one (number s) refl)
      (same_row Formula one (number s) refl) (no_row Sequence one (number s) refl refl);
}
  where
    as_word : (v : Wanted) → is_listed v ≡ true → is_wanted v one ≡ true → is_wanted v (number s) ≡ true
    as_word nil g h = absurd (cc (h))
    as_word arity g h = e
    as_word v g h = h
