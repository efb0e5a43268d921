-- What the words are that the table takes, where it is told of each part what its words are: n are the levels of what ended before
-- them, k those of what ended last then.
use Rattle.std.proofs.Common.{◌≡◌, ◌⊎◌, inl, inr, ℕ, Bool, true, false, List, [], ◌∷◌, ◌++◌, Option, Some, None, refl, sym, subst}
use Rattle.std.specs.Prelude.{codes, if◌then◌else◌}
use Rattle.sap_terms.proofs.PlainLaws.Known.{one_name}
use Rattle.sap_grammar.specs.Words.{Word, is_lower, is_upper, mark, name, number, quoted}
use Rattle.sap_expect.specs.declared.wanted.Change.{Change}
use Rattle.sap_expect.specs.declared.wanted.Part.{Part}
use Rattle.sap_expect.specs.FileTable.{Open, Reads, Row, Takes, Turn, Wanted, all_opened, any_name, arity, capital, changed, holds, in_quotes, is_arity, is_wanted, level, nil, otherwise, part, reads_end, reads_word, row, row_among, rows, sign, small, takes_level, takes_other, takes_row, takes_word, word}

-- a word that is wanted alone
pub data IsSign (m : List ℕ) : Word → Type 0 where
  is_sign : IsSign m (mark m)

pub data IsNamed (x : List ℕ) : Word → Type 0 where
  is_named : IsNamed x (name x)

pub data IsAny : Word → Type 0 where
  is_any : {x : List ℕ} → IsAny (name x)

pub data IsSmallName : Word → Type 0 where
  is_small : {x : List ℕ} → is_lower x ≡ true → IsSmallName (name x)

pub data IsCapital : Word → Type 0 where
  is_capital : {x : List ℕ} → is_upper x ≡ true → IsCapital (name x)

pub data IsQuotedWord : Word → Type 0 where
  is_quoted : {x : List ℕ} → IsQuotedWord (quoted x)

pub data IsZero : Word → Type 0 where
  is_zero : IsZero (number (codes "0"))

pub data IsArity : Word → Type 0 where
  is_arity_word : {n : List ℕ} → is_arity n ≡ true → IsArity (number n)

abbrev pub Is : Wanted → Word → Type 0
Is (sign m) w = IsSign m w
Is (word x) w = IsNamed x w
Is any_name w = IsAny w
Is small w = IsSmallName w
Is capital w = IsCapital w
Is in_quotes w = IsQuotedWord w
Is nil w = IsZero w
Is arity w = IsArity w
Is (part p l) w = ⊥
Is (level c) w = ⊥

pub is_of : (v : Wanted) (w : Word) → is_wanted v w ≡ true → Is v w
is_of (sign m) (mark s) e = subst (λ (x : List ℕ). IsSign m (mark x)) (sym (one_name s m e)) is_sign
is_of (sign m) w e = absurd (cc (e))
is_of (word x) (name s) e = subst (λ (y : List ℕ). IsNamed x (name y)) (sym (one_name s x e)) is_named
is_of (word x) w e = absurd (cc (e))
is_of any_name (name s) e = is_any
is_of any_name w e = absurd (cc (e))
is_of small (name s) e = is_small e
is_of small w e = absurd (cc (e))
is_of capital (name s) e = is_capital e
is_of capital w e = absurd (cc (e))
is_of in_quotes (quoted s) e = is_quoted
is_of in_quotes w e = absurd (cc (e))
is_of nil (number s) e = subst (λ (y : List ℕ). IsZero (number y)) (sym (one_name s (codes "0") e)) is_zero
is_of nil w e = absurd (cc (e))
is_of arity (number n) e = is_arity_word e
is_of arity w e = absurd (cc (e))
is_of (part p l) w e = absurd (cc (e))
is_of (level c) w e = absurd (cc (e))

-- no words; one word; other levels
pub data Same (n : ℕ) (a : List Word) : ℕ → List Word → Type 0 where
  same : Same n a n a

pub data IsFirst (P : Word → Type 0) (n : ℕ) : List Word → ℕ → List Word → Type 0 where
  first : {w : Word} {b : List Word} → P w → IsFirst P n (w ∷ b) n b

pub data IsChanged (c : Change) (before n : ℕ) (a : List Word) : ℕ → List Word → Type 0 where
  is_changed : IsChanged c before n a (changed c n before) a

-- what is so of what ended last there is so of what ended last then
pub ends_there : (P : ℕ → List Word → Type 0) {n : ℕ} {a : List Word} {k : ℕ} {b : List Word} → Same n a k b → P n a → P k b
ends_there P same h = h

-- what the words of each part are, of at most m levels
abbrev pub Meaning : Type 1
Meaning = Part → ℕ → ℕ → List Word → ℕ → List Word → Type 0

-- the words from the first on up to those behind are what is wanted
abbrev pub Means : Meaning → Wanted → ℕ → ℕ → List Word → ℕ → List Word → Type 0
Means M (part p l) m n a k b = M p m n a k b
Means M (level c) i n a k b = IsChanged c i n a k b
Means M v i n a k b = IsFirst (Is v) n a k b

-- they are all of this, one behind the other
abbrev pub AreThese : Meaning → List Open → ℕ → List Word → ℕ → List Word → Type 0
AreThese M [] n a k b = Same n a k b
AreThese M (v ∷ vs) n a k b = (j : ℕ) × (c : List Word) × Means M v.0 v.1 n a j c × AreThese M vs j c k b

-- they are a row, where no row before it begins with the word
abbrev pub AreRow : Meaning → List Row → ℕ → ℕ → Word → List Word → ℕ → List Word → Type 0
AreRow M [] m n w a k b = ⊥
AreRow M (r ∷ rs) m n w a k b = (Is r.0 w × (holds r.1 m n ≡ true) × AreThese M (all_opened m n r.2) n a k b) ⊎ ((is_wanted r.0 w ≡ false) × AreRow M rs m n w a k b)

-- they are what a part is otherwise
abbrev pub AreOther : Meaning → Option Turn → ℕ → ℕ → List Word → ℕ → List Word → Type 0
AreOther M None m n a k b = ⊥
AreOther M (Some t) m n a k b = (holds t.0 m n ≡ true) × AreThese M (all_opened m n t.1) n a k b

module _ (M : Meaning) where
  -- behind a turn that the word takes
  abbrev AreBehind : Turn → ℕ → ℕ → List Word → ℕ → List Word → Type 0
  AreBehind t m n a k b = (holds t.0 m n ≡ true) × AreThese M (all_opened m n t.1) n a k b

  row_of : (rs : List Row) (m n : ℕ) (w : Word) (t : Turn) (a : List Word) (k : ℕ) (b : List Word) → row_among rs w ≡ Some t → AreBehind t m n a k b → AreRow M rs m n w a k b
  row_of [] m n w t a k b e h = absurd (cc (e))
  row_of (r ∷ rs) m n w t a k b e h = by (is_wanted r.0 w) refl e (λ f. row_of rs m n w t a k b f h)
    where
      by : (x : Bool) → is_wanted r.0 w ≡ x → (if x then Some (r.1, r.2) else row_among rs w) ≡ Some t → (row_among rs w ≡ Some t → AreRow M rs m n w a k b)
          → AreRow M (r ∷ rs) m n w a k b
      by true q f g =
          let these : AreBehind (r.1, r.2) m n a k b = subst (λ (x : Option Turn). told x) (sym f) h in
          inl (is_of r.0 w q, these.0, these.1)
        where
          told : Option Turn → Type 0
          told None = ⊥
          told (Some x) = AreBehind x m n a k b
      by false q f g = inr (q, g f)

  one_word : (v : Wanted) (i n : ℕ) (w : Word) (b : List Word) → is_wanted v w ≡ true → Means M v i n (w ∷ b) n b
  one_word (part p l) i n w b e = absurd (cc (e))
  one_word (level c) i n w b e = absurd (cc (e))
  one_word (sign m) i n w b e = first (is_of (sign m) w e)
  one_word (word x) i n w b e = first (is_of (word x) w e)
  one_word any_name i n w b e = first (is_of any_name w e)
  one_word small i n w b e = first (is_of small w e)
  one_word capital i n w b e = first (is_of capital w e)
  one_word in_quotes i n w b e = first (is_of in_quotes w e)
  one_word nil i n w b e = first (is_of nil w e)
  one_word arity i n w b e = first (is_of arity w e)

  -- the words are all that is wanted, each part with its words
  abbrev pub Parted : ℕ → List Open → List Word → Type 0
  Parted n [] ws = Reads n [] ws
  Parted n (v ∷ vs) ws = Reads n (v ∷ vs) ws × ((k : ℕ) × (b : List Word) × Means M v.0 v.1 n ws k b × Parted k vs b)

  pub reads_of : (n : ℕ) (vs : List Open) (ws : List Word) → Parted n vs ws → Reads n vs ws
  reads_of n [] ws h = h
  reads_of n (v ∷ vs) ws h = h.0

  parts_of : (us vs : List Open) (n : ℕ) (ws : List Word) → Parted n (us ++ vs) ws → (k : ℕ) × (b : List Word) × AreThese M us n ws k b × Parted k vs b
  parts_of [] vs n ws h = (n, ws, same, h)
  parts_of (u ∷ us) vs n ws h =
      let more = parts_of us vs h.1.0 h.1.1 h.1.3 in
      (more.0, more.1, (h.1.0, h.1.1, h.1.2, more.2), more.3)

  -- each word is such
  module _ (L : Word → Type 0) where
    abbrev pub Each : List Word → Type 0
    Each [] = Unit {0}
    Each (w ∷ ws) = L w × Each ws

    module _
        (by_row : (p : Part) (m n : ℕ) (w : Word) (a : List Word) (k : ℕ) (b : List Word) → L w → AreRow M (rows p) m n w a k b → M p m n (w ∷ a) k b)
        (by_other : (p : Part) (m n : ℕ) (w : Word) (a : List Word) (k : ℕ) (b : List Word) → L w → row p w ≡ None → AreOther M (otherwise p) m n (w ∷ a) k b → M p m n (w ∷ a) k b)
      where
        one_back : {n j : ℕ} {vs next : List Open} {w : Word} → Takes n vs w j next → L w → (ws : List Word) → Reads j next ws → Parted j next ws → Parted n vs (w ∷ ws)
        one_back (takes_word {n = n} {k = i} {v = v} {w = w} e) l ws r h = (reads_word (takes_word e) r, (n, ws, one_word v i n w ws e, h))
        one_back (takes_row {n = n} {m = m} {p = p} {t = t} {rest = rest} {vs = vs} {w = w} e f) l ws r h =
            let q = parts_of (all_opened m n rest) vs n ws h in
            (reads_word (takes_row e f) r, (q.0, q.1, by_row p m n w ws q.0 q.1 l (row_of (rows p) m n w (t, rest) ws q.0 q.1 e (f, q.2)), q.3))
        one_back (takes_other {n = n} {m = m} {p = p} {t = t} {other = other} {vs = vs} {w = w} e o f s) l ws r h =
            let q = parts_of (all_opened m n other) vs n (w ∷ ws) (one_back s l ws r h) in (
              reads_word (takes_other e o f s) r,
              (q.0, q.1, by_other p m n w ws q.0 q.1 l e (subst (λ (x : Option Turn). AreOther M x m n (w ∷ ws) q.0 q.1) (sym o) (f, q.2)), q.3),
            )
        one_back (takes_level {n = n} {k = i} {c = c} {vs = vs} {w = w} s) l ws r h = (reads_word (takes_level s) r, (changed c n i, w ∷ ws, is_changed, one_back s l ws r h))

        pub parted : {n : ℕ} {vs : List Open} {ws : List Word} → Reads n vs ws → Each ws → Parted n vs ws
        parted reads_end l = reads_end
        parted (reads_word {ws = ws} t r) l = one_back t l.0 ws r (parted r l.1)
