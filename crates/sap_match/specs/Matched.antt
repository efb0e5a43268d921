-- Which facts an atom fits, and which terms are one, where slots hold what they hold.
use Rattle.std.specs.Prelude.{◌≡◌, ℕ, Bool, true, false, ◌&&◌, nat_eq, slice_get, List, [], ◌∷◌, ◌++◌, Option, Some, None, if◌then◌else◌}
use Rattle.std.specs.Str.{bytes_eq}
use Rattle.sap_match.specs.Atoms.{Atom, Held, held_term, held_time}
use Rattle.sap_terms.specs.Choice.{fits_sort}
use Rattle.sap_terms.specs.Same.{same_tree}
use Rattle.sap_terms.specs.Tree.{Tree, Trees, apply, fresh, more, none, public, trees_of, variable}
use Rattle.sap_terms.specs.declared.fact.Fact.{Fact}

-- what is left to read of the marks, and what the slots hold
pub record State : Type 0 where
  pub marks : List (Option ℕ)
  pub held : List Held

-- the slot holds this
abbrev pub is_held : Option Held → Held → Bool
is_held None h = false
is_held (Some (held_term t)) (held_term u) = same_tree t u
is_held (Some (held_time j)) (held_time k) = nat_eq j k
is_held (Some _) _ = false

-- f of the value, where there is one
abbrev pub onward : {X Y : Type 0} → Option X → (X → Option Y) → Option Y
onward None f = None
onward (Some x) f = f x

-- a value that an occurrence meets: what its slot holds, or, where it has none, what the next one is filled with, if it may be
abbrev pub filled : Option ℕ → Held → Bool → List Held → Option (List Held)
filled None h fits held = if fits then Some (held ++ h ∷ []) else None
filled (Some k) h fits held = if is_held (slice_get held k) h then Some held else None

-- the next occurrence
abbrev pub taken_by : List (Option ℕ) → List Held → Held → Bool → Option State
taken_by [] held h fits = None
taken_by (m ∷ ms) held h fits = onward (filled m h fits held) (λ hs. Some (record { marks = ms; held = hs }))

abbrev pub taken : Held → Bool → State → Option State
taken h fits s = taken_by s.marks s.held h fits

abbrev mutual
  -- the pattern fits the tree
  pub matched : Tree → Tree → State → Option State
  matched (variable v) t s = taken (held_term t) (fits_sort v.sort t) s
  matched (public n) t s = if same_tree (public n) t then Some s else None
  matched (fresh k) t s = if same_tree (fresh k) t then Some s else None
  matched (apply f ps) (apply g ts) s = if bytes_eq f g then matched_all ps ts s else None
  matched (apply f ps) _ s = None

  pub matched_all : Trees → Trees → State → Option State
  matched_all none none s = Some s
  matched_all (more p ps) (more t ts) s = onward (matched p t s) (matched_all ps ts)
  matched_all _ _ s = None

-- the guard fits the fact of this time: what the slots hold then
abbrev pub guarded : Atom → Fact → ℕ → List Held → Option (List Held)
guarded a x k held = onward (matched_all a.args (trees_of x.args) (record { marks = a.marks; held = held })) (λ s. filled a.time (held_time k) true s.held)

-- the time that a slot holds
abbrev pub time_held : Option Held → ℕ
time_held None = 0
time_held (Some (held_term t)) = 0
time_held (Some (held_time k)) = k

abbrev pub time_at : Option ℕ → List Held → ℕ
time_at None held = 0
time_at (Some j) held = time_held (slice_get held j)

abbrev pub is_there : {X : Type 0} → Option X → Bool
is_there None = false
is_there (Some x) = true

-- the fact has the name and fits the pattern
abbrev pub fits_atom : List ℕ → Atom → List Held → Fact → Bool
fits_atom n a held x = bytes_eq n x.name && is_there (matched_all a.args (trees_of x.args) (record { marks = a.marks; held = held }))

-- what is left to read of the marks of two terms
pub record Two : Type 0 where
  pub left : List (Option ℕ)
  pub right : List (Option ℕ)

-- the term that a slot holds
abbrev pub term_in : Option Held → Option Tree
term_in None = None
term_in (Some (held_term t)) = Some t
term_in (Some (held_time k)) = None

-- the term of the next occurrence
abbrev pub next_term : List (Option ℕ) → List Held → Option Tree
next_term [] held = None
next_term (None ∷ ms) held = None
next_term (Some k ∷ ms) held = term_in (slice_get held k)

abbrev pub behind : {X : Type 0} → List X → List X
behind [] = []
behind (x ∷ xs) = xs

-- where the left term is a variable
abbrev pub agreed_left : Tree → Two → List Held → Option Two
agreed_left t w held = onward (next_term w.left held) (λ u. onward (matched t u (record { marks = w.right; held = held })) (λ s. Some (record { left = behind w.left; right = s.marks })))

-- where the right one is
abbrev pub agreed_right : Tree → Two → List Held → Option Two
agreed_right s w held = onward (next_term w.right held) (λ u. onward (matched s u (record { marks = w.left; held = held })) (λ r. Some (record { left = r.marks; right = behind w.right })))

-- where the left term is a leaf without a variable
abbrev pub agreed_leaf : Tree → Tree → Two → List Held → Option Two
agreed_leaf s t w held = onward (matched t s (record { marks = w.right; held = held })) (λ r. Some (record { left = w.left; right = r.marks }))

abbrev mutual
  -- the two terms are one where variables are what their slots hold
  pub agreed : Tree → Tree → Two → List Held → Option Two
  agreed (variable v) t w held = agreed_left t w held
  agreed (public n) t w held = agreed_leaf (public n) t w held
  agreed (fresh k) t w held = agreed_leaf (fresh k) t w held
  agreed (apply f ss) (variable v) w held = agreed_right (apply f ss) w held
  agreed (apply f ss) (apply g ts) w held = if bytes_eq f g then agreed_all ss ts w held else None
  agreed (apply f ss) _ w held = None

  pub agreed_all : Trees → Trees → Two → List Held → Option Two
  agreed_all none none w held = Some w
  agreed_all (more s ss) (more t ts) w held = onward (agreed s t w held) (λ r. agreed_all ss ts r held)
  agreed_all _ _ w held = None

-- what was there stands in front
abbrev pub StaysInFront : {X : Type 0} → List X → List X → Type 0
StaysInFront {X} old new = (more : List X) × (new ≡ old ++ more)

-- none, or what is held
abbrev pub IsMet : List Held → Bool → Option (List Held) → Type 0
IsMet held false r = r ≡ None
IsMet held true r = r ≡ Some held
