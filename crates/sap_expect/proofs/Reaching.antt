-- What is wanted behind words, computed.
use Rattle.std.proofs.Common.{◌≡◌, ℕ, zero, suc, Bool, true, false, List, [], ◌∷◌, ◌++◌, Option, Some, None, refl, subst}
use Rattle.std.specs.Prelude.{if◌then◌else◌}
use Rattle.sap_grammar.specs.Words.{Word}
use Rattle.sap_expect.specs.declared.wanted.Change.{Change}
use Rattle.sap_expect.specs.declared.wanted.Limit.{Limit}
use Rattle.sap_expect.specs.declared.wanted.Part.{Part}
use Rattle.sap_expect.specs.FileTable.{Open, Takes, Turn, Wanted, all_opened, changed, holds, is_wanted, level, otherwise, part, reads_word, row, takes_level, takes_other, takes_row, takes_word}
use Rattle.sap_expect.proofs.Takes.{Goes, goes_none, level_back, no_takes, other_not, part_back, part_no, plain_no, reads_next, row_not}

-- the levels of what ended last, and what is wanted
abbrev pub State : Type 0
State = ℕ × List Open

-- an answer, if one is known: the state behind the word, or that it is wrong
abbrev pub Answer : Type 0
Answer = Option (Option State)

abbrev pub Step : Type 0
Step = State → Word → Answer

abbrev pub plain : State → Bool → Answer
plain s true = Some (Some s)
plain s false = Some None

abbrev pub turn_part : Step → ℕ → ℕ → List Open → Word → Option Turn → Option Turn → Answer
turn_part again n m vs w (Some r) other = plain (n, all_opened m n r.1 ++ vs) (holds r.0 m n)
turn_part again n m vs w None (Some o) = if holds o.0 m n then again (n, all_opened m n o.1 ++ vs) w else Some None
turn_part again n m vs w None None = Some None

abbrev pub turn : Step → ℕ → List Open → Word → Answer
turn again n [] w = Some None
turn again n ((part p l, m) ∷ vs) w = turn_part again n m vs w (row p w) (otherwise p)
turn again n ((level c, i) ∷ vs) w = again (changed c n i, vs) w
turn again n ((v, i) ∷ vs) w = plain (n, vs) (is_wanted v w)

-- by so many turns
abbrev pub next_at : ℕ → Step
next_at zero s w = None
next_at (suc f) s w = turn (next_at f) s.0 s.1 w

abbrev pub Told : State → Word → Option State → Type 0
Told s w (Some next) = Takes s.0 s.1 w next.0 next.1
Told s w None = (k : ℕ) (next : List Open) → Takes s.0 s.1 w k next → ⊥

told_same : (s : State) (w : Word) (o q : Option State) → ◌≡◌ {A = Answer} (Some q) (Some o) → Told s w q → Told s w o
told_same s w o q e t =
    let same : q ≡ o = cc in
    subst (λ (x : Option State). Told s w x) same t

plain_told : (n : ℕ) (v : Wanted) (i : ℕ) (vs : List Open) (w : Word) → ((p : Part) (l : Limit) → v ≡ part p l → ⊥) → ((c : Change) → v ≡ level c → ⊥)
    → (b : Bool) → is_wanted v w ≡ b → (o : Option State) → plain (n, vs) b ≡ Some o → Told (n, (v, i) ∷ vs) w o
plain_told n v i vs w never nor true e o is = told_same (n, (v, i) ∷ vs) w o (Some (n, vs)) is (takes_word e)
plain_told n v i vs w never nor false e o is = told_same (n, (v, i) ∷ vs) w o None is (λ k next t. plain_no n v i vs w k next never nor e t)

module _ (again : Step) (ok : (s : State) (w : Word) (o : Option State) → again s w ≡ Some o → Told s w o) where
  row_told : (n m : ℕ) (p : Part) (l : Limit) (vs : List Open) (w : Word) (t : Turn) → row p w ≡ Some t → (b : Bool) → holds t.0 m n ≡ b
      → (o : Option State) → plain (n, all_opened m n t.1 ++ vs) b ≡ Some o → Told (n, (part p l, m) ∷ vs) w o
  row_told n m p l vs w t e true f o is = told_same (n, (part p l, m) ∷ vs) w o (Some (n, all_opened m n t.1 ++ vs)) is (takes_row e f)
  row_told n m p l vs w t e false f o is = told_same (n, (part p l, m) ∷ vs) w o None is (λ k next s. row_not n p l m vs w t.0 t.1 k next e f s)

  other_told : (n m : ℕ) (p : Part) (l : Limit) (vs : List Open) (w : Word) (t : Turn) → row p w ≡ None → otherwise p ≡ Some t → (b : Bool) → holds t.0 m n ≡ b
      → (o : Option State) → (if b then again (n, all_opened m n t.1 ++ vs) w else Some None) ≡ Some o → Told (n, (part p l, m) ∷ vs) w o
  other_told n m p l vs w t e q true f (Some next) is = takes_other e q f (ok (n, all_opened m n t.1 ++ vs) w (Some next) is)
  other_told n m p l vs w t e q true f None is = λ k next s. ok (n, all_opened m n t.1 ++ vs) w None is k next (part_back n p l m vs w k next t.0 t.1 e q s).1
  other_told n m p l vs w t e q false f o is = told_same (n, (part p l, m) ∷ vs) w o None is (λ k next s. other_not n p l m vs w t.0 t.1 k next e q f s)

  part_told : (n m : ℕ) (p : Part) (l : Limit) (vs : List Open) (w : Word) (r : Option Turn) → row p w ≡ r → (q : Option Turn) → otherwise p ≡ q
      → (o : Option State) → turn_part again n m vs w r q ≡ Some o → Told (n, (part p l, m) ∷ vs) w o
  part_told n m p l vs w (Some t) e q f o is = row_told n m p l vs w t e (holds t.0 m n) refl o is
  part_told n m p l vs w None e None f o is = told_same (n, (part p l, m) ∷ vs) w o None is (λ k next t. part_no n p l m vs w k next e f t)
  part_told n m p l vs w None e (Some t) f o is = other_told n m p l vs w t e f (holds t.0 m n) refl o is

  level_told : (n : ℕ) (c : Change) (i : ℕ) (vs : List Open) (w : Word) (o : Option State) → again (changed c n i, vs) w ≡ Some o → Told (n, (level c, i) ∷ vs) w o
  level_told n c i vs w (Some next) is = takes_level (ok (changed c n i, vs) w (Some next) is)
  level_told n c i vs w None is = λ k next t. ok (changed c n i, vs) w None is k next (level_back n c i vs w k next t)

  turn_told : (n : ℕ) (vs : List Open) (w : Word) (o : Option State) → turn again n vs w ≡ Some o → Told (n, vs) w o
  turn_told n [] w o is = told_same (n, []) w o None is (no_takes n w)
  turn_told n ((part p l, m) ∷ vs) w o is = part_told n m p l vs w (row p w) refl (otherwise p) refl o is
  turn_told n ((level c, i) ∷ vs) w o is = level_told n c i vs w o is
  turn_told n ((v, i) ∷ vs) w o is = plain_told n v i vs w (λ p l e. absurd (cc)) (λ c e. absurd (cc)) (is_wanted v w) refl o is

pub next_told : (f : ℕ) (s : State) (w : Word) (o : Option State) → next_at f s w ≡ Some o → Told s w o
next_told zero s w o is = absurd (cc)
next_told (suc f) s w o is = turn_told (next_at f) (next_told f) s.0 s.1 w o is

-- as many turns as a word of an example takes
abbrev pub turns : ℕ
turns = 30

abbrev pub reach_by : Answer → (State → Option State) → Option State
reach_by None go = None
reach_by (Some None) go = None
reach_by (Some (Some next)) go = go next

-- the state behind the words, if they may stand
abbrev pub reach : State → List Word → Option State
reach s [] = Some s
reach s (w ∷ ws) = reach_by (next_at turns s w) (λ next. reach next ws)

goes_on : (n : ℕ) (vs : List Open) (k : ℕ) (next : List Open) (j : ℕ) (us : List Open) (w : Word) (ws : List Word) → Takes n vs w k next → Goes k next ws j us → Goes n vs (w ∷ ws) j us
goes_on n vs k next j us w ws t g = record {
  on = λ rest r. reads_word t (g.on rest r);
  back = λ rest r. g.back rest (reads_next n vs k next w (ws ++ rest) t r);
}

one_on : (s : State) (w : Word) (ws : List Word) (u : State) (o : Answer) → next_at turns s w ≡ o
    → ((next : State) → reach next ws ≡ Some u → Goes next.0 next.1 ws u.0 u.1) → reach_by o (λ next. reach next ws) ≡ Some u → Goes s.0 s.1 (w ∷ ws) u.0 u.1
one_on s w ws u None is go f = absurd (cc)
one_on s w ws u (Some None) is go f = absurd (cc)
one_on s w ws u (Some (Some next)) is go f = goes_on s.0 s.1 next.0 next.1 u.0 u.1 w ws (next_told turns s w (Some next) is) (go next f)

pub reach_goes : (s : State) (ws : List Word) (u : State) → reach s ws ≡ Some u → Goes s.0 s.1 ws u.0 u.1
reach_goes s [] u e =
    let same : s ≡ u = cc in
    subst (λ (x : State). Goes s.0 s.1 [] x.0 x.1) same (goes_none s.0 s.1)
reach_goes s (w ∷ ws) u e = one_on s w ws u (next_at turns s w) refl (λ next f. reach_goes next ws u f) e
