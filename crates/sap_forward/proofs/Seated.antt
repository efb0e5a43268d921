-- What the desk keeps of a thread, and that it keeps it while threads go on.
use Rattle.std.proofs.Common.{◌≡◌, ◌<◌, ℕ, suc, zero, List, [], ◌∷◌, ◌++◌, Option, Some, None, length, slice_get, slice_set, inl, inr, refl, sym, ap, subst, ◌∙◌, arith}
use Rattle.std.proofs.lemmas.Option.{slice_get_within}
use Rattle.sap_process.specs.Proc.{Proc, nil, parallel, replicated, act, test, lookup}
use Rattle.sap_lines.specs.Places.{form_proc, proc_at, procs_of, ArePlaced}
use Rattle.sap_lines.specs.declared.form.Form.{Form}
use Rattle.sap_lines.specs.declared.form.Form.TheVariants.{Nil, Par, Rep, New, Out, Send, In, Recv, If, Event, Insert, Delete, Lookup, Lock, Unlock, Embedded}
use Rattle.sap_lines.specs.declared.place.Place.{Place}
use Rattle.sap_translate.specs.relation.Agents.{Agent}
use Rattle.sap_forward.specs.code.Desk.{AreSeats, IsSeat}
use Rattle.sap_forward.specs.declared.seats.Seat.{Seat}
use Rattle.sap_forward.proofs.Lists.{some_same}

-- seats of lists

pub seat_kept : (places : List Place) (agents : List (Option Agent)) (numbers : List ℕ) (seats : List (Option Seat)) (t k : ℕ) (a : Option Agent)
    → AreSeats places agents numbers seats → slice_get agents t ≡ Some a → slice_get numbers t ≡ Some k → (o : Option Seat) × (slice_get seats t ≡ Some o) × IsSeat places a k o
seat_kept places [] [] [] t k a h e n = absurd (cc)
seat_kept places (b ∷ agents) (m ∷ numbers) (o ∷ seats) zero k a h e n = (o, refl, subst (λ (x : Option Agent). IsSeat places x k o) (some_same e) (subst (λ (i : ℕ). IsSeat places b i o) (some_same n) h.0))
seat_kept places (b ∷ agents) (m ∷ numbers) (o ∷ seats) (suc t) k a h e n = seat_kept places agents numbers seats t k a h.1 e n
seat_kept places [] [] (o ∷ seats) t k a h e n = absurd h
seat_kept places [] (m ∷ numbers) seats t k a h e n = absurd h
seat_kept places (b ∷ agents) [] seats t k a h e n = absurd h
seat_kept places (b ∷ agents) (m ∷ numbers) [] t k a h e n = absurd h

pub seats_set : (places : List Place) (agents : List (Option Agent)) (numbers : List ℕ) (seats : List (Option Seat)) (t k : ℕ) (a : Option Agent) (o : Option Seat)
    → AreSeats places agents numbers seats → IsSeat places a k o → AreSeats places (slice_set agents t a) (slice_set numbers t k) (slice_set seats t o)
seats_set places [] [] [] t k a o h i = h
seats_set places (b ∷ agents) (m ∷ numbers) (n ∷ seats) zero k a o h i = (i, h.1)
seats_set places (b ∷ agents) (m ∷ numbers) (n ∷ seats) (suc t) k a o h i = (h.0, seats_set places agents numbers seats t k a o h.1 i)
seats_set places [] [] (n ∷ seats) t k a o h i = absurd h
seats_set places [] (m ∷ numbers) seats t k a o h i = absurd h
seats_set places (b ∷ agents) [] seats t k a o h i = absurd h
seats_set places (b ∷ agents) (m ∷ numbers) [] t k a o h i = absurd h

pub seats_end : (places : List Place) (agents : List (Option Agent)) (numbers : List ℕ) (seats : List (Option Seat)) (t : ℕ)
    → AreSeats places agents numbers seats → AreSeats places (slice_set agents t None) numbers (slice_set seats t None)
seats_end places [] [] [] t h = h
seats_end places (b ∷ agents) (m ∷ numbers) (n ∷ seats) zero h = (refl, h.1)
seats_end places (b ∷ agents) (m ∷ numbers) (n ∷ seats) (suc t) h = (h.0, seats_end places agents numbers seats t h.1)
seats_end places [] [] (n ∷ seats) t h = absurd h
seats_end places [] (m ∷ numbers) seats t h = absurd h
seats_end places (b ∷ agents) [] seats t h = absurd h
seats_end places (b ∷ agents) (m ∷ numbers) [] t h = absurd h

pub seats_join : (places : List Place) (agents : List (Option Agent)) (numbers : List ℕ) (seats : List (Option Seat)) (k : ℕ) (a : Option Agent) (o : Option Seat)
    → AreSeats places agents numbers seats → IsSeat places a k o → AreSeats places (agents ++ a ∷ []) (numbers ++ k ∷ []) (seats ++ o ∷ [])
seats_join places [] [] [] k a o h i = (i, h)
seats_join places (b ∷ agents) (m ∷ numbers) (n ∷ seats) k a o h i = (h.0, seats_join places agents numbers seats k a o h.1 i)
seats_join places [] [] (n ∷ seats) k a o h i = absurd h
seats_join places [] (m ∷ numbers) seats k a o h i = absurd h
seats_join places (b ∷ agents) [] seats k a o h i = absurd h
seats_join places (b ∷ agents) (m ∷ numbers) [] k a o h i = absurd h

-- children of places

-- as what a process goes on
abbrev pub first_proc : Proc → Option Proc
first_proc nil = None
first_proc (parallel p q) = Some p
first_proc (replicated p) = Some p
first_proc (act x p) = Some p
first_proc (test m n p q) = Some p
first_proc (lookup m x p q) = Some p

-- and otherwise
abbrev pub second_proc : Proc → Option Proc
second_proc nil = None
second_proc (parallel p q) = Some q
second_proc (replicated p) = None
second_proc (act x p) = None
second_proc (test m n p q) = Some q
second_proc (lookup m x p q) = Some q

form_first : (f : Form) (p q r : Proc) → first_proc (form_proc f p q) ≡ Some r → (p ≡ r) × (¬ f ≡ Nil)
form_first Nil p q r h = absurd (cc)
form_first Par p q r h = (some_same h, λ e. cc)
form_first Rep p q r h = (some_same h, λ e. cc)
form_first (New x) p q r h = (some_same h, λ e. cc)
form_first (Out t) p q r h = (some_same h, λ e. cc)
form_first (Send t u) p q r h = (some_same h, λ e. cc)
form_first (In t) p q r h = (some_same h, λ e. cc)
form_first (Recv t u) p q r h = (some_same h, λ e. cc)
form_first (If t u) p q r h = (some_same h, λ e. cc)
form_first (Event f) p q r h = (some_same h, λ e. cc)
form_first (Insert t u) p q r h = (some_same h, λ e. cc)
form_first (Delete t) p q r h = (some_same h, λ e. cc)
form_first (Lookup t x) p q r h = (some_same h, λ e. cc)
form_first (Lock t n) p q r h = (some_same h, λ e. cc)
form_first (Unlock t n) p q r h = (some_same h, λ e. cc)
form_first (Embedded a b c) p q r h = (some_same h, λ e. cc)

form_second : (f : Form) (p q r : Proc) → second_proc (form_proc f p q) ≡ Some r → (q ≡ r) × (¬ f ≡ Nil)
form_second Nil p q r h = absurd (cc)
form_second Par p q r h = (some_same h, λ e. cc)
form_second Rep p q r h = absurd (cc)
form_second (New x) p q r h = absurd (cc)
form_second (Out t) p q r h = absurd (cc)
form_second (Send t u) p q r h = absurd (cc)
form_second (In t) p q r h = absurd (cc)
form_second (Recv t u) p q r h = absurd (cc)
form_second (If t u) p q r h = (some_same h, λ e. cc)
form_second (Event f) p q r h = absurd (cc)
form_second (Insert t u) p q r h = absurd (cc)
form_second (Delete t) p q r h = absurd (cc)
form_second (Lookup t x) p q r h = (some_same h, λ e. cc)
form_second (Lock t n) p q r h = absurd (cc)
form_second (Unlock t n) p q r h = absurd (cc)
form_second (Embedded a b c) p q r h = absurd (cc)

-- at the place of this number this process stands
abbrev pub StandsAt : List Place → ℕ → Proc → Type 0
StandsAt xs k p = (k < length xs) × (proc_at (procs_of xs) k ≡ p)

module _ (xs : List Place) (placed : ArePlaced xs) (k : ℕ) (x : Place) (is : slice_get xs k ≡ Some x) (body : Proc) (proc : proc_at (procs_of xs) k ≡ body) where
  within : k < length xs
  within = slice_get_within xs k x is

  pub first_stands : (p : Proc) → first_proc body ≡ Some p → StandsAt xs x.first p
  first_stands p h =
      let f = form_first x.form (proc_at (procs_of xs) x.first) (proc_at (procs_of xs) x.second) p (ap first_proc (sym (placed.procs k x is) ∙ proc) ∙ h) in
      elim (placed.below k x is) [ inl e ↦ absurd (f.1 e) | inr b ↦ (let i = within in let j = b.0 in omega arith, f.0) ]

  pub second_stands : (q : Proc) → second_proc body ≡ Some q → StandsAt xs x.second q
  second_stands q h =
      let f = form_second x.form (proc_at (procs_of xs) x.first) (proc_at (procs_of xs) x.second) q (ap second_proc (sym (placed.procs k x is) ∙ proc) ∙ h) in
      elim (placed.below k x is) [ inl e ↦ absurd (f.1 e) | inr b ↦ (let i = within in let j = b.1 in omega arith, f.0) ]
