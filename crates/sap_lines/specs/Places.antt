-- The places of a process by their numbers, and the processes there.
use Rattle.std.specs.Prelude.{◌≡◌, ◌<◌, ◌⊎◌, ℕ, List, [], ◌∷◌, ◌++◌, length, Some, slice_get, slice_index_or}
use Rattle.sap_terms.specs.View.{tree}
use Rattle.sap_process.specs.Action as action
use Rattle.sap_process.specs.Proc.{Proc, nil, parallel, replicated, act, test, lookup}
use Rattle.sap_lines.specs.declared.form.Form.{Form}
use Rattle.sap_lines.specs.declared.form.Form.TheVariants.{Nil, Par, Rep, New, Out, Send, In, Recv, If, Event, Insert, Delete, Lookup, Lock, Unlock, Embedded}
use Rattle.sap_lines.specs.declared.place.Place.{Place}

-- the process of a form that goes on as these
abbrev pub form_proc : Form → Proc → Proc → Proc
form_proc Nil p q = nil
form_proc Par p q = parallel p q
form_proc Rep p q = replicated p
form_proc (New x) p q = act (action.new x) p
form_proc (Out t) p q = act (action.out (tree t)) p
form_proc (Send t u) p q = act (action.send (tree t) (tree u)) p
form_proc (In t) p q = act (action.input (tree t)) p
form_proc (Recv t u) p q = act (action.receive (tree t) (tree u)) p
form_proc (If t u) p q = test (tree t) (tree u) p q
form_proc (Event f) p q = act (action.event f) p
form_proc (Insert t u) p q = act (action.insert (tree t) (tree u)) p
form_proc (Delete t) p q = act (action.delete (tree t)) p
form_proc (Lookup t x) p q = lookup (tree t) x p q
form_proc (Lock t n) p q = act (action.lock (tree t) n) p
form_proc (Unlock t n) p q = act (action.unlock (tree t) n) p
form_proc (Embedded l e r) p q = act (action.embedded l e r) p

-- the process, going on as these
abbrev pub with_children : Proc → Proc → Proc → Proc
with_children nil p q = nil
with_children (parallel a b) p q = parallel p q
with_children (replicated a) p q = replicated p
with_children (act x a) p q = act x p
with_children (test t u a b) p q = test t u p q
with_children (lookup t x a b) p q = lookup t x p q

-- the process of a number
abbrev pub proc_at : List Proc → ℕ → Proc
proc_at ps k = slice_index_or ps k nil

-- the process of a place
abbrev pub place_proc : List Proc → Place → Proc
place_proc ps x = form_proc x.form (proc_at ps x.first) (proc_at ps x.second)

-- these processes, and then those of the places, each over those before it
abbrev pub procs_from : List Proc → List Place → List Proc
procs_from ps [] = ps
procs_from ps (x ∷ xs) = procs_from (ps ++ place_proc ps x ∷ []) xs

-- the processes of the places
abbrev pub procs_of : List Place → List Proc
procs_of xs = procs_from [] xs

-- the place goes on at earlier ones, if it goes on
abbrev pub StandsBelow : ℕ → Place → Type 0
StandsBelow count x = (x.form ≡ Nil) ⊎ ((x.first < count) × (x.second < count))

-- so does each
abbrev pub ArePlaces : List Place → Type 0
ArePlaces xs = (k : ℕ) (x : Place) → slice_get xs k ≡ Some x → StandsBelow k x

-- one more place, with the form of the process
pub record AddsForm (old new : List Place) (p : Proc) (k first second : ℕ) : Type 0 where
  pub place : Place
  pub is : new ≡ old ++ place ∷ []
  pub first_is : place.first ≡ first
  pub second_is : place.second ≡ second
  pub form : (q r : Proc) → form_proc place.form q r ≡ with_children p q r
  pub number : k ≡ length old

-- more places, with the process at a number
pub record AddsProcess (old new : List Place) (k : ℕ) (p : Proc) : Type 0 where
  pub places : ArePlaces new
  pub added : List Place
  pub is : new ≡ old ++ added
  pub below : k < length new
  pub proc : proc_at (procs_of new) k ≡ p

-- each place goes on at earlier ones, if it goes on, and the process at its number is its form's, going on as theirs
pub record ArePlaced (xs : List Place) : Type 0 where
  pub below : ArePlaces xs
  pub procs : (k : ℕ) (x : Place) → slice_get xs k ≡ Some x → proc_at (procs_of xs) k ≡ place_proc (procs_of xs) x

-- these are places, and the process stands at the number
pub record IsRooted (xs : List Place) (root : ℕ) (p : Proc) : Type 0 where
  pub places : ArePlaced xs
  pub below : root < length xs
  pub proc : proc_at (procs_of xs) root ≡ p
