-- Lines of a thread that evaluate the terms at the head of its place, test or write, and go on.
use Rattle.std.specs.Prelude.{◌≡◌, ◌⊎◌, ⊤, ℕ, Bool, true, false, List, [], ◌∷◌, Option, Some, None, nat_eq, slice_get, unwrap_or}
use Rattle.std.specs.Map.{lookup}
use Rattle.indexmap.specs.IndexMap.{insert_entry}
use Rattle.sap_terms.specs.Choice.{instance}
use Rattle.sap_terms.specs.View.{tree}
use Rattle.sap_terms.specs.declared.term.Term.{Term}
use Rattle.sap_terms.specs.declared.var.Var.{Var}
use Rattle.sap_runs.specs.declared.process_step.PStep.{PStep}
use Rattle.sap_runs.specs.declared.process_step.PStep.TheVariants as step
use Rattle.sap_share.specs.Env.{given}
use Rattle.sap_share.specs.Shared.{Shared}
use Rattle.sap_share.specs.declared.env.Bound.{Bound}
use Rattle.sap_lines.specs.Faults.{has_form}
use Rattle.sap_lines.specs.Heads.{Lacks}
use Rattle.sap_lines.specs.declared.fault.PFault.{PFault}
use Rattle.sap_lines.specs.declared.fault.PFault.TheVariants as fault
use Rattle.sap_lines.specs.declared.form.Form.{Form}
use Rattle.sap_lines.specs.declared.form.Form.TheVariants as form
use Rattle.sap_lines.specs.declared.place.Place.{Place}
use Rattle.sap_heads.specs.Values.{IsValue, AreValues, IsValueFault}
use Rattle.sap_calc.specs.code.Threads.{live}
use Rattle.sap_calc.specs.declared.head_line.HeadLine.{HeadLine}
use Rattle.sap_calc.specs.declared.head_line.HeadLine.TheVariants.{Agree, Differ, Store, Clear, Miss, Hold, Release}
use Rattle.sap_calc.specs.declared.head_line.Asked.{Asked}
use Rattle.sap_calc.specs.declared.thread.Thread.{Thread}

-- the line, of this thread
abbrev pub line_of : HeadLine → ℕ → PStep
line_of Agree t = step.Then t
line_of Differ t = step.Else t
line_of Store t = step.Insert t
line_of Clear t = step.Delete t
line_of Miss t = step.Missing t
line_of Hold t = step.Lock t
line_of Release t = step.Unlock t

-- where the thread goes on
abbrev pub next_of : HeadLine → Place → ℕ
next_of Agree x = x.first
next_of Differ x = x.second
next_of Store x = x.first
next_of Clear x = x.first
next_of Miss x = x.second
next_of Hold x = x.first
next_of Release x = x.first

-- the form is the line's, and this term stands at its head
abbrev pub HasOne : HeadLine → Form → Term → Type 0
HasOne Agree f m = ⊥
HasOne Differ f m = ⊥
HasOne Store f m = ⊥
HasOne Clear f m = f ≡ form.Delete m
HasOne Miss f m = (x : Var) × (f ≡ form.Lookup m x)
HasOne Hold f m = (i : ℕ) × (f ≡ form.Lock m i)
HasOne Release f m = (i : ℕ) × (f ≡ form.Unlock m i)

-- these two do
abbrev pub HasTwo : HeadLine → Form → Term → Term → Type 0
HasTwo Agree f m n = f ≡ form.If m n
HasTwo Differ f m n = f ≡ form.If m n
HasTwo Store f m n = f ≡ form.Insert m n
HasTwo Clear f m n = ⊥
HasTwo Miss f m n = ⊥
HasTwo Hold f m n = ⊥
HasTwo Release f m n = ⊥

-- the thread of this number is this one, at this place
pub record StandsAt (places : List Place) (threads : List (Option Thread)) (t : ℕ) (th : Thread) (x : Place) : Type 0 where
  pub runs : Some th ≡ live threads t
  pub at : slice_get places th.place ≡ Some x

-- the number is that of the one term at the head
pub record IsOneAsked (s u : Shared) (env : List Bound) (l : HeadLine) (f : Form) (j : ℕ) : Type 0 where
  pub term : Term
  pub head : HasOne l f term
  pub value : IsValue s u env (tree term) j

-- the numbers are those of the two
pub record AreTwoAsked (s u : Shared) (env : List Bound) (l : HeadLine) (f : Form) (j k : ℕ) : Type 0 where
  pub left : Term
  pub right : Term
  pub head : HasTwo l f left right
  pub values : AreValues s u env (tree left) (tree right) j k

-- what the line asks of the thread
pub record IsAsked (s u : Shared) (places : List Place) (threads : List (Option Thread)) (t : ℕ) (l : HeadLine) (a : Asked) : Type 0 where
  pub thread : Thread
  pub place : Place
  pub stands : StandsAt places threads t thread place
  pub next : a.next ≡ next_of l place
  pub values : IsOneAsked s u thread.env l place.form a.first ⊎ AreTwoAsked s u thread.env l place.form a.first a.second

-- why it can't be asked: the first test that fails
pub data IsUnasked (s : Shared) (places : List Place) (threads : List (Option Thread)) (t : ℕ) (l : HeadLine) : PFault → Type 0 where
  nobody : None ≡ live threads t → IsUnasked s places threads t l (fault.NoThread t)
  other_form : (th : Thread) (x : Place) → StandsAt places threads t th x → Lacks (has_form (line_of l t)) x.form → IsUnasked s places threads t l (fault.WrongForm t)
  one_fails : {f : PFault} (th : Thread) (x : Place) (m : Term) → StandsAt places threads t th x → HasOne l x.form m
      → IsValueFault s.sig (instance (given s.trees th.env) (tree m) ∷ []) f → IsUnasked s places threads t l f
  two_fail : {f : PFault} (th : Thread) (x : Place) (m n : Term) → StandsAt places threads t th x → HasTwo l x.form m n
      → IsValueFault s.sig (instance (given s.trees th.env) (tree m) ∷ instance (given s.trees th.env) (tree n) ∷ []) f → IsUnasked s places threads t l f

-- the values and the marks by numbers
abbrev pub Values : Type 0
Values = List (ℕ × Option ℕ)

abbrev pub Marks : Type 0
Marks = List (ℕ × Bool)

-- what the line tests of the numbers
abbrev pub Passes : HeadLine → Asked → Values → Marks → Type 0
Passes Agree a s h = a.first ≡ a.second
Passes Differ a s h = ¬ (a.first ≡ a.second)
Passes Store a s h = ⊤
Passes Clear a s h = ⊤
Passes Miss a s h = unwrap_or (lookup (nat_eq a.first) s) None ≡ None
Passes Hold a s h = unwrap_or (lookup (nat_eq a.first) h) false ≡ false
Passes Release a s h = ⊤

-- why it doesn't pass
abbrev pub Fails : HeadLine → Asked → Values → Marks → PFault → Type 0
Fails Agree a s h f = (f ≡ fault.Unequal) × ¬ (a.first ≡ a.second)
Fails Differ a s h f = (f ≡ fault.Equal) × (a.first ≡ a.second)
Fails Store a s h f = ⊥
Fails Clear a s h f = ⊥
Fails Miss a s h f = (f ≡ fault.Set) × ((i : ℕ) × (unwrap_or (lookup (nat_eq a.first) s) None ≡ Some i))
Fails Hold a s h f = (f ≡ fault.Held) × (unwrap_or (lookup (nat_eq a.first) h) false ≡ true)
Fails Release a s h f = ⊥

-- what it writes
abbrev pub values_after : HeadLine → Asked → Values → Values
values_after Agree a s = s
values_after Differ a s = s
values_after Store a s = insert_entry nat_eq s a.first (Some a.second)
values_after Clear a s = insert_entry nat_eq s a.first None
values_after Miss a s = s
values_after Hold a s = s
values_after Release a s = s

-- and marks
abbrev pub marks_after : HeadLine → Asked → Marks → Marks
marks_after Agree a h = h
marks_after Differ a h = h
marks_after Store a h = h
marks_after Clear a h = h
marks_after Miss a h = h
marks_after Hold a h = insert_entry nat_eq h a.first true
marks_after Release a h = insert_entry nat_eq h a.first false
