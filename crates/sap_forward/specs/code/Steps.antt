-- What the parts of the code do to the desk.
use Rattle.std.specs.Prelude.{◌≡◌, ℕ, ◌+◌, Bool, true, false, List, [], ◌∷◌, ◌++◌, Option, Some, None, codes, filter_map, length, slice_get, slice_set}
use Rattle.sap_terms.specs.declared.binding.Binding.{Binding}
use Rattle.sap_terms.specs.declared.term.Term.{Term}
use Rattle.sap_terms.specs.declared.var.Var.{Var}
use Rattle.sap_process.specs.Sites.{message_var}
use Rattle.sap_runs.specs.declared.process_step.PStep.{PStep}
use Rattle.sap_runs.specs.declared.process_step.PStep.TheVariants.{Found}
use Rattle.sap_runs.specs.declared.rule_step.RStep.{RStep}
use Rattle.sap_runs.specs.declared.rule_step.RStep.TheVariants.{Fresh}
use Rattle.sap_lines.specs.declared.form.Form.{Form}
use Rattle.sap_lines.specs.declared.form.Form.TheVariants.{Recv, Lookup, Embedded}
use Rattle.sap_lines.specs.declared.place.Place.{Place}
use Rattle.sap_rule_lines.specs.Least.{IsNext}
use Rattle.sap_forward.specs.LinesFor.{uses}
use Rattle.sap_forward.specs.Written.{numbers_from}
use Rattle.sap_forward.specs.code.Desk.{WritesRules}
use Rattle.sap_forward.specs.declared.desk.Desk.{Desk}
use Rattle.sap_forward.specs.declared.seats.Seat.{Seat}

-- the thread has this seat, at this place
abbrev pub IsAt : Desk → ℕ → Seat → Place → Type 0
IsAt d t s x = (slice_get d.seats t ≡ Some (Some s)) × (slice_get d.places s.place ≡ Some x)

-- it has none
abbrev pub HasNone : Desk → ℕ → Type 0
HasNone d t = (s : Seat) (x : Place) → IsAt d t s x → ⊥

-- the thread goes on at this place, the child of this digit, and so many facts come before its own
abbrev pub goes : Desk → ℕ → Seat → (digit place come : ℕ) → Desk
goes d t s digit place come =
    record d { seats = slice_set d.seats t (Some (record { place = place; path = s.path ++ digit ∷ []; number = d.count + come; copying = false })); count = d.count + come + 1 }

-- one more thread, at this place, with this path
abbrev pub joins : Desk → (path : List ℕ) (place : ℕ) → Desk
joins d path place = record d { seats = d.seats ++ Some (record { place = place; path = path; number = d.count; copying = false }) ∷ []; count = d.count + 1 }

-- the replication starts
abbrev pub starts : Desk → ℕ → Seat → Desk
starts d t s = record d { seats = slice_set d.seats t (Some (record s { number = d.count; copying = true })); count = d.count + 1 }

-- The thread has gone on at a child of its place, so many facts came before its own, and these lines were put last: they are made of
-- the path, of the number of its fact, and of the number of the next fact.
abbrev pub Goes : Desk → Desk → ℕ → (digit : ℕ) → (Place → ℕ) → (come : ℕ) → List RStep → List RStep → (List ℕ → ℕ → ℕ → List RStep) → Type 0
Goes d e t digit child come before after ls = (s : Seat) (x : Place) → IsAt d t s x → (e ≡ goes d t s digit (child x) come) × (after ≡ before ++ ls s.path s.number d.count)

-- the lines that are written for a line of the process that isn't `found` have been put last
abbrev pub WritesAny : Desk → Desk → PStep → List RStep → List RStep → Type 0
WritesAny d e step before after = (found : Option Term) → WritesRules d e step found before after

-- the thread has ended, and this line was put last
abbrev pub Ends : Desk → Desk → ℕ → List RStep → List RStep → Type 0
Ends d e t before after = (s : Seat) (x : Place) → IsAt d t s x
    → (e ≡ record d { seats = slice_set d.seats t None }) × (after ≡ before ++ uses (codes "Nil_") s.path (s.number ∷ []) [] ∷ [])

-- it has become two
abbrev pub Splits : Desk → Desk → ℕ → List RStep → List RStep → Type 0
Splits d e t before after = (s : Seat) (x : Place) → IsAt d t s x
    → (e ≡ joins (goes d t s 1 x.first 0) (s.path ++ 2 ∷ []) x.second) × (after ≡ before ++ uses (codes "Par_") s.path (s.number ∷ []) [] ∷ [])

-- a replication that has started has given one more thread
abbrev pub Copies : Desk → Desk → ℕ → List RStep → List RStep → Type 0
Copies d e t before after = (s : Seat) (x : Place) → IsAt d t s x
    → (e ≡ joins d (s.path ++ 1 ∷ []) x.first) × (after ≡ before ++ uses (codes "RepCopy_") s.path (s.number ∷ []) [] ∷ [])

-- it has started, and given the first
abbrev pub StartsCopying : Desk → Desk → ℕ → List RStep → List RStep → Type 0
StartsCopying d e t before after = (s : Seat) (x : Place) → IsAt d t s x
    → (e ≡ joins (starts d t s) (s.path ++ 1 ∷ []) x.first)
    × (after ≡ before ++ uses (codes "RepStart_") s.path (s.number ∷ []) [] ∷ uses (codes "RepCopy_") s.path (d.count ∷ []) [] ∷ [])

-- a name is given to a lock or a tag, the least that is left
abbrev pub GivesName : Desk → Desk → ℕ → Type 0
GivesName d e n = IsNext d.names d.next n × (e ≡ record d { next = n + 1 })

-- the form is that of an input on a channel
abbrev pub has_channel : Form → Bool
has_channel (Recv m n) = true
has_channel _ = false

-- the lines by which two threads meet under this tag: the message is sent, taken, and its receipt is taken
abbrev pub meeting_lines : ℕ → Seat → Seat → ℕ → List RStep
meeting_lines n s u count =
    Fresh n ∷ uses (codes "OutMsg_") s.path (s.number ∷ count ∷ []) [] ∷ uses (codes "InMsg_") u.path (u.number ∷ (count + 1) ∷ []) []
    ∷ uses (codes "OutAck_") s.path ((count + 2) ∷ (count + 3) ∷ []) [] ∷ []

-- two threads that have seats have met, and these lines were put last
abbrev pub Meets : Desk → Desk → ℕ → ℕ → ℕ → List RStep → List RStep → Type 0
Meets d e a b n before after = (s u : Seat) (x y : Place) → IsAt d a s x → IsAt d b u y → (¬ a ≡ b)
    → (e ≡ goes (goes d b u 1 y.first 4) a s 1 x.first 0)
    × (after ≡ before ++ meeting_lines n s u d.count)

-- the variable that is bound where a key is set
abbrev pub bound_var : Form → Option Var
bound_var (Lookup m y) = Some y
bound_var _ = None

-- what is bound where a key is set: the variable of the place stands for the term that was found
abbrev pub Finds : Desk → Desk → ℕ → Option Term → List RStep → List RStep → Type 0
Finds d e t found before after = (s : Seat) (x : Place) (v : Term) (y : Var) → IsAt d t s x → bound_var x.form ≡ Some y → found ≡ Some v
    → (e ≡ goes d t s 1 x.first 0) × (after ≡ before ++ uses (codes "Found_") s.path (s.number ∷ []) (record { var = message_var y; term = v } ∷ []) ∷ [])

-- how many facts an embedded rule has on its right side
abbrev pub right_count : Form → ℕ
right_count (Embedded l a r) = length r
right_count _ = 0

-- facts of the process have come
abbrev pub piles : Desk → ℕ → Desk
piles d come = record d { facts = d.facts ++ numbers_from d.count come; count = d.count + come }

-- the rule of a thread is used on the facts with these numbers, and those of its right side come
abbrev pub Embeds : Desk → Desk → ℕ → List ℕ → List Binding → List RStep → List RStep → Type 0
Embeds d e t ks b before after = (s : Seat) (x : Place) → IsAt d t s x
    → (e ≡ piles (goes d t s 1 x.first 0) (right_count x.form)) × (after ≡ before ++ uses (codes "Rule_") s.path (s.number ∷ filter_map (slice_get d.facts) ks) b ∷ [])

-- so they have, where the line isn't `found`
abbrev pub WritesPlain : Desk → Desk → PStep → List RStep → List RStep → Type 0
WritesPlain d e (Found t) before after = Unit {0}
WritesPlain d e step before after = WritesAny d e step before after
