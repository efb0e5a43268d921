-- The names of the facts that rules and runs use themselves, each with what a fact of this name says.
use Rattle.std.specs.Prelude.{ℕ, List, codes}

-- the run starts
abbrev pub init_name : List ℕ
init_name = codes "Init"

-- an event of the process is shown
abbrev pub event_name : List ℕ
event_name = codes "Event"

-- an input is taken from the adversary
abbrev pub in_event_name : List ℕ
in_event_name = codes "InEvent"

-- a test found two terms equal
abbrev pub eq_name : List ℕ
eq_name = codes "Eq"

-- a test found two terms different
abbrev pub not_eq_name : List ℕ
not_eq_name = codes "NotEq"

-- the store has a value at a key from now on
abbrev pub insert_name : List ℕ
insert_name = codes "Insert"

-- the store has nothing at a key from now on
abbrev pub delete_name : List ℕ
delete_name = codes "Delete"

-- the store has a value at a key
abbrev pub is_in_name : List ℕ
is_in_name = codes "IsIn"

-- the store has nothing at a key
abbrev pub is_not_set_name : List ℕ
is_not_set_name = codes "IsNotSet"

-- a term is held from now on
abbrev pub lock_name : List ℕ
lock_name = codes "Lock"

-- a term isn't held any more
abbrev pub unlock_name : List ℕ
unlock_name = codes "Unlock"

-- a message is under way between two processes
abbrev pub msg_name : List ℕ
msg_name = codes "Msg"

-- that message came
abbrev pub ack_name : List ℕ
ack_name = codes "Ack"

-- a fresh name was made, and is nobody's yet
abbrev pub fr_name : List ℕ
fr_name = codes "Fr"

-- the adversary gives a term
abbrev pub in_name : List ℕ
in_name = codes "In"

-- the adversary is given a term
abbrev pub out_name : List ℕ
out_name = codes "Out"

-- the adversary knows a term
abbrev pub k_name : List ℕ
k_name = codes "K"

-- two more names of what the adversary knows, which no rule uses
abbrev pub ku_name : List ℕ
ku_name = codes "KU"

abbrev pub kd_name : List ℕ
kd_name = codes "KD"

-- what the name of a state fact begins with, and what the path of its place follows
abbrev pub state_prefix : List ℕ
state_prefix = codes "State_"

-- the same of a fact of a place that is halfway through, or that stays
abbrev pub semi_prefix : List ℕ
semi_prefix = codes "Semi_"
