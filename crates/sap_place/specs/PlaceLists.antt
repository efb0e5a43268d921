-- The places of an annotated process as values of the program.
use Rattle.std.specs.Prelude.{List, map}
use Rattle.sap_process.specs.Action.{Action, new, out, send, input, receive, event, insert, delete, lock, unlock, embedded}
use Rattle.sap_process.specs.Proc.{Proc, nil, parallel, replicated, act, test, lookup}
use Rattle.sap_process.specs.Scopes.{Spot, spots}
use Rattle.sap_place.specs.declared.place.Form.{Form}
use Rattle.sap_place.specs.declared.place.Form.TheVariants.{Nil, Par, Rep, New, Out, Send, In, Recv, If, Event, Insert, Delete, Lookup, Lock, Unlock, Embedded}
use Rattle.sap_place.specs.declared.place.Place.{Place}

-- the form of an action
abbrev pub form_of_action : Action → Form
form_of_action (new x) = New
form_of_action (out t) = Out
form_of_action (send t u) = Send
form_of_action (input t) = In
form_of_action (receive t u) = Recv
form_of_action (event f) = Event
form_of_action (insert t u) = Insert
form_of_action (delete t) = Delete
form_of_action (lock t n) = Lock
form_of_action (unlock t n) = Unlock
form_of_action (embedded l e r) = Embedded

-- what stands at the head of a process
abbrev pub form_of : Proc → Form
form_of nil = Nil
form_of (parallel p q) = Par
form_of (replicated p) = Rep
form_of (act a p) = form_of_action a
form_of (test t u p q) = If
form_of (lookup t x p q) = Lookup

-- a place with the form of what stands there
abbrev pub place_of : Spot → Place
place_of s = record { path = s.path; form = form_of s.body; scope = s.above.scope; open_locks = s.above.open_locks }

-- all places, in preorder
abbrev pub places_of : Proc → List Place
places_of p = map place_of (spots p)
