-- The program's own types for what is written, as plain values.
use Rattle.std.specs.Prelude.{List, map}
use Rattle.sap_terms.specs.View.{tree}
use Rattle.sap_process.specs.Action as action
use Rattle.sap_process.specs.Action.{Action}
use Rattle.sap_macro.specs.declared.definition.Definition as code
use Rattle.sap_macro.specs.declared.source.Doing.{Doing}
use Rattle.sap_macro.specs.declared.source.Doing.TheVariants.{New, Out, Send, In, Recv, Event, Insert, Delete, Lock, Unlock, Embedded}
use Rattle.sap_macro.specs.declared.source.Source.{Source}
use Rattle.sap_macro.specs.declared.source.Source.TheVariants.{Nil, Call, Par', Rep', Act', If', Lookup'}
use Rattle.sap_macro.specs.Written.{Written, nil, call, parallel, replicated, act, test, lookup, Definition}
use Rattle.sap_macro.specs.Located.{Located, nil_at, call_at, parallel_at, replicated_at, act_at, test_at, lookup_at}

-- what is done
abbrev pub doing : Doing → Action
doing (New x) = action.new x
doing (Out t) = action.out (tree t)
doing (Send t u) = action.send (tree t) (tree u)
doing (In t) = action.input (tree t)
doing (Recv t u) = action.receive (tree t) (tree u)
doing (Event f) = action.event f
doing (Insert t u) = action.insert (tree t) (tree u)
doing (Delete t) = action.delete (tree t)
doing (Lock t) = action.lock (tree t) 0
doing (Unlock t) = action.unlock (tree t) 0
doing (Embedded l e r) = action.embedded l e r

-- a process as it is written, without the addresses of its parts and without numbers
abbrev pub written : Source → Written
written (Nil k) = nil
written (Call k f ts) = call f ts
written (Par' k a p b q) = parallel (written p) (written q)
written (Rep' k a p) = replicated (written p)
written (Act' k d a p) = act (doing d.value) (written p)
written (If' k t u a p b q) = test (tree t) (tree u) (written p) (written q)
written (Lookup' k t x a p b q) = lookup (tree t) x (written p) (written q)

-- the same with its numbers
abbrev pub located : Source → Located
located (Nil k) = nil_at k
located (Call k f ts) = call_at k f ts
located (Par' k a p b q) = parallel_at k (located p) (located q)
located (Rep' k a p) = replicated_at k (located p)
located (Act' k d a p) = act_at k (doing d.value) (located p)
located (If' k t u a p b q) = test_at k (tree t) (tree u) (located p) (located q)
located (Lookup' k t x a p b q) = lookup_at k (tree t) x (located p) (located q)

-- a definition, and these
abbrev pub definition_of : code.Definition → Definition
definition_of d = record { name = d.name; params = d.params; body = written d.body.value }

abbrev pub definitions : List code.Definition → List Definition
definitions ds = map definition_of ds
