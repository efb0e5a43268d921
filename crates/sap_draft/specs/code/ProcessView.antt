-- What the answers of the reader of processes stand for.
use Rattle.sap_terms.specs.Tree.{Tree}
use Rattle.sap_terms.specs.View.{tree}
use Rattle.sap_process.specs.Action.{Action, out, send, input, receive, delete, lock, unlock}
use Rattle.sap_draft.specs.declared.process.actions.Direction.{Direction}
use Rattle.sap_draft.specs.declared.process.actions.Direction.TheVariants.{Out, In}
use Rattle.sap_draft.specs.declared.process.actions.Deed.{Deed}
use Rattle.sap_draft.specs.declared.process.actions.Deed.TheVariants.{Delete, Lock, Unlock}
use Rattle.sap_draft.specs.declared.process.build.Branching.{Branching}
use Rattle.sap_draft.specs.declared.process.build.Measured.{Measured}
use Rattle.sap_draft.specs.declared.process.build.Branching.TheVariants.{Equality, Lookup}
use Rattle.sap_draft.specs.code.ProcessReading.{Levelled, Choosing, by_test, by_lookup}
use Rattle.sap_macro.specs.Sources.{located}

-- the process as it is written, with its numbers, and the levels of its text
abbrev pub levelled : Measured → Levelled
levelled m = (located m.source.value, m.levels)

-- what is done with a message that goes this way
abbrev pub to_adversary : Direction → Tree → Action
to_adversary Out = out
to_adversary In = input

abbrev pub on_channel : Direction → Tree → Tree → Action
on_channel Out = send
on_channel In = receive

-- what is done with one term
abbrev pub on_one : Deed → Tree → Action
on_one Delete = delete
on_one Lock = λ t. lock t 0
on_one Unlock = λ t. unlock t 0

-- the two branches with what chooses between them
abbrev pub chosen : Branching → Choosing
chosen (Equality t u) = by_test (tree t) (tree u)
chosen (Lookup t x) = by_lookup (tree t) x
