use Rattle.std.proofs.Common.{◌≡◌, drop}
use Rattle.sap_nodes.specs.code.Clashes.{noted_all}
use Rattle.sap_nodes.proofs.clash.Met.note_all.Given as goal

abbrev pub invariant-loop-f : goal.invariant-loop-f
invariant-loop-f l = noted_all l.both l.initial.self l.fs ≡ noted_all l.both l.self (drop l.f-index l.f-items)
