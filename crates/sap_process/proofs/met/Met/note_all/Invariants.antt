use Rattle.std.proofs.Common.{◌≡◌, ◌||◌, drop}
use Rattle.sap_process.specs.code.Tests.{has_clash, noted_all}
use Rattle.sap_process.proofs.met.Met.note_all.Given as goal

abbrev pub invariant-loop-f : goal.invariant-loop-f
invariant-loop-f l = record {
  clash : has_clash l.both l.initial.self l.fs ≡ (l.clash || has_clash l.both l.self (drop l.f-index l.f-items));
  noted : noted_all l.both l.initial.self l.fs ≡ noted_all l.both l.self (drop l.f-index l.f-items);
}
