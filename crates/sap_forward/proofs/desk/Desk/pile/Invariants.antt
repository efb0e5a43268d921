use Rattle.std.proofs.Common.{◌≡◌}
use Rattle.sap_forward.specs.code.Steps.{piles}
use Rattle.sap_forward.proofs.desk.Desk.pile.Given as goal

abbrev pub invariant-loop : goal.invariant-loop
invariant-loop l = l.self ≡ piles l.initial.self l.counter
