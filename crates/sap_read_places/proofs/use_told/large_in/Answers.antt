use Rattle.sap_read_places.specs.code.NamedUses.{large_of}
use Rattle.sap_read_places.proofs.UseTold.{large_is_told}
use Rattle.sap_read_places.proofs.use_told.large_in.Goals as goal

pub returns-in_ok-uses-in-Some-clause-is : goal.returns-in_ok-uses-in-Some-clause-is
returns-in_ok-uses-in-Some-clause-is c =
    large_is_told c.args.tokens.now c.args.name.now (large_of c.args.processes.now) c.in-Some.found _ (rw c.in-Some.is at c.in_ok-found.ensures) c.stretch_before.ensures.is
    (rw c.as_slice.ensures.value at c.in_ok-uses-in-Some.ensures.are)
