use Rattle.sap_read_places.specs.code.Beyond.{IsFirstBeyond}
use Rattle.sap_read_places.proofs.LimitTold.{beyond_told}
use Rattle.sap_read_places.proofs.limit_told.told_beyond.Goals as goal

pub returns-in-Some-clause-is : goal.returns-in-Some-clause-is
returns-in-Some-clause-is c =
    let first : IsFirstBeyond c.args.limit c.args.processes.now c.in-Some.path = rw c.in-Some.is at c.in_ok-path.ensures in
    beyond_told c.one_numbered.ensures.one c.one_first_deep.ensures.one c.args.limit c.args.processes.now c.args.tokens.now c.in-Some.path first c.told_in_processes.result
    (rw c.as_slice.ensures.is at c.told_in_processes.ensures.is)
