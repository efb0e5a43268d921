use Rattle.std.proofs.lemmas.Result.{on_ok_weaker}
use Rattle.sap_macro.proofs.Entries.{params_next}
use Rattle.sap_macro.proofs.building.put_before.Goals as goal

pub returns-in-Ok : goal.returns-in-Ok
returns-in-Ok c =
    on_ok_weaker c.insert.result
    (λ puts. params_next c.args.params.now c.args.args.now c.args.k c.in_ok-name.name c.at.result.now c.in-Ok.t c.args.terms.now c.insert.new.self
    c.requires.some c.at.ensures c.in_ok-name.ensures c.requires.put puts c.in-Ok.ensures)
    c.insert.ensures.ok
