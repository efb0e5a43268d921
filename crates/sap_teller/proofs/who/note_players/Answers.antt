use Rattle.std.proofs.Common.{ℕ, List, ◌++◌, subst, ap, ◌∙◌, OnOk}
use Rattle.sap_players.specs.Numbers.{AreRoleNumbers}
use Rattle.sap_tell.specs.Stages.{players_of}
use Rattle.sap_teller.specs.code.Acting.{threads_in}
use Rattle.sap_teller.proofs.Acting.{doers_are}
use Rattle.sap_teller.proofs.who.note_players.Goals as goal

pub returns-clause-noted : goal.returns-clause-noted
returns-clause-noted c = λ cast ds is are.
    subst (λ (ts : List ℕ). OnOk c.note_acting.result (AreRoleNumbers (ds ++ players_of cast c.args.paths.now ts) c.note_acting.new.numbers))
    (ap threads_in c.doing.ensures ∙ doers_are c.args.step.now) (c.note_acting.ensures.noted cast ds is are)
