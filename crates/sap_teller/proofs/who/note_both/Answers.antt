use Rattle.std.proofs.Common.{ℕ, List, ◌++◌, subst, OnOk}
use Rattle.sap_players.specs.Numbers.{AreRoleNumbers}
use Rattle.sap_tell.specs.Stages.{player}
use Rattle.sap_tell.specs.ThreadPaths.{path_of}
use Rattle.sap_teller.proofs.who.note_both.Goals as goal

pub returns-clause-noted : goal.returns-clause-noted
returns-clause-noted c = λ cast ds is are.
    let before = ds ++ player c.args.s (cast.at (path_of c.args.paths.now c.args.s)) in
    subst (λ (q : List ℕ). OnOk c.note-2.result (AreRoleNumbers (before ++ player c.args.t (cast.at q)) c.note-2.new.numbers)) c.digits-2.ensures
    (c.note-2.ensures.noted cast before is
    (subst (λ (q : List ℕ). AreRoleNumbers (ds ++ player c.args.s (cast.at q)) c.note.new.numbers) c.digits.ensures (c.in_ok-note.ensures.noted cast ds is are)))
