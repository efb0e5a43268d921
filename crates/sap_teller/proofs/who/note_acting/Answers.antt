use Rattle.std.proofs.Common.{ℕ, List, ◌++◌, subst, sym, ap, ◌∙◌, OnOk}
use Rattle.sap_players.specs.Numbers.{AreRoleNumbers, Player}
use Rattle.sap_tell.specs.Stages.{player, players_of}
use Rattle.sap_teller.specs.code.Acting.{threads_in}
use Rattle.sap_teller.specs.declared.who.Acting.{Acting}
use Rattle.sap_teller.proofs.Acting.{append_none, one_player, two_players}
use Rattle.sap_teller.proofs.who.note_acting.Goals as goal

pub returns-in-Nobody-clause-noted : goal.returns-in-Nobody-clause-noted
returns-in-Nobody-clause-noted c = λ cast ds is are.
    subst (λ (xs : List Player). AreRoleNumbers xs c.args.numbers.now) (sym (append_none ds) ∙ ap (λ (w : Acting). ds ++ players_of cast c.args.paths.now (threads_in w)) (sym c.in-Nobody.is)) are

pub returns-in-One-clause-noted : goal.returns-in-One-clause-noted
returns-in-One-clause-noted c = λ cast ds is are.
    let t = c.in-One.t in
    subst (λ (xs : List Player). OnOk c.note.result (AreRoleNumbers xs c.note.new.numbers))
    (ap (λ (q : List ℕ). ds ++ player t (cast.at q)) c.digits.ensures ∙ one_player cast c.args.paths.now ds t ∙ ap (λ (w : Acting). ds ++ players_of cast c.args.paths.now (threads_in w)) (sym c.in-One.is))
    (c.note.ensures.noted cast ds is are)

pub returns-in-Two-clause-noted : goal.returns-in-Two-clause-noted
returns-in-Two-clause-noted c = λ cast ds is are.
    subst (λ (xs : List Player). OnOk c.note_both.result (AreRoleNumbers xs c.note_both.new.numbers))
    (two_players cast c.args.paths.now ds c.in-Two.s c.in-Two.t ∙ ap (λ (w : Acting). ds ++ players_of cast c.args.paths.now (threads_in w)) (sym c.in-Two.is))
    (c.note_both.ensures.noted cast ds is are)
