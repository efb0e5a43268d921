use Rattle.std.proofs.Common.{◌<◌, ℕ, List, ◌++◌, Option, ap, sym, ◌∙◌, subst}
use Rattle.std.specs.Prelude.{IfSome}
use Rattle.std.proofs.lemmas.Result.{on_ok_weaker}
use Rattle.sap_players.specs.Numbers.{AreRoleNumbers, Player}
use Rattle.sap_roles.specs.Casts.{role_count}
use Rattle.sap_tell.specs.Stages.{player}
use Rattle.sap_teller.proofs.Acting.{append_none}
use Rattle.sap_teller.proofs.who.note.Goals as goal

pub note-requires : goal.note-requires
note-requires c = subst (λ (n : ℕ). c.in-Some.role < n) (sym c.requires.count) (subst (λ (o : Option ℕ). IfSome o (λ k. k < role_count c.args.script.now)) c.in-Some.is c.role.ensures.small)

pub returns-in-None-clause-noted : goal.returns-in-None-clause-noted
returns-in-None-clause-noted c = λ cast ds is are.
    subst (λ (xs : List Player). AreRoleNumbers xs c.args.numbers.now) (sym (append_none ds) ∙ ap (λ (o : Option ℕ). ds ++ player c.args.t o) (sym c.in-None.is ∙ c.role.ensures.role cast is)) are

pub returns-in-Some-clause-noted : goal.returns-in-Some-clause-noted
returns-in-Some-clause-noted c = λ cast ds is are.
    on_ok_weaker c.note.result
    (λ more. subst (λ (o : Option ℕ). AreRoleNumbers (ds ++ player c.args.t o) c.note.new.self) (sym c.in-Some.is ∙ c.role.ensures.role cast is) (more ds are))
    c.note.ensures.more
