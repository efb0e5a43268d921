use Rattle.std.proofs.Common.{subst, Option, IfNone, IfSome, ℕ}
use Rattle.std.proofs.lemmas.Result.{IfErr-weaker, on_ok_weaker}
use Rattle.sap_terms.specs.View.{tree}
use Rattle.sap_process.specs.Configuration.{CanGive}
use Rattle.sap_calc.specs.Running.{Running, configuration}
use Rattle.sap_intruder.specs.Refusals.{channel_not_given}
use Rattle.sap_intruder.specs.code.Filled.{HasEntered}
use Rattle.sap_intruder.specs.declared.filling.Filling.{Filling}
use Rattle.sap_intruder.proofs.StepsFilled.{channel_few, channel_refused, send_filled, send_refused}
use Rattle.sap_intruder.proofs.filling.Filling.send.Goals as goal

pub returns-in-Err-clause-refused : goal.returns-in-Err-clause-refused
returns-in-Err-clause-refused c =
    let a = c.args.self.now in
    channel_refused a.config.sig (configuration a.config) c.args.t c.in-Err.fault c.blamed.result c.in-Err.ensures.refused c.blamed.ensures

pub find-requires-clause-within : goal.find-requires-clause-within
find-requires-clause-within c = let a = c.args.self.now in channel_few a.config.sig (configuration a.config) c.args.t (tree c.in-Ok.x) c.in-Ok.ensures.ok

pub returns-in-None-clause-refused : goal.returns-in-None-clause-refused
returns-in-None-clause-refused c =
    let a = c.args.self.now in
    let x = tree c.in-Ok.x in
    let r = c.channel.new.self in
    let there : ¬ CanGive r.sig (configuration r) x = subst (λ (o : Option ℕ). IfNone o (¬ CanGive r.sig (configuration r) x)) c.in-None.is c.in_ok-find.ensures.none in
    channel_not_given c.in-Ok.ensures.ok (subst (λ (z : Running). ¬ CanGive z.sig (configuration z) x) c.in-Ok.ensures.kept there)

pub returns-clause-ok : goal.returns-clause-ok
returns-clause-ok c =
    let a = c.args.self.now in
    let b = c.find.new.self in
    let x = tree c.in-Ok.x in
    let here : Running → Filling = λ (r : Running). record { config = r; search = a.search; count = a.count; lines = a.lines } in
    let there : HasEntered (here c.channel.new.self) b x c.in-Some.k = subst (λ (o : Option ℕ). IfSome o (HasEntered (here c.channel.new.self) b x)) c.in-Some.is c.in_ok-find.ensures.some in
    let entered : HasEntered a b x c.in-Some.k = subst (λ (r : Running). HasEntered (here r) b x c.in-Some.k) c.in-Ok.ensures.kept there in
    on_ok_weaker c.follow.result (λ h. send_filled a b c.follow.new.self c.args.t x c.in-Some.k entered c.in-Ok.ensures.ok h) c.follow.ensures.ok

pub returns-clause-refused : goal.returns-clause-refused
returns-clause-refused c =
    let a = c.args.self.now in
    let b = c.find.new.self in
    let x = tree c.in-Ok.x in
    let here : Running → Filling = λ (r : Running). record { config = r; search = a.search; count = a.count; lines = a.lines } in
    let there : HasEntered (here c.channel.new.self) b x c.in-Some.k = subst (λ (o : Option ℕ). IfSome o (HasEntered (here c.channel.new.self) b x)) c.in-Some.is c.in_ok-find.ensures.some in
    let entered : HasEntered a b x c.in-Some.k = subst (λ (r : Running). HasEntered (here r) b x c.in-Some.k) c.in-Ok.ensures.kept there in
    IfErr-weaker c.follow.result _ _ (λ v h. send_refused c.normal_forms_are_unique.ensures c.channels_are_one.ensures.answer c.lines_look_at_one_entry.ensures.refused a b c.args.t x c.in-Some.k v entered c.in-Ok.ensures.ok h) c.follow.ensures.refused
