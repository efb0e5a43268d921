use Rattle.std.proofs.Common.{refl, sym, ap, ◌∙◌}
use Rattle.std.specs.Option.{option_copied}
use Rattle.sap_runs.specs.declared.process_step.PStep.TheVariants as line
use Rattle.sap_calc.specs.code.Parts.{Parts}
use Rattle.sap_calc.proofs.Numbered.{live_got}
use Rattle.sap_calc.proofs.Lines.{no_thread, wrong_form, place_below, number_below, thread_tied}
use Rattle.sap_calc.proofs.Moves.{keeps_tied, keeps_seen}
use Rattle.sap_calc.proofs.Channels.{event_can, event_large, event_tied, event_line}
use Rattle.sap_calc.proofs.config.Config.event.Goals as goal

pub returns-in_default-clause-refused : goal.returns-in_default-clause-refused
returns-in_default-clause-refused c =
    let P : Parts = record { table = c.self.inside.table; places = c.self.inside.places; threads = c.self.inside.threads.items; store = c.self.inside.store.entries; held = c.self.inside.held.entries; facts = c.self.inside.facts; made = c.self.inside.made.keys; own = c.self.inside.own.keys; known = c.self.inside.knowledge } in
    rw (← c.self.view_is) (no_thread P (line.Event c.args.t) c.args.t refl (sym (ap option_copied c.in_default.is) ∙ c.thread_at.ensures))

pub at-place-requires : goal.at-place-requires
at-place-requires c =
    let P : Parts = record { table = c.self.inside.table; places = c.self.inside.places; threads = c.self.inside.threads.items; store = c.self.inside.store.entries; held = c.self.inside.held.entries; facts = c.self.inside.facts; made = c.self.inside.made.keys; own = c.self.inside.own.keys; known = c.self.inside.knowledge } in
    place_below P c.args.t c.in-Some.th.now c.self.invariant c.in-Some.ensures

pub returns-in_default-event-clause-refused : goal.returns-in_default-event-clause-refused
returns-in_default-event-clause-refused c =
    let P : Parts = record { table = c.self.inside.table; places = c.self.inside.places; threads = c.self.inside.threads.items; store = c.self.inside.store.entries; held = c.self.inside.held.entries; facts = c.self.inside.facts; made = c.self.inside.made.keys; own = c.self.inside.own.keys; known = c.self.inside.knowledge } in
    rw (← c.self.view_is) (wrong_form P (line.Event c.args.t) c.args.t c.in-Some.th.now c.at-place.result.now refl c.self.invariant c.in-Some.ensures c.at-place.ensures (c.in_default-event.ensures c.args.t))

pub shown_form-requires-clause-env : goal.shown_form-requires-clause-env
shown_form-requires-clause-env c =
    let P : Parts = record { table = c.self.inside.table; places = c.self.inside.places; threads = c.self.inside.threads.items; store = c.self.inside.store.entries; held = c.self.inside.held.entries; facts = c.self.inside.facts; made = c.self.inside.made.keys; own = c.self.inside.own.keys; known = c.self.inside.knowledge } in
    (thread_tied P c.args.t c.in-Some.th.now c.self.invariant c.in-Some.ensures).small

pub shown_form-requires-clause-can : goal.shown_form-requires-clause-can
shown_form-requires-clause-can c =
    let P : Parts = record { table = c.self.inside.table; places = c.self.inside.places; threads = c.self.inside.threads.items; store = c.self.inside.store.entries; held = c.self.inside.held.entries; facts = c.self.inside.facts; made = c.self.inside.made.keys; own = c.self.inside.own.keys; known = c.self.inside.knowledge } in
    event_can P c.args.t c.in-Some.th.now c.at-place.result.now c.self.invariant c.in-Some.ensures c.at-place.ensures c.in-Some-event.f.now c.in-Some-event.ensures c.each_is_ground.ensures

pub invariant_of-self : goal.invariant_of-self
invariant_of-self c =
    let P : Parts = record { table = c.self.inside.table; places = c.self.inside.places; threads = c.self.inside.threads.items; store = c.self.inside.store.entries; held = c.self.inside.held.entries; facts = c.self.inside.facts; made = c.self.inside.made.keys; own = c.self.inside.own.keys; known = c.self.inside.knowledge } in
    keeps_tied P c.shown_form.new.table c.shown_form.ensures.keeps c.self.invariant

pub go_on-requires : goal.go_on-requires
go_on-requires c =
    let P : Parts = record { table = c.self.inside.table; places = c.self.inside.places; threads = c.self.inside.threads.items; store = c.self.inside.store.entries; held = c.self.inside.held.entries; facts = c.self.inside.facts; made = c.self.inside.made.keys; own = c.self.inside.own.keys; known = c.self.inside.knowledge } in
    number_below P c.args.t c.in-Some.th.now c.in-Some.ensures

pub invariant_of-self-in-Ok : goal.invariant_of-self-in-Ok
invariant_of-self-in-Ok c =
    let P : Parts = record { table = c.self.inside.table; places = c.self.inside.places; threads = c.self.inside.threads.items; store = c.self.inside.store.entries; held = c.self.inside.held.entries; facts = c.self.inside.facts; made = c.self.inside.made.keys; own = c.self.inside.own.keys; known = c.self.inside.knowledge } in
    rw (c.go_on.ensures c.in-Some.th.now (live_got P.threads c.args.t c.in-Some.th.now c.in-Some.ensures)) (event_tied P c.args.t c.in-Some.th.now c.at-place.result.now c.self.invariant c.in-Some.ensures c.at-place.ensures c.in-Some-event.f.now c.in-Some-event.ensures c.shown_form.new.table c.shown_form.ensures.keeps)

pub returns-in-Err-clause-refused : goal.returns-in-Err-clause-refused
returns-in-Err-clause-refused c =
    let P : Parts = record { table = c.self.inside.table; places = c.self.inside.places; threads = c.self.inside.threads.items; store = c.self.inside.store.entries; held = c.self.inside.held.entries; facts = c.self.inside.facts; made = c.self.inside.made.keys; own = c.self.inside.own.keys; known = c.self.inside.knowledge } in
    rw (← c.self.view_is) (event_large P c.args.t c.in-Some.th.now c.at-place.result.now c.self.invariant c.in-Some.ensures c.at-place.ensures c.in-Some-event.f.now c.in-Some-event.ensures c.in-Err.fault c.in-Err.ensures.refused)

pub returns-in-Err-clause-err : goal.returns-in-Err-clause-err
returns-in-Err-clause-err c =
    let P : Parts = record { table = c.self.inside.table; places = c.self.inside.places; threads = c.self.inside.threads.items; store = c.self.inside.store.entries; held = c.self.inside.held.entries; facts = c.self.inside.facts; made = c.self.inside.made.keys; own = c.self.inside.own.keys; known = c.self.inside.knowledge } in
    keeps_seen P c.shown_form.new.table c.shown_form.ensures.keeps c.self.invariant ∙ c.self.view_is

pub returns-in-Ok-clause-ok : goal.returns-in-Ok-clause-ok
returns-in-Ok-clause-ok c =
    let P : Parts = record { table = c.self.inside.table; places = c.self.inside.places; threads = c.self.inside.threads.items; store = c.self.inside.store.entries; held = c.self.inside.held.entries; facts = c.self.inside.facts; made = c.self.inside.made.keys; own = c.self.inside.own.keys; known = c.self.inside.knowledge } in
    rw (← c.self.view_is, (c.go_on.ensures c.in-Some.th.now (live_got P.threads c.args.t c.in-Some.th.now c.in-Some.ensures))) (event_line P c.args.t c.in-Some.th.now c.at-place.result.now c.self.invariant c.in-Some.ensures c.at-place.ensures c.in-Some-event.f.now c.in-Some-event.ensures c.shown_form.new.table c.shown_form.ensures.keeps c.in-Ok.label c.in-Ok.ensures.ok)
