use Rattle.std.proofs.Common.{refl, sym, ap, ◌∙◌}
use Rattle.std.specs.Option.{option_copied}
use Rattle.sap_runs.specs.declared.process_step.PStep.TheVariants as line
use Rattle.sap_calc.specs.code.Parts.{Parts}
use Rattle.sap_lines.specs.Faults.{no_memory}
use Rattle.sap_calc.proofs.Numbered.{live_got}
use Rattle.sap_calc.proofs.Lines.{no_thread, wrong_form, place_below, number_below, thread_tied}
use Rattle.sap_calc.proofs.Moves.{keeps_tied, keeps_seen}
use Rattle.sap_calc.proofs.Channels.{send_can_left, send_can_right, send_unknown, send_large, send_denied, send_tied, send_line, entry_below}
use Rattle.sap_calc.proofs.config.Config.send.Goals as goal

pub returns-in_default-clause-refused : goal.returns-in_default-clause-refused
returns-in_default-clause-refused c =
    let P : Parts = record { table = c.self.inside.table; places = c.self.inside.places; threads = c.self.inside.threads.items; store = c.self.inside.store.entries; held = c.self.inside.held.entries; facts = c.self.inside.facts; made = c.self.inside.made.keys; own = c.self.inside.own.keys; known = c.self.inside.knowledge } in
    rw (← c.self.view_is) (no_thread P (line.Send c.args.t c.args.k) c.args.t refl (sym (ap option_copied c.in_default.is) ∙ c.thread_at.ensures))

pub at-place-requires : goal.at-place-requires
at-place-requires c =
    let P : Parts = record { table = c.self.inside.table; places = c.self.inside.places; threads = c.self.inside.threads.items; store = c.self.inside.store.entries; held = c.self.inside.held.entries; facts = c.self.inside.facts; made = c.self.inside.made.keys; own = c.self.inside.own.keys; known = c.self.inside.knowledge } in
    place_below P c.args.t c.in-Some.th.now c.self.invariant c.in-Some.ensures

pub returns-in_default-sending-clause-refused : goal.returns-in_default-sending-clause-refused
returns-in_default-sending-clause-refused c =
    let P : Parts = record { table = c.self.inside.table; places = c.self.inside.places; threads = c.self.inside.threads.items; store = c.self.inside.store.entries; held = c.self.inside.held.entries; facts = c.self.inside.facts; made = c.self.inside.made.keys; own = c.self.inside.own.keys; known = c.self.inside.knowledge } in
    rw (← c.self.view_is) (wrong_form P (line.Send c.args.t c.args.k) c.args.t c.in-Some.th.now c.at-place.result.now refl c.self.invariant c.in-Some.ensures c.at-place.ensures (c.in_default-sending.ensures.0 c.args.t c.args.k))

pub values-requires-clause-env : goal.values-requires-clause-env
values-requires-clause-env c =
    let P : Parts = record { table = c.self.inside.table; places = c.self.inside.places; threads = c.self.inside.threads.items; store = c.self.inside.store.entries; held = c.self.inside.held.entries; facts = c.self.inside.facts; made = c.self.inside.made.keys; own = c.self.inside.own.keys; known = c.self.inside.knowledge } in
    (thread_tied P c.args.t c.in-Some.th.now c.self.invariant c.in-Some.ensures).small

pub values-requires-clause-first : goal.values-requires-clause-first
values-requires-clause-first c =
    let P : Parts = record { table = c.self.inside.table; places = c.self.inside.places; threads = c.self.inside.threads.items; store = c.self.inside.store.entries; held = c.self.inside.held.entries; facts = c.self.inside.facts; made = c.self.inside.made.keys; own = c.self.inside.own.keys; known = c.self.inside.knowledge } in
    send_can_left P c.args.t c.in-Some.th.now c.at-place.result.now c.self.invariant c.in-Some.ensures c.at-place.ensures c.in-Some-sending.m.now c.in-Some-sending.n.now c.in-Some-sending.ensures c.each_is_ground.ensures

pub values-requires-clause-second : goal.values-requires-clause-second
values-requires-clause-second c =
    let P : Parts = record { table = c.self.inside.table; places = c.self.inside.places; threads = c.self.inside.threads.items; store = c.self.inside.store.entries; held = c.self.inside.held.entries; facts = c.self.inside.facts; made = c.self.inside.made.keys; own = c.self.inside.own.keys; known = c.self.inside.knowledge } in
    send_can_right P c.args.t c.in-Some.th.now c.at-place.result.now c.self.invariant c.in-Some.ensures c.at-place.ensures c.in-Some-sending.m.now c.in-Some-sending.n.now c.in-Some-sending.ensures c.each_is_ground.ensures

pub invariant_of-self : goal.invariant_of-self
invariant_of-self c =
    let P : Parts = record { table = c.self.inside.table; places = c.self.inside.places; threads = c.self.inside.threads.items; store = c.self.inside.store.entries; held = c.self.inside.held.entries; facts = c.self.inside.facts; made = c.self.inside.made.keys; own = c.self.inside.own.keys; known = c.self.inside.knowledge } in
    keeps_tied P c.values.new.table c.values.ensures.keeps c.self.invariant

pub invariant_of-self-then-i-e : goal.invariant_of-self-then-i-e
invariant_of-self-then-i-e c =
    let P : Parts = record { table = c.self.inside.table; places = c.self.inside.places; threads = c.self.inside.threads.items; store = c.self.inside.store.entries; held = c.self.inside.held.entries; facts = c.self.inside.facts; made = c.self.inside.made.keys; own = c.self.inside.own.keys; known = c.self.inside.knowledge } in
    keeps_tied P c.values.new.table c.values.ensures.keeps c.self.invariant

pub returns-then-i-e-clause-refused : goal.returns-then-i-e-clause-refused
returns-then-i-e-clause-refused c =
    let P : Parts = record { table = c.self.inside.table; places = c.self.inside.places; threads = c.self.inside.threads.items; store = c.self.inside.store.entries; held = c.self.inside.held.entries; facts = c.self.inside.facts; made = c.self.inside.made.keys; own = c.self.inside.own.keys; known = c.self.inside.knowledge } in
    rw (← c.self.view_is) (send_denied P c.args.t c.in-Some.th.now c.at-place.result.now c.self.invariant c.in-Some.ensures c.at-place.ensures c.in-Some-sending.m.now c.in-Some-sending.n.now c.in-Some-sending.ensures c.args.k c.in-Some-entry_number.e c.in-Some-entry_number.ensures.some c.values.new.table c.values.ensures.keeps c.in-Ok.i c.in-Ok.j c.in-Ok.ensures.ok c.normal_forms_are_unique.ensures c.each_has_one_number.ensures (entry_below c.self.inside.table c.values.new.table c.in-Some-entry_number.e c.values.ensures.keeps c.in-Some-entry_number.ensures.some.small) c.if-i-e.true)

pub returns-then-i-e-clause-err : goal.returns-then-i-e-clause-err
returns-then-i-e-clause-err c =
    let P : Parts = record { table = c.self.inside.table; places = c.self.inside.places; threads = c.self.inside.threads.items; store = c.self.inside.store.entries; held = c.self.inside.held.entries; facts = c.self.inside.facts; made = c.self.inside.made.keys; own = c.self.inside.own.keys; known = c.self.inside.knowledge } in
    keeps_seen P c.values.new.table c.values.ensures.keeps c.self.invariant ∙ c.self.view_is

pub invariant_of-self-in-Err-shown_number : goal.invariant_of-self-in-Err-shown_number
invariant_of-self-in-Err-shown_number c =
    let P : Parts = record { table = c.self.inside.table; places = c.self.inside.places; threads = c.self.inside.threads.items; store = c.self.inside.store.entries; held = c.self.inside.held.entries; facts = c.self.inside.facts; made = c.self.inside.made.keys; own = c.self.inside.own.keys; known = c.self.inside.knowledge } in
    keeps_tied P c.values.new.table c.values.ensures.keeps c.self.invariant

pub invariant_of-self-in-Err-send : goal.invariant_of-self-in-Err-send
invariant_of-self-in-Err-send c =
    let P : Parts = record { table = c.self.inside.table; places = c.self.inside.places; threads = c.self.inside.threads.items; store = c.self.inside.store.entries; held = c.self.inside.held.entries; facts = c.self.inside.facts; made = c.self.inside.made.keys; own = c.self.inside.own.keys; known = c.self.inside.knowledge } in
    rw c.in-Err-send.ensures.err (keeps_tied P c.values.new.table c.values.ensures.keeps c.self.invariant)

pub go_on-requires : goal.go_on-requires
go_on-requires c =
    let P : Parts = record { table = c.self.inside.table; places = c.self.inside.places; threads = c.self.inside.threads.items; store = c.self.inside.store.entries; held = c.self.inside.held.entries; facts = c.self.inside.facts; made = c.self.inside.made.keys; own = c.self.inside.own.keys; known = c.self.inside.knowledge } in
    number_below P c.args.t c.in-Some.th.now c.in-Some.ensures

pub invariant_of-self-in-Ok-send : goal.invariant_of-self-in-Ok-send
invariant_of-self-in-Ok-send c =
    let P : Parts = record { table = c.self.inside.table; places = c.self.inside.places; threads = c.self.inside.threads.items; store = c.self.inside.store.entries; held = c.self.inside.held.entries; facts = c.self.inside.facts; made = c.self.inside.made.keys; own = c.self.inside.own.keys; known = c.self.inside.knowledge } in
    rw (c.go_on.ensures c.in-Some.th.now (live_got P.threads c.args.t c.in-Some.th.now c.in-Some.ensures)) (send_tied P c.args.t c.in-Some.th.now c.at-place.result.now c.self.invariant c.in-Some.ensures c.at-place.ensures c.in-Some-sending.m.now c.in-Some-sending.n.now c.in-Some-sending.ensures c.args.k c.in-Some-entry_number.e c.in-Some-entry_number.ensures.some c.values.new.table c.values.ensures.keeps c.in-Ok.i c.in-Ok.j c.in-Ok.ensures.ok c.send.new.knowledge c.in-Ok-send.ensures.ok c.send.ensures.numbered)

pub returns-in_default-entry_number-clause-refused : goal.returns-in_default-entry_number-clause-refused
returns-in_default-entry_number-clause-refused c =
    let P : Parts = record { table = c.self.inside.table; places = c.self.inside.places; threads = c.self.inside.threads.items; store = c.self.inside.store.entries; held = c.self.inside.held.entries; facts = c.self.inside.facts; made = c.self.inside.made.keys; own = c.self.inside.own.keys; known = c.self.inside.knowledge } in
    rw (← c.self.view_is) (send_unknown P c.args.t c.in-Some.th.now c.at-place.result.now c.self.invariant c.in-Some.ensures c.at-place.ensures c.in-Some-sending.m.now c.in-Some-sending.n.now c.in-Some-sending.ensures c.args.k c.in_default-entry_number.ensures.none)

pub returns-in-Err-clause-refused : goal.returns-in-Err-clause-refused
returns-in-Err-clause-refused c =
    let P : Parts = record { table = c.self.inside.table; places = c.self.inside.places; threads = c.self.inside.threads.items; store = c.self.inside.store.entries; held = c.self.inside.held.entries; facts = c.self.inside.facts; made = c.self.inside.made.keys; own = c.self.inside.own.keys; known = c.self.inside.knowledge } in
    rw (← c.self.view_is) (send_large P c.args.t c.in-Some.th.now c.at-place.result.now c.self.invariant c.in-Some.ensures c.at-place.ensures c.in-Some-sending.m.now c.in-Some-sending.n.now c.in-Some-sending.ensures c.args.k c.in-Some-entry_number.e c.in-Some-entry_number.ensures.some c.in-Err.fault c.in-Err.ensures.refused)

pub returns-in-Err-clause-err : goal.returns-in-Err-clause-err
returns-in-Err-clause-err c =
    let P : Parts = record { table = c.self.inside.table; places = c.self.inside.places; threads = c.self.inside.threads.items; store = c.self.inside.store.entries; held = c.self.inside.held.entries; facts = c.self.inside.facts; made = c.self.inside.made.keys; own = c.self.inside.own.keys; known = c.self.inside.knowledge } in
    keeps_seen P c.values.new.table c.values.ensures.keeps c.self.invariant ∙ c.self.view_is

pub returns-in-Err-shown_number-clause-refused : goal.returns-in-Err-shown_number-clause-refused
returns-in-Err-shown_number-clause-refused c = no_memory (line.Send c.args.t c.args.k)

pub returns-in-Err-shown_number-clause-err : goal.returns-in-Err-shown_number-clause-err
returns-in-Err-shown_number-clause-err c =
    let P : Parts = record { table = c.self.inside.table; places = c.self.inside.places; threads = c.self.inside.threads.items; store = c.self.inside.store.entries; held = c.self.inside.held.entries; facts = c.self.inside.facts; made = c.self.inside.made.keys; own = c.self.inside.own.keys; known = c.self.inside.knowledge } in
    keeps_seen P c.values.new.table c.values.ensures.keeps c.self.invariant ∙ c.self.view_is

pub returns-in-Err-send-clause-refused : goal.returns-in-Err-send-clause-refused
returns-in-Err-send-clause-refused c = no_memory (line.Send c.args.t c.args.k)

pub returns-in-Err-send-clause-err : goal.returns-in-Err-send-clause-err
returns-in-Err-send-clause-err c =
    let P : Parts = record { table = c.self.inside.table; places = c.self.inside.places; threads = c.self.inside.threads.items; store = c.self.inside.store.entries; held = c.self.inside.held.entries; facts = c.self.inside.facts; made = c.self.inside.made.keys; own = c.self.inside.own.keys; known = c.self.inside.knowledge } in
    rw c.in-Err-send.ensures.err (keeps_seen P c.values.new.table c.values.ensures.keeps c.self.invariant ∙ c.self.view_is)

pub returns-in-Ok-send-clause-ok : goal.returns-in-Ok-send-clause-ok
returns-in-Ok-send-clause-ok c =
    let P : Parts = record { table = c.self.inside.table; places = c.self.inside.places; threads = c.self.inside.threads.items; store = c.self.inside.store.entries; held = c.self.inside.held.entries; facts = c.self.inside.facts; made = c.self.inside.made.keys; own = c.self.inside.own.keys; known = c.self.inside.knowledge } in
    rw (← c.self.view_is, (c.go_on.ensures c.in-Some.th.now (live_got P.threads c.args.t c.in-Some.th.now c.in-Some.ensures))) (send_line P c.args.t c.in-Some.th.now c.at-place.result.now c.self.invariant c.in-Some.ensures c.at-place.ensures c.in-Some-sending.m.now c.in-Some-sending.n.now c.in-Some-sending.ensures c.args.k c.in-Some-entry_number.e c.in-Some-entry_number.ensures.some c.values.new.table c.values.ensures.keeps c.in-Ok.i c.in-Ok.j c.in-Ok.ensures.ok c.send.new.knowledge c.in-Ok-send.ensures.ok c.send.ensures.numbered c.if-i-e.false c.in-Ok-shown_number.label c.in-Ok-shown_number.ensures)

pub send-requires-clause-numbered : goal.send-requires-clause-numbered
send-requires-clause-numbered c =
    let P : Parts = record { table = c.self.inside.table; places = c.self.inside.places; threads = c.self.inside.threads.items; store = c.self.inside.store.entries; held = c.self.inside.held.entries; facts = c.self.inside.facts; made = c.self.inside.made.keys; own = c.self.inside.own.keys; known = c.self.inside.knowledge } in
    (keeps_tied P c.values.new.table c.values.ensures.keeps c.self.invariant).numbered
