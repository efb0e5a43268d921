use Rattle.std.proofs.Common.{sym, ap, ◌∙◌}
use Rattle.std.specs.Option.{option_copied}
use Rattle.sap_runs.specs.declared.process_step.PStep.TheVariants as line
use Rattle.sap_calc.specs.code.Parts.{Parts}
use Rattle.sap_calc.proofs.Numbered.{live_got}
use Rattle.sap_calc.proofs.Lines.{place_below, number_below, thread_tied}
use Rattle.sap_calc.proofs.Moves.{keeps_tied, keeps_seen}
use Rattle.sap_calc.proofs.Goes.{denied_back, done_back}
use Rattle.sap_calc.proofs.Channels.{send_can_left, send_can_right}
use Rattle.sap_calc.proofs.Meets.{set_below, sync_no_sender, sync_no_send, sync_no_receiver, sync_no_receive, sync_can, sync_sorts, sync_plain, sync_denied, sync_tied, sync_line}
use Rattle.sap_calc.proofs.config.Config.sync.Goals as goal

pub returns-in_default-clause-refused : goal.returns-in_default-clause-refused
returns-in_default-clause-refused c =
    let P : Parts = record { table = c.self.inside.table; places = c.self.inside.places; threads = c.self.inside.threads.items; store = c.self.inside.store.entries; held = c.self.inside.held.entries; facts = c.self.inside.facts; made = c.self.inside.made.keys; own = c.self.inside.own.keys; known = c.self.inside.knowledge } in
    rw (← c.self.view_is) (sync_no_sender P c.args.s c.args.t (sym (ap option_copied c.in_default.is) ∙ c.thread_at.ensures))

pub at-from-requires : goal.at-from-requires
at-from-requires c =
    let P : Parts = record { table = c.self.inside.table; places = c.self.inside.places; threads = c.self.inside.threads.items; store = c.self.inside.store.entries; held = c.self.inside.held.entries; facts = c.self.inside.facts; made = c.self.inside.made.keys; own = c.self.inside.own.keys; known = c.self.inside.knowledge } in
    place_below P c.args.s c.in-Some.sender.now c.self.invariant c.in-Some.ensures

pub returns-in_default-sending-clause-refused : goal.returns-in_default-sending-clause-refused
returns-in_default-sending-clause-refused c =
    let P : Parts = record { table = c.self.inside.table; places = c.self.inside.places; threads = c.self.inside.threads.items; store = c.self.inside.store.entries; held = c.self.inside.held.entries; facts = c.self.inside.facts; made = c.self.inside.made.keys; own = c.self.inside.own.keys; known = c.self.inside.knowledge } in
    rw (← c.self.view_is) (sync_no_send P c.args.s c.args.t c.in-Some.sender.now c.at-from.result.now c.self.invariant c.in-Some.ensures c.at-from.ensures c.in_default-sending.ensures.1)

pub returns-in_default-thread_at-clause-refused : goal.returns-in_default-thread_at-clause-refused
returns-in_default-thread_at-clause-refused c =
    let P : Parts = record { table = c.self.inside.table; places = c.self.inside.places; threads = c.self.inside.threads.items; store = c.self.inside.store.entries; held = c.self.inside.held.entries; facts = c.self.inside.facts; made = c.self.inside.made.keys; own = c.self.inside.own.keys; known = c.self.inside.knowledge } in
    rw (← c.self.view_is) (sync_no_receiver P c.self.invariant c.args.s c.in-Some.sender.now c.at-from.result.now c.in-Some.ensures c.at-from.ensures c.in-Some-sending.m.now c.in-Some-sending.n.now c.in-Some-sending.ensures c.args.t (sym (ap option_copied c.in_default-thread_at.is) ∙ c.thread_at-2.ensures))

pub at-place-requires : goal.at-place-requires
at-place-requires c =
    let P : Parts = record { table = c.self.inside.table; places = c.self.inside.places; threads = c.self.inside.threads.items; store = c.self.inside.store.entries; held = c.self.inside.held.entries; facts = c.self.inside.facts; made = c.self.inside.made.keys; own = c.self.inside.own.keys; known = c.self.inside.knowledge } in
    place_below P c.args.t c.in-Some-thread_at.th.now c.self.invariant c.in-Some-thread_at.ensures

pub returns-in_default-receiving-clause-refused : goal.returns-in_default-receiving-clause-refused
returns-in_default-receiving-clause-refused c =
    let P : Parts = record { table = c.self.inside.table; places = c.self.inside.places; threads = c.self.inside.threads.items; store = c.self.inside.store.entries; held = c.self.inside.held.entries; facts = c.self.inside.facts; made = c.self.inside.made.keys; own = c.self.inside.own.keys; known = c.self.inside.knowledge } in
    rw (← c.self.view_is) (sync_no_receive P c.self.invariant c.args.s c.in-Some.sender.now c.at-from.result.now c.in-Some.ensures c.at-from.ensures c.in-Some-sending.m.now c.in-Some-sending.n.now c.in-Some-sending.ensures c.args.t c.in-Some-thread_at.th.now c.at-place.result.now c.in-Some-thread_at.ensures c.at-place.ensures c.in_default-receiving.ensures)

pub met-requires-clause-sends : goal.met-requires-clause-sends
met-requires-clause-sends c =
    let P : Parts = record { table = c.self.inside.table; places = c.self.inside.places; threads = c.self.inside.threads.items; store = c.self.inside.store.entries; held = c.self.inside.held.entries; facts = c.self.inside.facts; made = c.self.inside.made.keys; own = c.self.inside.own.keys; known = c.self.inside.knowledge } in
    (thread_tied P c.args.s c.in-Some.sender.now c.self.invariant c.in-Some.ensures).small

pub met-requires-clause-takes : goal.met-requires-clause-takes
met-requires-clause-takes c =
    let P : Parts = record { table = c.self.inside.table; places = c.self.inside.places; threads = c.self.inside.threads.items; store = c.self.inside.store.entries; held = c.self.inside.held.entries; facts = c.self.inside.facts; made = c.self.inside.made.keys; own = c.self.inside.own.keys; known = c.self.inside.knowledge } in
    (thread_tied P c.args.t c.in-Some-thread_at.th.now c.self.invariant c.in-Some-thread_at.ensures).small

pub met-requires-clause-can_first : goal.met-requires-clause-can_first
met-requires-clause-can_first c =
    let P : Parts = record { table = c.self.inside.table; places = c.self.inside.places; threads = c.self.inside.threads.items; store = c.self.inside.store.entries; held = c.self.inside.held.entries; facts = c.self.inside.facts; made = c.self.inside.made.keys; own = c.self.inside.own.keys; known = c.self.inside.knowledge } in
    send_can_left P c.args.s c.in-Some.sender.now c.at-from.result.now c.self.invariant c.in-Some.ensures c.at-from.ensures c.in-Some-sending.m.now c.in-Some-sending.n.now c.in-Some-sending.ensures c.each_is_ground.ensures

pub met-requires-clause-can_second : goal.met-requires-clause-can_second
met-requires-clause-can_second c =
    let P : Parts = record { table = c.self.inside.table; places = c.self.inside.places; threads = c.self.inside.threads.items; store = c.self.inside.store.entries; held = c.self.inside.held.entries; facts = c.self.inside.facts; made = c.self.inside.made.keys; own = c.self.inside.own.keys; known = c.self.inside.knowledge } in
    send_can_right P c.args.s c.in-Some.sender.now c.at-from.result.now c.self.invariant c.in-Some.ensures c.at-from.ensures c.in-Some-sending.m.now c.in-Some-sending.n.now c.in-Some-sending.ensures c.each_is_ground.ensures

pub met-requires-clause-can_third : goal.met-requires-clause-can_third
met-requires-clause-can_third c =
    let P : Parts = record { table = c.self.inside.table; places = c.self.inside.places; threads = c.self.inside.threads.items; store = c.self.inside.store.entries; held = c.self.inside.held.entries; facts = c.self.inside.facts; made = c.self.inside.made.keys; own = c.self.inside.own.keys; known = c.self.inside.knowledge } in
    sync_can P c.self.invariant c.args.s c.in-Some.sender.now c.at-from.result.now c.in-Some.ensures c.at-from.ensures c.in-Some-sending.m.now c.in-Some-sending.n.now c.in-Some-sending.ensures c.args.t c.in-Some-thread_at.th.now c.at-place.result.now c.in-Some-thread_at.ensures c.at-place.ensures c.in-Some-receiving.l.now c.in-Some-receiving.p.now c.in-Some-receiving.ensures c.each_is_ground.ensures

pub invariant_of-self : goal.invariant_of-self
invariant_of-self c =
    let P : Parts = record { table = c.self.inside.table; places = c.self.inside.places; threads = c.self.inside.threads.items; store = c.self.inside.store.entries; held = c.self.inside.held.entries; facts = c.self.inside.facts; made = c.self.inside.made.keys; own = c.self.inside.own.keys; known = c.self.inside.knowledge } in
    keeps_tied P c.met.new.table c.met.ensures.keeps c.self.invariant

pub go_on-requires : goal.go_on-requires
go_on-requires c =
    let P : Parts = record { table = c.self.inside.table; places = c.self.inside.places; threads = c.self.inside.threads.items; store = c.self.inside.store.entries; held = c.self.inside.held.entries; facts = c.self.inside.facts; made = c.self.inside.made.keys; own = c.self.inside.own.keys; known = c.self.inside.knowledge } in
    number_below P c.args.s c.in-Some.sender.now c.in-Some.ensures

pub set-requires : goal.set-requires
set-requires c =
    let P : Parts = record { table = c.self.inside.table; places = c.self.inside.places; threads = c.self.inside.threads.items; store = c.self.inside.store.entries; held = c.self.inside.held.entries; facts = c.self.inside.facts; made = c.self.inside.made.keys; own = c.self.inside.own.keys; known = c.self.inside.knowledge } in
    rw (c.go_on.ensures c.in-Some.sender.now (live_got P.threads c.args.s c.in-Some.sender.now c.in-Some.ensures)) (set_below P.threads c.args.s _ c.args.t (number_below P c.args.t c.in-Some-thread_at.th.now c.in-Some-thread_at.ensures))

pub invariant_of-self-in-Ok : goal.invariant_of-self-in-Ok
invariant_of-self-in-Ok c =
    let P : Parts = record { table = c.self.inside.table; places = c.self.inside.places; threads = c.self.inside.threads.items; store = c.self.inside.store.entries; held = c.self.inside.held.entries; facts = c.self.inside.facts; made = c.self.inside.made.keys; own = c.self.inside.own.keys; known = c.self.inside.knowledge } in
    rw (c.set.ensures, (c.go_on.ensures c.in-Some.sender.now (live_got P.threads c.args.s c.in-Some.sender.now c.in-Some.ensures))) (sync_tied (record P { table = c.met.new.table }) (keeps_tied P c.met.new.table c.met.ensures.keeps c.self.invariant) c.args.s c.in-Some.sender.now c.at-from.result.now c.in-Some.ensures c.at-from.ensures c.in-Some-sending.m.now c.in-Some-sending.n.now c.in-Some-sending.ensures c.args.t c.in-Some-thread_at.th.now c.at-place.result.now c.in-Some-thread_at.ensures c.at-place.ensures c.in-Some-receiving.l.now c.in-Some-receiving.p.now c.in-Some-receiving.ensures c.in-Ok.env c.in-Ok.ensures.ok)

pub returns-in-Err-clause-refused : goal.returns-in-Err-clause-refused
returns-in-Err-clause-refused c =
    let P : Parts = record { table = c.self.inside.table; places = c.self.inside.places; threads = c.self.inside.threads.items; store = c.self.inside.store.entries; held = c.self.inside.held.entries; facts = c.self.inside.facts; made = c.self.inside.made.keys; own = c.self.inside.own.keys; known = c.self.inside.knowledge } in
    rw (← c.self.view_is) (denied_back P c.met.new.table c.met.ensures.keeps c.self.invariant (line.Sync c.args.s c.args.t) c.in-Err.fault (sync_denied (record P { table = c.met.new.table }) (keeps_tied P c.met.new.table c.met.ensures.keeps c.self.invariant) c.args.s c.in-Some.sender.now c.at-from.result.now c.in-Some.ensures c.at-from.ensures c.in-Some-sending.m.now c.in-Some-sending.n.now c.in-Some-sending.ensures c.args.t c.in-Some-thread_at.th.now c.at-place.result.now c.in-Some-thread_at.ensures c.at-place.ensures c.in-Some-receiving.l.now c.in-Some-receiving.p.now c.in-Some-receiving.ensures c.in-Err.fault c.in-Err.ensures.refused))

pub returns-in-Err-clause-err : goal.returns-in-Err-clause-err
returns-in-Err-clause-err c =
    let P : Parts = record { table = c.self.inside.table; places = c.self.inside.places; threads = c.self.inside.threads.items; store = c.self.inside.store.entries; held = c.self.inside.held.entries; facts = c.self.inside.facts; made = c.self.inside.made.keys; own = c.self.inside.own.keys; known = c.self.inside.knowledge } in
    keeps_seen P c.met.new.table c.met.ensures.keeps c.self.invariant ∙ c.self.view_is

pub returns-in-Ok-clause-ok : goal.returns-in-Ok-clause-ok
returns-in-Ok-clause-ok c =
    let P : Parts = record { table = c.self.inside.table; places = c.self.inside.places; threads = c.self.inside.threads.items; store = c.self.inside.store.entries; held = c.self.inside.held.entries; facts = c.self.inside.facts; made = c.self.inside.made.keys; own = c.self.inside.own.keys; known = c.self.inside.knowledge } in
    rw (← c.self.view_is, c.set.ensures, (c.go_on.ensures c.in-Some.sender.now (live_got P.threads c.args.s c.in-Some.sender.now c.in-Some.ensures))) (done_back P c.met.new.table c.met.ensures.keeps c.self.invariant _ (line.Sync c.args.s c.args.t) c.new.result (sync_line (record P { table = c.met.new.table }) (keeps_tied P c.met.new.table c.met.ensures.keeps c.self.invariant) c.args.s c.in-Some.sender.now c.at-from.result.now c.in-Some.ensures c.at-from.ensures c.in-Some-sending.m.now c.in-Some-sending.n.now c.in-Some-sending.ensures c.args.t c.in-Some-thread_at.th.now c.at-place.result.now c.in-Some-thread_at.ensures c.at-place.ensures c.in-Some-receiving.l.now c.in-Some-receiving.p.now c.in-Some-receiving.ensures c.in-Ok.env c.in-Ok.ensures.ok c.new.result c.new.ensures))

pub met-requires-clause-sorts : goal.met-requires-clause-sorts
met-requires-clause-sorts c =
    let P : Parts = record { table = c.self.inside.table; places = c.self.inside.places; threads = c.self.inside.threads.items; store = c.self.inside.store.entries; held = c.self.inside.held.entries; facts = c.self.inside.facts; made = c.self.inside.made.keys; own = c.self.inside.own.keys; known = c.self.inside.knowledge } in
    sync_sorts P c.self.invariant c.args.s c.in-Some.sender.now c.at-from.result.now c.in-Some.ensures c.at-from.ensures c.in-Some-sending.m.now c.in-Some-sending.n.now c.in-Some-sending.ensures c.args.t c.in-Some-thread_at.th.now c.at-place.result.now c.in-Some-thread_at.ensures c.at-place.ensures c.in-Some-receiving.l.now c.in-Some-receiving.p.now c.in-Some-receiving.ensures c.sorts_are_one.ensures.pattern

pub met-requires-clause-plain : goal.met-requires-clause-plain
met-requires-clause-plain c =
    let P : Parts = record { table = c.self.inside.table; places = c.self.inside.places; threads = c.self.inside.threads.items; store = c.self.inside.store.entries; held = c.self.inside.held.entries; facts = c.self.inside.facts; made = c.self.inside.made.keys; own = c.self.inside.own.keys; known = c.self.inside.knowledge } in
    sync_plain P c.self.invariant c.args.s c.in-Some.sender.now c.at-from.result.now c.in-Some.ensures c.at-from.ensures c.in-Some-sending.m.now c.in-Some-sending.n.now c.in-Some-sending.ensures c.args.t c.in-Some-thread_at.th.now c.at-place.result.now c.in-Some-thread_at.ensures c.at-place.ensures c.in-Some-receiving.l.now c.in-Some-receiving.p.now c.in-Some-receiving.ensures
