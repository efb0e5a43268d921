use Rattle.std.proofs.Common.{◌∙◌}
use Rattle.sap_calc.specs.code.Parts.{Parts}
use Rattle.sap_calc.proofs.HeadLines.{unasked_denied, asked_denied, asked_tied, asked_line}
use Rattle.sap_calc.proofs.Lines.{number_below}
use Rattle.sap_calc.proofs.Moves.{keeps_tied, keeps_seen}
use Rattle.sap_calc.proofs.Numbered.{live_got}
use Rattle.sap_calc.proofs.config.Config.head_line.Goals as goal

pub ask-requires-clause-places : goal.ask-requires-clause-places
ask-requires-clause-places c =
    c.self.invariant.places

pub ask-requires-clause-threads : goal.ask-requires-clause-threads
ask-requires-clause-threads c =
    c.self.invariant.threads

pub invariant_of-self : goal.invariant_of-self
invariant_of-self c =
    let P : Parts = record { table = c.self.inside.table; places = c.self.inside.places; threads = c.self.inside.threads.items; store = c.self.inside.store.entries; held = c.self.inside.held.entries; facts = c.self.inside.facts; made = c.self.inside.made.keys; own = c.self.inside.own.keys; known = c.self.inside.knowledge } in
    keeps_tied P c.ask.new.table c.ask.ensures.keeps c.self.invariant

pub returns-in-Err-clause-refused : goal.returns-in-Err-clause-refused
returns-in-Err-clause-refused c =
    let P : Parts = record { table = c.self.inside.table; places = c.self.inside.places; threads = c.self.inside.threads.items; store = c.self.inside.store.entries; held = c.self.inside.held.entries; facts = c.self.inside.facts; made = c.self.inside.made.keys; own = c.self.inside.own.keys; known = c.self.inside.knowledge } in
    rw (← c.self.view_is) (unasked_denied P c.args.t c.self.invariant c.args.line c.in-Err.fault c.in-Err.ensures.refused)

pub returns-in-Err-clause-err : goal.returns-in-Err-clause-err
returns-in-Err-clause-err c =
    let P : Parts = record { table = c.self.inside.table; places = c.self.inside.places; threads = c.self.inside.threads.items; store = c.self.inside.store.entries; held = c.self.inside.held.entries; facts = c.self.inside.facts; made = c.self.inside.made.keys; own = c.self.inside.own.keys; known = c.self.inside.knowledge } in
    keeps_seen P c.ask.new.table c.ask.ensures.keeps c.self.invariant ∙ c.self.view_is

pub invariant_of-self-in-Err-carry_out : goal.invariant_of-self-in-Err-carry_out
invariant_of-self-in-Err-carry_out c =
    let P : Parts = record { table = c.self.inside.table; places = c.self.inside.places; threads = c.self.inside.threads.items; store = c.self.inside.store.entries; held = c.self.inside.held.entries; facts = c.self.inside.facts; made = c.self.inside.made.keys; own = c.self.inside.own.keys; known = c.self.inside.knowledge } in
    rw (c.in-Err-carry_out.ensures.store_err, c.in-Err-carry_out.ensures.held_err) (keeps_tied P c.ask.new.table c.ask.ensures.keeps c.self.invariant)

pub returns-in-Err-carry_out-clause-refused : goal.returns-in-Err-carry_out-clause-refused
returns-in-Err-carry_out-clause-refused c =
    let P : Parts = record { table = c.self.inside.table; places = c.self.inside.places; threads = c.self.inside.threads.items; store = c.self.inside.store.entries; held = c.self.inside.held.entries; facts = c.self.inside.facts; made = c.self.inside.made.keys; own = c.self.inside.own.keys; known = c.self.inside.knowledge } in
    rw (← c.self.view_is) (asked_denied P c.args.t c.self.invariant c.args.line c.ask.new.table c.ask.ensures.keeps c.each_has_one_number.ensures c.in-Ok.asked c.in-Ok.ensures.ok c.normal_forms_decide.ensures c.in-Err-carry_out.fault c.in-Err-carry_out.ensures.refused)

pub returns-in-Err-carry_out-clause-err : goal.returns-in-Err-carry_out-clause-err
returns-in-Err-carry_out-clause-err c =
    let P : Parts = record { table = c.self.inside.table; places = c.self.inside.places; threads = c.self.inside.threads.items; store = c.self.inside.store.entries; held = c.self.inside.held.entries; facts = c.self.inside.facts; made = c.self.inside.made.keys; own = c.self.inside.own.keys; known = c.self.inside.knowledge } in
    rw (c.in-Err-carry_out.ensures.store_err, c.in-Err-carry_out.ensures.held_err) (keeps_seen P c.ask.new.table c.ask.ensures.keeps c.self.invariant ∙ c.self.view_is)

pub go_on-requires : goal.go_on-requires
go_on-requires c =
    let P : Parts = record { table = c.self.inside.table; places = c.self.inside.places; threads = c.self.inside.threads.items; store = c.self.inside.store.entries; held = c.self.inside.held.entries; facts = c.self.inside.facts; made = c.self.inside.made.keys; own = c.self.inside.own.keys; known = c.self.inside.knowledge } in
    number_below P c.args.t c.in-Ok.ensures.ok.thread c.in-Ok.ensures.ok.stands.runs

pub invariant_of-self-in-Ok-carry_out : goal.invariant_of-self-in-Ok-carry_out
invariant_of-self-in-Ok-carry_out c =
    let P : Parts = record { table = c.self.inside.table; places = c.self.inside.places; threads = c.self.inside.threads.items; store = c.self.inside.store.entries; held = c.self.inside.held.entries; facts = c.self.inside.facts; made = c.self.inside.made.keys; own = c.self.inside.own.keys; known = c.self.inside.knowledge } in
    rw ((c.go_on.ensures c.in-Ok.ensures.ok.thread (live_got P.threads c.args.t c.in-Ok.ensures.ok.thread c.in-Ok.ensures.ok.stands.runs)), c.in-Ok-carry_out.ensures.store, c.in-Ok-carry_out.ensures.held) (asked_tied P c.args.t c.self.invariant c.args.line c.ask.new.table c.ask.ensures.keeps c.each_has_one_number.ensures c.in-Ok.asked c.in-Ok.ensures.ok)

pub returns-in-Ok-carry_out-clause-ok : goal.returns-in-Ok-carry_out-clause-ok
returns-in-Ok-carry_out-clause-ok c =
    let P : Parts = record { table = c.self.inside.table; places = c.self.inside.places; threads = c.self.inside.threads.items; store = c.self.inside.store.entries; held = c.self.inside.held.entries; facts = c.self.inside.facts; made = c.self.inside.made.keys; own = c.self.inside.own.keys; known = c.self.inside.knowledge } in
    rw (← c.self.view_is, (c.go_on.ensures c.in-Ok.ensures.ok.thread (live_got P.threads c.args.t c.in-Ok.ensures.ok.thread c.in-Ok.ensures.ok.stands.runs)), c.in-Ok-carry_out.ensures.store, c.in-Ok-carry_out.ensures.held) (asked_line P c.args.t c.self.invariant c.args.line c.ask.new.table c.ask.ensures.keeps c.each_has_one_number.ensures c.in-Ok.asked c.in-Ok.ensures.ok c.in-Ok-carry_out.ensures.passes c.new.result c.new.ensures)
