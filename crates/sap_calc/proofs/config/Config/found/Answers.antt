use Rattle.std.proofs.Common.{refl, sym, ap, ◌∙◌}
use Rattle.std.specs.Option.{option_copied}
use Rattle.sap_runs.specs.declared.process_step.PStep.TheVariants as line
use Rattle.sap_calc.specs.code.Parts.{Parts}
use Rattle.sap_calc.proofs.Lines.{no_thread, wrong_form, place_below, number_below, thread_tied}
use Rattle.sap_calc.proofs.Moves.{keeps_tied, keeps_seen, env_stays}
use Rattle.sap_lines.specs.Faults.{no_memory}
use Rattle.sap_calc.proofs.Writes.{lookup_can, found_large, found_there, found_new, found_tied, found_line, found_denied}
use Rattle.sap_calc.proofs.config.Config.found.Goals as goal

pub returns-in_default-clause-refused : goal.returns-in_default-clause-refused
returns-in_default-clause-refused c =
    let P : Parts = record { table = c.self.inside.table; places = c.self.inside.places; threads = c.self.inside.threads.items; store = c.self.inside.store.entries; held = c.self.inside.held.entries; facts = c.self.inside.facts; made = c.self.inside.made.keys; own = c.self.inside.own.keys; known = c.self.inside.knowledge } in
    rw (← c.self.view_is) (no_thread P (line.Found c.args.t) c.args.t refl (sym (ap option_copied c.in_default.is) ∙ c.thread_at.ensures))

pub at-place-requires : goal.at-place-requires
at-place-requires c =
    let P : Parts = record { table = c.self.inside.table; places = c.self.inside.places; threads = c.self.inside.threads.items; store = c.self.inside.store.entries; held = c.self.inside.held.entries; facts = c.self.inside.facts; made = c.self.inside.made.keys; own = c.self.inside.own.keys; known = c.self.inside.knowledge } in
    place_below P c.args.t c.in-Some.th.now c.self.invariant c.in-Some.ensures

pub returns-in_default-lookup-clause-refused : goal.returns-in_default-lookup-clause-refused
returns-in_default-lookup-clause-refused c =
    let P : Parts = record { table = c.self.inside.table; places = c.self.inside.places; threads = c.self.inside.threads.items; store = c.self.inside.store.entries; held = c.self.inside.held.entries; facts = c.self.inside.facts; made = c.self.inside.made.keys; own = c.self.inside.own.keys; known = c.self.inside.knowledge } in
    rw (← c.self.view_is) (wrong_form P (line.Found c.args.t) c.args.t c.in-Some.th.now c.at-place.result.now refl c.self.invariant c.in-Some.ensures c.at-place.ensures (c.in_default-lookup.ensures.0 c.args.t))

pub value-requires-clause-env : goal.value-requires-clause-env
value-requires-clause-env c =
    let P : Parts = record { table = c.self.inside.table; places = c.self.inside.places; threads = c.self.inside.threads.items; store = c.self.inside.store.entries; held = c.self.inside.held.entries; facts = c.self.inside.facts; made = c.self.inside.made.keys; own = c.self.inside.own.keys; known = c.self.inside.knowledge } in
    (thread_tied P c.args.t c.in-Some.th.now c.self.invariant c.in-Some.ensures).small

pub value-requires-clause-can : goal.value-requires-clause-can
value-requires-clause-can c =
    let P : Parts = record { table = c.self.inside.table; places = c.self.inside.places; threads = c.self.inside.threads.items; store = c.self.inside.store.entries; held = c.self.inside.held.entries; facts = c.self.inside.facts; made = c.self.inside.made.keys; own = c.self.inside.own.keys; known = c.self.inside.knowledge } in
    lookup_can P c.args.t c.in-Some.th.now c.at-place.result.now c.self.invariant c.in-Some.ensures c.at-place.ensures c.in-Some-lookup.m.now c.in-Some-lookup.x.now c.in-Some-lookup.ensures c.each_is_ground.ensures

pub invariant_of-self : goal.invariant_of-self
invariant_of-self c =
    let P : Parts = record { table = c.self.inside.table; places = c.self.inside.places; threads = c.self.inside.threads.items; store = c.self.inside.store.entries; held = c.self.inside.held.entries; facts = c.self.inside.facts; made = c.self.inside.made.keys; own = c.self.inside.own.keys; known = c.self.inside.knowledge } in
    keeps_tied P c.value.new.table c.value.ensures.keeps c.self.invariant

pub returns-in-Err-clause-refused : goal.returns-in-Err-clause-refused
returns-in-Err-clause-refused c =
    let P : Parts = record { table = c.self.inside.table; places = c.self.inside.places; threads = c.self.inside.threads.items; store = c.self.inside.store.entries; held = c.self.inside.held.entries; facts = c.self.inside.facts; made = c.self.inside.made.keys; own = c.self.inside.own.keys; known = c.self.inside.knowledge } in
    rw (← c.self.view_is) (found_large P c.args.t c.in-Some.th.now c.at-place.result.now c.self.invariant c.in-Some.ensures c.at-place.ensures c.in-Some-lookup.m.now c.in-Some-lookup.x.now c.in-Some-lookup.ensures c.in-Err.fault c.in-Err.ensures.refused)

pub returns-in-Err-clause-err : goal.returns-in-Err-clause-err
returns-in-Err-clause-err c =
    let P : Parts = record { table = c.self.inside.table; places = c.self.inside.places; threads = c.self.inside.threads.items; store = c.self.inside.store.entries; held = c.self.inside.held.entries; facts = c.self.inside.facts; made = c.self.inside.made.keys; own = c.self.inside.own.keys; known = c.self.inside.knowledge } in
    keeps_seen P c.value.new.table c.value.ensures.keeps c.self.invariant ∙ c.self.view_is

pub invariant_of-self-in-None : goal.invariant_of-self-in-None
invariant_of-self-in-None c =
    let P : Parts = record { table = c.self.inside.table; places = c.self.inside.places; threads = c.self.inside.threads.items; store = c.self.inside.store.entries; held = c.self.inside.held.entries; facts = c.self.inside.facts; made = c.self.inside.made.keys; own = c.self.inside.own.keys; known = c.self.inside.knowledge } in
    keeps_tied P c.value.new.table c.value.ensures.keeps c.self.invariant

pub returns-in-None-clause-refused : goal.returns-in-None-clause-refused
returns-in-None-clause-refused c =
    let P : Parts = record { table = c.self.inside.table; places = c.self.inside.places; threads = c.self.inside.threads.items; store = c.self.inside.store.entries; held = c.self.inside.held.entries; facts = c.self.inside.facts; made = c.self.inside.made.keys; own = c.self.inside.own.keys; known = c.self.inside.knowledge } in
    rw (← c.self.view_is) (found_denied P c.args.t c.in-Some.th.now c.at-place.result.now c.self.invariant c.in-Some.ensures c.at-place.ensures c.in-Some-lookup.m.now c.in-Some-lookup.x.now c.in-Some-lookup.ensures c.value.new.table c.value.ensures.keeps c.in-Ok.k c.in-Ok.ensures.ok c.each_has_one_number.ensures (sym c.value_at.ensures ∙ c.in-None.is))

pub returns-in-None-clause-err : goal.returns-in-None-clause-err
returns-in-None-clause-err c =
    let P : Parts = record { table = c.self.inside.table; places = c.self.inside.places; threads = c.self.inside.threads.items; store = c.self.inside.store.entries; held = c.self.inside.held.entries; facts = c.self.inside.facts; made = c.self.inside.made.keys; own = c.self.inside.own.keys; known = c.self.inside.knowledge } in
    keeps_seen P c.value.new.table c.value.ensures.keeps c.self.invariant ∙ c.self.view_is

pub invariant_of-self-in-Err-with_bound : goal.invariant_of-self-in-Err-with_bound
invariant_of-self-in-Err-with_bound c =
    let P : Parts = record { table = c.self.inside.table; places = c.self.inside.places; threads = c.self.inside.threads.items; store = c.self.inside.store.entries; held = c.self.inside.held.entries; facts = c.self.inside.facts; made = c.self.inside.made.keys; own = c.self.inside.own.keys; known = c.self.inside.knowledge } in
    keeps_tied P c.value.new.table c.value.ensures.keeps c.self.invariant

pub returns-in-Err-with_bound-clause-refused : goal.returns-in-Err-with_bound-clause-refused
returns-in-Err-with_bound-clause-refused c =
    let P : Parts = record { table = c.self.inside.table; places = c.self.inside.places; threads = c.self.inside.threads.items; store = c.self.inside.store.entries; held = c.self.inside.held.entries; facts = c.self.inside.facts; made = c.self.inside.made.keys; own = c.self.inside.own.keys; known = c.self.inside.knowledge } in
    rw (← c.self.view_is) (no_memory (line.Found c.args.t))

pub returns-in-Err-with_bound-clause-err : goal.returns-in-Err-with_bound-clause-err
returns-in-Err-with_bound-clause-err c =
    let P : Parts = record { table = c.self.inside.table; places = c.self.inside.places; threads = c.self.inside.threads.items; store = c.self.inside.store.entries; held = c.self.inside.held.entries; facts = c.self.inside.facts; made = c.self.inside.made.keys; own = c.self.inside.own.keys; known = c.self.inside.knowledge } in
    keeps_seen P c.value.new.table c.value.ensures.keeps c.self.invariant ∙ c.self.view_is

pub set-requires : goal.set-requires
set-requires c =
    let P : Parts = record { table = c.self.inside.table; places = c.self.inside.places; threads = c.self.inside.threads.items; store = c.self.inside.store.entries; held = c.self.inside.held.entries; facts = c.self.inside.facts; made = c.self.inside.made.keys; own = c.self.inside.own.keys; known = c.self.inside.knowledge } in
    number_below P c.args.t c.in-Some.th.now c.in-Some.ensures

pub invariant_of-self-in-Ok-with_bound : goal.invariant_of-self-in-Ok-with_bound
invariant_of-self-in-Ok-with_bound c =
    let P : Parts = record { table = c.self.inside.table; places = c.self.inside.places; threads = c.self.inside.threads.items; store = c.self.inside.store.entries; held = c.self.inside.held.entries; facts = c.self.inside.facts; made = c.self.inside.made.keys; own = c.self.inside.own.keys; known = c.self.inside.knowledge } in
    rw c.set.ensures (found_tied P c.args.t c.in-Some.th.now c.at-place.result.now c.self.invariant c.in-Some.ensures c.at-place.ensures c.in-Some-lookup.m.now c.in-Some-lookup.x.now c.in-Some-lookup.ensures c.value.new.table c.value.ensures.keeps c.in-Ok.k c.in-Ok.ensures.ok c.each_has_one_number.ensures c.in-Some-value_at.v (sym c.value_at.ensures ∙ c.in-Some-value_at.is) c.in-Ok-with_bound.env c.in-Ok-with_bound.ensures)

pub returns-in-Ok-with_bound-clause-ok : goal.returns-in-Ok-with_bound-clause-ok
returns-in-Ok-with_bound-clause-ok c =
    let P : Parts = record { table = c.self.inside.table; places = c.self.inside.places; threads = c.self.inside.threads.items; store = c.self.inside.store.entries; held = c.self.inside.held.entries; facts = c.self.inside.facts; made = c.self.inside.made.keys; own = c.self.inside.own.keys; known = c.self.inside.knowledge } in
    rw (← c.self.view_is, c.set.ensures) (found_line P c.args.t c.in-Some.th.now c.at-place.result.now c.self.invariant c.in-Some.ensures c.at-place.ensures c.in-Some-lookup.m.now c.in-Some-lookup.x.now c.in-Some-lookup.ensures c.value.new.table c.value.ensures.keeps c.in-Ok.k c.in-Ok.ensures.ok c.each_has_one_number.ensures c.in-Some-value_at.v (sym c.value_at.ensures ∙ c.in-Some-value_at.is) c.in-Ok-with_bound.env c.in-Ok-with_bound.ensures c.new.result c.new.ensures)

pub with_bound-requires-clause-env : goal.with_bound-requires-clause-env
with_bound-requires-clause-env c =
    let P : Parts = record { table = c.self.inside.table; places = c.self.inside.places; threads = c.self.inside.threads.items; store = c.self.inside.store.entries; held = c.self.inside.held.entries; facts = c.self.inside.facts; made = c.self.inside.made.keys; own = c.self.inside.own.keys; known = c.self.inside.knowledge } in
    env_stays P.table c.value.new.table c.value.ensures.keeps c.in-Some.th.now.env (thread_tied P c.args.t c.in-Some.th.now c.self.invariant c.in-Some.ensures).small

pub with_bound-requires-clause-number : goal.with_bound-requires-clause-number
with_bound-requires-clause-number c =
    let P : Parts = record { table = c.self.inside.table; places = c.self.inside.places; threads = c.self.inside.threads.items; store = c.self.inside.store.entries; held = c.self.inside.held.entries; facts = c.self.inside.facts; made = c.self.inside.made.keys; own = c.self.inside.own.keys; known = c.self.inside.knowledge } in
    found_there P c.args.t c.in-Some.th.now c.at-place.result.now c.self.invariant c.in-Some.ensures c.at-place.ensures c.in-Some-lookup.m.now c.in-Some-lookup.x.now c.in-Some-lookup.ensures c.value.new.table c.value.ensures.keeps c.in-Ok.k c.in-Ok.ensures.ok c.each_has_one_number.ensures c.in-Some-value_at.v (sym c.value_at.ensures ∙ c.in-Some-value_at.is)

pub with_bound-requires-clause-new : goal.with_bound-requires-clause-new
with_bound-requires-clause-new c =
    let P : Parts = record { table = c.self.inside.table; places = c.self.inside.places; threads = c.self.inside.threads.items; store = c.self.inside.store.entries; held = c.self.inside.held.entries; facts = c.self.inside.facts; made = c.self.inside.made.keys; own = c.self.inside.own.keys; known = c.self.inside.knowledge } in
    found_new P c.args.t c.in-Some.th.now c.at-place.result.now c.self.invariant c.in-Some.ensures c.at-place.ensures c.in-Some-lookup.m.now c.in-Some-lookup.x.now c.in-Some-lookup.ensures c.value.new.table c.value.ensures.keeps c.in-Ok.k c.in-Ok.ensures.ok c.each_has_one_number.ensures c.in-Some-value_at.v (sym c.value_at.ensures ∙ c.in-Some-value_at.is)
