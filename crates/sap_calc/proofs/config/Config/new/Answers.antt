use Rattle.std.proofs.Common.{refl, sym, ap, ◌∙◌, inl, inr}
use Rattle.std.specs.Option.{option_copied}
use Rattle.sap_runs.specs.declared.process_step.PStep.TheVariants as line
use Rattle.sap_calc.specs.code.Parts.{Parts}
use Rattle.std.proofs.lemmas.Bool.{false≢true}
use Rattle.sap_lines.specs.Faults.{no_memory}
use Rattle.sap_calc.proofs.Lines.{no_thread, wrong_form, place_below, number_below, thread_tied}
use Rattle.sap_calc.proofs.Moves.{keeps_tied, keeps_seen, env_stays}
use Rattle.sap_calc.proofs.Makes.{new_used, new_name, new_tied, new_line}
use Rattle.sap_calc.proofs.config.Config.new.Goals as goal

pub returns-in_default-clause-refused : goal.returns-in_default-clause-refused
returns-in_default-clause-refused c =
    let P : Parts = record { table = c.self.inside.table; places = c.self.inside.places; threads = c.self.inside.threads.items; store = c.self.inside.store.entries; held = c.self.inside.held.entries; facts = c.self.inside.facts; made = c.self.inside.made.keys; own = c.self.inside.own.keys; known = c.self.inside.knowledge } in
    rw (← c.self.view_is) (no_thread P (line.New c.args.t c.args.n) c.args.t refl (sym (ap option_copied c.in_default.is) ∙ c.thread_at.ensures))

pub at-place-requires : goal.at-place-requires
at-place-requires c =
    let P : Parts = record { table = c.self.inside.table; places = c.self.inside.places; threads = c.self.inside.threads.items; store = c.self.inside.store.entries; held = c.self.inside.held.entries; facts = c.self.inside.facts; made = c.self.inside.made.keys; own = c.self.inside.own.keys; known = c.self.inside.knowledge } in
    place_below P c.args.t c.in-Some.th.now c.self.invariant c.in-Some.ensures

pub returns-in_default-creation-clause-refused : goal.returns-in_default-creation-clause-refused
returns-in_default-creation-clause-refused c =
    let P : Parts = record { table = c.self.inside.table; places = c.self.inside.places; threads = c.self.inside.threads.items; store = c.self.inside.store.entries; held = c.self.inside.held.entries; facts = c.self.inside.facts; made = c.self.inside.made.keys; own = c.self.inside.own.keys; known = c.self.inside.knowledge } in
    rw (← c.self.view_is) (wrong_form P (line.New c.args.t c.args.n) c.args.t c.in-Some.th.now c.at-place.result.now refl c.self.invariant c.in-Some.ensures c.at-place.ensures (c.in_default-creation.ensures c.args.t c.args.n))

pub returns-then-is_among-clause-refused : goal.returns-then-is_among-clause-refused
returns-then-is_among-clause-refused c =
    let P : Parts = record { table = c.self.inside.table; places = c.self.inside.places; threads = c.self.inside.threads.items; store = c.self.inside.store.entries; held = c.self.inside.held.entries; facts = c.self.inside.facts; made = c.self.inside.made.keys; own = c.self.inside.own.keys; known = c.self.inside.knowledge } in
    rw (← c.self.view_is) (new_used P c.args.t c.in-Some.th.now c.at-place.result.now c.self.invariant c.in-Some.ensures c.at-place.ensures c.in-Some-creation.x.now c.in-Some-creation.ensures c.args.n (inl (c.is_among.ensures.0 c.if-is_among.true)))

pub returns-then-is_among-2-clause-refused : goal.returns-then-is_among-2-clause-refused
returns-then-is_among-2-clause-refused c =
    let P : Parts = record { table = c.self.inside.table; places = c.self.inside.places; threads = c.self.inside.threads.items; store = c.self.inside.store.entries; held = c.self.inside.held.entries; facts = c.self.inside.facts; made = c.self.inside.made.keys; own = c.self.inside.own.keys; known = c.self.inside.knowledge } in
    rw (← c.self.view_is) (new_used P c.args.t c.in-Some.th.now c.at-place.result.now c.self.invariant c.in-Some.ensures c.at-place.ensures c.in-Some-creation.x.now c.in-Some-creation.ensures c.args.n (inr (c.is_among-2.ensures.0 c.if-is_among-2.true)))

pub invariant_of-self-in-Err-name_value : goal.invariant_of-self-in-Err-name_value
invariant_of-self-in-Err-name_value c =
    let P : Parts = record { table = c.self.inside.table; places = c.self.inside.places; threads = c.self.inside.threads.items; store = c.self.inside.store.entries; held = c.self.inside.held.entries; facts = c.self.inside.facts; made = c.self.inside.made.keys; own = c.self.inside.own.keys; known = c.self.inside.knowledge } in
    rw c.find_room.ensures.keys (keeps_tied P c.name_value.new.table c.name_value.ensures.keeps c.self.invariant)

pub invariant_of-self-in-Err-with_bound : goal.invariant_of-self-in-Err-with_bound
invariant_of-self-in-Err-with_bound c =
    let P : Parts = record { table = c.self.inside.table; places = c.self.inside.places; threads = c.self.inside.threads.items; store = c.self.inside.store.entries; held = c.self.inside.held.entries; facts = c.self.inside.facts; made = c.self.inside.made.keys; own = c.self.inside.own.keys; known = c.self.inside.knowledge } in
    rw c.find_room.ensures.keys (keeps_tied P c.name_value.new.table c.name_value.ensures.keeps c.self.invariant)

pub set-requires : goal.set-requires
set-requires c =
    let P : Parts = record { table = c.self.inside.table; places = c.self.inside.places; threads = c.self.inside.threads.items; store = c.self.inside.store.entries; held = c.self.inside.held.entries; facts = c.self.inside.facts; made = c.self.inside.made.keys; own = c.self.inside.own.keys; known = c.self.inside.knowledge } in
    number_below P c.args.t c.in-Some.th.now c.in-Some.ensures

pub invariant_of-self-in-Ok-with_bound : goal.invariant_of-self-in-Ok-with_bound
invariant_of-self-in-Ok-with_bound c =
    let P : Parts = record { table = c.self.inside.table; places = c.self.inside.places; threads = c.self.inside.threads.items; store = c.self.inside.store.entries; held = c.self.inside.held.entries; facts = c.self.inside.facts; made = c.self.inside.made.keys; own = c.self.inside.own.keys; known = c.self.inside.knowledge } in
    rw (c.put_last.ensures, c.find_room.ensures.keys, c.set.ensures) (new_tied P c.args.t c.in-Some.th.now c.at-place.result.now c.self.invariant c.in-Some.ensures c.at-place.ensures c.in-Some-creation.x.now c.in-Some-creation.ensures c.name_value.new.table c.name_value.ensures.keeps c.in-Ok-name_value.k c.args.n c.in-Ok-name_value.ensures.tree c.in-Ok-with_bound.env c.in-Ok-with_bound.ensures)

pub returns-in-Err-clause-refused : goal.returns-in-Err-clause-refused
returns-in-Err-clause-refused c = no_memory (line.New c.args.t c.args.n)

pub returns-in-Err-name_value-clause-refused : goal.returns-in-Err-name_value-clause-refused
returns-in-Err-name_value-clause-refused c = no_memory (line.New c.args.t c.args.n)

pub returns-in-Err-name_value-clause-err : goal.returns-in-Err-name_value-clause-err
returns-in-Err-name_value-clause-err c =
    let P : Parts = record { table = c.self.inside.table; places = c.self.inside.places; threads = c.self.inside.threads.items; store = c.self.inside.store.entries; held = c.self.inside.held.entries; facts = c.self.inside.facts; made = c.self.inside.made.keys; own = c.self.inside.own.keys; known = c.self.inside.knowledge } in
    rw c.find_room.ensures.keys (keeps_seen P c.name_value.new.table c.name_value.ensures.keeps c.self.invariant ∙ c.self.view_is)

pub returns-in-Err-with_bound-clause-refused : goal.returns-in-Err-with_bound-clause-refused
returns-in-Err-with_bound-clause-refused c = no_memory (line.New c.args.t c.args.n)

pub returns-in-Err-with_bound-clause-err : goal.returns-in-Err-with_bound-clause-err
returns-in-Err-with_bound-clause-err c =
    let P : Parts = record { table = c.self.inside.table; places = c.self.inside.places; threads = c.self.inside.threads.items; store = c.self.inside.store.entries; held = c.self.inside.held.entries; facts = c.self.inside.facts; made = c.self.inside.made.keys; own = c.self.inside.own.keys; known = c.self.inside.knowledge } in
    rw c.find_room.ensures.keys (keeps_seen P c.name_value.new.table c.name_value.ensures.keeps c.self.invariant ∙ c.self.view_is)

pub returns-in-Ok-with_bound-clause-ok : goal.returns-in-Ok-with_bound-clause-ok
returns-in-Ok-with_bound-clause-ok c =
    let P : Parts = record { table = c.self.inside.table; places = c.self.inside.places; threads = c.self.inside.threads.items; store = c.self.inside.store.entries; held = c.self.inside.held.entries; facts = c.self.inside.facts; made = c.self.inside.made.keys; own = c.self.inside.own.keys; known = c.self.inside.knowledge } in
    rw (← c.self.view_is, c.put_last.ensures, c.find_room.ensures.keys, c.set.ensures) (new_line P c.args.t c.in-Some.th.now c.at-place.result.now c.self.invariant c.in-Some.ensures c.at-place.ensures c.in-Some-creation.x.now c.in-Some-creation.ensures c.name_value.new.table c.name_value.ensures.keeps c.in-Ok-name_value.k c.args.n c.in-Ok-name_value.ensures.tree c.in-Ok-with_bound.env c.in-Ok-with_bound.ensures c.new.result c.new.ensures (λ h. false≢true (sym c.if-is_among.false ∙ c.is_among.ensures.1 h)) (λ h. false≢true (sym c.if-is_among-2.false ∙ c.is_among-2.ensures.1 h)))

pub with_bound-requires-clause-env : goal.with_bound-requires-clause-env
with_bound-requires-clause-env c =
    let P : Parts = record { table = c.self.inside.table; places = c.self.inside.places; threads = c.self.inside.threads.items; store = c.self.inside.store.entries; held = c.self.inside.held.entries; facts = c.self.inside.facts; made = c.self.inside.made.keys; own = c.self.inside.own.keys; known = c.self.inside.knowledge } in
    env_stays P.table c.name_value.new.table c.name_value.ensures.keeps c.in-Some.th.now.env (thread_tied P c.args.t c.in-Some.th.now c.self.invariant c.in-Some.ensures).small

pub with_bound-requires-clause-new : goal.with_bound-requires-clause-new
with_bound-requires-clause-new c =
    let P : Parts = record { table = c.self.inside.table; places = c.self.inside.places; threads = c.self.inside.threads.items; store = c.self.inside.store.entries; held = c.self.inside.held.entries; facts = c.self.inside.facts; made = c.self.inside.made.keys; own = c.self.inside.own.keys; known = c.self.inside.knowledge } in
    new_name P c.args.t c.in-Some.th.now c.at-place.result.now c.self.invariant c.in-Some.ensures c.at-place.ensures c.in-Some-creation.x.now c.in-Some-creation.ensures
