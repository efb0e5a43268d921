use Rattle.std.proofs.Common.{refl, sym, ap, ◌∙◌}
use Rattle.std.specs.Option.{option_copied}
use Rattle.sap_runs.specs.declared.process_step.PStep.TheVariants as line
use Rattle.sap_calc.specs.code.Parts.{Parts}
use Rattle.std.proofs.Common.{Bor}
use Rattle.sap_terms.specs.declared.term.Term.{Term}
use Rattle.sap_lines.specs.Faults.{no_memory}
use Rattle.sap_calc.proofs.Lines.{no_thread, wrong_form, place_below, number_below, thread_tied}
use Rattle.sap_calc.proofs.Moves.{keeps_tied, keeps_seen}
use Rattle.sap_calc.proofs.Goes.{denied_back, done_back}
use Rattle.sap_calc.proofs.Inputs.{entry_there, input_unknown, input_can, input_sorts, input_plain, input_denied, input_tied, input_line}
use Rattle.sap_calc.proofs.config.Config.input.Goals as goal

pub returns-in_default-clause-refused : goal.returns-in_default-clause-refused
returns-in_default-clause-refused c =
    let P : Parts = record { table = c.self.inside.table; places = c.self.inside.places; threads = c.self.inside.threads.items; store = c.self.inside.store.entries; held = c.self.inside.held.entries; facts = c.self.inside.facts; made = c.self.inside.made.keys; own = c.self.inside.own.keys; known = c.self.inside.knowledge } in
    rw (← c.self.view_is) (no_thread P (line.In c.args.t c.args.k) c.args.t refl (sym (ap option_copied c.in_default.is) ∙ c.thread_at.ensures))

pub at-place-requires : goal.at-place-requires
at-place-requires c =
    let P : Parts = record { table = c.self.inside.table; places = c.self.inside.places; threads = c.self.inside.threads.items; store = c.self.inside.store.entries; held = c.self.inside.held.entries; facts = c.self.inside.facts; made = c.self.inside.made.keys; own = c.self.inside.own.keys; known = c.self.inside.knowledge } in
    place_below P c.args.t c.in-Some.th.now c.self.invariant c.in-Some.ensures

pub returns-in_default-taking-clause-refused : goal.returns-in_default-taking-clause-refused
returns-in_default-taking-clause-refused c =
    let P : Parts = record { table = c.self.inside.table; places = c.self.inside.places; threads = c.self.inside.threads.items; store = c.self.inside.store.entries; held = c.self.inside.held.entries; facts = c.self.inside.facts; made = c.self.inside.made.keys; own = c.self.inside.own.keys; known = c.self.inside.knowledge } in
    rw (← c.self.view_is) (wrong_form P (line.In c.args.t c.args.k) c.args.t c.in-Some.th.now c.at-place.result.now refl c.self.invariant c.in-Some.ensures c.at-place.ensures (c.in_default-taking.ensures c.args.t c.args.k))

pub taken-requires-clause-env : goal.taken-requires-clause-env
taken-requires-clause-env c =
    let P : Parts = record { table = c.self.inside.table; places = c.self.inside.places; threads = c.self.inside.threads.items; store = c.self.inside.store.entries; held = c.self.inside.held.entries; facts = c.self.inside.facts; made = c.self.inside.made.keys; own = c.self.inside.own.keys; known = c.self.inside.knowledge } in
    (thread_tied P c.args.t c.in-Some.th.now c.self.invariant c.in-Some.ensures).small

pub taken-requires-clause-can : goal.taken-requires-clause-can
taken-requires-clause-can c =
    let P : Parts = record { table = c.self.inside.table; places = c.self.inside.places; threads = c.self.inside.threads.items; store = c.self.inside.store.entries; held = c.self.inside.held.entries; facts = c.self.inside.facts; made = c.self.inside.made.keys; own = c.self.inside.own.keys; known = c.self.inside.knowledge } in
    input_can P c.args.t c.in-Some.th.now c.at-place.result.now c.self.invariant c.in-Some.ensures c.at-place.ensures (λ (m : Bor Term). m.now) c.in-Some-taking.n.now c.in-Some-taking.channel c.in-Some-taking.ensures c.each_is_ground.ensures

pub invariant_of-self : goal.invariant_of-self
invariant_of-self c =
    let P : Parts = record { table = c.self.inside.table; places = c.self.inside.places; threads = c.self.inside.threads.items; store = c.self.inside.store.entries; held = c.self.inside.held.entries; facts = c.self.inside.facts; made = c.self.inside.made.keys; own = c.self.inside.own.keys; known = c.self.inside.knowledge } in
    keeps_tied P c.taken.new.table c.taken.ensures.keeps c.self.invariant

pub invariant_of-self-in-Err-labelled : goal.invariant_of-self-in-Err-labelled
invariant_of-self-in-Err-labelled c =
    let P : Parts = record { table = c.self.inside.table; places = c.self.inside.places; threads = c.self.inside.threads.items; store = c.self.inside.store.entries; held = c.self.inside.held.entries; facts = c.self.inside.facts; made = c.self.inside.made.keys; own = c.self.inside.own.keys; known = c.self.inside.knowledge } in
    keeps_tied P c.taken.new.table c.taken.ensures.keeps c.self.invariant

pub set-requires : goal.set-requires
set-requires c =
    let P : Parts = record { table = c.self.inside.table; places = c.self.inside.places; threads = c.self.inside.threads.items; store = c.self.inside.store.entries; held = c.self.inside.held.entries; facts = c.self.inside.facts; made = c.self.inside.made.keys; own = c.self.inside.own.keys; known = c.self.inside.knowledge } in
    number_below P c.args.t c.in-Some.th.now c.in-Some.ensures

pub invariant_of-self-in-Ok-labelled : goal.invariant_of-self-in-Ok-labelled
invariant_of-self-in-Ok-labelled c =
    let P : Parts = record { table = c.self.inside.table; places = c.self.inside.places; threads = c.self.inside.threads.items; store = c.self.inside.store.entries; held = c.self.inside.held.entries; facts = c.self.inside.facts; made = c.self.inside.made.keys; own = c.self.inside.own.keys; known = c.self.inside.knowledge } in
    rw (c.set.ensures, c.in-Ok-labelled.ensures.bound) (input_tied (record P { table = c.taken.new.table }) c.args.t c.in-Some.th.now c.at-place.result.now (keeps_tied P c.taken.new.table c.taken.ensures.keeps c.self.invariant) c.in-Some.ensures c.at-place.ensures c.args.k c.in-Some-entry_number.e (entry_there c.self.inside.table c.taken.new.table P.known c.args.k c.in-Some-entry_number.e c.taken.ensures.keeps c.in-Some-entry_number.ensures.some) (λ (m : Bor Term). m.now) c.in-Some-taking.n.now c.in-Some-taking.channel c.in-Some-taking.ensures c.in-Ok.env c.in-Ok.ensures.ok)

pub returns-in_default-entry_number-clause-refused : goal.returns-in_default-entry_number-clause-refused
returns-in_default-entry_number-clause-refused c =
    let P : Parts = record { table = c.self.inside.table; places = c.self.inside.places; threads = c.self.inside.threads.items; store = c.self.inside.store.entries; held = c.self.inside.held.entries; facts = c.self.inside.facts; made = c.self.inside.made.keys; own = c.self.inside.own.keys; known = c.self.inside.knowledge } in
    rw (← c.self.view_is) (input_unknown P c.args.t c.in-Some.th.now c.at-place.result.now c.self.invariant c.in-Some.ensures c.at-place.ensures (λ (m : Bor Term). m.now) c.in-Some-taking.n.now c.in-Some-taking.channel c.in-Some-taking.ensures c.args.k c.in_default-entry_number.ensures.none)

pub returns-in-Err-clause-refused : goal.returns-in-Err-clause-refused
returns-in-Err-clause-refused c =
    let P : Parts = record { table = c.self.inside.table; places = c.self.inside.places; threads = c.self.inside.threads.items; store = c.self.inside.store.entries; held = c.self.inside.held.entries; facts = c.self.inside.facts; made = c.self.inside.made.keys; own = c.self.inside.own.keys; known = c.self.inside.knowledge } in
    rw (← c.self.view_is) (denied_back P c.taken.new.table c.taken.ensures.keeps c.self.invariant (line.In c.args.t c.args.k) c.in-Err.fault (input_denied (record P { table = c.taken.new.table }) c.args.t c.in-Some.th.now c.at-place.result.now (keeps_tied P c.taken.new.table c.taken.ensures.keeps c.self.invariant) c.in-Some.ensures c.at-place.ensures c.args.k c.in-Some-entry_number.e (entry_there c.self.inside.table c.taken.new.table P.known c.args.k c.in-Some-entry_number.e c.taken.ensures.keeps c.in-Some-entry_number.ensures.some) (λ (m : Bor Term). m.now) c.in-Some-taking.n.now c.in-Some-taking.channel c.in-Some-taking.ensures c.in-Err.fault c.in-Err.ensures.refused))

pub returns-in-Err-clause-err : goal.returns-in-Err-clause-err
returns-in-Err-clause-err c =
    let P : Parts = record { table = c.self.inside.table; places = c.self.inside.places; threads = c.self.inside.threads.items; store = c.self.inside.store.entries; held = c.self.inside.held.entries; facts = c.self.inside.facts; made = c.self.inside.made.keys; own = c.self.inside.own.keys; known = c.self.inside.knowledge } in
    keeps_seen P c.taken.new.table c.taken.ensures.keeps c.self.invariant ∙ c.self.view_is

pub returns-in-Err-labelled-clause-refused : goal.returns-in-Err-labelled-clause-refused
returns-in-Err-labelled-clause-refused c = rw c.in-Err-labelled.ensures.refused (no_memory (line.In c.args.t c.args.k))

pub returns-in-Err-labelled-clause-err : goal.returns-in-Err-labelled-clause-err
returns-in-Err-labelled-clause-err c =
    let P : Parts = record { table = c.self.inside.table; places = c.self.inside.places; threads = c.self.inside.threads.items; store = c.self.inside.store.entries; held = c.self.inside.held.entries; facts = c.self.inside.facts; made = c.self.inside.made.keys; own = c.self.inside.own.keys; known = c.self.inside.knowledge } in
    keeps_seen P c.taken.new.table c.taken.ensures.keeps c.self.invariant ∙ c.self.view_is

pub returns-in-Ok-labelled-clause-ok : goal.returns-in-Ok-labelled-clause-ok
returns-in-Ok-labelled-clause-ok c =
    let P : Parts = record { table = c.self.inside.table; places = c.self.inside.places; threads = c.self.inside.threads.items; store = c.self.inside.store.entries; held = c.self.inside.held.entries; facts = c.self.inside.facts; made = c.self.inside.made.keys; own = c.self.inside.own.keys; known = c.self.inside.knowledge } in
    rw (← c.self.view_is, c.set.ensures, c.in-Ok-labelled.ensures.bound) (done_back P c.taken.new.table c.taken.ensures.keeps c.self.invariant _ (line.In c.args.t c.args.k) c.in-Ok-labelled.label (input_line (record P { table = c.taken.new.table }) c.args.t c.in-Some.th.now c.at-place.result.now (keeps_tied P c.taken.new.table c.taken.ensures.keeps c.self.invariant) c.in-Some.ensures c.at-place.ensures c.args.k c.in-Some-entry_number.e (entry_there c.self.inside.table c.taken.new.table P.known c.args.k c.in-Some-entry_number.e c.taken.ensures.keeps c.in-Some-entry_number.ensures.some) (λ (m : Bor Term). m.now) c.in-Some-taking.n.now c.in-Some-taking.channel c.in-Some-taking.ensures c.in-Ok.env c.in-Ok.ensures.ok c.in-Ok-labelled.label c.in-Ok-labelled.ensures.label))

pub taken-requires-clause-sorts : goal.taken-requires-clause-sorts
taken-requires-clause-sorts c =
    let P : Parts = record { table = c.self.inside.table; places = c.self.inside.places; threads = c.self.inside.threads.items; store = c.self.inside.store.entries; held = c.self.inside.held.entries; facts = c.self.inside.facts; made = c.self.inside.made.keys; own = c.self.inside.own.keys; known = c.self.inside.knowledge } in
    input_sorts P c.args.t c.in-Some.th.now c.at-place.result.now c.self.invariant c.in-Some.ensures c.at-place.ensures (λ (m : Bor Term). m.now) c.in-Some-taking.n.now c.in-Some-taking.channel c.in-Some-taking.ensures c.sorts_are_one.ensures.pattern

pub taken-requires-clause-plain : goal.taken-requires-clause-plain
taken-requires-clause-plain c =
    let P : Parts = record { table = c.self.inside.table; places = c.self.inside.places; threads = c.self.inside.threads.items; store = c.self.inside.store.entries; held = c.self.inside.held.entries; facts = c.self.inside.facts; made = c.self.inside.made.keys; own = c.self.inside.own.keys; known = c.self.inside.knowledge } in
    input_plain P c.args.t c.in-Some.th.now c.at-place.result.now c.self.invariant c.in-Some.ensures c.at-place.ensures (λ (m : Bor Term). m.now) c.in-Some-taking.n.now c.in-Some-taking.channel c.in-Some-taking.ensures
