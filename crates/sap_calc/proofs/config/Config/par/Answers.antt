use Rattle.std.proofs.Common.{[], ◌∷◌, Some, refl, sym, ap, ◌∙◌}
use Rattle.std.specs.Option.{option_copied}
use Rattle.sap_runs.specs.declared.process_step.PStep.TheVariants as line
use Rattle.sap_calc.specs.code.Parts.{Parts}
use Rattle.sap_lines.specs.Faults.{no_memory}
use Rattle.sap_calc.proofs.Numbered.{longer, got_append, live_got}
use Rattle.sap_calc.proofs.Lines.{no_thread, wrong_form, place_below, number_below, par_tied, par_line}
use Rattle.sap_calc.proofs.config.Config.par.Goals as goal

pub returns-in_default-clause-refused : goal.returns-in_default-clause-refused
returns-in_default-clause-refused c =
    let P : Parts = record { table = c.self.inside.table; places = c.self.inside.places; threads = c.self.inside.threads.items; store = c.self.inside.store.entries; held = c.self.inside.held.entries; facts = c.self.inside.facts; made = c.self.inside.made.keys; own = c.self.inside.own.keys; known = c.self.inside.knowledge } in
    rw (← c.self.view_is) (no_thread P (line.Par c.args.t) c.args.t refl (sym (ap option_copied c.in_default.is) ∙ c.thread_at.ensures))

pub at-place-requires : goal.at-place-requires
at-place-requires c =
    let P : Parts = record { table = c.self.inside.table; places = c.self.inside.places; threads = c.self.inside.threads.items; store = c.self.inside.store.entries; held = c.self.inside.held.entries; facts = c.self.inside.facts; made = c.self.inside.made.keys; own = c.self.inside.own.keys; known = c.self.inside.knowledge } in
    place_below P c.args.t c.in-Some.th.now c.self.invariant c.in-Some.ensures

pub returns-then-not-is_par-clause-refused : goal.returns-then-not-is_par-clause-refused
returns-then-not-is_par-clause-refused c =
    let P : Parts = record { table = c.self.inside.table; places = c.self.inside.places; threads = c.self.inside.threads.items; store = c.self.inside.store.entries; held = c.self.inside.held.entries; facts = c.self.inside.facts; made = c.self.inside.made.keys; own = c.self.inside.own.keys; known = c.self.inside.knowledge } in
    rw (← c.self.view_is) (wrong_form P (line.Par c.args.t) c.args.t c.in-Some.th.now c.at-place.result.now refl c.self.invariant c.in-Some.ensures c.at-place.ensures (c.if-not-is_par.ensures.not refl c.args.t))

pub returns-in-Err-clause-refused : goal.returns-in-Err-clause-refused
returns-in-Err-clause-refused c = no_memory (line.Par c.args.t)

pub returns-in-Err-add-clause-refused : goal.returns-in-Err-add-clause-refused
returns-in-Err-add-clause-refused c = no_memory (line.Par c.args.t)

pub go_on-requires : goal.go_on-requires
go_on-requires c =
    let P : Parts = record { table = c.self.inside.table; places = c.self.inside.places; threads = c.self.inside.threads.items; store = c.self.inside.store.entries; held = c.self.inside.held.entries; facts = c.self.inside.facts; made = c.self.inside.made.keys; own = c.self.inside.own.keys; known = c.self.inside.knowledge } in
    rw c.in-Ok-add.ensures.ok (longer P.threads (Some c.in-Ok.other) c.args.t (number_below P c.args.t c.in-Some.th.now c.in-Some.ensures))

pub invariant_of-self-in-Ok-add : goal.invariant_of-self-in-Ok-add
invariant_of-self-in-Ok-add c =
    let P : Parts = record { table = c.self.inside.table; places = c.self.inside.places; threads = c.self.inside.threads.items; store = c.self.inside.store.entries; held = c.self.inside.held.entries; facts = c.self.inside.facts; made = c.self.inside.made.keys; own = c.self.inside.own.keys; known = c.self.inside.knowledge } in
    rw ((c.go_on.ensures c.in-Some.th.now (rw c.in-Ok-add.ensures.ok (got_append P.threads (Some c.in-Ok.other ∷ []) c.args.t (Some c.in-Some.th.now) (live_got P.threads c.args.t c.in-Some.th.now c.in-Some.ensures)))), c.in-Ok-add.ensures.ok, c.in-Ok.ensures) (par_tied P c.args.t c.in-Some.th.now c.at-place.result.now c.self.invariant c.in-Some.ensures c.at-place.ensures (c.if-not-is_par.ensures.yes refl))

pub returns-in-Ok-add-clause-ok : goal.returns-in-Ok-add-clause-ok
returns-in-Ok-add-clause-ok c =
    let P : Parts = record { table = c.self.inside.table; places = c.self.inside.places; threads = c.self.inside.threads.items; store = c.self.inside.store.entries; held = c.self.inside.held.entries; facts = c.self.inside.facts; made = c.self.inside.made.keys; own = c.self.inside.own.keys; known = c.self.inside.knowledge } in
    rw (← c.self.view_is, (c.go_on.ensures c.in-Some.th.now (rw c.in-Ok-add.ensures.ok (got_append P.threads (Some c.in-Ok.other ∷ []) c.args.t (Some c.in-Some.th.now) (live_got P.threads c.args.t c.in-Some.th.now c.in-Some.ensures)))), c.in-Ok-add.ensures.ok, c.in-Ok.ensures) (par_line P c.args.t c.in-Some.th.now c.at-place.result.now c.self.invariant c.in-Some.ensures c.at-place.ensures (c.if-not-is_par.ensures.yes refl) c.new.result c.new.ensures)
