use Rattle.std.proofs.Common.{sym, ap, ◌∙◌}
use Rattle.std.specs.Option.{option_copied}
use Rattle.sap_calc.specs.code.Parts.{Parts}
use Rattle.sap_calc.proofs.Lines.{place_below}
use Rattle.sap_calc.proofs.Moves.{none_runs}
use Rattle.sap_calc.proofs.Standing.{env_bound, head_is}
use Rattle.sap_calc.proofs.config.Config.head.Goals as goal

pub returns-in_default : goal.returns-in_default
returns-in_default c =
    let P : Parts = record { table = c.self.inside.table; places = c.self.inside.places; threads = c.self.inside.threads.items; store = c.self.inside.store.entries; held = c.self.inside.held.entries; facts = c.self.inside.facts; made = c.self.inside.made.keys; own = c.self.inside.own.keys; known = c.self.inside.knowledge } in
    rw (← c.self.view_is) (none_runs P c.args.t (sym (ap option_copied c.in_default.is) ∙ c.thread_at.ensures))

pub at-place-requires : goal.at-place-requires
at-place-requires c =
    let P : Parts = record { table = c.self.inside.table; places = c.self.inside.places; threads = c.self.inside.threads.items; store = c.self.inside.store.entries; held = c.self.inside.held.entries; facts = c.self.inside.facts; made = c.self.inside.made.keys; own = c.self.inside.own.keys; known = c.self.inside.knowledge } in
    place_below P c.args.t c.in-Some.th.now c.self.invariant c.in-Some.ensures

pub boxed_under-requires : goal.boxed_under-requires
boxed_under-requires c =
    let P : Parts = record { table = c.self.inside.table; places = c.self.inside.places; threads = c.self.inside.threads.items; store = c.self.inside.store.entries; held = c.self.inside.held.entries; facts = c.self.inside.facts; made = c.self.inside.made.keys; own = c.self.inside.own.keys; known = c.self.inside.knowledge } in
    env_bound P c.args.t c.in-Some.th.now c.at-place.result.now c.self.invariant c.in-Some.ensures c.at-place.ensures c.each_is_ground.ensures c.sorts_are_one.ensures.pattern

pub returns : goal.returns
returns c =
    let P : Parts = record { table = c.self.inside.table; places = c.self.inside.places; threads = c.self.inside.threads.items; store = c.self.inside.store.entries; held = c.self.inside.held.entries; facts = c.self.inside.facts; made = c.self.inside.made.keys; own = c.self.inside.own.keys; known = c.self.inside.knowledge } in
    rw (← c.self.view_is) (head_is P c.args.t c.in-Some.th.now c.at-place.result.now c.self.invariant c.in-Some.ensures c.at-place.ensures c.each_is_ground.ensures c.sorts_are_one.ensures.pattern c.in_ok-form.form.value c.in_ok-form.ensures)
