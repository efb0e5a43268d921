use Rattle.std.proofs.Common.{[], ◌∷◌, refl, sym, ap, ◌∙◌}
use Rattle.std.specs.Option.{option_copied}
use Rattle.sap_runs.specs.declared.process_step.PStep.TheVariants as line
use Rattle.sap_calc.specs.code.Parts.{Parts}
use Rattle.sap_terms.specs.Choice.{instance}
use Rattle.sap_terms.specs.View.{tree}
use Rattle.sap_share.specs.Env.{given}
use Rattle.sap_lines.specs.Faults.{EvaluateLarge}
use Rattle.sap_heads.specs.Values.{IsValue}
use Rattle.sap_lines.specs.declared.fault.PFault.TheVariants as fault
use Rattle.sap_calc.proofs.Lines.{no_thread, wrong_form, place_below, thread_tied}
use Rattle.sap_calc.proofs.Moves.{keeps_tied, keeps_seen, small_stays}
use Rattle.sap_calc.proofs.Writes.{lookup_can, finds_large, finds_nothing, would_find, found_small}
use Rattle.sap_calc.proofs.config.Config.stored.Goals as goal

pub returns-in_default-clause-ok : goal.returns-in_default-clause-ok
returns-in_default-clause-ok c =
    let P : Parts = record { table = c.self.inside.table; places = c.self.inside.places; threads = c.self.inside.threads.items; store = c.self.inside.store.entries; held = c.self.inside.held.entries; facts = c.self.inside.facts; made = c.self.inside.made.keys; own = c.self.inside.own.keys; known = c.self.inside.knowledge } in
    rw (← c.self.view_is) (record { fault = fault.NoThread c.args.t; denied = no_thread P (line.Found c.args.t) c.args.t refl (sym (ap option_copied c.in_default.is) ∙ c.thread_at.ensures); cause = λ h. cc })

pub at-place-requires : goal.at-place-requires
at-place-requires c =
    let P : Parts = record { table = c.self.inside.table; places = c.self.inside.places; threads = c.self.inside.threads.items; store = c.self.inside.store.entries; held = c.self.inside.held.entries; facts = c.self.inside.facts; made = c.self.inside.made.keys; own = c.self.inside.own.keys; known = c.self.inside.knowledge } in
    place_below P c.args.t c.in-Some.th.now c.self.invariant c.in-Some.ensures

pub returns-in_default-lookup-clause-ok : goal.returns-in_default-lookup-clause-ok
returns-in_default-lookup-clause-ok c =
    let P : Parts = record { table = c.self.inside.table; places = c.self.inside.places; threads = c.self.inside.threads.items; store = c.self.inside.store.entries; held = c.self.inside.held.entries; facts = c.self.inside.facts; made = c.self.inside.made.keys; own = c.self.inside.own.keys; known = c.self.inside.knowledge } in
    rw (← c.self.view_is) (record { fault = fault.WrongForm c.args.t; denied = wrong_form P (line.Found c.args.t) c.args.t c.in-Some.th.now c.at-place.result.now refl c.self.invariant c.in-Some.ensures c.at-place.ensures (c.in_default-lookup.ensures.0 c.args.t); cause = λ h. cc })

pub value_unless_large-requires-clause-env : goal.value_unless_large-requires-clause-env
value_unless_large-requires-clause-env c =
    let P : Parts = record { table = c.self.inside.table; places = c.self.inside.places; threads = c.self.inside.threads.items; store = c.self.inside.store.entries; held = c.self.inside.held.entries; facts = c.self.inside.facts; made = c.self.inside.made.keys; own = c.self.inside.own.keys; known = c.self.inside.knowledge } in
    (thread_tied P c.args.t c.in-Some.th.now c.self.invariant c.in-Some.ensures).small

pub value_unless_large-requires-clause-can : goal.value_unless_large-requires-clause-can
value_unless_large-requires-clause-can c =
    let P : Parts = record { table = c.self.inside.table; places = c.self.inside.places; threads = c.self.inside.threads.items; store = c.self.inside.store.entries; held = c.self.inside.held.entries; facts = c.self.inside.facts; made = c.self.inside.made.keys; own = c.self.inside.own.keys; known = c.self.inside.knowledge } in
    lookup_can P c.args.t c.in-Some.th.now c.at-place.result.now c.self.invariant c.in-Some.ensures c.at-place.ensures c.in-Some-lookup.m.now c.in-Some-lookup.field-0-1.now c.in-Some-lookup.ensures c.each_is_ground.ensures

pub invariant_of-self : goal.invariant_of-self
invariant_of-self c =
    let P : Parts = record { table = c.self.inside.table; places = c.self.inside.places; threads = c.self.inside.threads.items; store = c.self.inside.store.entries; held = c.self.inside.held.entries; facts = c.self.inside.facts; made = c.self.inside.made.keys; own = c.self.inside.own.keys; known = c.self.inside.knowledge } in
    keeps_tied P c.value_unless_large.new.table c.value_unless_large.ensures.keeps c.self.invariant

pub invariant_of-self-in_default-2 : goal.invariant_of-self-in_default-2
invariant_of-self-in_default-2 c =
    let P : Parts = record { table = c.self.inside.table; places = c.self.inside.places; threads = c.self.inside.threads.items; store = c.self.inside.store.entries; held = c.self.inside.held.entries; facts = c.self.inside.facts; made = c.self.inside.made.keys; own = c.self.inside.own.keys; known = c.self.inside.knowledge } in
    keeps_tied P c.value_unless_large.new.table c.value_unless_large.ensures.keeps c.self.invariant

pub invariant_of-self-in_default-value_at : goal.invariant_of-self-in_default-value_at
invariant_of-self-in_default-value_at c =
    let P : Parts = record { table = c.self.inside.table; places = c.self.inside.places; threads = c.self.inside.threads.items; store = c.self.inside.store.entries; held = c.self.inside.held.entries; facts = c.self.inside.facts; made = c.self.inside.made.keys; own = c.self.inside.own.keys; known = c.self.inside.knowledge } in
    keeps_tied P c.value_unless_large.new.table c.value_unless_large.ensures.keeps c.self.invariant

pub invariant_of-self-in_err-found : goal.invariant_of-self-in_err-found
invariant_of-self-in_err-found c =
    let P : Parts = record { table = c.self.inside.table; places = c.self.inside.places; threads = c.self.inside.threads.items; store = c.self.inside.store.entries; held = c.self.inside.held.entries; facts = c.self.inside.facts; made = c.self.inside.made.keys; own = c.self.inside.own.keys; known = c.self.inside.knowledge } in
    keeps_tied P c.value_unless_large.new.table c.value_unless_large.ensures.keeps c.self.invariant

pub invariant_of-self-2 : goal.invariant_of-self-2
invariant_of-self-2 c =
    let P : Parts = record { table = c.self.inside.table; places = c.self.inside.places; threads = c.self.inside.threads.items; store = c.self.inside.store.entries; held = c.self.inside.held.entries; facts = c.self.inside.facts; made = c.self.inside.made.keys; own = c.self.inside.own.keys; known = c.self.inside.knowledge } in
    keeps_tied P c.value_unless_large.new.table c.value_unless_large.ensures.keeps c.self.invariant

pub returns-in_err-k-clause-kept : goal.returns-in_err-k-clause-kept
returns-in_err-k-clause-kept c =
    let P : Parts = record { table = c.self.inside.table; places = c.self.inside.places; threads = c.self.inside.threads.items; store = c.self.inside.store.entries; held = c.self.inside.held.entries; facts = c.self.inside.facts; made = c.self.inside.made.keys; own = c.self.inside.own.keys; known = c.self.inside.knowledge } in
    keeps_seen P c.value_unless_large.new.table c.value_unless_large.ensures.keeps c.self.invariant ∙ c.self.view_is

pub returns-in_default-2-clause-kept : goal.returns-in_default-2-clause-kept
returns-in_default-2-clause-kept c =
    let P : Parts = record { table = c.self.inside.table; places = c.self.inside.places; threads = c.self.inside.threads.items; store = c.self.inside.store.entries; held = c.self.inside.held.entries; facts = c.self.inside.facts; made = c.self.inside.made.keys; own = c.self.inside.own.keys; known = c.self.inside.knowledge } in
    keeps_seen P c.value_unless_large.new.table c.value_unless_large.ensures.keeps c.self.invariant ∙ c.self.view_is

pub returns-in_default-value_at-clause-kept : goal.returns-in_default-value_at-clause-kept
returns-in_default-value_at-clause-kept c =
    let P : Parts = record { table = c.self.inside.table; places = c.self.inside.places; threads = c.self.inside.threads.items; store = c.self.inside.store.entries; held = c.self.inside.held.entries; facts = c.self.inside.facts; made = c.self.inside.made.keys; own = c.self.inside.own.keys; known = c.self.inside.knowledge } in
    keeps_seen P c.value_unless_large.new.table c.value_unless_large.ensures.keeps c.self.invariant ∙ c.self.view_is

pub returns-in_err-found-clause-kept : goal.returns-in_err-found-clause-kept
returns-in_err-found-clause-kept c =
    let P : Parts = record { table = c.self.inside.table; places = c.self.inside.places; threads = c.self.inside.threads.items; store = c.self.inside.store.entries; held = c.self.inside.held.entries; facts = c.self.inside.facts; made = c.self.inside.made.keys; own = c.self.inside.own.keys; known = c.self.inside.knowledge } in
    keeps_seen P c.value_unless_large.new.table c.value_unless_large.ensures.keeps c.self.invariant ∙ c.self.view_is

pub returns-clause-kept : goal.returns-clause-kept
returns-clause-kept c =
    let P : Parts = record { table = c.self.inside.table; places = c.self.inside.places; threads = c.self.inside.threads.items; store = c.self.inside.store.entries; held = c.self.inside.held.entries; facts = c.self.inside.facts; made = c.self.inside.made.keys; own = c.self.inside.own.keys; known = c.self.inside.knowledge } in
    keeps_seen P c.value_unless_large.new.table c.value_unless_large.ensures.keeps c.self.invariant ∙ c.self.view_is

pub returns-in_default-2-clause-ok : goal.returns-in_default-2-clause-ok
returns-in_default-2-clause-ok c =
    let P : Parts = record { table = c.self.inside.table; places = c.self.inside.places; threads = c.self.inside.threads.items; store = c.self.inside.store.entries; held = c.self.inside.held.entries; facts = c.self.inside.facts; made = c.self.inside.made.keys; own = c.self.inside.own.keys; known = c.self.inside.knowledge } in
    let big : EvaluateLarge P.table.sig (instance (given P.table.trees c.in-Some.th.now.env) (tree c.in-Some-lookup.m.now) ∷ []) = rw c.in_default-2.is at c.in_ok-k.ensures.ok in
    rw (← c.self.view_is) (finds_large P c.args.t c.in-Some.th.now c.at-place.result.now c.self.invariant c.in-Some.ensures c.at-place.ensures c.in-Some-lookup.m.now c.in-Some-lookup.field-0-1.now c.in-Some-lookup.ensures big)

pub returns-in_default-value_at-clause-ok : goal.returns-in_default-value_at-clause-ok
returns-in_default-value_at-clause-ok c =
    let P : Parts = record { table = c.self.inside.table; places = c.self.inside.places; threads = c.self.inside.threads.items; store = c.self.inside.store.entries; held = c.self.inside.held.entries; facts = c.self.inside.facts; made = c.self.inside.made.keys; own = c.self.inside.own.keys; known = c.self.inside.knowledge } in
    let v : IsValue P.table c.value_unless_large.new.table c.in-Some.th.now.env (tree c.in-Some-lookup.m.now) c.in-Some-2.k = rw c.in-Some-2.is at c.in_ok-k.ensures.ok in
    rw (← c.self.view_is) (finds_nothing P c.args.t c.in-Some.th.now c.at-place.result.now c.self.invariant c.in-Some.ensures c.at-place.ensures c.in-Some-lookup.m.now c.in-Some-lookup.field-0-1.now c.in-Some-lookup.ensures c.value_unless_large.new.table c.value_unless_large.ensures.keeps c.in-Some-2.k v c.each_has_one_number.ensures (sym c.value_at.ensures ∙ c.in_default-value_at.is))

pub tree-requires : goal.tree-requires
tree-requires c =
    let P : Parts = record { table = c.self.inside.table; places = c.self.inside.places; threads = c.self.inside.threads.items; store = c.self.inside.store.entries; held = c.self.inside.held.entries; facts = c.self.inside.facts; made = c.self.inside.made.keys; own = c.self.inside.own.keys; known = c.self.inside.knowledge } in
    let v : IsValue P.table c.value_unless_large.new.table c.in-Some.th.now.env (tree c.in-Some-lookup.m.now) c.in-Some-2.k = rw c.in-Some-2.is at c.in_ok-k.ensures.ok in
    (small_stays P.table c.value_unless_large.new.table c.value_unless_large.ensures.keeps c.in-Some-value_at.v (found_small P c.args.t c.in-Some.th.now c.at-place.result.now c.self.invariant c.in-Some.ensures c.at-place.ensures c.in-Some-lookup.m.now c.in-Some-lookup.field-0-1.now c.in-Some-lookup.ensures c.value_unless_large.new.table c.value_unless_large.ensures.keeps c.in-Some-2.k v c.each_has_one_number.ensures c.in-Some-value_at.v (sym c.value_at.ensures ∙ c.in-Some-value_at.is))).below

pub returns-clause-ok : goal.returns-clause-ok
returns-clause-ok c =
    let P : Parts = record { table = c.self.inside.table; places = c.self.inside.places; threads = c.self.inside.threads.items; store = c.self.inside.store.entries; held = c.self.inside.held.entries; facts = c.self.inside.facts; made = c.self.inside.made.keys; own = c.self.inside.own.keys; known = c.self.inside.knowledge } in
    let v : IsValue P.table c.value_unless_large.new.table c.in-Some.th.now.env (tree c.in-Some-lookup.m.now) c.in-Some-2.k = rw c.in-Some-2.is at c.in_ok-k.ensures.ok in
    rw (← c.self.view_is, c.in_ok-found.ensures) (would_find P c.args.t c.in-Some.th.now c.at-place.result.now c.self.invariant c.in-Some.ensures c.at-place.ensures c.in-Some-lookup.m.now c.in-Some-lookup.field-0-1.now c.in-Some-lookup.ensures c.value_unless_large.new.table c.value_unless_large.ensures.keeps c.in-Some-2.k v c.each_has_one_number.ensures c.in-Some-value_at.v (sym c.value_at.ensures ∙ c.in-Some-value_at.is))
