use Rattle.std.proofs.Common.{length, map, refl, sym, ap, ◌∙◌, arith}
use Rattle.std.specs.Option.{option_copied}
use Rattle.sap_runs.specs.declared.process_step.PStep.TheVariants as line
use Rattle.sap_lines.specs.Faults.{no_memory}
use Rattle.sap_calc.specs.code.Parts.{Parts}
use Rattle.sap_sides.specs.SharedFacts.{fact_seen, slots_seen}
use Rattle.sap_calc.proofs.Embeds.{cited_same, cited_stay, embed_count, embed_uncited, cited_fine, rule_one, rule_over, rule_clean, embed_unused, embed_tied, embed_line}
use Rattle.sap_calc.proofs.Goes.{denied_back, done_back}
use Rattle.sap_calc.proofs.Lines.{no_thread, wrong_form, place_below, number_below, thread_tied}
use Rattle.sap_calc.proofs.Moves.{keeps_tied, keeps_seen}
use Rattle.sap_calc.proofs.config.Config.embedded.Goals as goal

pub returns-in_default-clause-refused : goal.returns-in_default-clause-refused
returns-in_default-clause-refused c =
    let P : Parts = record { table = c.self.inside.table; places = c.self.inside.places; threads = c.self.inside.threads.items; store = c.self.inside.store.entries; held = c.self.inside.held.entries; facts = c.self.inside.facts; made = c.self.inside.made.keys; own = c.self.inside.own.keys; known = c.self.inside.knowledge } in
    rw (← c.self.view_is) (no_thread P (line.Embedded c.args.t c.args.numbers.now c.args.b.now) c.args.t refl (sym (ap option_copied c.in_default.is) ∙ c.thread_at.ensures))

pub at-place-requires : goal.at-place-requires
at-place-requires c =
    let P : Parts = record { table = c.self.inside.table; places = c.self.inside.places; threads = c.self.inside.threads.items; store = c.self.inside.store.entries; held = c.self.inside.held.entries; facts = c.self.inside.facts; made = c.self.inside.made.keys; own = c.self.inside.own.keys; known = c.self.inside.knowledge } in
    place_below P c.args.t c.in-Some.th.now c.self.invariant c.in-Some.ensures

pub returns-in_default-rule-clause-refused : goal.returns-in_default-rule-clause-refused
returns-in_default-rule-clause-refused c =
    let P : Parts = record { table = c.self.inside.table; places = c.self.inside.places; threads = c.self.inside.threads.items; store = c.self.inside.store.entries; held = c.self.inside.held.entries; facts = c.self.inside.facts; made = c.self.inside.made.keys; own = c.self.inside.own.keys; known = c.self.inside.knowledge } in
    rw (← c.self.view_is) (wrong_form P (line.Embedded c.args.t c.args.numbers.now c.args.b.now) c.args.t c.in-Some.th.now c.at-place.result.now refl c.self.invariant c.in-Some.ensures c.at-place.ensures (c.in_default-rule.ensures c.args.t c.args.numbers.now c.args.b.now))

pub returns-then-len-clause-refused : goal.returns-then-len-clause-refused
returns-then-len-clause-refused c =
    let P : Parts = record { table = c.self.inside.table; places = c.self.inside.places; threads = c.self.inside.threads.items; store = c.self.inside.store.entries; held = c.self.inside.held.entries; facts = c.self.inside.facts; made = c.self.inside.made.keys; own = c.self.inside.own.keys; known = c.self.inside.knowledge } in
    rw (← c.self.view_is) (embed_count P c.args.t c.in-Some.th.now c.at-place.result.now c.self.invariant c.in-Some.ensures c.at-place.ensures c.in-Some-rule.l.now c.in-Some-rule.e.now c.in-Some-rule.r.now c.in-Some-rule.ensures c.args.numbers.now c.args.b.now (λ same. c.if-len.true (c.len.ensures ∙ same ∙ sym c.len-2.ensures)))

pub used-requires-clause-env : goal.used-requires-clause-env
used-requires-clause-env c =
    let P : Parts = record { table = c.self.inside.table; places = c.self.inside.places; threads = c.self.inside.threads.items; store = c.self.inside.store.entries; held = c.self.inside.held.entries; facts = c.self.inside.facts; made = c.self.inside.made.keys; own = c.self.inside.own.keys; known = c.self.inside.knowledge } in
    (thread_tied P c.args.t c.in-Some.th.now c.self.invariant c.in-Some.ensures).small

pub used-requires-clause-messages : goal.used-requires-clause-messages
used-requires-clause-messages c =
    let P : Parts = record { table = c.self.inside.table; places = c.self.inside.places; threads = c.self.inside.threads.items; store = c.self.inside.store.entries; held = c.self.inside.held.entries; facts = c.self.inside.facts; made = c.self.inside.made.keys; own = c.self.inside.own.keys; known = c.self.inside.knowledge } in
    cited_fine P c.args.t c.in-Some.th.now c.at-place.result.now c.self.invariant c.in-Some.ensures c.at-place.ensures c.in-Some-rule.l.now c.in-Some-rule.e.now c.in-Some-rule.r.now c.in-Some-rule.ensures c.args.numbers.now c.args.b.now (map (fact_seen P.table.trees) c.as_slice.result.now) (cited_same (slots_seen P.table.trees P.facts) P.table.trees c.args.numbers.now c.as_slice.result.now c.in-Ok.facts.items c.as_slice.ensures.value c.in-Ok.ensures.ok)

pub used-requires-clause-sorts : goal.used-requires-clause-sorts
used-requires-clause-sorts c =
    let P : Parts = record { table = c.self.inside.table; places = c.self.inside.places; threads = c.self.inside.threads.items; store = c.self.inside.store.entries; held = c.self.inside.held.entries; facts = c.self.inside.facts; made = c.self.inside.made.keys; own = c.self.inside.own.keys; known = c.self.inside.knowledge } in
    rule_one P c.args.t c.in-Some.th.now c.at-place.result.now c.self.invariant c.in-Some.ensures c.at-place.ensures c.in-Some-rule.l.now c.in-Some-rule.e.now c.in-Some-rule.r.now c.in-Some-rule.ensures c.sorts_are_one.ensures.rule

pub used-requires-clause-over : goal.used-requires-clause-over
used-requires-clause-over c =
    let P : Parts = record { table = c.self.inside.table; places = c.self.inside.places; threads = c.self.inside.threads.items; store = c.self.inside.store.entries; held = c.self.inside.held.entries; facts = c.self.inside.facts; made = c.self.inside.made.keys; own = c.self.inside.own.keys; known = c.self.inside.knowledge } in
    rule_over P c.args.t c.in-Some.th.now c.at-place.result.now c.self.invariant c.in-Some.ensures c.at-place.ensures c.in-Some-rule.l.now c.in-Some-rule.e.now c.in-Some-rule.r.now c.in-Some-rule.ensures

pub returns-in-Err-clause-refused : goal.returns-in-Err-clause-refused
returns-in-Err-clause-refused c =
    let P : Parts = record { table = c.self.inside.table; places = c.self.inside.places; threads = c.self.inside.threads.items; store = c.self.inside.store.entries; held = c.self.inside.held.entries; facts = c.self.inside.facts; made = c.self.inside.made.keys; own = c.self.inside.own.keys; known = c.self.inside.knowledge } in
    rw (← c.self.view_is) (embed_uncited P c.args.t c.in-Some.th.now c.at-place.result.now c.self.invariant c.in-Some.ensures c.at-place.ensures c.in-Some-rule.l.now c.in-Some-rule.e.now c.in-Some-rule.r.now c.in-Some-rule.ensures c.args.numbers.now c.args.b.now (omega (arith, c.len.ensures, c.len-2.ensures, c.if-len.false)) c.in-Err.fault c.in-Err.ensures.refused)

pub invariant_of-self : goal.invariant_of-self
invariant_of-self c =
    let P : Parts = record { table = c.self.inside.table; places = c.self.inside.places; threads = c.self.inside.threads.items; store = c.self.inside.store.entries; held = c.self.inside.held.entries; facts = c.self.inside.facts; made = c.self.inside.made.keys; own = c.self.inside.own.keys; known = c.self.inside.knowledge } in
    keeps_tied P c.used.new.table c.used.ensures.keeps c.self.invariant

pub returns-in-Err-used-clause-refused : goal.returns-in-Err-used-clause-refused
returns-in-Err-used-clause-refused c =
    let P : Parts = record { table = c.self.inside.table; places = c.self.inside.places; threads = c.self.inside.threads.items; store = c.self.inside.store.entries; held = c.self.inside.held.entries; facts = c.self.inside.facts; made = c.self.inside.made.keys; own = c.self.inside.own.keys; known = c.self.inside.knowledge } in
    let Q : Parts = record P { table = c.used.new.table } in
    let there = keeps_tied P c.used.new.table c.used.ensures.keeps c.self.invariant in
    rw (← c.self.view_is) (denied_back P c.used.new.table c.used.ensures.keeps c.self.invariant (line.Embedded c.args.t c.args.numbers.now c.args.b.now) c.in-Err-used.fault (embed_unused Q c.args.t c.in-Some.th.now c.at-place.result.now there c.in-Some.ensures c.at-place.ensures c.in-Some-rule.l.now c.in-Some-rule.e.now c.in-Some-rule.r.now c.in-Some-rule.ensures c.args.numbers.now c.args.b.now (map (fact_seen P.table.trees) c.as_slice.result.now) (cited_stay P c.used.new.table c.used.ensures.keeps c.self.invariant c.args.numbers.now (map (fact_seen P.table.trees) c.as_slice.result.now) (cited_same (slots_seen P.table.trees P.facts) P.table.trees c.args.numbers.now c.as_slice.result.now c.in-Ok.facts.items c.as_slice.ensures.value c.in-Ok.ensures.ok)) (omega (arith, c.len.ensures, c.len-2.ensures, c.if-len.false)) c.in-Err-used.fault c.in-Err-used.ensures.refused))

pub returns-in-Err-used-clause-err : goal.returns-in-Err-used-clause-err
returns-in-Err-used-clause-err c =
    let P : Parts = record { table = c.self.inside.table; places = c.self.inside.places; threads = c.self.inside.threads.items; store = c.self.inside.store.entries; held = c.self.inside.held.entries; facts = c.self.inside.facts; made = c.self.inside.made.keys; own = c.self.inside.own.keys; known = c.self.inside.knowledge } in
    keeps_seen P c.used.new.table c.used.ensures.keeps c.self.invariant ∙ c.self.view_is

pub invariant_of-self-in-Err-exchange : goal.invariant_of-self-in-Err-exchange
invariant_of-self-in-Err-exchange c =
    let P : Parts = record { table = c.self.inside.table; places = c.self.inside.places; threads = c.self.inside.threads.items; store = c.self.inside.store.entries; held = c.self.inside.held.entries; facts = c.self.inside.facts; made = c.self.inside.made.keys; own = c.self.inside.own.keys; known = c.self.inside.knowledge } in
    rw c.in-Err-exchange.ensures.err (keeps_tied P c.used.new.table c.used.ensures.keeps c.self.invariant)

pub returns-in-Err-exchange-clause-refused : goal.returns-in-Err-exchange-clause-refused
returns-in-Err-exchange-clause-refused c = no_memory (line.Embedded c.args.t c.args.numbers.now c.args.b.now)

pub returns-in-Err-exchange-clause-err : goal.returns-in-Err-exchange-clause-err
returns-in-Err-exchange-clause-err c =
    let P : Parts = record { table = c.self.inside.table; places = c.self.inside.places; threads = c.self.inside.threads.items; store = c.self.inside.store.entries; held = c.self.inside.held.entries; facts = c.self.inside.facts; made = c.self.inside.made.keys; own = c.self.inside.own.keys; known = c.self.inside.knowledge } in
    rw c.in-Err-exchange.ensures.err (keeps_seen P c.used.new.table c.used.ensures.keeps c.self.invariant ∙ c.self.view_is)

pub set-requires : goal.set-requires
set-requires c =
    let P : Parts = record { table = c.self.inside.table; places = c.self.inside.places; threads = c.self.inside.threads.items; store = c.self.inside.store.entries; held = c.self.inside.held.entries; facts = c.self.inside.facts; made = c.self.inside.made.keys; own = c.self.inside.own.keys; known = c.self.inside.knowledge } in
    number_below P c.args.t c.in-Some.th.now c.in-Some.ensures

pub invariant_of-self-in-Ok-exchange : goal.invariant_of-self-in-Ok-exchange
invariant_of-self-in-Ok-exchange c =
    let P : Parts = record { table = c.self.inside.table; places = c.self.inside.places; threads = c.self.inside.threads.items; store = c.self.inside.store.entries; held = c.self.inside.held.entries; facts = c.self.inside.facts; made = c.self.inside.made.keys; own = c.self.inside.own.keys; known = c.self.inside.knowledge } in
    let Q : Parts = record P { table = c.used.new.table } in
    let there = keeps_tied P c.used.new.table c.used.ensures.keeps c.self.invariant in
    rw c.set.ensures (embed_tied Q c.args.t c.in-Some.th.now c.at-place.result.now there c.in-Some.ensures c.at-place.ensures c.in-Some-rule.l.now c.in-Some-rule.e.now c.in-Some-rule.r.now c.in-Some-rule.ensures c.args.numbers.now c.args.b.now (map (fact_seen P.table.trees) c.as_slice.result.now) (cited_stay P c.used.new.table c.used.ensures.keeps c.self.invariant c.args.numbers.now (map (fact_seen P.table.trees) c.as_slice.result.now) (cited_same (slots_seen P.table.trees P.facts) P.table.trees c.args.numbers.now c.as_slice.result.now c.in-Ok.facts.items c.as_slice.ensures.value c.in-Ok.ensures.ok)) c.in-Ok-used.env c.in-Ok-used.sides.acts (map (fact_seen c.used.new.table.trees) c.in-Ok-used.sides.right.items) c.in-Ok-used.ensures.ok c.exchange.new.self (c.in-Ok-exchange.ensures.below (length c.used.new.table.trees) there.slots c.in-Ok-used.ensures.below) (c.in-Ok-exchange.ensures.ok c.used.new.table.trees))

pub returns-clause-ok : goal.returns-clause-ok
returns-clause-ok c =
    let P : Parts = record { table = c.self.inside.table; places = c.self.inside.places; threads = c.self.inside.threads.items; store = c.self.inside.store.entries; held = c.self.inside.held.entries; facts = c.self.inside.facts; made = c.self.inside.made.keys; own = c.self.inside.own.keys; known = c.self.inside.knowledge } in
    let Q : Parts = record P { table = c.used.new.table } in
    let there = keeps_tied P c.used.new.table c.used.ensures.keeps c.self.invariant in
    rw (← c.self.view_is, c.set.ensures) (done_back P c.used.new.table c.used.ensures.keeps c.self.invariant _ (line.Embedded c.args.t c.args.numbers.now c.args.b.now) c.in-Ok-used.sides.acts (embed_line Q c.args.t c.in-Some.th.now c.at-place.result.now there c.in-Some.ensures c.at-place.ensures c.in-Some-rule.l.now c.in-Some-rule.e.now c.in-Some-rule.r.now c.in-Some-rule.ensures c.args.numbers.now c.args.b.now (map (fact_seen P.table.trees) c.as_slice.result.now) (cited_stay P c.used.new.table c.used.ensures.keeps c.self.invariant c.args.numbers.now (map (fact_seen P.table.trees) c.as_slice.result.now) (cited_same (slots_seen P.table.trees P.facts) P.table.trees c.args.numbers.now c.as_slice.result.now c.in-Ok.facts.items c.as_slice.ensures.value c.in-Ok.ensures.ok)) c.in-Ok-used.env c.in-Ok-used.sides.acts (map (fact_seen c.used.new.table.trees) c.in-Ok-used.sides.right.items) c.in-Ok-used.ensures.ok c.exchange.new.self (c.in-Ok-exchange.ensures.below (length c.used.new.table.trees) there.slots c.in-Ok-used.ensures.below) (c.in-Ok-exchange.ensures.ok c.used.new.table.trees)))

pub used-requires-clause-plain : goal.used-requires-clause-plain
used-requires-clause-plain c =
    let P : Parts = record { table = c.self.inside.table; places = c.self.inside.places; threads = c.self.inside.threads.items; store = c.self.inside.store.entries; held = c.self.inside.held.entries; facts = c.self.inside.facts; made = c.self.inside.made.keys; own = c.self.inside.own.keys; known = c.self.inside.knowledge } in
    rule_clean P c.args.t c.in-Some.th.now c.at-place.result.now c.self.invariant c.in-Some.ensures c.at-place.ensures c.in-Some-rule.l.now c.in-Some-rule.e.now c.in-Some-rule.r.now c.in-Some-rule.ensures
