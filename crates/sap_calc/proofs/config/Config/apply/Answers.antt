use Rattle.std.proofs.Common.{◌∙◌}
use Rattle.sap_calc.specs.code.Parts.{Parts}
use Rattle.sap_runs.specs.declared.process_step.PStep.TheVariants as line
use Rattle.sap_calc.proofs.Goes.{done_back}
use Rattle.sap_calc.proofs.Moves.{keeps_tied, keeps_seen}
use Rattle.sap_calc.proofs.Learns.{apply_tied, apply_line, apply_denied}
use Rattle.sap_calc.proofs.config.Config.apply.Goals.{in-Err, in-Ok}
use Rattle.sap_calc.proofs.config.Config.apply.Goals as goal

pub returns-clause-refused : goal.returns-clause-refused
returns-clause-refused c =
    let P : Parts = record { table = c.self.inside.table; places = c.self.inside.places; threads = c.self.inside.threads.items; store = c.self.inside.store.entries; held = c.self.inside.held.entries; facts = c.self.inside.facts; made = c.self.inside.made.keys; own = c.self.inside.own.keys; known = c.self.inside.knowledge } in
    elim c.match-apply.branch [
      | in-Err w ↦ rw (w.result-is, w.fault_of.ensures, ← c.self.view_is) (apply_denied P c.args.f.now c.args.entries.now _ w.in-Err.ensures.denied)
      | in-Ok w ↦ rw w.result-is tt
    ]

pub invariant_of-self : goal.invariant_of-self
invariant_of-self c =
    let P : Parts = record { table = c.self.inside.table; places = c.self.inside.places; threads = c.self.inside.threads.items; store = c.self.inside.store.entries; held = c.self.inside.held.entries; facts = c.self.inside.facts; made = c.self.inside.made.keys; own = c.self.inside.own.keys; known = c.self.inside.knowledge } in
    let u = c.apply.new.table in
    let there = keeps_tied P u c.apply.ensures.keeps c.self.invariant in
    elim c.match-apply.branch [
      | in-Err w ↦ rw w.in-Err.ensures.err there
      | in-Ok w ↦ apply_tied (record P { table = u }) c.apply.new.self c.args.f.now c.args.entries.now w.in-Ok.ensures.ok c.apply.ensures.numbered there
    ]

pub returns-clause-err : goal.returns-clause-err
returns-clause-err c =
    let P : Parts = record { table = c.self.inside.table; places = c.self.inside.places; threads = c.self.inside.threads.items; store = c.self.inside.store.entries; held = c.self.inside.held.entries; facts = c.self.inside.facts; made = c.self.inside.made.keys; own = c.self.inside.own.keys; known = c.self.inside.knowledge } in
    elim c.match-apply.branch [
      | in-Err w ↦ rw (w.result-is, w.in-Err.ensures.err) (keeps_seen P c.apply.new.table c.apply.ensures.keeps c.self.invariant ∙ c.self.view_is)
      | in-Ok w ↦ rw w.result-is tt
    ]

pub returns-clause-ok : goal.returns-clause-ok
returns-clause-ok c =
    let P : Parts = record { table = c.self.inside.table; places = c.self.inside.places; threads = c.self.inside.threads.items; store = c.self.inside.store.entries; held = c.self.inside.held.entries; facts = c.self.inside.facts; made = c.self.inside.made.keys; own = c.self.inside.own.keys; known = c.self.inside.knowledge } in
    let u = c.apply.new.table in
    elim c.match-apply.branch [
      | in-Err w ↦ rw w.result-is tt
      | in-Ok w ↦ rw (w.result-is, ← c.self.view_is) (done_back P u c.apply.ensures.keeps c.self.invariant _ (line.Apply c.args.f.now c.args.entries.now) w.new.result (apply_line (record P { table = u }) c.apply.new.self c.args.f.now c.args.entries.now w.new.result w.in-Ok.ensures.ok w.new.ensures))
    ]
