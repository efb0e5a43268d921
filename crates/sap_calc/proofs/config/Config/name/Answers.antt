use Rattle.std.proofs.Common.{[], ◌∷◌, sym, ap, ◌∙◌}
use Rattle.sap_runs.specs.declared.process_step.PStep.TheVariants as line
use Rattle.sap_calc.specs.code.Parts.{Parts}
use Rattle.std.proofs.Common.{inl, inr, ◌++◌}
use Rattle.std.proofs.lemmas.Bool.{false≢true}
use Rattle.sap_lines.specs.Faults.{no_memory}
use Rattle.sap_calc.proofs.Goes.{done_back}
use Rattle.sap_calc.proofs.Moves.{keeps_tied, keeps_seen}
use Rattle.sap_calc.proofs.Learns.{name_tied, name_line, name_used}
use Rattle.sap_calc.proofs.config.Config.name.Goals as goal

pub returns-then-is_among-clause-refused : goal.returns-then-is_among-clause-refused
returns-then-is_among-clause-refused c =
    let P : Parts = record { table = c.self.inside.table; places = c.self.inside.places; threads = c.self.inside.threads.items; store = c.self.inside.store.entries; held = c.self.inside.held.entries; facts = c.self.inside.facts; made = c.self.inside.made.keys; own = c.self.inside.own.keys; known = c.self.inside.knowledge } in
    rw (← c.self.view_is) (name_used P c.args.n c.self.invariant (inl (c.is_among.ensures.0 c.if-is_among.true)))

pub returns-then-is_among-2-clause-refused : goal.returns-then-is_among-2-clause-refused
returns-then-is_among-2-clause-refused c =
    let P : Parts = record { table = c.self.inside.table; places = c.self.inside.places; threads = c.self.inside.threads.items; store = c.self.inside.store.entries; held = c.self.inside.held.entries; facts = c.self.inside.facts; made = c.self.inside.made.keys; own = c.self.inside.own.keys; known = c.self.inside.knowledge } in
    rw (← c.self.view_is) (name_used P c.args.n c.self.invariant (inr (c.is_among-2.ensures.0 c.if-is_among-2.true)))

pub returns-in-Err-clause-refused : goal.returns-in-Err-clause-refused
returns-in-Err-clause-refused c = no_memory (line.Name c.args.n)

pub returns-in-Err-name-clause-refused : goal.returns-in-Err-name-clause-refused
returns-in-Err-name-clause-refused c = no_memory (line.Name c.args.n)

pub invariant_of-self-in-Err-name : goal.invariant_of-self-in-Err-name
invariant_of-self-in-Err-name c =
    let P : Parts = record { table = c.self.inside.table; places = c.self.inside.places; threads = c.self.inside.threads.items; store = c.self.inside.store.entries; held = c.self.inside.held.entries; facts = c.self.inside.facts; made = c.self.inside.made.keys; own = c.self.inside.own.keys; known = c.self.inside.knowledge } in
    rw (c.in-Err-name.ensures.err, c.in-Ok.ensures.keys) (keeps_tied P c.name.new.table c.name.ensures.keeps c.self.invariant)

pub returns-in-Err-name-clause-err : goal.returns-in-Err-name-clause-err
returns-in-Err-name-clause-err c =
    let P : Parts = record { table = c.self.inside.table; places = c.self.inside.places; threads = c.self.inside.threads.items; store = c.self.inside.store.entries; held = c.self.inside.held.entries; facts = c.self.inside.facts; made = c.self.inside.made.keys; own = c.self.inside.own.keys; known = c.self.inside.knowledge } in
    rw c.in-Err-name.ensures.err (keeps_seen P c.name.new.table c.name.ensures.keeps c.self.invariant ∙ c.self.view_is)

pub invariant_of-self-in-Ok-name : goal.invariant_of-self-in-Ok-name
invariant_of-self-in-Ok-name c =
    let P : Parts = record { table = c.self.inside.table; places = c.self.inside.places; threads = c.self.inside.threads.items; store = c.self.inside.store.entries; held = c.self.inside.held.entries; facts = c.self.inside.facts; made = c.self.inside.made.keys; own = c.self.inside.own.keys; known = c.self.inside.knowledge } in
    let u = c.name.new.table in
    name_tied (record P { table = u }) c.name.new.self c.args.n c.put_last.new.names.keys c.in-Ok-name.ensures.ok (c.put_last.ensures ∙ ap (λ ns. ns ++ c.args.n ∷ []) c.in-Ok.ensures.keys) (keeps_tied P u c.name.ensures.keeps c.self.invariant) c.name.ensures.numbered

pub returns-in-Ok-name-clause-ok : goal.returns-in-Ok-name-clause-ok
returns-in-Ok-name-clause-ok c =
    let P : Parts = record { table = c.self.inside.table; places = c.self.inside.places; threads = c.self.inside.threads.items; store = c.self.inside.store.entries; held = c.self.inside.held.entries; facts = c.self.inside.facts; made = c.self.inside.made.keys; own = c.self.inside.own.keys; known = c.self.inside.knowledge } in
    let u = c.name.new.table in
    rw (← c.self.view_is) (done_back P u c.name.ensures.keeps c.self.invariant _ (line.Name c.args.n) c.new.result (name_line (record P { table = u }) c.name.new.self c.args.n c.put_last.new.names.keys c.in-Ok-name.ensures.ok (c.put_last.ensures ∙ ap (λ ns. ns ++ c.args.n ∷ []) c.in-Ok.ensures.keys) (keeps_tied P u c.name.ensures.keeps c.self.invariant) c.new.result c.new.ensures (λ h. false≢true (sym c.if-is_among.false ∙ c.is_among.ensures.1 h)) (λ h. false≢true (sym c.if-is_among-2.false ∙ c.is_among-2.ensures.1 h))))
