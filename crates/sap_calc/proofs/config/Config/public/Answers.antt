use Rattle.std.proofs.Common.{refl, ◌∙◌}
use Rattle.sap_runs.specs.declared.process_step.PStep.TheVariants as line
use Rattle.sap_calc.specs.code.Parts.{Parts}
use Rattle.std.proofs.lemmas.Result.{err_from_is_err_and}
use Rattle.sap_terms.specs.Tree.{public}
use Rattle.sap_deduce.specs.declared.origin.Origin.TheVariants.{Public}
use Rattle.sap_lines.specs.Faults.{no_memory}
use Rattle.sap_calc.proofs.Goes.{done_back}
use Rattle.sap_calc.proofs.Moves.{keeps_tied, keeps_seen}
use Rattle.sap_calc.proofs.Learns.{learns_tied, public_line}
use Rattle.sap_calc.proofs.config.Config.public.Goals as goal

pub returns-in_err-name-clause-refused : goal.returns-in_err-name-clause-refused
returns-in_err-name-clause-refused c = let p = err_from_is_err_and c.from_residual.result c.from_residual.ensures.1 in rw (p.1, p.2) (no_memory (line.Public c.args.a.now))

pub returns-in_err-public-clause-refused : goal.returns-in_err-public-clause-refused
returns-in_err-public-clause-refused c = let p = err_from_is_err_and c.from_residual-in_err-public.result c.from_residual-in_err-public.ensures.1 in rw (p.1, p.2) (no_memory (line.Public c.args.a.now))

pub invariant_of-self : goal.invariant_of-self
invariant_of-self c =
    let P : Parts = record { table = c.self.inside.table; places = c.self.inside.places; threads = c.self.inside.threads.items; store = c.self.inside.store.entries; held = c.self.inside.held.entries; facts = c.self.inside.facts; made = c.self.inside.made.keys; own = c.self.inside.own.keys; known = c.self.inside.knowledge } in
    rw c.in_err-public.ensures.err (keeps_tied P c.public.new.table c.public.ensures.keeps c.self.invariant)

pub returns-in_err-public-clause-err : goal.returns-in_err-public-clause-err
returns-in_err-public-clause-err c =
    let P : Parts = record { table = c.self.inside.table; places = c.self.inside.places; threads = c.self.inside.threads.items; store = c.self.inside.store.entries; held = c.self.inside.held.entries; facts = c.self.inside.facts; made = c.self.inside.made.keys; own = c.self.inside.own.keys; known = c.self.inside.knowledge } in
    let p = err_from_is_err_and c.from_residual-in_err-public.result c.from_residual-in_err-public.ensures.1 in
    rw (p.1, c.in_err-public.ensures.err) (keeps_seen P c.public.new.table c.public.ensures.keeps c.self.invariant ∙ c.self.view_is)

pub invariant_of-self-2 : goal.invariant_of-self-2
invariant_of-self-2 c =
    let P : Parts = record { table = c.self.inside.table; places = c.self.inside.places; threads = c.self.inside.threads.items; store = c.self.inside.store.entries; held = c.self.inside.held.entries; facts = c.self.inside.facts; made = c.self.inside.made.keys; own = c.self.inside.own.keys; known = c.self.inside.knowledge } in
    learns_tied (record P { table = c.public.new.table }) c.public.new.self (public c.in_ok-name.name) Public c.in_ok-public.ensures.ok refl refl c.public.ensures.numbered (keeps_tied P c.public.new.table c.public.ensures.keeps c.self.invariant)

pub returns-clause-ok : goal.returns-clause-ok
returns-clause-ok c =
    let P : Parts = record { table = c.self.inside.table; places = c.self.inside.places; threads = c.self.inside.threads.items; store = c.self.inside.store.entries; held = c.self.inside.held.entries; facts = c.self.inside.facts; made = c.self.inside.made.keys; own = c.self.inside.own.keys; known = c.self.inside.knowledge } in
    rw (← c.self.view_is) (done_back P c.public.new.table c.public.ensures.keeps c.self.invariant _ (line.Public c.args.a.now) c.new.result (public_line (record P { table = c.public.new.table }) c.public.new.self c.args.a.now c.in_ok-name.name c.new.result c.in_ok-name.ensures c.in_ok-public.ensures.ok c.new.ensures))
