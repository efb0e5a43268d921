use Rattle.std.proofs.Common.{sym, ap, ◌∙◌}
use Rattle.std.specs.Option.{option_copied}
use Rattle.sap_runs.specs.declared.process_step.PStep.TheVariants as line
use Rattle.sap_calc.specs.code.Parts.{Parts}
use Rattle.std.proofs.lemmas.Result.{err_from_is_err_and}
use Rattle.std.proofs.Common.{option_map}
use Rattle.sap_terms.specs.View.{tree}
use Rattle.sap_lines.specs.Faults.{no_memory, unknown_shown}
use Rattle.sap_calc.proofs.Learns.{know_line}
use Rattle.sap_calc.proofs.config.Config.know.Goals as goal

pub returns-in_default-clause-refused : goal.returns-in_default-clause-refused
returns-in_default-clause-refused c =
    let P : Parts = record { table = c.self.inside.table; places = c.self.inside.places; threads = c.self.inside.threads.items; store = c.self.inside.store.entries; held = c.self.inside.held.entries; facts = c.self.inside.facts; made = c.self.inside.made.keys; own = c.self.inside.own.keys; known = c.self.inside.knowledge } in
    rw (← c.self.view_is) (unknown_shown c.args.k (sym c.at.ensures ∙ ap (λ o. option_map tree (option_copied o)) c.in_default.is))

pub returns-in_err-shown-clause-refused : goal.returns-in_err-shown-clause-refused
returns-in_err-shown-clause-refused c = let p = err_from_is_err_and c.from_residual.result c.from_residual.ensures.1 in rw (p.1, p.2) (no_memory (line.Know c.args.k))

pub returns-clause-ok : goal.returns-clause-ok
returns-clause-ok c =
    let P : Parts = record { table = c.self.inside.table; places = c.self.inside.places; threads = c.self.inside.threads.items; store = c.self.inside.store.entries; held = c.self.inside.held.entries; facts = c.self.inside.facts; made = c.self.inside.made.keys; own = c.self.inside.own.keys; known = c.self.inside.knowledge } in
    rw (← c.self.view_is) (know_line P c.args.k (tree c.in-Some.t.now) c.in_ok-shown.field-0 (sym c.in-Some.ensures) c.in_ok-shown.ensures)
