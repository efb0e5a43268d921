use Rattle.sap_process.specs.Proc.{proc}
use Rattle.sap_calc.specs.code.Parts.{Parts}
use Rattle.sap_calc.proofs.First.{start_tied, start_is}
use Rattle.sap_calc.proofs.config.Config.start.Goals as goal

pub invariant_of-result : goal.invariant_of-result
invariant_of-result c =
    let P : Parts = record { table = c.in-Ok-nothing_known.table; places = c.in-Ok.places; threads = c.in-Ok-first_thread.threads.items; store = c.new.result.entries; held = c.new-in-Ok-nothing_known.result.entries; facts = c.new-in-Ok-nothing_known-2.result; made = c.new-in-Ok-nothing_known-3.result.keys; own = c.new-in-Ok-nothing_known-4.result.keys; known = c.in-Ok-nothing_known.knowledge } in
    start_tied P c.in-Ok.root c.in-Ok-first_thread.ensures c.new.ensures.empty c.new-in-Ok-nothing_known.ensures.empty c.new-in-Ok-nothing_known-2.ensures c.new-in-Ok-nothing_known-3.ensures.empty c.new-in-Ok-nothing_known-4.ensures.empty
    c.args.sig.now (proc c.args.p.now) c.requires c.in-Ok.ensures c.in-Ok-nothing_known.ensures.table.0 c.in-Ok-nothing_known.ensures.numbered c.in-Ok-nothing_known.ensures.empty.1

pub returns-in-Ok-nothing_known-clause-configuration : goal.returns-in-Ok-nothing_known-clause-configuration
returns-in-Ok-nothing_known-clause-configuration c =
    let P : Parts = record { table = c.in-Ok-nothing_known.table; places = c.in-Ok.places; threads = c.in-Ok-first_thread.threads.items; store = c.new.result.entries; held = c.new-in-Ok-nothing_known.result.entries; facts = c.new-in-Ok-nothing_known-2.result; made = c.new-in-Ok-nothing_known-3.result.keys; own = c.new-in-Ok-nothing_known-4.result.keys; known = c.in-Ok-nothing_known.knowledge } in
    start_is P c.in-Ok.root c.in-Ok-first_thread.ensures c.new.ensures.empty c.new-in-Ok-nothing_known.ensures.empty c.new-in-Ok-nothing_known-2.ensures c.new-in-Ok-nothing_known-3.ensures.empty c.new-in-Ok-nothing_known-4.ensures.empty
    c.args.sig.now (proc c.args.p.now) c.instances_of_processes.ensures.unchanged c.in-Ok.ensures c.in-Ok-nothing_known.ensures.empty.1
