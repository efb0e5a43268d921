use Rattle.sap_read.proofs.AsWritten.{one_writing, shown, written}
use Rattle.sap_read.proofs.laws.files_show_as_they_are_written.Goals as goal

pub returns-clause-written : goal.returns-clause-written
returns-clause-written c = written

pub returns-clause-one : goal.returns-clause-one
returns-clause-one c = one_writing c.item_laws.ensures c.statement_laws.ensures c.process_laws.ensures c.one_answer.ensures

pub returns-clause-shows : goal.returns-clause-shows
returns-clause-shows c =
    let sorts = c.sorting_keeps_scopes.ensures in
    shown c.item_laws.ensures c.statement_laws.ensures c.process_laws.ensures c.one_answer.ensures c.used_definitions_are_closed.ensures c.identifiers_hold_variables.ensures
    (record {
      plain_order = c.plain_bodies_are_in_order.ensures.order;
      plain_uses = c.plain_bodies_are_in_order.ensures.uses;
      sorts = record { closed = sorts.closed; uses = sorts.uses; taken = sorts.taken; definitions = sorts.definitions; order = sorts.order; names = sorts.names };
      exchanged = c.sorts_are_exchanged.ensures;
      runs = c.what_is_written_runs_as_its_expansion.ensures;
      closed = c.unflawed_processes_are_closed.ensures;
      labels = c.labels_show_nothing.ensures.traces;
      ready = c.sorting_keeps.ensures.well;
    })
