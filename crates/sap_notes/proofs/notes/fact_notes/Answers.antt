use Rattle.std.proofs.Common.{[], refl}
use Rattle.sap_process.specs.Proc.{proc}
use Rattle.sap_notes.proofs.FactNotes.{none_ranked, said_ranked, shown_ranked}
use Rattle.sap_notes.proofs.notes.fact_notes.Goals as goal

pub join_facts-requires-clause-said : goal.join_facts-requires-clause-said
join_facts-requires-clause-said c = said_ranked (record { tokens = c.one_parting.ensures.tokens; cuts = c.one_parting.ensures.items; items = c.one_list_of_items.ensures.own }) c.spans_in_order.ensures
    (record { sound = c.facts_are_read.ensures.sound; complete = c.facts_are_read.ensures.complete })
    c.args.bytes.now c.args.tokens.now c.args.written.now (proc c.args.process.now) c.requires.tokens c.requires.written c.requires.process c.args.led.now
    _ c.in_ok-shown.ensures _ c.in_ok-found.ensures.said

pub join_facts-requires-clause-shown : goal.join_facts-requires-clause-shown
join_facts-requires-clause-shown c = λ some. shown_ranked (record { tokens = c.one_parting.ensures.tokens; cuts = c.one_parting.ensures.items; items = c.one_list_of_items.ensures.own }) c.spans_in_order.ensures
    (record { sound = c.facts_are_read.ensures.sound; complete = c.facts_are_read.ensures.complete })
    c.args.bytes.now c.args.tokens.now c.args.written.now (proc c.args.process.now) c.requires.tokens c.requires.written c.requires.process c.args.led.now
    _ c.requires.led some c.in_ok-spoken.ensures _ c.in_ok-found.ensures.shown

pub join_facts-requires-clause-none : goal.join_facts-requires-clause-none
join_facts-requires-clause-none c = λ none. none_ranked (record { tokens = c.one_parting.ensures.tokens; cuts = c.one_parting.ensures.items; items = c.one_list_of_items.ensures.own }) c.spans_in_order.ensures
    (record { sound = c.facts_are_read.ensures.sound; complete = c.facts_are_read.ensures.complete })
    c.args.bytes.now c.args.tokens.now c.args.written.now (proc c.args.process.now) c.requires.tokens c.requires.written c.requires.process c.args.led.now
    [] none [] refl
