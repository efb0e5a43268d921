use Rattle.sap_process.specs.Proc.{proc}
use Rattle.sap_notes.proofs.Whole.{on_ok, words_ranked}
use Rattle.sap_notes.proofs.notes.word_notes.Goals as goal

pub returns : goal.returns
returns c =
    on_ok _ _ _
    (λ notes is. words_ranked (record { tokens = c.one_parting.ensures.tokens; cuts = c.one_parting.ensures.items; items = c.one_list_of_items.ensures.own }) c.spans_in_order.ensures
    c.args.bytes.now c.args.tokens.now c.args.written.now (proc c.args.process.now) c.requires.tokens c.requires.written c.requires.process _ _ c.in_ok-symbols.ensures c.requires.led notes is) c.found_notes.ensures
