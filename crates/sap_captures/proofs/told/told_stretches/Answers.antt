use Rattle.std.proofs.Common.{◌≡◌, List, length}
use Rattle.std.specs.Prelude.{IfOk}
use Rattle.sap_process.specs.Proc.{proc}
use Rattle.sap_stretches.specs.declared.stretch.Stretch.{Stretch}
use Rattle.sap_captures.specs.code.Flagged.{flagged}
use Rattle.sap_captures.proofs.Files.{desk_there}
use Rattle.sap_captures.proofs.AllTold.{all_told, told_in_order}
use Rattle.sap_captures.proofs.told.told_stretches.Goals as goal

pub flags_of-requires : goal.flags_of-requires
flags_of-requires c = record {
  desk = desk_there _ c.requires.tokens.only c.requires.written c.in_ok-index.ensures c.bodies_are_spelled.ensures c.some_head.ensures.parallel;
}

pub returns-clause-are : goal.returns-clause-are
returns-clause-are c =
    let told : IfOk c.stretches.result (λ ts. ◌≡◌ {A = List Stretch} ts (flagged c.args.tokens.now 0 c.in_ok-flags.flags)) = rw c.as_slice.ensures at c.stretches.ensures.are in
    all_told _ c.requires.tokens.only c.requires.written (proc c.args.process.now) c.requires.process c.one_parting.ensures.items c.one_list_of_items.ensures.own c.located_items.ensures.one c.args.kind
    c.in_ok-flags.flags c.in_ok-flags.ensures.flags c.stretches.result told

pub returns-clause-order : goal.returns-clause-order
returns-clause-order c =
    let told : IfOk c.stretches.result (λ ts. ◌≡◌ {A = List Stretch} ts (flagged c.args.tokens.now 0 c.in_ok-flags.flags)) = rw c.as_slice.ensures at c.stretches.ensures.are in
    told_in_order c.args.tokens.now (length c.args.bytes.now) c.in_ok-flags.flags (c.spans_in_order.ensures c.args.bytes.now c.args.tokens.now (_, c.requires.tokens.are)) c.in_ok-flags.ensures.count c.stretches.result told
