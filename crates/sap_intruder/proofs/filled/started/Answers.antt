use Rattle.std.proofs.Common.{[], ap, length, subst, sym, ◌∙◌}
use Rattle.sap_deduce.specs.Entries.{terms_of}
use Rattle.sap_process.specs.Proc.{proc}
use Rattle.sap_intruder.specs.code.Filled.{IsFilledTo, IsTied}
use Rattle.sap_intruder.specs.declared.filling.Filling.{Filling}
use Rattle.sap_intruder.proofs.EachFilled.{filled_none}
use Rattle.sap_intruder.proofs.filled.started.Goals as goal

pub start-requires : goal.start-requires
start-requires c = c.annotations_are_ready.ensures.ready c.args.f.now.signature c.requires.process (proc c.args.f.now.process) c.requires.ready c.requires.annotation

pub returns-in_ok-new-in-Ok : goal.returns-in_ok-new-in-Ok
returns-in_ok-new-in-Ok c =
    let g = c.args.f.now.signature in
    let p = proc c.args.f.now.process in
    let config = c.in-Ok.config in
    let search = c.in_ok-search.search in
    let b : Filling = record { config = config; search = search; count = 0; lines = c.new-in-Ok.result } in
    let tied : IsTied b = record {
      sig = c.in_ok-search.ensures.0 ∙ sym c.in-Ok.ensures.sig;
      entries = c.in_ok-search.ensures.1 ∙ sym (ap terms_of c.in-Ok.ensures.known);
      count = sym (ap length c.in_ok-search.ensures.1);
    } in
    subst (λ (x : Filling). IsFilledTo g p [] x) (sym c.in_ok-new-in-Ok.ensures.ok)
    (filled_none g p b tied c.in-Ok.ensures.sig c.in-Ok.ensures.known c.in-Ok.ensures.configuration c.new-in-Ok.ensures)
