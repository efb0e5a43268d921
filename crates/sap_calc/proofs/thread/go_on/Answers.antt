use Rattle.std.proofs.Common.{◌≡◌, Some, ap, ◌∙◌}
use Rattle.std.specs.Prelude.{slice_set}
use Rattle.std.proofs.lemmas.Option.{get_or_from_slice_get}
use Rattle.sap_calc.specs.declared.thread.Thread.{Thread}
use Rattle.sap_calc.proofs.Numbered.{set_twice}
use Rattle.sap_calc.proofs.thread.go_on.Goals as goal

pub returns-in-Some : goal.returns-in-Some
returns-in-Some c = λ th h.
    let e = c.index_mut.ensures.value ∙ get_or_from_slice_get c.args.threads.now.items c.args.t (Some th) c.index_mut.result.now h in
    let i = c.in-Some.ensures.value in
    let same : c.in-Some.th ≡ th = cc in
    set_twice c.args.threads.now.items c.args.t _ _ ∙ ap (λ (x : Thread). slice_set c.args.threads.now.items c.args.t (Some (record { place = c.args.next; env = x.env }))) same

pub returns-in_default : goal.returns-in_default
returns-in_default c = λ th h.
    let e = c.index_mut.ensures.value ∙ get_or_from_slice_get c.args.threads.now.items c.args.t (Some th) c.index_mut.result.now h in
    let t = c.take-was.ensures.value in
    let is = c.in_default.is in
    cc
