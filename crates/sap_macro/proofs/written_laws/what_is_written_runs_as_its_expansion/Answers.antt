use Rattle.sap_terms.specs.Equations.{equations}
use Rattle.sap_macro.proofs.GroundForms.{form_is_ground}
use Rattle.sap_macro.proofs.RunningTrees.{Setting, IsReady}
use Rattle.sap_macro.proofs.WrittenBack.{shown_as_written}
use Rattle.sap_macro.proofs.WrittenTraces.{shown_by_expansion}
use Rattle.sap_macro.proofs.written_laws.what_is_written_runs_as_its_expansion.Goals as goal

pub returns : goal.returns
returns c = λ g names ds p taken tr ordered all uses known closed own.
    let S : Setting =
    record {
      names = names;
      ds = ds;
      ordered = ordered;
      all = all;
      nothing_put = c.instances_of_processes.ensures.unchanged;
      g = g;
      ground_form = form_is_ground c.normal_forms_are_unique.ensures c.equality_is_kept.ensures (equations g);
    } in
    let ready : IsReady S p taken = record { closed = closed; uses = uses; own = own } in
    (shown_by_expansion S p taken ready tr, shown_as_written S p taken ready known tr)
