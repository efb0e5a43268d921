use Rattle.std.proofs.Common.{refl}
use Rattle.std.proofs.lemmas.Result.{on_ok_weaker}
use Rattle.sap_process.specs.Places.{place}
use Rattle.sap_process.specs.Proc.{proc}
use Rattle.sap_process.specs.Sites.{above_of}
use Rattle.sap_captures.proofs.Walking.{of_nodes}
use Rattle.sap_captures.proofs.walk.meet.Goals as goal

pub returns-clause-met : goal.returns-clause-met
returns-clause-met c = λ locks.
    let a = c.args.walk.now in
    on_ok_weaker c.note_place.result
    (λ g. record {
      trail = refl;
      scope = c.in_ok-meet_head.ensures.scope;
      flags = of_nodes c.args.desk.now c.args.kind (place a.trail (above_of a.binding.scope locks) (proc c.args.p.now)) c.meet_head.new.binding.nodes a.flags c.note_place.new.flags (c.in_ok-meet_head.ensures.nodes a.trail locks) g;
    })
    c.note_place.ensures.grown
