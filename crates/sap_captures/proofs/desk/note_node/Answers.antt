use Rattle.std.proofs.Common.{◌≤◌, ◌∙◌, Bool, true, List, length, ap, arith}
use Rattle.std.proofs.lemmas.List.{length-set}
use Rattle.sap_captures.specs.code.Marks.{IsIndexAt}
use Rattle.sap_captures.proofs.Growing.{grown_answer, grown_told}
use Rattle.sap_captures.proofs.desk.note_node.Goals as goal

pub returns-in-None-clause-grown : goal.returns-in-None-clause-grown
returns-in-None-clause-grown c = λ path trail.
    grown_answer (λ i. IsIndexAt c.args.desk.now c.args.kind path c.args.node i) c.args.flags.now c.in_ok-index_at.field-0 (c.in_ok-index_at.ensures.is path trail) c.in-None.is

pub returns-in-Some-clause-grown : goal.returns-in-Some-clause-grown
returns-in-Some-clause-grown c = λ path trail.
    let room = c.requires.room in
    let small : c.in-Some.i ≤ length c.args.desk.now.tokens.now = rw c.in-Some.is at c.in_ok-index_at.ensures.small in
    grown_told (λ i. IsIndexAt c.args.desk.now c.args.kind path c.args.node i) c.args.flags.now c.set.new.self c.in_ok-index_at.field-0 c.in-Some.i (c.in_ok-index_at.ensures.is path trail) c.in-Some.is (omega (arith, room, small)) c.set.ensures

pub returns-in-Some-clause-same : goal.returns-in-Some-clause-same
returns-in-Some-clause-same c = ap (λ (fs : List Bool). length fs) c.set.ensures ∙ length-set c.args.flags.now c.in-Some.i true
