use Rattle.std.proofs.Common.{sym}
use Rattle.sap_process.specs.Proc.{nil, proc}
use Rattle.sap_macro.specs.Expansion.{expanded_as}
use Rattle.sap_macro.specs.Sources.{definitions, written}
use Rattle.sap_macro.specs.code.Steps.{built}
use Rattle.sap_macro.proofs.Forms.{made_nothing, made_one, made_two, made_use}
use Rattle.sap_macro.proofs.building.+build_in.Goals as goal

pub returns-in_ok-made-in-Nothing-clause-made : goal.returns-in_ok-made-in-Nothing-clause-made
returns-in_ok-made-in-Nothing-clause-made t c =
    (made_nothing (definitions c.args.defs.now) c.args.s.now (written c.form_of-form.result.now) (written c.args.source.now)
    c.form_of-form.ensures.same c.args.chosen.now (proc c.in_ok-made-in-Nothing.made.value) c.in-Nothing.ensures c.in_ok-made-in-Nothing.ensures).0

pub returns-in_ok-made-in-Nothing-clause-taken : goal.returns-in_ok-made-in-Nothing-clause-taken
returns-in_ok-made-in-Nothing-clause-taken t c =
    (made_nothing (definitions c.args.defs.now) c.args.s.now (written c.form_of-form.result.now) (written c.args.source.now)
    c.form_of-form.ensures.same c.args.chosen.now (proc c.in_ok-made-in-Nothing.made.value) c.in-Nothing.ensures c.in_ok-made-in-Nothing.ensures).1

pub returns-in_ok-made-in-None-clause-made : goal.returns-in_ok-made-in-None-clause-made
returns-in_ok-made-in-None-clause-made t c =
    let none = rw c.in-None.is at c.in_ok-reached-in-Use.ensures.unknown in
    (made_use (definitions c.args.defs.now) c.args.s.now (written c.form_of-form.result.now) (written c.args.source.now)
    c.form_of-form.ensures.same c.args.chosen.now c.in-Use.name.now c.in-Use.args.now (proc c.in_ok-made-in-None.made.value) c.reached.new.chosen (expanded_as nil c.args.chosen.now)
    c.in-Use.ensures (sym none.0) c.in_ok-made-in-None.ensures none.1).0

pub returns-in_ok-made-in-None-clause-taken : goal.returns-in_ok-made-in-None-clause-taken
returns-in_ok-made-in-None-clause-taken t c =
    let none = rw c.in-None.is at c.in_ok-reached-in-Use.ensures.unknown in
    (made_use (definitions c.args.defs.now) c.args.s.now (written c.form_of-form.result.now) (written c.args.source.now)
    c.form_of-form.ensures.same c.args.chosen.now c.in-Use.name.now c.in-Use.args.now (proc c.in_ok-made-in-None.made.value) c.reached.new.chosen (expanded_as nil c.args.chosen.now)
    c.in-Use.ensures (sym none.0) c.in_ok-made-in-None.ensures none.1).1

pub returns-in_ok-made-in-Some-clause-made : goal.returns-in_ok-made-in-Some-clause-made
returns-in_ok-made-in-Some-clause-made t c =
    let same = rw c.in-Some.is at c.in_ok-reached-in-Use.ensures.same in
    (made_use (definitions c.args.defs.now) c.args.s.now (written c.form_of-form.result.now) (written c.args.source.now)
    c.form_of-form.ensures.same c.args.chosen.now c.in-Use.name.now c.in-Use.args.now (proc c.in_ok-made-in-Some.made.value) c.build_in.new.chosen
    (built (definitions c.args.defs.now) c.in-Some.inner (written c.in-Some.at.now) c.reached.new.chosen) c.in-Use.ensures same c.in_ok-made-in-Some.ensures.made
    c.in_ok-made-in-Some.ensures.taken).0

pub returns-in_ok-made-in-Some-clause-taken : goal.returns-in_ok-made-in-Some-clause-taken
returns-in_ok-made-in-Some-clause-taken t c =
    let same = rw c.in-Some.is at c.in_ok-reached-in-Use.ensures.same in
    (made_use (definitions c.args.defs.now) c.args.s.now (written c.form_of-form.result.now) (written c.args.source.now)
    c.form_of-form.ensures.same c.args.chosen.now c.in-Use.name.now c.in-Use.args.now (proc c.in_ok-made-in-Some.made.value) c.build_in.new.chosen
    (built (definitions c.args.defs.now) c.in-Some.inner (written c.in-Some.at.now) c.reached.new.chosen) c.in-Use.ensures same c.in_ok-made-in-Some.ensures.made
    c.in_ok-made-in-Some.ensures.taken).1

pub returns-in_ok-made-in-One-clause-made : goal.returns-in_ok-made-in-One-clause-made
returns-in_ok-made-in-One-clause-made t c =
    (made_one (definitions c.args.defs.now) c.args.s.now (written c.form_of-form.result.now) (written c.args.source.now)
    c.form_of-form.ensures.same c.args.chosen.now (written c.in-One.p.now) (proc c.in_ok-next-in-One.next.value) (proc c.in_ok-made-in-One.made.value) c.build_in-in-One.new.chosen
    c.in-One.ensures c.in_ok-next-in-One.ensures.made c.in_ok-next-in-One.ensures.taken c.in_ok-made-in-One.ensures).0

pub returns-in_ok-made-in-One-clause-taken : goal.returns-in_ok-made-in-One-clause-taken
returns-in_ok-made-in-One-clause-taken t c =
    (made_one (definitions c.args.defs.now) c.args.s.now (written c.form_of-form.result.now) (written c.args.source.now)
    c.form_of-form.ensures.same c.args.chosen.now (written c.in-One.p.now) (proc c.in_ok-next-in-One.next.value) (proc c.in_ok-made-in-One.made.value) c.build_in-in-One.new.chosen
    c.in-One.ensures c.in_ok-next-in-One.ensures.made c.in_ok-next-in-One.ensures.taken c.in_ok-made-in-One.ensures).1

pub returns-in_ok-made-in-Two-clause-made : goal.returns-in_ok-made-in-Two-clause-made
returns-in_ok-made-in-Two-clause-made t c =
    (made_two (definitions c.args.defs.now) c.args.s.now (written c.form_of-form.result.now) (written c.args.source.now)
    c.form_of-form.ensures.same c.args.chosen.now (written c.in-Two.p.now) (written c.in-Two.q.now) (proc c.in_ok-left-in-Two.left.value) (proc c.in_ok-right-in-Two.right.value)
    (proc c.in_ok-made-in-Two.made.value) c.build_in-in-Two.new.chosen c.build_in-in-Two-2.new.chosen c.in-Two.ensures c.in_ok-left-in-Two.ensures.made
    c.in_ok-left-in-Two.ensures.taken c.in_ok-right-in-Two.ensures.made c.in_ok-right-in-Two.ensures.taken c.in_ok-made-in-Two.ensures).0

pub returns-in_ok-made-in-Two-clause-taken : goal.returns-in_ok-made-in-Two-clause-taken
returns-in_ok-made-in-Two-clause-taken t c =
    (made_two (definitions c.args.defs.now) c.args.s.now (written c.form_of-form.result.now) (written c.args.source.now)
    c.form_of-form.ensures.same c.args.chosen.now (written c.in-Two.p.now) (written c.in-Two.q.now) (proc c.in_ok-left-in-Two.left.value) (proc c.in_ok-right-in-Two.right.value)
    (proc c.in_ok-made-in-Two.made.value) c.build_in-in-Two.new.chosen c.build_in-in-Two-2.new.chosen c.in-Two.ensures c.in_ok-left-in-Two.ensures.made
    c.in_ok-left-in-Two.ensures.taken c.in_ok-right-in-Two.ensures.made c.in_ok-right-in-Two.ensures.taken c.in_ok-made-in-Two.ensures).1
