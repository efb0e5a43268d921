use Rattle.sap_process.specs.Proc.{proc}
use Rattle.sap_macro.specs.Sources.{definitions, written}
use Rattle.sap_macro.proofs.Watched.{watched_nothing, watched_one, watched_two, watched_use}
use Rattle.sap_macro.proofs.seeing.+see.Goals as goal

pub returns-in_ok-made-in-Nothing : goal.returns-in_ok-made-in-Nothing
returns-in_ok-made-in-Nothing t c =
    watched_nothing (definitions c.args.defs.now) (written c.form_of-form.result.now) (written c.args.source.now) c.form_of-form.ensures.same
    (proc c.in_ok-made-in-Nothing.made.value) c.in-Nothing.ensures c.in_ok-made-in-Nothing.ensures

pub returns-in_ok-made-in-Use : goal.returns-in_ok-made-in-Use
returns-in_ok-made-in-Use t c =
    watched_use (definitions c.args.defs.now) (written c.form_of-form.result.now) (written c.args.source.now) c.form_of-form.ensures.same
    c.in-Use.name.now c.in-Use.args.now (proc c.in_ok-made-in-Use.made.value) c.in-Use.ensures c.form_of-form.ensures.formed c.in_ok-made-in-Use.ensures

pub returns-in_ok-made-in-One : goal.returns-in_ok-made-in-One
returns-in_ok-made-in-One t c =
    watched_one (definitions c.args.defs.now) (written c.form_of-form.result.now) (written c.args.source.now) c.form_of-form.ensures.same
    c.args.s.now (written c.in-One.p.now) (proc c.in_ok-next-in-One.next.value) (proc c.in_ok-made-in-One.made.value) c.requires.nothing
    c.in-One.ensures c.in_ok-next-in-One.ensures c.in_ok-made-in-One.ensures

pub returns-in_ok-made-in-Two : goal.returns-in_ok-made-in-Two
returns-in_ok-made-in-Two t c =
    watched_two (definitions c.args.defs.now) (written c.form_of-form.result.now) (written c.args.source.now) c.form_of-form.ensures.same
    c.args.s.now (written c.in-Two.p.now) (written c.in-Two.q.now) (proc c.in_ok-left-in-Two.left.value) (proc c.in_ok-right-in-Two.right.value)
    (proc c.in_ok-made-in-Two.made.value) c.requires.nothing c.in-Two.ensures c.in_ok-left-in-Two.ensures c.in_ok-right-in-Two.ensures c.in_ok-made-in-Two.ensures
