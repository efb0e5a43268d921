use Rattle.sap_macro.specs.Sources.{definitions, written}
use Rattle.sap_uses.proofs.Heads.{met_act, met_lookup, met_parallel, met_replicated, met_test}
use Rattle.sap_uses.proofs.met.met_first.Goals as goal

pub returns-in-Rep : goal.returns-in-Rep
returns-in-Rep c = rw (c.in-Rep.is, c.deref.ensures) (met_replicated (definitions c.args.defs.now) (written c.in-Rep.p.value))

pub returns-in-Act : goal.returns-in-Act
returns-in-Act c = rw (c.in-Act.is, c.deref-in-Act.ensures) (met_act (definitions c.args.defs.now) _ (written c.in-Act.p.value))

pub returns-in-Par : goal.returns-in-Par
returns-in-Par c =
    rw (c.in-Par.is, c.deref-in-Par.ensures, c.deref-in-Par-2.ensures)
    (met_parallel (definitions c.args.defs.now) (written c.in-Par.p.value) (written c.in-Par.q.value))

pub returns-in-If : goal.returns-in-If
returns-in-If c =
    rw (c.in-If.is, c.deref-in-If.ensures, c.deref-in-If-2.ensures)
    (met_test (definitions c.args.defs.now) _ _ (written c.in-If.p.value) (written c.in-If.q.value))

pub returns-in-Lookup : goal.returns-in-Lookup
returns-in-Lookup c =
    rw (c.in-Lookup.is, c.deref-in-Lookup.ensures, c.deref-in-Lookup-2.ensures)
    (met_lookup (definitions c.args.defs.now) _ _ (written c.in-Lookup.p.value) (written c.in-Lookup.q.value))
