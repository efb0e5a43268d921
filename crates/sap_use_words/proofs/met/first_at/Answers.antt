use Rattle.std.proofs.Common.{refl, ap}
use Rattle.sap_macro.specs.Sources.{definitions, doing, located, written}
use Rattle.sap_origin.specs.Definitions.{located_definitions}
use Rattle.sap_use_words.proofs.Walking.{met_act, met_lookup, met_nil, met_parallel, met_replicated, met_test}
use Rattle.sap_use_words.proofs.met.first_at.Goals as goal

pub returns-in-Nil : goal.returns-in-Nil
returns-in-Nil c = λ us.
    met_nil (located_definitions c.args.defs.now c.args.behind.now) (definitions c.args.defs.now) c.args.behind_source us c.args.source.now c.in-Nil.field-0 (ap located c.in-Nil.is)

pub returns-in-Rep : goal.returns-in-Rep
returns-in-Rep c = λ us.
    met_replicated (located_definitions c.args.defs.now c.args.behind.now) (definitions c.args.defs.now) c.args.behind_source us c.args.source.now c.in-Rep.p.value
    (record { source = c.deref.result; behind = c.args.behind_source }) c.in-Rep.field-0 (ap located c.in-Rep.is) (ap written c.in-Rep.is) refl c.deref.ensures

pub returns-in-Act : goal.returns-in-Act
returns-in-Act c = λ us.
    met_act (located_definitions c.args.defs.now c.args.behind.now) (definitions c.args.defs.now) c.args.behind_source us c.args.source.now c.in-Act.p.value
    (record { source = c.deref-in-Act.result; behind = c.args.behind_source }) c.in-Act.field-0 (doing c.in-Act.field-1.value) (ap located c.in-Act.is) (ap written c.in-Act.is) refl
    c.deref-in-Act.ensures

pub returns-in-Par : goal.returns-in-Par
returns-in-Par c = λ us.
    met_parallel (located_definitions c.args.defs.now c.args.behind.now) (definitions c.args.defs.now) c.args.behind_source us c.args.source.now c.in-Par.p.value c.in-Par.q.value
    (record { source = c.deref-in-Par.result; behind = c.args.behind_source }) (record { source = c.deref-in-Par-2.result; behind = c.args.behind_source }) _ (ap located c.in-Par.is)
    (ap written c.in-Par.is) refl c.deref-in-Par.ensures refl c.deref-in-Par-2.ensures

pub returns-in-If : goal.returns-in-If
returns-in-If c = λ us.
    met_test (located_definitions c.args.defs.now c.args.behind.now) (definitions c.args.defs.now) c.args.behind_source us c.args.source.now c.in-If.p.value c.in-If.q.value
    (record { source = c.deref-in-If.result; behind = c.args.behind_source }) (record { source = c.deref-in-If-2.result; behind = c.args.behind_source }) _ _ _ (ap located c.in-If.is)
    (ap written c.in-If.is) refl c.deref-in-If.ensures refl c.deref-in-If-2.ensures

pub returns-in-Lookup : goal.returns-in-Lookup
returns-in-Lookup c = λ us.
    met_lookup (located_definitions c.args.defs.now c.args.behind.now) (definitions c.args.defs.now) c.args.behind_source us c.args.source.now c.in-Lookup.p.value c.in-Lookup.q.value
    (record { source = c.deref-in-Lookup.result; behind = c.args.behind_source }) (record { source = c.deref-in-Lookup-2.result; behind = c.args.behind_source }) _ _ _
    (ap located c.in-Lookup.is) (ap written c.in-Lookup.is) refl c.deref-in-Lookup.ensures refl c.deref-in-Lookup-2.ensures
