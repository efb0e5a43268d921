use Rattle.sap_macro.specs.Sources.{definitions, written}
use Rattle.sap_macro.proofs.Endings.{end_is, names_all, own_end, stands_within}
use Rattle.sap_macro.proofs.ends.end_of.Goals as goal

pub end_from-requires-clause-before : goal.end_from-requires-clause-before
end_from-requires-clause-before c = names_all (definitions c.args.defs.now) c.args.ends.now (written c.args.source.now) c.requires.ends

pub at-requires : goal.at-requires
at-requires c = stands_within c.args.defs.now (written c.args.source.now) c.in-Some.m c.in-Some.ensures

pub returns-in-None : goal.returns-in-None
returns-in-None c = own_end (definitions c.args.defs.now) (written c.args.source.now) c.in-None.ensures

pub returns-in-Some : goal.returns-in-Some
returns-in-Some c =
    end_is c.args.defs.now (written c.args.source.now) c.in-Some.m c.at.result.now c.deref.result.now c.in-Some.ensures c.at.ensures c.deref.ensures
