use Rattle.sap_macro.proofs.Endings.{ends_of_body, named_body, own_of_body}
use Rattle.sap_macro.proofs.ends.end_at.Goals as goal

pub end_from-requires-clause-before : goal.end_from-requires-clause-before
end_from-requires-clause-before c = named_body c.args.defs.now c.args.ends.now c.len-k.result c.at.result.now c.deref.result.now c.requires.order c.len-k.ensures c.at.ensures c.deref.ensures

pub returns-in-None : goal.returns-in-None
returns-in-None c d at =
    own_of_body c.args.defs.now c.args.ends.now c.len-k.result c.at.result.now c.deref.result.now d c.len-k.ensures c.at.ensures c.deref.ensures c.in-None.ensures at

pub returns-in-Some : goal.returns-in-Some
returns-in-Some c d at =
    ends_of_body c.args.defs.now c.args.ends.now c.len-k.result c.at.result.now c.deref.result.now c.in-Some.m d c.len-k.ensures c.at.ensures c.deref.ensures c.in-Some.ensures at
