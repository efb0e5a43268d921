use Rattle.sap_derive.specs.declared.clause.Clause.{Clause}
use Rattle.sap_derive.proofs.Brought.{added-numbered, added-has}
use Rattle.sap_derive.proofs.Pushed.{pushed-keeps}
use Rattle.sap_derive.proofs.bring.add.Goals as goal

pub returns-clause-numbered : goal.returns-clause-numbered
returns-clause-numbered c =
    let clause : Clause = record { line = c.args.line; gives = c.args.gives } in
    added-numbered c.args.table.now.sig c.args.table.now.trees c.args.closure.now.clauses c.add.new.self.clauses clause c.add.result c.add.ensures.ok c.add.ensures.err c.requires.numbered c.requires.this

pub returns-clause-adds : goal.returns-clause-adds
returns-clause-adds c =
    let clause : Clause = record { line = c.args.line; gives = c.args.gives } in
    let kept = pushed-keeps c.args.closure.now.clauses c.add.new.self.clauses clause c.add.result c.add.ensures.ok c.add.ensures.err in
    record { kept = kept.items; known = c.add.ensures.known; ways = c.add.ensures.ways }

pub returns-clause-has : goal.returns-clause-has
returns-clause-has c =
    let clause : Clause = record { line = c.args.line; gives = c.args.gives } in
    added-has c.args.table.now.trees c.args.closure.now.clauses c.add.new.self.clauses clause c.add.result c.add.ensures.ok
