use Rattle.std.proofs.Common.{◌≡◌, Some, slice_get, subst}
use Rattle.sap_deduce.specs.Entries.{Entries}
use Rattle.sap_deduce.proofs.Numbered.{number-says}
use Rattle.sap_deduce.proofs.knowledge.Knowledge.number_at.Goals as goal

pub returns-clause-below : goal.returns-clause-below
returns-clause-below c =
    let at = subst (λ (e : Entries). slice_get e.numbers c.args.k ≡ Some c.number.result) c.self.view_is c.number.ensures in
    (number-says c.args.table.now c.args.self.now c.requires.numbered c.args.k c.number.result at).0

pub returns-clause-term : goal.returns-clause-term
returns-clause-term c =
    let at = subst (λ (e : Entries). slice_get e.numbers c.args.k ≡ Some c.number.result) c.self.view_is c.number.ensures in
    (number-says c.args.table.now c.args.self.now c.requires.numbered c.args.k c.number.result at).1
