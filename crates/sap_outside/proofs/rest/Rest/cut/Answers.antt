use Rattle.std.proofs.Common.{◌≡◌, ◌+◌, ◌++◌, take, drop, sym, ap, ◌∙◌, arith}
use Rattle.std.proofs.lemmas.Grind.{common_steps}
use Rattle.sap_outside.proofs.Rests.{piece_first}
use Rattle.sap_outside.proofs.rest.Rest.cut.Goals as goal

pub returns-clause-parts : goal.returns-clause-parts
returns-clause-parts c =
    let count = c.min-count.result in
    let given = c.self.inside.given in
    let bytes = c.self.inside.bytes.items in
    let part : c.in_ok-part.part.items ≡ take count (drop given bytes) = grind (arith, common_steps) in
    sym c.self.view_is ∙ piece_first bytes given count ∙ ap (λ y. y ++ drop (given + count) bytes) (sym part)
