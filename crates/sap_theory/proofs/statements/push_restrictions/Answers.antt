use Rattle.std.proofs.Common.{◌<◌, ◌+◌, ◌++◌, length, drop, refl, ap, ◌∙◌, arith}
use Rattle.std.specs.List.{flat_map}
use Rattle.std.proofs.lemmas.Option.{slice_get_read}
use Rattle.sap_theory.specs.StatementText.{restriction_text}
use Rattle.sap_grammar.proofs.ReadingLaws.Pushed.{flat_map-next}
use Rattle.sap_theory.proofs.statements.push_restrictions.Goals as goal

pub loop-restriction-preserved : goal.loop-restriction-preserved
loop-restriction-preserved c =
    let rs = c.as_slice-restriction-items.result.now in
    let k = c.loop-restriction.restriction-index in
    let r = c.restriction-item.result in
    let inside : k < length rs = omega arith in
    ap (λ z. z ++ flat_map restriction_text (drop (k + 1) rs)) c.in_ok-push_restriction.ensures
    ∙ (flat_map-next restriction_text c.loop-restriction.text rs k r (slice_get_read rs (length rs) k r refl inside c.restriction-item.is)
    ∙ c.loop-restriction.invariant)
