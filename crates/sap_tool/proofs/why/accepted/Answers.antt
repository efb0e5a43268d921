use Rattle.std.proofs.Common.{List, ℕ, ap, ◌∙◌}
use Rattle.std.specs.Prelude.{◌++◌}
use Rattle.sap_tool.specs.WhyTexts.{accepted_text}
use Rattle.sap_tool.proofs.why.accepted.Goals as goal

pub returns : goal.returns
returns c =
    let more = c.in_ok-push_notes.ensures in (
      more.0,
      more.1 ∙ ap (λ (first : List ℕ). first ++ more.0) (c.in_ok-push_bytes.ensures.ok ∙ ap (λ (none : List ℕ). none ++ accepted_text) c.new-text.ensures),
      more.2,
    )
