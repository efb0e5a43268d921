use Rattle.std.proofs.Common.{List, ℕ, ap, ◌∙◌}
use Rattle.std.specs.Prelude.{◌++◌}
use Rattle.sap_tool.proofs.WhyMeant.{refused_is}
use Rattle.sap_tool.proofs.why.refused.Goals as goal

pub push_explanation-requires-clause-refused : goal.push_explanation-requires-clause-refused
push_explanation-requires-clause-refused c = c.requires.refused c.in_ok-text.ensures.0

pub push_explanation-requires-clause-reached : goal.push_explanation-requires-clause-reached
push_explanation-requires-clause-reached c = c.requires.reached c.in_ok-text.ensures.0

pub returns : goal.returns
returns c =
    let more = c.in_ok-push_explanation.ensures in
    refused_is c.args.bytes.now _ more.0 c.args.fault.now c.requires.short (c.requires.refused c.in_ok-text.ensures.0) more.2
    (more.1 ∙ ap (λ (line : List ℕ). line ++ more.0) c.in_ok-text.ensures.1)
