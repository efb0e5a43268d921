use Rattle.std.proofs.Common.{List, ℕ, ◌++◌, ap, ◌∙◌}
use Rattle.sap_replay.specs.Sample.{counts_text}
use Rattle.sap_replay.proofs.SampleTold.{told_of_sample}
use Rattle.sap_replay.proofs.sample.converted.Goals as goal

pub returns : goal.returns
returns c =
    let found : List ℕ = counts_text c.args.n c.len.result c.len-2.result c.len-3.result c.in_ok-shown.shown in
    c.in_ok-push_counts.ensures ∙ (ap (λ y. y ++ found) c.new-text.ensures
    ∙ ((λ i. counts_text c.args.n (c.len.ensures i) (c.len-2.ensures i) (c.len-3.ensures i) c.in_ok-shown.shown)
    ∙ told_of_sample _ _ c.args.n c.requires.some c.args.run.now c.requires.lines _ _ _ c.in_ok-shown.ensures c.in_ok-rules.ensures c.in_ok-back.ensures))
