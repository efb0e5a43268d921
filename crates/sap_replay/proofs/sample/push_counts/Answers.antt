use Rattle.std.proofs.Common.{◌≡◌, List, ℕ, ◌++◌, ap, subst, ◌∙◌, codes, OnOk}
use Rattle.sap_replay.specs.Sample.{count_line}
use Rattle.sap_replay.proofs.SampleCounts.{five_texts}
use Rattle.sap_replay.proofs.sample.push_counts.Goals as goal

pub returns : goal.returns
returns c =
    let a = count_line (codes "sample ") c.args.n in
    let b = count_line (codes "process steps ") c.args.lines in
    let d = count_line (codes "rule steps ") c.args.rule_lines in
    let e = count_line (codes "back steps ") c.args.back_lines in
    let f = count_line (codes "visible events ") c.args.shown in
    let two = c.in_ok-push_count-2.ensures ∙ ap (λ y. y ++ b) c.in_ok-push_count.ensures in
    let four = c.in_ok-push_count-4.ensures ∙ ap (λ y. y ++ e) (c.in_ok-push_count-3.ensures ∙ ap (λ y. y ++ d) two) in
    subst (λ (y : List ℕ). OnOk c.push_count-5.result (c.push_count-5.new.text ≡ y)) (ap (λ y. y ++ f) four ∙ five_texts c.args.text.now a b d e f) c.push_count-5.ensures
