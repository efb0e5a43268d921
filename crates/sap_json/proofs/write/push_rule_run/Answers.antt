use Rattle.std.proofs.Common.{◌≡◌, List, ℕ, [], ◌∷◌, ◌++◌, false, OnOk, map, ap, subst, ◌∙◌}
use Rattle.serde_json.specs.Written.{items_text}
use Rattle.sap_runs.specs.declared.rule_step.RStep.{RStep}
use Rattle.sap_run_texts.specs.RunTexts.{rule_head}
use Rattle.sap_json.specs.Written.{rule_data}
use Rattle.sap_json.specs.code.Texts.{rule_items, head_text}
use Rattle.sap_json.proofs.RunPieces.{run_pieces}
use Rattle.sap_json.proofs.write.push_rule_run.Goals as goal

pub returns : goal.returns
returns c =
    let items = items_text false (rule_items c.as_slice.result.now) in
    let pushed = c.in_ok-push_rule_items.ensures ∙ ap (λ (y : List ℕ). y ++ items) c.in_ok-push_head.ensures ∙ ap (λ (ss : List RStep). (c.args.text.now ++ head_text rule_head) ++ items_text false (rule_items ss)) c.as_slice.ensures in
    let line = ap (λ (y : List ℕ). y ++ 125 ∷ []) pushed ∙ run_pieces c.args.text.now rule_head (map rule_data c.args.steps.now) in
    subst (λ (y : List ℕ). OnOk c.push_bytes.result (c.push_bytes.new.self ≡ y)) line c.push_bytes.ensures.ok
