use Rattle.std.proofs.Common.{◌≡◌, List, ℕ, [], ◌∷◌, ◌++◌, append_assoc, OnOk, ap, subst, ◌∙◌}
use Rattle.sap_run_texts.specs.code.StepText.{process_step_text}
use Rattle.sap_run_texts.proofs.StepTexts.{process_text}
use Rattle.sap_run_texts.proofs.print.push_process_line.Goals as goal

pub returns-clause-text : goal.returns-clause-text
returns-clause-text c =
    let text = c.args.text.now in
    let s = c.args.step.now in
    let line = ap (λ y. y ++ 10 ∷ []) c.in_ok-push_process_step.ensures ∙ (append_assoc text (process_step_text s) (10 ∷ []) ∙ ap (λ y. text ++ (y ++ 10 ∷ [])) (process_text s)) in
    subst (λ (y : List ℕ). OnOk c.push_bytes.result (c.push_bytes.new.self ≡ y)) line c.push_bytes.ensures.ok
