-- The pieces of the text of a run.
use Rattle.std.proofs.Common.{◌≡◌, ℕ, false, List, [], ◌∷◌, ◌++◌, append_assoc, ap, ◌∙◌}
use Rattle.std.specs.Prelude.{codes}
use Rattle.json.specs.Print.{quoted}
use Rattle.serde_json.specs.Data.{Data}
use Rattle.serde_json.specs.View.{items_of}
use Rattle.serde_json.specs.Written.{compact_text, items_text}
use Rattle.sap_json.specs.RunValues.{run_object}
use Rattle.sap_json.specs.code.Texts.{head_text}

regroup : (a k s x : List ℕ) → (123 ∷ (a ++ (58 ∷ (k ++ (44 ∷ (s ++ (58 ∷ 91 ∷ []))))))) ++ x ≡ 123 ∷ (a ++ (58 ∷ (k ++ (44 ∷ (s ++ (58 ∷ 91 ∷ x))))))
regroup a k s x = simp append_assoc

pub run_pieces : (text kind : List ℕ) (ds : List Data) → ((text ++ head_text kind) ++ items_text false (items_of ds)) ++ (125 ∷ []) ≡ text ++ compact_text (run_object kind ds)
run_pieces text kind ds =
    let items = items_text false (items_of ds) in
    append_assoc (text ++ head_text kind) items (125 ∷ [])
    ∙ (append_assoc text (head_text kind) (items ++ (125 ∷ [])) ∙ ap (λ y. text ++ y) (regroup (quoted (codes "kind")) (quoted kind) (quoted (codes "steps")) (items ++ (125 ∷ []))))
