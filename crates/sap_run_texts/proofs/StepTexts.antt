-- The text of a step is its words, with one blank between each two.
use Rattle.std.proofs.Common.{◌≡◌, ℕ, List, [], ◌∷◌, ◌++◌, append_assoc, append-nil, map, refl, sym, ap, ◌∙◌}
use Rattle.std.specs.Prelude.{codes}
use Rattle.std.specs.List.{flat_map}
use Rattle.std.proofs.lemmas.Grind.{flat_map-append}
use Rattle.sap_terms.specs.declared.binding.Binding.{Binding}
use Rattle.sap_grammar.specs.Pieces.{joined}
use Rattle.sap_runs.specs.declared.process_step.PStep.{PStep}
use Rattle.sap_runs.specs.declared.process_step.PStep.TheVariants as process
use Rattle.sap_runs.specs.declared.rule_step.RStep.{RStep}
use Rattle.sap_runs.specs.declared.rule_step.RStep.TheVariants as rule
use Rattle.sap_run_lines.specs.LineWords.{LineWord, number, identifier, fresh_name}
use Rattle.sap_run_lines.specs.StepLines.{bound_word, plain, use_words, process_words, rule_words}
use Rattle.sap_run_lines.specs.LineText.{word_text, words_text}
use Rattle.sap_run_texts.specs.code.StepText.{numbers_text, binding_text, uses_text, process_step_text, rule_step_text}

-- words, each behind a blank
abbrev pub tail_text : List LineWord → List ℕ
tail_text ws = flat_map (λ w. codes " " ++ word_text w) ws

joined_front : (p : List ℕ) (ws : List LineWord) → joined (codes " ") (p ∷ map word_text ws) ≡ p ++ tail_text ws
joined_front p [] = sym (append-nil p)
joined_front p (w ∷ ws) = ap (λ y. p ++ (codes " " ++ y)) (joined_front (word_text w) ws) ∙ ap (λ y. p ++ y) (sym (append_assoc (codes " ") (word_text w) (tail_text ws)))

-- the first word, and the others each behind a blank
pub words_front : (w : LineWord) (ws : List LineWord) → words_text (w ∷ ws) ≡ word_text w ++ tail_text ws
words_front w ws = joined_front (word_text w) ws

tail_numbers : (ks : List ℕ) → tail_text (map number ks) ≡ numbers_text ks
tail_numbers [] = refl
tail_numbers (k ∷ ks) = ap (λ y. (codes " " ++ word_text (number k)) ++ y) (tail_numbers ks)

tail_bounds : (bs : List Binding) → tail_text (map bound_word bs) ≡ flat_map binding_text bs
tail_bounds [] = refl
tail_bounds (b ∷ bs) = ap (λ y. binding_text b ++ y) (tail_bounds bs)

tail_uses : (fs : List ℕ) (bs : List Binding) → tail_text (use_words fs bs) ≡ uses_text fs bs
tail_uses fs [] = flat_map-append (λ w. codes " " ++ word_text w) (map number fs) [] ∙ ap (λ y. y ++ []) (tail_numbers fs)
tail_uses fs (b ∷ bs) =
    flat_map-append (λ w. codes " " ++ word_text w) (map number fs) (identifier (codes "with") ∷ map bound_word (b ∷ bs))
    ∙ (ap (λ y. y ++ tail_text (identifier (codes "with") ∷ map bound_word (b ∷ bs))) (tail_numbers fs)
    ∙ ap (λ y. numbers_text fs ++ (codes " with" ++ y)) (tail_bounds (b ∷ bs)))

plain_text : (w : List ℕ) (ks : List ℕ) → w ++ numbers_text ks ≡ words_text (plain w ks)
plain_text w ks = sym (words_front (identifier w) (map number ks) ∙ ap (λ y. w ++ y) (tail_numbers ks))

apply_is : (f ks : List ℕ) → codes "app " ++ (f ++ numbers_text ks) ≡ words_text (identifier (codes "app") ∷ identifier f ∷ map number ks)
apply_is f ks = sym (ap (λ y. codes "app " ++ y) (words_front (identifier f) (map number ks) ∙ ap (λ y. f ++ y) (tail_numbers ks)))

rule_is : (name fs : List ℕ) (bs : List Binding) → codes "rule " ++ (name ++ uses_text fs bs) ≡ words_text (identifier (codes "rule") ∷ identifier name ∷ use_words fs bs)
rule_is name fs bs = sym (ap (λ y. codes "rule " ++ y) (words_front (identifier name) (use_words fs bs) ∙ ap (λ y. name ++ y) (tail_uses fs bs)))

embedded_is : (t : ℕ) (fs : List ℕ) (bs : List Binding) → codes "rule" ++ (numbers_text (t ∷ []) ++ uses_text fs bs) ≡ words_text (identifier (codes "rule") ∷ number t ∷ use_words fs bs)
embedded_is t fs bs =
    let own : numbers_text (t ∷ []) ≡ codes " " ++ word_text (number t) = append-nil (codes " " ++ word_text (number t)) in
    ap (λ y. codes "rule" ++ (y ++ uses_text fs bs)) own
    ∙ sym (words_front (identifier (codes "rule")) (number t ∷ use_words fs bs) ∙ ap (λ y. codes "rule" ++ ((codes " " ++ word_text (number t)) ++ y)) (tail_uses fs bs))

new_is : (t n : ℕ) → codes "new" ++ (numbers_text (t ∷ []) ++ (codes " " ++ word_text (fresh_name n))) ≡ words_text (identifier (codes "new") ∷ number t ∷ fresh_name n ∷ [])
new_is t n =
    let own : numbers_text (t ∷ []) ≡ codes " " ++ word_text (number t) = append-nil (codes " " ++ word_text (number t)) in
    ap (λ y. codes "new" ++ (y ++ (codes " " ++ word_text (fresh_name n)))) own ∙ ap (λ y. codes "new" ++ y) (append_assoc (codes " ") (word_text (number t)) (codes " " ++ word_text (fresh_name n)))

pub process_text : (s : PStep) → process_step_text s ≡ words_text (process_words s)
process_text (process.Nil t) = plain_text (codes "nil") (t ∷ [])
process_text (process.Par t) = plain_text (codes "par") (t ∷ [])
process_text (process.Rep t) = plain_text (codes "rep") (t ∷ [])
process_text (process.New t n) = new_is t n
process_text (process.Out t) = plain_text (codes "out") (t ∷ [])
process_text (process.Send t k) = plain_text (codes "send") (t ∷ k ∷ [])
process_text (process.In t k) = plain_text (codes "in") (t ∷ k ∷ [])
process_text (process.Sync s r) = plain_text (codes "sync") (s ∷ r ∷ [])
process_text (process.Then t) = plain_text (codes "then") (t ∷ [])
process_text (process.Else t) = plain_text (codes "else") (t ∷ [])
process_text (process.Event t) = plain_text (codes "event") (t ∷ [])
process_text (process.Insert t) = plain_text (codes "insert") (t ∷ [])
process_text (process.Delete t) = plain_text (codes "delete") (t ∷ [])
process_text (process.Found t) = plain_text (codes "found") (t ∷ [])
process_text (process.Missing t) = plain_text (codes "missing") (t ∷ [])
process_text (process.Lock t) = plain_text (codes "lock") (t ∷ [])
process_text (process.Unlock t) = plain_text (codes "unlock") (t ∷ [])
process_text (process.Embedded t facts bindings) = embedded_is t facts bindings
process_text (process.Name n) = refl
process_text (process.Public a) = refl
process_text (process.Apply f entries) = apply_is f entries
process_text (process.Know k) = plain_text (codes "know") (k ∷ [])

pub rule_text : (s : RStep) → rule_step_text s ≡ words_text (rule_words s)
rule_text (rule.Fresh n) = refl
rule_text (rule.Learn f) = plain_text (codes "learn") (f ∷ [])
rule_text (rule.Own f) = plain_text (codes "own") (f ∷ [])
rule_text (rule.Public a) = refl
rule_text (rule.Apply f entries) = apply_is f entries
rule_text (rule.Know k) = plain_text (codes "know") (k ∷ [])
rule_text (rule.Rule name facts bindings) = rule_is name facts bindings

pub ruleset step_texts = (process_text, rule_text)
