-- The words of a formula as it is printed, before other words.
use Rattle.std.specs.Prelude.{ℕ, false, nat_lt, codes, List, [], ◌∷◌}
use Rattle.sap_formula.specs.Form.{Form, truth, falsity, action, equal, same_time, earlier, negation, both, either, implies, equivalent, every, exists}
use Rattle.sap_formula.specs.declared.binder.Binder.{Binder}
use Rattle.sap_formula.specs.declared.binder.Binder.TheVariants.{Message, Time}
use Rattle.sap_grammar.specs.Words.{mark, name}
use Rattle.sap_grammar.specs.PrintedWords.{Before, enclosed, variable_words, term_words, fact_words}
use Rattle.sap_formula_text.specs.FormulaText.{strength}

abbrev pub binder_words : Binder → Before
binder_words (Message v) k = variable_words v.sort v.name k
binder_words (Time i) k = mark (codes "#") ∷ name i ∷ k

abbrev pub binders_words : List Binder → Before
binders_words [] k = k
binders_words (b ∷ bs) k = binder_words b (binders_words bs k)

abbrev pub placed_words : ℕ → Form → Before → Before
placed_words asked f words k = enclosed (nat_lt (strength f) asked) (codes "(") (codes ")") words k

-- a formula in a place that asks for so much strength
abbrev pub form_words : ℕ → Form → Before
form_words asked truth k = placed_words asked truth (λ k. name (codes "T") ∷ k) k
form_words asked falsity k = placed_words asked falsity (λ k. name (codes "F") ∷ k) k
form_words asked (action f i) k = placed_words asked (action f i) (λ k. fact_words f (mark (codes "@") ∷ name i ∷ k)) k
form_words asked (equal t u) k = placed_words asked (equal t u) (λ k. term_words false t (mark (codes "=") ∷ term_words false u k)) k
form_words asked (same_time i j) k =
    placed_words asked (same_time i j) (λ k. mark (codes "#") ∷ name i ∷ mark (codes "=") ∷ mark (codes "#") ∷ name j ∷ k) k
form_words asked (earlier i j) k =
    placed_words asked (earlier i j) (λ k. mark (codes "#") ∷ name i ∷ mark (codes "<") ∷ mark (codes "#") ∷ name j ∷ k) k
form_words asked (negation f) k = placed_words asked (negation f) (λ k. mark (codes "not") ∷ form_words 6 f k) k
form_words asked (both f h) k = placed_words asked (both f h) (λ k. form_words 4 f (mark (codes "&") ∷ form_words 5 h k)) k
form_words asked (either f h) k = placed_words asked (either f h) (λ k. form_words 3 f (mark (codes "|") ∷ form_words 4 h k)) k
form_words asked (implies f h) k = placed_words asked (implies f h) (λ k. form_words 3 f (mark (codes "==>") ∷ form_words 2 h k)) k
form_words asked (equivalent f h) k = placed_words asked (equivalent f h) (λ k. form_words 2 f (mark (codes "<=>") ∷ form_words 2 h k)) k
form_words asked (every bs f) k = placed_words asked (every bs f) (λ k. mark (codes "All") ∷ binders_words bs (mark (codes ".") ∷ form_words 0 f k)) k
form_words asked (exists bs f) k = placed_words asked (exists bs f) (λ k. mark (codes "Ex") ∷ binders_words bs (mark (codes ".") ∷ form_words 0 f k)) k
