-- Terms with words before, between and behind them.
use Rattle.std.specs.Prelude.{ℕ, codes, List, [], ◌∷◌, ◌++◌}
use Rattle.sap_called.specs.Names.{Draw}
use Rattle.sap_grammar.specs.Pieces.{joined}
use Rattle.sap_tell.specs.Said.{beside}
use Rattle.sap_tell.specs.ToldText.{term_told}
use Rattle.sap_terms.specs.Tree.{Tree}
use Rattle.sap_terms.specs.View.{tree}
use Rattle.sap_teller.specs.declared.said.Two.{Two}

-- terms with words before, between and behind them
abbrev pub framed : List ℕ → List ℕ → List ℕ → List (List ℕ) → List ℕ
framed before between after ts = before ++ (joined between ts ++ after)

-- behind a word
abbrev pub behind_word : List ℕ → List (List ℕ) → List ℕ
behind_word word ts = word ++ beside ts

-- a key that is looked up for a variable
abbrev pub key_text : List ℕ → List (List ℕ) → List ℕ
key_text variable ts = codes "lookup " ++ (beside ts ++ (codes " as " ++ variable))

-- two terms, and their texts
abbrev pub trees_of_two : Two → List Tree
trees_of_two t = tree t.left.now ∷ tree t.right.now ∷ []

abbrev pub told_two : List Draw → Two → List (List ℕ)
told_two ds t = term_told ds (tree t.left.now) ∷ term_told ds (tree t.right.now) ∷ []
