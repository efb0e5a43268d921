-- Symbols and the texts of their arguments.
use Rattle.std.proofs.Common.{◌≡◌, ◌≢◌, ◌<◌, ℕ, false, List, [], ◌∷◌, ◌++◌, length, map, refl, ap, append_assoc, arith}
use Rattle.std.specs.Prelude.{codes}
use Rattle.std.specs.Str.{bytes_eq}
use Rattle.sap_terms.specs.Tree.{Tree, trees_of}
use Rattle.sap_grammar.specs.Pieces.{joined}
use Rattle.sap_grammar.specs.TermText.{is_pair, term_texts, tree_text, applied}

-- a pair has two parts
pub is_pair-two : (f : List ℕ) (ts : List Tree) → length ts ≡ 2 → is_pair f (trees_of ts) ≡ bytes_eq f (codes "pair")
is_pair-two f [] e = cc
is_pair-two f (t ∷ []) e = cc
is_pair-two f (t ∷ u ∷ []) e = refl
is_pair-two f (t ∷ u ∷ v ∷ ts) e = absurd (omega arith)

pub is_pair-not_two : (f : List ℕ) (ts : List Tree) → length ts ≢ 2 → is_pair f (trees_of ts) ≡ false
is_pair-not_two f [] e = refl
is_pair-not_two f (t ∷ []) e = refl
is_pair-not_two f (t ∷ u ∷ []) e = absurd (e refl)
is_pair-not_two f (t ∷ u ∷ v ∷ ts) e = refl

term_texts-trees_of : (ts : List Tree) → term_texts (trees_of ts) ≡ map tree_text ts
term_texts-trees_of [] = refl
term_texts-trees_of (t ∷ ts) = ap (λ z. tree_text t ∷ z) (term_texts-trees_of ts)

-- a symbol on some terms, piece by piece behind a text
pub applied-behind : (text f : List ℕ) (ts : List Tree) → 0 < length ts
    → (((text ++ f) ++ codes "(") ++ joined (codes ",") (map tree_text ts)) ++ codes ")" ≡ text ++ applied f (term_texts (trees_of ts))
applied-behind text f [] h = absurd (omega arith)
applied-behind text f (t ∷ ts) h =
    let args = joined (codes ",") (map tree_text (t ∷ ts)) in
    rw (term_texts-trees_of ts, append_assoc ((text ++ f) ++ codes "(") args (codes ")"), append_assoc (text ++ f) (codes "(") (args ++ codes ")"), append_assoc text f (codes "(" ++ (args ++ codes ")"))) refl
