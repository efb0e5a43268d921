-- What is left of a file behind a piece.
use Rattle.std.proofs.Common.{◌≡◌, ◌+◌, ℕ, List, ◌++◌, take, drop, sym, ap, ◌∙◌}
use Rattle.std.proofs.lemmas.List.{drop-drop, take-append-drop}

-- what was left before it is the piece, and what is left behind it
pub piece_first : (z : List ℕ) (given count : ℕ) → drop given z ≡ take count (drop given z) ++ drop (given + count) z
piece_first z given count = sym (take-append-drop count (drop given z)) ∙ ap (λ y. take count (drop given z) ++ y) (drop-drop count given z)
