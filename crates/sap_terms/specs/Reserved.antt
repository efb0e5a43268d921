-- The fact names that rules and runs use themselves.
use Rattle.std.specs.Prelude.{ℕ, Bool, ◌||◌, nat_eq, codes, List, [], ◌∷◌}
use Rattle.std.specs.List.{list_any, starts_with}
use Rattle.std.specs.Str.{bytes_eq}

-- the names of facts that rules and runs use themselves
abbrev pub reserved_words : List (List ℕ)
reserved_words =
    codes "Init" ∷ codes "Event" ∷ codes "Eq" ∷ codes "NotEq" ∷ codes "Insert" ∷ codes "Delete"
    ∷ codes "IsIn" ∷ codes "IsNotSet"
    ∷ codes "Lock" ∷ codes "Unlock" ∷ codes "InEvent" ∷ codes "Msg" ∷ codes "Ack" ∷ codes "Fr"
    ∷ codes "In" ∷ codes "Out"
    ∷ codes "K" ∷ codes "KU" ∷ codes "KD" ∷ []

-- the name is one of these words, or begins as the name of a state fact does
abbrev pub is_reserved : List ℕ → Bool
is_reserved name =
    list_any (λ word. bytes_eq name word) reserved_words || starts_with nat_eq name (codes "State_")
    || starts_with nat_eq name (codes "Semi_")
