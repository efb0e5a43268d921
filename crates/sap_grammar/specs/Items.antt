-- Items of a file or a theory, over what an item is and which words spell one.
use Rattle.std.specs.Prelude.{◌≡◌, ℕ, codes, List, [], ◌∷◌, ◌++◌}
use Rattle.sap_grammar.specs.Words.{Word, mark}
use Rattle.sap_grammar.specs.Cut.{Placed, words, first_line}
use Rattle.sap_grammar.specs.Declarations.{Declaration}

-- an item and the line of its first token
pub record Standing (V : Type 0) : Type 0 where
  pub item : V
  pub line : ℕ

-- what items declare, in order
abbrev pub declared_by_all : {V : Type 0} → (V → List Declaration) → List (Standing V)
    → List Declaration
declared_by_all declared_by [] = []
declared_by_all declared_by (i ∷ is) = declared_by i.item ++ declared_by_all declared_by is

-- `end` alone
abbrev pub IsEnd : List Placed → Type 0
IsEnd i = words i ≡ mark (codes "end") ∷ []

-- each of these is an item, but for the last, which is `end`
pub data AreItems {V : Type 0} (Spells : V → List Word → Type 0)
    : List (List Placed) → List (Standing V) → Type 0 where
  items_end : {i : List Placed} → IsEnd i → AreItems Spells (i ∷ []) []
  items_more : {i : List Placed} {is : List (List Placed)} {v : V} {vs : List (Standing V)}
      → Spells v (words i) → AreItems Spells is vs
      → AreItems Spells (i ∷ is) (record { item = v; line = first_line i } ∷ vs)

-- The first fault is on this line: that of the first word of what is no item, or, where only `end` is missing, that of the last
-- word of all.
pub data IsFaulty (IsItem : List Word → Type 0) (last : ℕ) : List (List Placed) → ℕ → Type 0 where
  no_end : IsFaulty IsItem last [] last
  bad_item : {i : List Placed} {is : List (List Placed)} → (IsItem (words i) → ⊥)
      → (IsEnd i → is ≡ [] → ⊥) → IsFaulty IsItem last (i ∷ is) (first_line i)
  later_item : {i : List Placed} {is : List (List Placed)} {n : ℕ} → IsItem (words i)
      → IsFaulty IsItem last is n → IsFaulty IsItem last (i ∷ is) n
