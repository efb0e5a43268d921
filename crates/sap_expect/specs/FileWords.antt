-- Which words are a file's, whatever refuses it once its items are read.
use Rattle.std.specs.Prelude.{◌≡◌, ℕ, codes, List, [], ◌∷◌, ◌++◌}
use Rattle.sap_grammar.specs.Cut.{Placed, words}
use Rattle.sap_grammar.specs.Items.{IsEnd}
use Rattle.sap_grammar.specs.Words.{Word, mark, name}
use Rattle.sap_read.specs.ItemGrammar.{IsSomeItem}

-- items, each whole and under any signature, one behind the other, and `end` behind them
pub data AreItemWords : List Word → Type 0 where
  only_end : AreItemWords (mark (codes "end") ∷ [])
  one_item : {u a : List Word} → IsSomeItem u → AreItemWords a → AreItemWords (u ++ a)

-- `theory`, a name, `begin`, and such items
pub record IsFileWords (ws : List Word) : Type 0 where
  pub name_of : List ℕ
  pub items : List Word
  pub header : ws ≡ mark (codes "theory") ∷ name name_of ∷ mark (codes "begin") ∷ items
  pub are : AreItemWords items

-- each of these pieces is an item under some signature, but for the last, which is `end`
pub data AreSomeItems : List (List Placed) → Type 0 where
  some_end : {i : List Placed} → IsEnd i → AreSomeItems (i ∷ [])
  some_more : {i : List Placed} {is : List (List Placed)} → IsSomeItem (words i)
      → AreSomeItems is → AreSomeItems (i ∷ is)
