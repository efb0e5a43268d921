-- The first word with which words begin nothing of their kind any more.
use Rattle.std.specs.Prelude.{◌<◌, ◌≤◌, ◌+◌, ℕ, List, ◌++◌, length, take}
use Rattle.sap_grammar.specs.Words.{Word}

-- the words go on to something of this kind
abbrev pub GoOn : (List Word → Type 0) → List Word → Type 0
GoOn Is ws = (rest : List Word) × Is (ws ++ rest)

-- the words aren't something of this kind; those before number k go on to such, and with that word they don't, or no word is left
pub record IsFirstWrong (Is : List Word → Type 0) (ws : List Word) (k : ℕ) : Type 0 where
  pub isnt : Is ws → ⊥
  pub inside : k ≤ length ws
  pub before : GoOn Is (take k ws)
  pub wrong : k < length ws → GoOn Is (take (k + 1) ws) → ⊥
