-- What may stand behind words of a file.
use Rattle.std.specs.Prelude.{◌≡◌, true, List, [], ◌∷◌, ◌++◌}
use Rattle.std.specs.List.{All}
use Rattle.sap_grammar.specs.Words.{Word}
use Rattle.sap_expect.specs.FileWords.{IsFileWords}
use Rattle.sap_expect.specs.Kinds.{Kind, is_of, kinds}

-- behind the words and this one some words make a file
abbrev pub MayStand : List Word → Word → Type 0
MayStand ws w = (rest : List Word) × IsFileWords (ws ++ w ∷ rest)

-- so of all words of the kind
abbrev pub KindMayStand : List Word → Kind → Type 0
KindMayStand ws k = (w : Word) → is_of k w ≡ true → MayStand ws w

-- each word of the first kind is one of the second
abbrev pub IsWithin : Kind → Kind → Type 0
IsWithin k j = (w : Word) → is_of k w ≡ true → is_of j w ≡ true

-- behind the words all words of the kind may stand, and no kind before it says so too: one of which it is part, and that may stand
pub record IsNamed (ws : List Word) (before : List Kind) (k : Kind) : Type 0 where
  pub stands : KindMayStand ws k
  pub widest : All (λ j. IsWithin k j → KindMayStand ws j → ⊥) before

-- of these kinds those that are such, where those before them are given, in their order
pub data AreThose (Is : List Kind → Kind → Type 0) : List Kind → List Kind → List Kind → Type 0 where
  none_left : {before : List Kind} → AreThose Is before [] []
  this_is : {before ks those : List Kind} {k : Kind} → Is before k → AreThose Is (before ++ k ∷ []) ks those
      → AreThose Is before (k ∷ ks) (k ∷ those)
  this_isnt : {before ks those : List Kind} {k : Kind} → (Is before k → ⊥) → AreThose Is (before ++ k ∷ []) ks those
      → AreThose Is before (k ∷ ks) those

-- the kinds of what may stand behind the words
abbrev pub IsWantedList : List Word → List Kind → Type 0
IsWantedList ws those = AreThose (IsNamed ws) [] kinds those
