-- Facts that are replaced by others, each at once, until none can be; and that it makes no difference which were replaced before.
use Rattle.std.specs.Prelude.{◌≡◌, ℕ, List, [], ◌∷◌, ◌++◌}
use Rattle.sap_terms.specs.Tree.{Tree}
use Rattle.sap_terms.specs.declared.fact.Fact.{Fact}
use Rattle.sap_attacks.specs.Alike.{AreAlike}

-- a use of a rule: its name, and what its variables stand for, in order
pub record Use : Type 0 where
  pub name : List ℕ
  pub terms : List Tree

-- by such uses facts are replaced: `U f u more` is read, the use u takes the fact f alone and adds these
abbrev pub Replacing : Type 1
Replacing = Fact → Use → List Fact → Type 0

-- the second facts are the first with each that can be replaced replaced, until none can; these were the uses
pub data Settles (U : Replacing) : List Fact → List Fact → List Use → Type 0 where
  nothing_left : Settles U [] [] []
  stays : {fs hs : List Fact} {us : List Use} (f : Fact) → ((u : Use) (more : List Fact) → ¬ U f u more) → Settles U fs hs us
      → Settles U (f ∷ fs) (f ∷ hs) us
  goes_on : {fs hs : List Fact} {us : List Use} (f : Fact) (u : Use) (more : List Fact) → U f u more → Settles U (more ++ fs) hs us
      → Settles U (f ∷ fs) hs (u ∷ us)

-- a fact is replaced in one way at most
abbrev pub IsReplacedInOneWay : Replacing → Type 0
IsReplacedInOneWay U =
    (f : Fact) (u v : Use) (more others : List Fact) → U f u more → U f v others → (u ≡ v) × (more ≡ others)

-- the facts settle to these by these uses, up to order
pub record SettlesAlike (U : Replacing) (fs hs : List Fact) (us : List Use) : Type 0 where
  pub settled : List Fact
  pub uses : List Use
  pub settles : Settles U fs settled uses
  pub facts : AreAlike hs settled
  pub same_uses : AreAlike us uses

-- the order of facts makes no difference: what settles, settles in any order, to the same facts by the same uses
abbrev pub OrderDoesNotMatter : Replacing → Type 0
OrderDoesNotMatter U =
    (fs gs hs : List Fact) (us : List Use) → Settles U fs hs us → AreAlike fs gs → SettlesAlike U gs hs us

-- and where each is replaced in one way at most, facts settle to one list, by the same uses
abbrev pub SettledFactsAreOne : Replacing → Type 0
SettledFactsAreOne U =
    (fs gs hs ks : List Fact) (us vs : List Use) → IsReplacedInOneWay U → AreAlike fs gs → Settles U fs hs us
    → Settles U gs ks vs → AreAlike hs ks × AreAlike us vs

-- Facts are replaced one by one, in any order and not to the end: these become those, by these uses.
pub data Becomes (U : Replacing) : List Fact → List Fact → List Use → Type 0 where
  stop : {fs hs : List Fact} → AreAlike fs hs → Becomes U fs hs []
  replaced : {fs hs : List Fact} {us : List Use} (f : Fact) (u : Use) (more rest : List Fact) → U f u more
      → AreAlike fs (f ∷ rest) → Becomes U (more ++ rest) hs us → Becomes U fs hs (u ∷ us)

-- whichever were replaced before, the facts settle to the same: those uses and the further ones are what settling does at once
abbrev pub EarlyUsesDoNotMatter : Replacing → Type 0
EarlyUsesDoNotMatter U =
    (fs gs hs : List Fact) (us vs : List Use) → Becomes U fs gs us → Settles U gs hs vs
    → SettlesAlike U fs hs (us ++ vs)

-- and where each is replaced in one way at most and the facts settle, what some of them became settles to the same, by what is left
-- of the uses
abbrev pub EarlyUsesAreAmongThem : Replacing → Type 0
EarlyUsesAreAmongThem U =
    (fs gs hs : List Fact) (us vs : List Use) → IsReplacedInOneWay U → Becomes U fs gs us → Settles U fs hs vs
    → (ks : List Fact) × (ws : List Use) × Settles U gs ks ws × AreAlike hs ks × AreAlike vs (us ++ ws)

-- settling is such a replacing
abbrev pub SettledFactsBecome : Replacing → Type 0
SettledFactsBecome U = (fs hs : List Fact) (us : List Use) → Settles U fs hs us → Becomes U fs hs us
