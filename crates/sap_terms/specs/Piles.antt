-- Numbered facts, and what is left of them when some are taken.
use Rattle.std.specs.Prelude.{◌≡◌, ℕ, List, [], ◌∷◌, ◌++◌, Option, Some, None, slice_get, slice_set, map, if◌then◌else◌}
use Rattle.sap_terms.specs.declared.fact.Fact.{Fact}

-- the facts by their numbers: none where one was taken
abbrev pub Pile : Type 0
Pile = List (Option Fact)

-- what is left once fact k, which is f, was used: a linear one is taken
abbrev pub used : Pile → ℕ → Fact → Pile
used facts k f = if f.persistent then facts else slice_set facts k None

-- used one after another, the facts with these numbers are these, and this pile is left
pub data Takes : Pile → List ℕ → List Fact → Pile → Type 0 where
  nothing : {facts : Pile} → Takes facts [] [] facts
  one : {facts rest : Pile} {k : ℕ} {ks : List ℕ} {f : Fact} {fs : List Fact}
      → slice_get facts k ≡ Some (Some f) → Takes (used facts k f) ks fs rest
      → Takes facts (k ∷ ks) (f ∷ fs) rest

-- new facts, with the next numbers
abbrev pub adds : Pile → List Fact → Pile
adds facts added = facts ++ map (λ f. Some f) added
