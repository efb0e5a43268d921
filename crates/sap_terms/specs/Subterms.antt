-- Subterms, and facts that hold of each or of some of them.
use Rattle.std.specs.Prelude.{ℕ, List}
use Rattle.sap_terms.specs.Tree.{Tree, variable, public, fresh, apply, Trees, none, more}

abbrev mutual
  -- the fact holds of each subterm, the tree itself included
  pub EachSubterm : (Tree → Type 0) → Tree → Type 0
  EachSubterm P (variable v) = P (variable v)
  EachSubterm P (public n) = P (public n)
  EachSubterm P (fresh k) = P (fresh k)
  EachSubterm P (apply f ts) = P (apply f ts) × EachSubtermWithin P ts

  -- of each subterm of these
  pub EachSubtermWithin : (Tree → Type 0) → Trees → Type 0
  EachSubtermWithin P none = Unit {0}
  EachSubtermWithin P (more t ts) = EachSubterm P t × EachSubtermWithin P ts

mutual
  -- the fact holds of some subterm, which may be the tree itself
  pub data SomeSubterm (P : Tree → Type 0) : Tree → Type 0 where
    itself : {t : Tree} → P t → SomeSubterm P t
    below : {f : List ℕ} {ts : Trees} → SomeSubtermWithin P ts → SomeSubterm P (apply f ts)

  -- of some subterm of one of these
  pub data SomeSubtermWithin (P : Tree → Type 0) : Trees → Type 0 where
    here : {t : Tree} {ts : Trees} → SomeSubterm P t → SomeSubtermWithin P (more t ts)
    later : {t : Tree} {ts : Trees} → SomeSubtermWithin P ts → SomeSubtermWithin P (more t ts)
