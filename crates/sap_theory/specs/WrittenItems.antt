-- The items of a theory that is read, within its limits.
use Rattle.std.specs.Prelude.{ℕ, List}
use Rattle.sap_terms.specs.Signature.{Sig}
use Rattle.sap_grammar.specs.Words.{Word}
use Rattle.sap_grammar.specs.Cut.{Placed}
use Rattle.sap_grammar.specs.Items as items
use Rattle.sap_theory.specs.declared.limits.TheConstants.{THEORY_LIMITS}
use Rattle.sap_theory.specs.TheoryGrammar.{TheoryItem, IsWrittenItem}

-- each of these is an item as it is written, within the limits, but for the last, which is `end`
abbrev pub AreWrittenItems : Sig → List (List Placed) → List (items.Standing TheoryItem) → Type 0
AreWrittenItems g = items.AreItems (IsWrittenItem g THEORY_LIMITS)

-- it is such an item under some signature
pub record IsSomeWrittenItem (a : List Word) : Type 0 where
  pub sig : Sig
  pub item : TheoryItem
  pub is : IsWrittenItem sig THEORY_LIMITS item a

-- The first that is no item under any signature is on this line; where only `end` is missing, the line is that of the theory's
-- last word.
abbrev pub IsFaultyTheory : ℕ → List (List Placed) → ℕ → Type 0
IsFaultyTheory = items.IsFaulty IsSomeWrittenItem
