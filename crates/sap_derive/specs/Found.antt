-- What is found of a goal behind entries.
use Rattle.std.specs.Prelude.{◌≡◌, ◌≤◌, ℕ, List, [], ◌++◌, slice_get, Some, All}
use Rattle.sap_terms.specs.Deduce.{IsDeducible}
use Rattle.sap_terms.specs.Equations.{equations}
use Rattle.sap_terms.specs.Message.{IsMessage}
use Rattle.sap_terms.specs.Normal.{IsNormal}
use Rattle.sap_terms.specs.Tree.{Tree, node_count}
use Rattle.sap_terms.specs.Signature.{Sig}
use Rattle.sap_terms.specs.declared.limits.TheConstants.{MOST_TERM_NODES}
use Rattle.sap_terms.specs.declared.var.Sort.TheVariants.{Msg}
use Rattle.sap_derive.specs.Lines.{Give}
use Rattle.sap_derive.specs.Near.{IsNear}
use Rattle.sap_derive.specs.Searched.{Searched}
use Rattle.sap_derive.specs.declared.derivation.Derivation.{Derivation}

-- no term stands twice in the list
abbrev pub NoneTwice : List Tree → Type 0
NoneTwice ts = (i j : ℕ) (t : Tree) → slice_get ts i ≡ Some t → slice_get ts j ≡ Some t → i ≡ j

-- no term stands in both lists
abbrev pub NoneInBoth : List Tree → List Tree → Type 0
NoneInBoth ts us = (i j : ℕ) (t : Tree) → slice_get ts i ≡ Some t → slice_get us j ≡ Some t → ⊥

-- the lines give these terms behind the entries, and the goal is one of all; each that they give stands in an entry or in the
-- goal, none comes twice, and none is an entry
pub record IsFoundBy (g : Sig) (entries : List Tree) (goal : Tree) (d : Derivation) (given : List Tree) : Type 0 where
  pub lines : Give g entries d.lines given
  pub goal_is : slice_get (entries ++ given) d.entry ≡ Some goal
  pub near : All (IsNear entries goal) given
  pub once : NoneTwice given
  pub new : NoneInBoth given entries

-- the goal is found, and the entries have gained what the lines give
pub record IsFoundIn (old : Searched) (goal : Tree) (d : Derivation) (new : Searched) : Type 0 where
  pub given : List Tree
  pub found : IsFoundBy old.sig old.entries goal d given
  pub sig : new.sig ≡ old.sig
  pub entries : new.entries ≡ old.entries ++ given

-- the goal is found behind these entries
abbrev pub IsFound : Sig → List Tree → Tree → Derivation → Type 0
IsFound g entries goal d = (given : List Tree) × IsFoundBy g entries goal d given

-- a normal goal that is found can be deduced from the entries
abbrev pub FoundGoalsAreDeducible : Type 0
FoundGoalsAreDeducible =
    (g : Sig) (entries : List Tree) (goal : Tree) (d : Derivation) → IsNormal (equations g) goal
    → IsFound g entries goal d → IsDeducible g [] entries goal

-- a message of at most 256 nodes
abbrev pub IsSmallMessage : Sig → Tree → Type 0
IsSmallMessage g t = IsMessage g Msg t × (node_count t ≤ MOST_TERM_NODES)
