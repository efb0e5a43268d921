-- What the full trace says of the locks of a term.
use Rattle.sap_translate.specs.Members.{Member}
use Rattle.sap_restrict.specs.ReservedFacts.{lock_fact, unlock_fact}
use Rattle.sap_translate.specs.relation.Shown.{ShowsAt}
use Rattle.std.specs.Prelude.{◌≡◌, ℕ, ◌<◌, ◌⊎◌, Bool, true, false, List}
use Rattle.sap_terms.specs.Trace.{Trace}
use Rattle.sap_terms.specs.Tree.{Tree, fresh}

-- each lock of x was unlocked by its own name
abbrev pub LockFree : Trace → Tree → Type 0
LockFree tr x = (l : Tree) (i : ℕ) → ShowsAt tr i (lock_fact l x) → (k : ℕ) × ShowsAt tr k (unlock_fact l x) × (i < k)

-- each but those named n
abbrev pub OnlyHolder : Trace → Tree → Tree → Type 0
OnlyHolder tr x n = (l : Tree) (i : ℕ) → ShowsAt tr i (lock_fact l x) → (l ≡ n) ⊎ ((k : ℕ) × ShowsAt tr k (unlock_fact l x) × (i < k))

-- n locked x, and has not unlocked it since
pub record StillHeld (tr : Trace) (x n : Tree) : Type 0 where
  pub place : ℕ
  pub locked : ShowsAt tr place (lock_fact n x)
  pub since : (k : ℕ) → ShowsAt tr k (unlock_fact n x) → k < place

-- a lock that is open: its thread and label, what was drawn for it, and what it locks
pub record Holder : Type 0 where
  pub thread : ℕ
  pub label : ℕ
  pub name : ℕ
  pub term : Tree

-- what is held is what the full trace leaves locked
pub record LockPart (held : Tree → Bool) (holders : List Holder) (full : Trace) : Type 0 where
  pub free : (x : Tree) → held x ≡ false → LockFree full x
  -- what is held was locked by one step, which no unlock of its name follows
  pub busy : (x : Tree) → held x ≡ true → (n : ℕ) × OnlyHolder full x (fresh n) × StillHeld full x (fresh n)
  pub only : (h : Holder) → Member h holders → OnlyHolder full h.term (fresh h.name)
  pub still : (h : Holder) → Member h holders → StillHeld full h.term (fresh h.name)
