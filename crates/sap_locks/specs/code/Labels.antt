-- Labels and flaws.
use Rattle.std.specs.Prelude.{ℕ, zero, suc, min, ◌+◌, Bool, false, ◌||◌, ◌&&◌, nat_lt, nat_eq, List, [], ◌∷◌, ◌++◌, Option, Some, None, cond}
use Rattle.sap_terms.specs.Tree.{Tree}
use Rattle.sap_process.specs.Action.{Action, lock, unlock}
use Rattle.sap_process.specs.Heads.{locks_set}
use Rattle.sap_process.specs.Proc.{Proc, nil, parallel, replicated, act, test, lookup}
use Rattle.sap_held.specs.Held.{Open, dropped, found, label_of}
use Rattle.sap_locks.specs.Ways.{LockMark, locked, unlocked, lock_count}
use Rattle.sap_locks.specs.Annotation.{LockFlaw, without, over}

-- those at the end of a way
abbrev pub opened : List LockMark → Open
opened [] = []
opened (locked k t ∷ way) = (k, t) ∷ opened way
opened (unlocked t ∷ way) = dropped t (opened way)

-- behind an action
abbrev pub open_behind : Open → ℕ → Action → Open
open_behind o k (lock t l) = (k + 1, t) ∷ o
open_behind o k (unlock t l) = dropped t o
open_behind o k _ = o

-- the action with its label
abbrev pub labelled_action : Open → ℕ → Action → Action
labelled_action o k (lock t l) = lock t (k + 1)
labelled_action o k (unlock t l) = unlock t (label_of (found t o))
labelled_action o k a = a

-- the process with labels, where these locks are open and k locks stand before it
abbrev pub labelled_from : Open → ℕ → Proc → Proc
labelled_from o k nil = nil
labelled_from o k (parallel p q) = parallel (labelled_from o k p) (labelled_from o (k + lock_count p) q)
labelled_from o k (replicated p) = replicated (labelled_from o k p)
labelled_from o k (act a p) = act (labelled_action o k a) (labelled_from (open_behind o k a) (k + locks_set a) p)
labelled_from o k (test t u p q) = test t u (labelled_from o k p) (labelled_from o (k + lock_count p) q)
labelled_from o k (lookup t x p q) = lookup t x (labelled_from o k p) (labelled_from o (k + lock_count p) q)

abbrev pub labelled : Proc → Proc
labelled p = labelled_from [] 0 p

-- an unlock has a label that passes
abbrev pub unlocks : (ℕ → Bool) → Action → Bool
unlocks passes (unlock t l) = passes l
unlocks passes _ = false

abbrev pub has_unlock : (ℕ → Bool) → Proc → Bool
has_unlock passes nil = false
has_unlock passes (parallel p q) = has_unlock passes p || has_unlock passes q
has_unlock passes (replicated p) = has_unlock passes p
has_unlock passes (act a p) = unlocks passes a || has_unlock passes p
has_unlock passes (test t u p q) = has_unlock passes p || has_unlock passes q
has_unlock passes (lookup t x p q) = has_unlock passes p || has_unlock passes q

-- between 1 and k
abbrev pub is_low : ℕ → ℕ → Bool
is_low k l = nat_lt 0 l && nat_lt l (k + 1)

-- the lesser of two that are there
abbrev pub lesser : Option ℕ → Option ℕ → Option ℕ
lesser None b = b
lesser (Some a) None = Some a
lesser (Some a) (Some b) = Some (min a b)

-- the label of an unlock that has a lock
abbrev pub own_label : ℕ → Option ℕ
own_label zero = None
own_label (suc l) = Some (suc l)

abbrev pub action_lowest : Action → Option ℕ
action_lowest (unlock t l) = own_label l
action_lowest _ = None

-- the lowest of those of a process
abbrev pub lowest : Proc → Option ℕ
lowest nil = None
lowest (parallel p q) = lesser (lowest p) (lowest q)
lowest (replicated p) = lowest p
lowest (act a p) = lesser (action_lowest a) (lowest p)
lowest (test t u p q) = lesser (lowest p) (lowest q)
lowest (lookup t x p q) = lesser (lowest p) (lowest q)

abbrev pub is_at_most : Option ℕ → ℕ → Bool
is_at_most None k = false
is_at_most (Some l) k = nat_lt l (k + 1)

-- the first that is there
abbrev pub or_else : Option (LockFlaw × List ℕ) → Option (LockFlaw × List ℕ) → Option (LockFlaw × List ℕ)
or_else None f = f
or_else (Some x) f = Some x

-- an unlock with label 0 has no lock
abbrev pub action_flaw : List ℕ → Action → Option (LockFlaw × List ℕ)
action_flaw path (unlock t l) = cond (nat_eq l 0) (Some (without, path)) None
action_flaw path _ = None

-- the first flaw of a labelled process, where k locks stand before it
abbrev pub first_flaw_from : List ℕ → ℕ → Proc → Option (LockFlaw × List ℕ)
first_flaw_from path k nil = None
first_flaw_from path k (parallel p q) =
    or_else (cond (is_at_most (lowest (parallel p q)) k) (Some (over, path)) None)
    (or_else (first_flaw_from (path ++ 1 ∷ []) k p) (first_flaw_from (path ++ 2 ∷ []) (k + lock_count p) q))
first_flaw_from path k (replicated p) =
    or_else (cond (is_at_most (lowest (replicated p)) k) (Some (over, path)) None) (first_flaw_from (path ++ 1 ∷ []) k p)
first_flaw_from path k (act a p) = or_else (action_flaw path a) (first_flaw_from (path ++ 1 ∷ []) (k + locks_set a) p)
first_flaw_from path k (test t u p q) = or_else (first_flaw_from (path ++ 1 ∷ []) k p) (first_flaw_from (path ++ 2 ∷ []) (k + lock_count p) q)
first_flaw_from path k (lookup t x p q) = or_else (first_flaw_from (path ++ 1 ∷ []) k p) (first_flaw_from (path ++ 2 ∷ []) (k + lock_count p) q)

abbrev pub first_flaw : Proc → Option (LockFlaw × List ℕ)
first_flaw p = first_flaw_from [] 0 p
