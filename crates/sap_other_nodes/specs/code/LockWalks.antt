-- Down along a path to a place and the locks that are open there, and the first of them that an unlock below ends, as the code finds it.
use Rattle.std.specs.Prelude.{ℕ, zero, suc, ◌+◌, min, nat_eq, nat_lt, Bool, false, List, [], ◌∷◌, Option, Some, None, cond}
use Rattle.sap_process.specs.Action.{Action, lock, unlock}
use Rattle.sap_process.specs.Heads.{locks_set}
use Rattle.sap_process.specs.Places.{child}
use Rattle.sap_process.specs.Proc.{Proc, nil, parallel, replicated, act, test, lookup}
use Rattle.sap_held.specs.Held.{Open, dropped, found}
use Rattle.sap_locks.specs.Annotation.{is_forking}
use Rattle.sap_locks.specs.Ways.{LockMark, locked, unlocked, lock_count}

-- those that are open at the end of a way, the lowest first
abbrev pub opened : List LockMark → Open
opened [] = []
opened (locked k t ∷ way) = (k, t) ∷ opened way
opened (unlocked t ∷ way) = dropped t (opened way)

-- behind an action, where k locks stand before it
abbrev pub open_action : Open → ℕ → Action → Open
open_action o k (lock t l) = (k + 1, t) ∷ o
open_action o k (unlock t l) = dropped t o
open_action o k _ = o

-- behind a head
abbrev pub open_below : Open → ℕ → Proc → Open
open_below o k (act a p) = open_action o k a
open_below o k _ = o

-- so many locks the head sets
abbrev pub head_locks : Proc → ℕ
head_locks (act a p) = locks_set a
head_locks _ = 0

-- so many stand in front of the child of this digit
abbrev pub beside : Proc → ℕ → ℕ
beside (parallel p q) (suc (suc zero)) = lock_count p
beside (test t u p q) (suc (suc zero)) = lock_count p
beside (lookup t x p q) (suc (suc zero)) = lock_count p
beside _ e = 0

-- the place at the end of these digits: what is open there, how many locks stand before it, and the process
abbrev pub came : Open → ℕ → Option Proc → List ℕ → Option (Open × ℕ × Proc)
came o k None path = None
came o k (Some p) [] = Some (o, k, p)
came o k (Some p) (e ∷ path) = came (open_below o k p) (k + head_locks p + beside p e) (child p e) path

-- the number, where it is one of the first b
abbrev pub low : ℕ → Option ℕ → Option ℕ
low b None = None
low b (Some n) = cond (nat_lt n (b + 1)) (Some n) None

-- the lesser of two that are there
abbrev pub lesser : Option ℕ → Option ℕ → Option ℕ
lesser None y = y
lesser (Some x) None = Some x
lesser (Some x) (Some y) = Some (min x y)

-- the lock of an unlock, where it is one of the first b
abbrev pub action_ends : ℕ → Open → Action → Option ℕ
action_ends b o (unlock t l) = low b (found t o)
action_ends b o _ = None

-- the first of the first b locks that is that of an unlock from this place on
abbrev pub ends : ℕ → Open → ℕ → Proc → Option ℕ
ends b o k nil = None
ends b o k (parallel p q) = lesser (ends b o k p) (ends b o (k + lock_count p) q)
ends b o k (replicated p) = ends b o k p
ends b o k (act a p) = lesser (action_ends b o a) (ends b (open_action o k a) (k + locks_set a) p)
ends b o k (test t u p q) = lesser (ends b o k p) (ends b o (k + lock_count p) q)
ends b o k (lookup t x p q) = lesser (ends b o k p) (ends b o (k + lock_count p) q)

-- of the locks before a place the first that is ended below, where the place is a parallel or a replication
abbrev pub over_at : Option (Open × ℕ × Proc) → Option ℕ
over_at None = None
over_at (Some x) = cond (is_forking x.2) (ends x.1 x.0 x.1 x.2) None

-- the head is lock n, where k locks stand before it
abbrev pub action_is : ℕ → ℕ → Action → Bool
action_is n k (lock t l) = nat_eq (k + 1) n
action_is n k _ = false

abbrev pub is_number : ℕ → ℕ → Proc → Bool
is_number n k (act a p) = action_is n k a
is_number n k _ = false

-- so many digits lead from the process on to lock n, after so many
abbrev pub depth_from : ℕ → ℕ → ℕ → Option Proc → List ℕ → Option ℕ
depth_from n k d None path = None
depth_from n k d (Some p) [] = None
depth_from n k d (Some p) (e ∷ path) =
    cond (is_number n k p) (Some d) (depth_from n (k + head_locks p + beside p e) (d + 1) (child p e) path)

-- the same from the root, where there is a number
abbrev pub depth_of : Option ℕ → Proc → List ℕ → Option ℕ
depth_of None p path = None
depth_of (Some n) p path = depth_from n 0 0 (Some p) path

abbrev pub lock_over : Proc → List ℕ → Option ℕ
lock_over p path = depth_of (over_at (came [] 0 (Some p) path)) p path
