-- Which lock is held over a parallel or a replication.
use Rattle.std.specs.Prelude.{◌≡◌, ◌<◌, ◌+◌, ℕ, true, List, length, take, Some, Contains}
use Rattle.sap_terms.specs.Tree.{Tree}
use Rattle.sap_process.specs.Proc.{Proc}
use Rattle.sap_locks.specs.Annotation.{IsUnlock, is_forking, lock_at}
use Rattle.sap_locks.specs.Ways.{IsLockOf, IsOpen, LockSite, lock_sites, lock_sites_from}

-- lock n is open at the place, and is that of an unlock below it
pub record IsEndedBelow (s : LockSite) (n : ℕ) : Type 0 where
  pub is_open : IsOpen s.above.way n
  pub below : LockSite
  pub stands : Contains (lock_sites_from s.path s.above.way s.above.before s.body) below
  pub term : Tree
  pub is : IsUnlock below term
  pub own : IsLockOf below.above.way n term

-- lock n is the first that is so: it has the least number, so of those on the way to the place it stands highest
pub record IsFirstEnded (s : LockSite) (n : ℕ) : Type 0 where
  pub ended : IsEndedBelow s n
  pub first : (k : ℕ) → k < n → ¬ IsEndedBelow s k

-- the place sets lock n
pub record IsLockNumber (s : LockSite) (n : ℕ) : Type 0 where
  pub term : Tree
  pub label : ℕ
  pub is : lock_at s.body ≡ Some (term, label)
  pub number : s.above.before + 1 ≡ n

-- the path leads to a parallel or a replication; the first lock that is open there and ended below is set on the way, where so
-- many digits of the path lead
pub record IsLockOver (p : Proc) (path : List ℕ) (d : ℕ) : Type 0 where
  pub fork : LockSite
  pub stands : Contains (lock_sites p) fork
  pub path_is : fork.path ≡ path
  pub forks : is_forking fork.body ≡ true
  pub number : ℕ
  pub first : IsFirstEnded fork number
  pub lock : LockSite
  pub there : Contains (lock_sites p) lock
  pub above : d < length path
  pub lock_path : lock.path ≡ take d path
  pub sets : IsLockNumber lock number
