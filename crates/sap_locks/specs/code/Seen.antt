-- What the code has seen of a process.
use Rattle.std.specs.Prelude.{ℕ, List, Option, cond}
use Rattle.std.specs.Option.{option_map}
use Rattle.sap_locks.specs.Annotation.{LockFlaw, without, over}
use Rattle.sap_locks.specs.declared.fault.LockFault.{LockFault}
use Rattle.sap_locks.specs.declared.fault.LockFault.TheVariants.{UnlockWithoutLock, LockOverParallel}
use Rattle.sap_locks.specs.declared.searching.Found.{Found}

-- the flaw and its path
abbrev pub flaw_of : Found → LockFlaw × List ℕ
flaw_of f = (cond f.is_over over without, f.path)

abbrev pub flaw_seen : Option Found → Option (LockFlaw × List ℕ)
flaw_seen o = option_map flaw_of o

-- the fault that it is told as
abbrev pub told : LockFlaw × List ℕ → LockFault
told (without, path) = UnlockWithoutLock path
told (over, path) = LockOverParallel path
