-- Small processes with a lock over a parallel or a replication, to try by hand which it is.
use Rattle.sap_process.specs.Proc.{Proc, nil, parallel, replicated, test}
use Rattle.sap_locks.specs.LockExamples.{locking, s, t, unlocking}

-- lock and unlock, as they are written
abbrev pub held : Proc → Proc
held p = locking s 0 p

abbrev pub ended : Proc → Proc
ended p = unlocking s 0 p

-- the same of another term
abbrev pub held_other : Proc → Proc
held_other p = locking t 0 p

abbrev pub ended_other : Proc → Proc
ended_other p = unlocking t 0 p

-- lock s; (0 | unlock s)
abbrev pub over_one : Proc
over_one = held (parallel nil (ended nil))

-- lock s; lock s; (unlock s | 0)
abbrev pub lower_ended : Proc
lower_ended = held (held (parallel (ended nil) nil))

-- lock s; lock s; !(unlock s; unlock s)
abbrev pub both_ended : Proc
both_ended = held (held (replicated (ended (ended nil))))

-- lock s; lock t; (unlock t | unlock s)
abbrev pub two_terms : Proc
two_terms = held (held_other (parallel (ended_other nil) (ended nil)))

-- lock s; lock t; (unlock s | 0)
abbrev pub upper_term : Proc
upper_term = held (held_other (parallel (ended nil) nil))

-- lock s; unlock s; lock s; (0 | unlock s)
abbrev pub ended_above : Proc
ended_above = held (ended (held (parallel nil (ended nil))))

-- lock s; (lock s; unlock s | 0)
abbrev pub held_inside : Proc
held_inside = held (parallel (held (ended nil)) nil)

-- if s = t then lock s else lock s; (0 | unlock s)
abbrev pub in_branch : Proc
in_branch = test s t (held nil) (held (parallel nil (ended nil)))

-- lock s; !(0 | unlock s)
abbrev pub twice_over : Proc
twice_over = held (replicated (parallel nil (ended nil)))

-- lock s; if s = t then unlock s else (0 | 0)
abbrev pub other_branch : Proc
other_branch = held (test s t (ended nil) (parallel nil nil))

-- lock s; unlock s
abbrev pub no_fork : Proc
no_fork = held (ended nil)
