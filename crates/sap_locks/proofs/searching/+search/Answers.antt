use Rattle.std.proofs.Common.{◌≡◌, ◌+◌, refl, arith}
use Rattle.sap_locks.proofs.searching.+search.Goals as goal

pub search-returns-in_ok-a-in-Par-clause-lowest : goal.search-returns-in_ok-a-in-Par-clause-lowest
search-returns-in_ok-a-in-Par-clause-lowest t c =
    let h = rw (c.in_ok-a-in-Par.ensures.lowest, c.deref.ensures, c.deref-in-Par.ensures) at c.forked.ensures.lowest in
    rw c.in-Par.is h

pub search-returns-in_ok-a-in-Par-clause-found : goal.search-returns-in_ok-a-in-Par-clause-found
search-returns-in_ok-a-in-Par-clause-found t c =
    let h = rw (c.in_ok-a-in-Par.ensures.lowest, c.in_ok-a-in-Par.ensures.found, c.in_ok-a-in-Par.ensures.same, c.deref.ensures, c.deref-in-Par.ensures) at c.forked.ensures.found in
    rw c.in-Par.is h

pub search-returns-in_ok-a-in-Rep-clause-found : goal.search-returns-in_ok-a-in-Rep-clause-found
search-returns-in_ok-a-in-Rep-clause-found t c =
    let h = rw (c.in_ok-a-in-Rep.ensures.lowest, c.in_ok-a-in-Rep.ensures.found, c.in_ok-a-in-Rep.ensures.same, c.deref-in-Rep.ensures) at c.forked-in-Rep.ensures.found in
    rw c.in-Rep.is h

pub search-returns-in-Lock-clause-found : goal.search-returns-in-Lock-clause-found
search-returns-in-Lock-clause-found t c = rw (c.in-Lock.is, ← c.deref-in-Lock.ensures) c.search_child-in-Lock.ensures.found

pub search-returns-in_ok-a-in-Unlock-clause-lowest : goal.search-returns-in_ok-a-in-Unlock-clause-lowest
search-returns-in_ok-a-in-Unlock-clause-lowest t c =
    let h = rw (c.in_ok-a-in-Unlock.ensures.lowest, c.deref-in-Unlock.ensures) at c.unlocked.ensures.lowest in
    rw c.in-Unlock.is h

pub search-returns-in_ok-a-in-Unlock-clause-found : goal.search-returns-in_ok-a-in-Unlock-clause-found
search-returns-in_ok-a-in-Unlock-clause-found t c =
    let h = rw (c.in_ok-a-in-Unlock.ensures.found, c.in_ok-a-in-Unlock.ensures.same, c.deref-in-Unlock.ensures) at c.unlocked.ensures.found in
    let same : c.args.before + 0 ≡ c.args.before = omega arith in
    rw (c.in-Unlock.is, same) h

pub search_both-returns-in-Ok-clause-lowest : goal.search_both-returns-in-Ok-clause-lowest
search_both-returns-in-Ok-clause-lowest t c = rw (c.joined.ensures.lowest, c.in_ok-a.ensures.lowest, c.in-Ok.ensures.lowest) refl

pub search_both-returns-in-Ok-clause-found : goal.search_both-returns-in-Ok-clause-found
search_both-returns-in-Ok-clause-found t c = rw (c.joined.ensures.found, c.in_ok-a.ensures.found, c.in-Ok.ensures.found, c.in_ok-a.ensures.same, c.in_ok-a.ensures.after) refl
