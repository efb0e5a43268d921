use Rattle.std.proofs.Common.{◌≡◌, take}
use Rattle.sap_terms.proofs.term.+same.Given as goal

abbrev pub invariant-TermList::is-loop-k : goal.invariant-TermList::is-loop-k
invariant-TermList::is-loop-k l = take l.k l.fn.self ≡ take l.k l.fn.other
