-- A process is its head over what stands directly below it.
use Rattle.std.proofs.Common.{◌≡◌, None, Some, refl}
use Rattle.sap_process.specs.Places.{first_child, second_child}
use Rattle.sap_process.specs.Proc.{Proc, nil, parallel, replicated, act, test, lookup}
use Rattle.sap_lines.specs.Places.{with_children}

pub no_child : (p : Proc) → None ≡ first_child p → p ≡ nil
no_child nil e = refl
no_child (parallel p q) e = absurd (cc)
no_child (replicated p) e = absurd (cc)
no_child (act a p) e = absurd (cc)
no_child (test t u p q) e = absurd (cc)
no_child (lookup t x p q) e = absurd (cc)

pub one_child : (p q : Proc) → Some q ≡ first_child p → None ≡ second_child p → with_children p q q ≡ p
one_child nil q e f = refl
one_child (parallel p r) q e f = absurd (cc)
one_child (replicated p) q e f = cc
one_child (act a p) q e f = cc
one_child (test t u p r) q e f = absurd (cc)
one_child (lookup t x p r) q e f = absurd (cc)

pub two_children : (p q r : Proc) → Some q ≡ first_child p → Some r ≡ second_child p → with_children p q r ≡ p
two_children nil q r e f = refl
two_children (parallel a b) q r e f = cc
two_children (replicated a) q r e f = absurd (cc)
two_children (act x a) q r e f = absurd (cc)
two_children (test t u a b) q r e f = cc
two_children (lookup t x a b) q r e f = cc
