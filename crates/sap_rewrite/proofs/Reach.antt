-- Chains of steps inside a term.
use Rattle.std.proofs.Common.{ℕ, List}
use Rattle.sap_terms.specs.Tree.{Tree, apply, Trees, more}
use Rattle.sap_terms.specs.Equations.{Equations}
use Rattle.sap_terms.specs.Equal.{IsStep, forward, backward, inside, IsStepWithin, here, later, IsTheoryEqual, same, next}

pub data AreTheoryEqual (e : Equations) : Trees → Trees → Type 0 where
  done : {ts : Trees} → AreTheoryEqual e ts ts
  more_steps : {ts us vs : Trees} → IsStepWithin e ts us → AreTheoryEqual e us vs → AreTheoryEqual e ts vs

pub join : {e : Equations} {t u v : Tree} → IsTheoryEqual e t u → IsTheoryEqual e u v → IsTheoryEqual e t v
join same r = r
join (next s q) r = next s (join q r)

pub join_all : {e : Equations} {t u v : Trees} → AreTheoryEqual e t u → AreTheoryEqual e u v → AreTheoryEqual e t v
join_all done r = r
join_all (more_steps s q) r = more_steps s (join_all q r)

pub at_head : {e : Equations} {t u : Tree} {ts : Trees} → IsTheoryEqual e t u → AreTheoryEqual e (more t ts) (more u ts)
at_head same = done
at_head (next s q) = more_steps (here s) (at_head q)

pub at_tail : {e : Equations} {t : Tree} {ts us : Trees} → AreTheoryEqual e ts us → AreTheoryEqual e (more t ts) (more t us)
at_tail done = done
at_tail (more_steps s q) = more_steps (later s) (at_tail q)

pub within : {e : Equations} {f : List ℕ} {ts us : Trees} → AreTheoryEqual e ts us → IsTheoryEqual e (apply f ts) (apply f us)
within done = same
within (more_steps s q) = next (inside s) (within q)

mutual
  flip : {e : Equations} {t u : Tree} → IsStep e t u → IsStep e u t
  flip (forward i) = backward i
  flip (backward i) = forward i
  flip (inside s) = inside (flip_within s)

  flip_within : {e : Equations} {ts us : Trees} → IsStepWithin e ts us → IsStepWithin e us ts
  flip_within (here s) = here (flip s)
  flip_within (later s) = later (flip_within s)

pub back : {e : Equations} {t u : Tree} → IsTheoryEqual e t u → IsTheoryEqual e u t
back same = same
back (next s q) = join (back q) (next (flip s) same)
