-- Theory-equal terms.
use Rattle.std.specs.Prelude.{ℕ, List}
use Rattle.sap_terms.specs.Tree.{Tree, apply, Trees, more}
use Rattle.sap_terms.specs.Equations.{Equations, IsInstance}

mutual
  -- an equation used once, at one subterm, forwards or backwards
  pub data IsStep (e : Equations) : Tree → Tree → Type 0 where
    forward : {a b : Tree} → IsInstance e a b → IsStep e a b
    backward : {a b : Tree} → IsInstance e a b → IsStep e b a
    inside : {f : List ℕ} {ts us : Trees} → IsStepWithin e ts us
        → IsStep e (apply f ts) (apply f us)

  -- such a step in one of the trees
  pub data IsStepWithin (e : Equations) : Trees → Trees → Type 0 where
    here : {t u : Tree} {ts : Trees} → IsStep e t u → IsStepWithin e (more t ts) (more u ts)
    later : {t : Tree} {ts us : Trees} → IsStepWithin e ts us
        → IsStepWithin e (more t ts) (more t us)

-- a finite list of such steps leads from the one to the other
pub data IsTheoryEqual (e : Equations) : Tree → Tree → Type 0 where
  same : {t : Tree} → IsTheoryEqual e t t
  next : {t u v : Tree} → IsStep e t u → IsTheoryEqual e u v → IsTheoryEqual e t v
