-- Substitutions as choices of a tree for each variable, and instances.
use Rattle.std.specs.Prelude.{Bool, true, false, IsTrue}
use Rattle.sap_terms.specs.declared.var.Sort.{Sort}
use Rattle.sap_terms.specs.declared.var.Sort.TheVariants.{Msg, Fresh, Pub}
use Rattle.sap_terms.specs.declared.var.Var.{Var}
use Rattle.sap_terms.specs.Tree.{Tree, variable, public, fresh, apply, Trees, none, more}

-- a tree for each variable
abbrev pub Choice : Type 0
Choice = Var → Tree

-- what a variable of this sort may stand for: `~x` only for a fresh name, `$x` only for a public name, `x` for any term
abbrev pub fits_sort : Sort → Tree → Bool
fits_sort Msg t = true
fits_sort Fresh (fresh k) = true
fits_sort Pub (public n) = true
fits_sort _ _ = false

-- each variable stands for a term that its sort allows
abbrev pub IsSorted : Choice → Type 0
IsSorted σ = (v : Var) → IsTrue (fits_sort v.sort (σ v))

abbrev mutual
  -- the tree with each of its variables replaced by what it stands for
  pub instance : Choice → Tree → Tree
  instance σ (variable v) = σ v
  instance σ (public n) = public n
  instance σ (fresh k) = fresh k
  instance σ (apply f ts) = apply f (instances σ ts)

  -- the same in each of these
  pub instances : Choice → Trees → Trees
  instances σ none = none
  instances σ (more t ts) = more (instance σ t) (instances σ ts)
