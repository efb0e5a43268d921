-- The test of the limit on normal forms, as the code makes it.
use Rattle.std.specs.Prelude.{ℕ, Bool, true, ◌&&◌, nat_le}
use Rattle.sap_terms.specs.Tree.{Tree, variable, public, fresh, apply, Trees, none, more, node_count}
use Rattle.sap_terms.specs.Equations.{Equations}
use Rattle.sap_rewrite.specs.code.Reduce.{nf}

-- the normal form has at most so many nodes
abbrev pub form_fits : Equations → ℕ → Tree → Bool
form_fits e most t = nat_le (node_count (nf e t)) most

abbrev mutual
  -- so has that of each subterm
  pub each_fits : Equations → ℕ → Tree → Bool
  each_fits e most (variable v) = form_fits e most (variable v)
  each_fits e most (public n) = form_fits e most (public n)
  each_fits e most (fresh k) = form_fits e most (fresh k)
  each_fits e most (apply f ts) = all_fit e most ts && form_fits e most (apply f ts)

  -- and of each subterm of these
  pub all_fit : Equations → ℕ → Trees → Bool
  all_fit e most none = true
  all_fit e most (more t ts) = each_fits e most t && all_fit e most ts
