-- The test of equal trees.
use Rattle.std.specs.Prelude.{Bool, true, false, ◌&&◌, nat_eq}
use Rattle.std.specs.Str.{bytes_eq}
use Rattle.sap_terms.specs.declared.var.Sort.{Sort}
use Rattle.sap_terms.specs.declared.var.Sort.TheVariants.{Msg, Fresh, Pub}
use Rattle.sap_terms.specs.Tree.{Tree, variable, public, fresh, apply, Trees, none, more}

-- the sorts are one
abbrev pub same_sort : Sort → Sort → Bool
same_sort Msg Msg = true
same_sort Fresh Fresh = true
same_sort Pub Pub = true
same_sort _ _ = false

abbrev mutual
  -- the trees are one, sorts of variables included
  pub same_tree : Tree → Tree → Bool
  same_tree (variable v) (variable w) = bytes_eq v.name w.name && same_sort v.sort w.sort
  same_tree (public a) (public b) = bytes_eq a b
  same_tree (fresh j) (fresh k) = nat_eq j k
  same_tree (apply f ts) (apply g us) = bytes_eq f g && same_trees ts us
  same_tree _ _ = false

  -- and so are these, one by one
  pub same_trees : Trees → Trees → Bool
  same_trees none none = true
  same_trees (more t ts) (more u us) = same_tree t u && same_trees ts us
  same_trees _ _ = false
