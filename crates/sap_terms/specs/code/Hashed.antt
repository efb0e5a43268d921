-- What a tree feeds a hasher: a number for its kind, and then its parts.
use Rattle.std.specs.Prelude.{◌++◌, []}
use Rattle.std.specs.Hash as fed
use Rattle.sap_terms.specs.Tree.{Tree, variable, public, fresh, apply, Trees, none, more}

abbrev mutual
  -- a variable's sort is left out: few terms differ in it alone
  pub fed_tree : Tree → fed.HashWrites
  fed_tree (variable v) = fed.u8 0 ++ fed.slice fed.u8 v.name
  fed_tree (public n) = fed.u8 1 ++ fed.slice fed.u8 n
  fed_tree (fresh k) = fed.u8 2 ++ fed.u64 k
  fed_tree (apply f ts) = fed.u8 3 ++ (fed.slice fed.u8 f ++ fed_trees ts)

  -- one tree after another
  pub fed_trees : Trees → fed.HashWrites
  fed_trees none = []
  fed_trees (more t ts) = fed_tree t ++ fed_trees ts
