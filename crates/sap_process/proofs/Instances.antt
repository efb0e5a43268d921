-- Instances of lists of terms.
use Rattle.std.proofs.Common.{◌≡◌, List, [], ◌∷◌, map, refl, ap}
use Rattle.sap_terms.specs.Choice.{Choice, instance, instances}
use Rattle.sap_terms.specs.Tree.{Tree, more, trees_of}
use Rattle.sap_terms.proofs.PlainLaws.Lists.{map_got}
use Rattle.sap_terms.proofs.PlainLaws.Trees.{item_le-trees_count}

pub instances-trees_of : (σ : Choice) (ts : List Tree) → instances σ (trees_of ts) ≡ trees_of (map (instance σ) ts)
instances-trees_of σ [] = refl
instances-trees_of σ (t ∷ ts) = ap (more (instance σ t)) (instances-trees_of σ ts)

pub ruleset instance_laws = (instances-trees_of, item_le-trees_count, map_got)
