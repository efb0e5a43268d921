-- Normal forms over lists.
use Rattle.std.proofs.Common.{◌≡◌, ℕ, List, [], ◌∷◌, map, refl, ap}
use Rattle.sap_terms.specs.declared.var.Var.{Var}
use Rattle.sap_terms.specs.Tree.{Tree, variable, public, fresh, apply, more, trees_of}
use Rattle.sap_terms.proofs.PlainLaws.Trees.{item_le-trees_count}
use Rattle.sap_terms.specs.Equations.{Equations}
use Rattle.sap_rewrite.specs.code.Reduce.{nf, nfs, reduced}

pub nfs-trees_of : (e : Equations) (ts : List Tree) → nfs e (trees_of ts) ≡ trees_of (map (nf e) ts)
unfolding nf nfs
nfs-trees_of e [] = refl
nfs-trees_of e (t ∷ ts) = ap (more (nf e t)) (nfs-trees_of e ts)

-- the equations of nf
pub nf-variable : (e : Equations) (v : Var) → nf e (variable v) ≡ variable v
unfolding nf
nf-variable e v = refl

pub nf-public : (e : Equations) (n : List ℕ) → nf e (public n) ≡ public n
unfolding nf
nf-public e n = refl

pub nf-fresh : (e : Equations) (k : ℕ) → nf e (fresh k) ≡ fresh k
unfolding nf
nf-fresh e k = refl

pub nf-apply : (e : Equations) (f : List ℕ) (ts : List Tree) → nf e (apply f (trees_of ts)) ≡ reduced e f (trees_of (map (nf e) ts))
unfolding nf
nf-apply e f ts = ap (reduced e f) (nfs-trees_of e ts)

pub ruleset list_laws = (nf-variable, nf-public, nf-fresh, nf-apply, item_le-trees_count)
