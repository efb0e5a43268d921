-- The parts of terms, by their numbers.
use Rattle.std.proofs.Common.{◌≡◌, ◌<◌, ◌≤◌, ◌+◌, ℕ, zero, suc, List, [], ◌∷◌, Some, refl, sym, ap, ◌∙◌, arith, subst}
use Rattle.std.specs.Prelude.{slice_get}
use Rattle.sap_terms.specs.Tree.{Tree, Trees, apply, trees_of, node_count, trees_count}
use Rattle.sap_terms.specs.Equations.{equations, Equations}
use Rattle.sap_terms.specs.Normal.{IsNormal, AreNormal}
use Rattle.sap_terms.specs.Signature.{Sig}
use Rattle.sap_share.specs.Shared.{tree_at, trees_at, AreBelow}
use Rattle.sap_derive.specs.Near.{IsAmong, first_one, other}
use Rattle.sap_derive.specs.code.Clauses.{ArePartsListed}
use Rattle.sap_derive.specs.code.Listed.{AreListed}
use Rattle.sap_derive.specs.code.States.{IsTerm}
use Rattle.sap_derive.proofs.Gets.{all-got}

-- a tree at an index of a list
pub normal-got : (e : Equations) (ts : List Tree) (k : ℕ) (t : Tree) → AreNormal e (trees_of ts) → slice_get ts k ≡ Some t → IsNormal e t
normal-got e [] k t n h = cc
normal-got e (u ∷ ts) zero t n h = let s : u ≡ t = cc in subst (λ (x : Tree). IsNormal e x) s n.0
normal-got e (u ∷ ts) (suc k) t n h = normal-got e ts k t n.1 h

count-got : (ts : List Tree) (k : ℕ) (t : Tree) → slice_get ts k ≡ Some t → node_count t ≤ trees_count (trees_of ts)
count-got [] k t h = cc
count-got (u ∷ ts) zero t h = let s : u ≡ t = cc in subst (λ (x : Tree). node_count x ≤ node_count u + trees_count (trees_of ts)) s (omega arith)
count-got (u ∷ ts) (suc k) t h = let l = count-got ts k t h in omega arith

pub tree-got : (trees : List Tree) (ks : List ℕ) (k n : ℕ) → slice_get ks k ≡ Some n → slice_get (trees_at trees ks) k ≡ Some (tree_at trees n)
tree-got trees [] k n h = cc
tree-got trees (j ∷ ks) zero n h = let s : j ≡ n = cc in ap (λ i. Some (tree_at trees i)) s
tree-got trees (j ∷ ks) (suc k) n h = tree-got trees ks k n h

-- each of some trees has a number
pub among-got : (trees : List Tree) (ks : List ℕ) (us : Trees) (u : Tree) → us ≡ trees_of (trees_at trees ks) → IsAmong u us → (k n : ℕ) × (slice_get ks k ≡ Some n) × (tree_at trees n ≡ u)
among-got trees [] _ u e first_one = absurd (cc)
among-got trees [] _ u e (other a) = absurd (cc)
among-got trees (j ∷ ks) _ u e first_one = let s : u ≡ tree_at trees j = cc in (0, j, refl, sym s)
among-got trees (j ∷ ks) _ u e (other {ts = us} a) =
    let rest : us ≡ trees_of (trees_at trees ks) = cc in
    let g = among-got trees ks us u rest a in
    (suc g.0, g.1, g.2, g.3)

module _ (g : Sig) (trees : List Tree) (n : ℕ) (term : IsTerm g trees n) (f ks : List ℕ) (e : apply f (trees_of (trees_at trees ks)) ≡ tree_at trees n) (below : AreBelow n ks) where
  -- a part is a term too
  pub part-term : (k m : ℕ) → slice_get ks k ≡ Some m → IsTerm g trees m
  part-term k m h =
      let normal = subst (λ (t : Tree). IsNormal (equations g) t) (sym e) term.normal in
      let got = tree-got trees ks k m h in
      let low = all-got (λ j. j < n) ks k m below h in
      let count = count-got (trees_at trees ks) k (tree_at trees m) got in
      let whole = ap node_count e in
      record {
        below = (let b = term.below in omega (arith, low));
        normal = normal-got (equations g) (trees_at trees ks) k (tree_at trees m) normal.1 got;
        within = (let w = term.within in omega (arith, count, whole));
      }

  pub parts-listed : (terms : List ℕ) → AreListed terms ks → ArePartsListed trees terms (tree_at trees n)
  parts-listed terms all d us u q a =
      let c : apply f (trees_of (trees_at trees ks)) ≡ apply d us = e ∙ q in
      let same : us ≡ trees_of (trees_at trees ks) = cc in
      let got = among-got trees ks us u same a in
      (got.1, all got.0 got.1 got.2, got.3)

-- names have no parts
pub no-parts : (trees : List Tree) (terms : List ℕ) (t : Tree) → ((f : List ℕ) (us : Trees) → t ≡ apply f us → ⊥) → ArePartsListed trees terms t
no-parts trees terms t none_such f us u e a = absurd (none_such f us e)
