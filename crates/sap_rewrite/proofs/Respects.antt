-- Theory-equal terms have the same normal form.
use Rattle.std.proofs.Common.{◌≡◌, refl, sym, ap, ◌∙◌}
use Rattle.sap_terms.specs.Tree.{Tree, Trees, more}
use Rattle.sap_terms.specs.Equations.{Equations, IsInstance, first, second, symmetric, asymmetric, signing, revealing, revealed}
use Rattle.sap_terms.specs.Equal.{IsStep, forward, backward, inside, IsStepWithin, here, later, IsTheoryEqual, same, next}
use Rattle.sap_rewrite.specs.code.Reduce.{nf, nfs, reduced}
use Rattle.sap_terms.proofs.PlainLaws.Tests.{same_tree-refl}

nf-instance : (e : Equations) {a b : Tree} → IsInstance e a b → nf e a ≡ nf e b
unfolding nf nfs
nf-instance e first = refl
nf-instance e second = refl
nf-instance e (symmetric {m} {k} h) = rw (h, same_tree-refl) refl
nf-instance e (asymmetric {m} {k} h) = rw (h, same_tree-refl) refl
nf-instance e (signing {m} {k} h) = rw (h, same_tree-refl, same_tree-refl) refl
nf-instance e (revealing {m} {k} h) = rw (h, same_tree-refl, same_tree-refl) refl
nf-instance e (revealed {m} {k} h) = rw h refl

mutual
  unfolding nf nfs

  nf-step : (e : Equations) {a b : Tree} → IsStep e a b → nf e a ≡ nf e b
  nf-step e (forward i) = nf-instance e i
  nf-step e (backward i) = sym (nf-instance e i)
  nf-step e (inside {f} s) = ap (reduced e f) (nfs-step e s)

  nfs-step : (e : Equations) {ts us : Trees} → IsStepWithin e ts us → nfs e ts ≡ nfs e us
  nfs-step e (here {t} {u} {ts} s) = ap (λ v. more v (nfs e ts)) (nf-step e s)
  nfs-step e (later {t} s) = ap (more (nf e t)) (nfs-step e s)

pub nf-equal : (e : Equations) {a b : Tree} → IsTheoryEqual e a b → nf e a ≡ nf e b
nf-equal e same = refl
nf-equal e (next s r) = nf-step e s ∙ nf-equal e r
