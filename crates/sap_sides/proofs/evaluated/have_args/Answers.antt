use Rattle.std.proofs.Common.{◌≡◌, length, sym, subst, ◌∙◌, arith, take, refl}
use Rattle.sap_terms.specs.declared.fact.Fact.{Fact}
use Rattle.sap_sides.specs.Forms.{HaveArgs}
use Rattle.sap_sides.proofs.Lists.{zip_further, zip_at, take_all}
use Rattle.sap_sides.proofs.evaluated.have_args.Goals as goal

pub loop-k-preserved : goal.loop-k-preserved
loop-k-preserved c =
    zip_further (λ (f h : Fact). f.args ≡ h.args) c.args.fs.now c.args.hs.now c.loop-k.k c.at.result.now c.at-in-loop-k.result.now c.loop-k.invariant c.at.ensures c.at-in-loop-k.ensures (c.are_same.ensures.0 c.if-not-are_same.false)

pub returns-then-not-are_same : goal.returns-then-not-are_same
returns-then-not-are_same c = (
  λ h. cc,
  λ a.
      let same = c.are_same.ensures.1 (zip_at (λ (f h : Fact). f.args ≡ h.args) c.args.fs.now c.args.hs.now c.loop-k.k c.at.result.now c.at-in-loop-k.result.now a c.at.ensures c.at-in-loop-k.ensures) in
      cc (same, c.if-not-are_same.true),
)

pub returns : goal.returns
returns c =
    let fs = c.args.fs.now in
    let hs = c.args.hs.now in
    let at_end : c.loop-k.k ≡ length fs = omega (arith, c.len-k-end.ensures) in
    let front = take_all fs c.loop-k.k at_end in
    let back = take_all hs c.loop-k.k (at_end ∙ sym c.requires) in
    (λ _. subst (λ xs. HaveArgs xs hs) front (subst (λ ys. HaveArgs (take c.loop-k.k fs) ys) back c.loop-k.invariant), λ _. refl)
