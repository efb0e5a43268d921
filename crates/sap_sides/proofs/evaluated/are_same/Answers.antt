use Rattle.std.proofs.Common.{◌≡◌, Some, sym, ap, ◌∙◌}
use Rattle.std.specs.Prelude.{slice_get}
use Rattle.sap_terms.specs.View.{tree, term, term-tree}
use Rattle.sap_sides.proofs.evaluated.are_same.Goals as goal

pub returns-then-not-same : goal.returns-then-not-same
returns-then-not-same c = (
  λ h. cc,
  λ e.
      let at : Some (tree c.at.result.now) ≡ Some (tree c.at-in-loop-k.result.now) = sym c.at.ensures.got ∙ ap (λ xs. slice_get xs c.loop-k.k) e ∙ c.at-in-loop-k.ensures.got in
      let trees : tree c.at.result.now ≡ tree c.at-in-loop-k.result.now = cc in
      let same = c.same.ensures.equal.1 (sym (term-tree c.at.result.now) ∙ ap term trees ∙ term-tree c.at-in-loop-k.result.now) in
      cc (same, c.if-not-same.true),
)
