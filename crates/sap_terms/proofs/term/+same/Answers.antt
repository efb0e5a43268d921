use Rattle.std.proofs.Common.{◌≡◌, sym, ap, ◌∙◌}
use Rattle.sap_terms.specs.View.{tree, term, term-tree}
use Rattle.sap_terms.proofs.term.+same.Goals as goal

pub TermList::is-returns-then-not-is : goal.TermList::is-returns-then-not-is
TermList::is-returns-then-not-is t c =
    let x = c.at.result.now in
    let y = c.at-in-loop-k.result.now in (
      λ h. cc,
      λ e.
          let got = c.at.ensures.got in
          let other = c.at-in-loop-k.ensures.got in
          let same : tree x ≡ tree y = cc in
          rw c.if-not-is.true at (c.is.ensures.1 (sym (term-tree x) ∙ ap term same ∙ term-tree y)),
    )
