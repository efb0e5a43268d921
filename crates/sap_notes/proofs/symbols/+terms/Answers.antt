use Rattle.std.proofs.Common.{refl}
use Rattle.sap_terms.specs.Tree.{trees_of}
use Rattle.sap_terms.specs.View.{tree}
use Rattle.sap_notes.specs.Symbols.{term_symbols, terms_symbols}
use Rattle.sap_notes.proofs.Gathered.{gathered_step}
use Rattle.sap_notes.proofs.symbols.+terms.Goals as goal

pub add_terms-loop-k-preserved : goal.add_terms-loop-k-preserved
add_terms-loop-k-preserved t c =
    gathered_step (λ ts. terms_symbols (trees_of ts)) term_symbols (λ t ts. refl) c.args.ts.now c.loop-k.k (tree c.at.result.now) c.at.ensures.got c.loop-k.names c.add_term.new.names _
    c.in_ok-add_term.ensures c.loop-k.invariant
