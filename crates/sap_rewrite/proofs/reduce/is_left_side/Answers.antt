use Rattle.std.proofs.Common.{sym, ◌∙◌}
use Rattle.sap_terms.specs.Tree.{trees_of}
use Rattle.sap_terms.specs.Equations.{equations}
use Rattle.sap_rewrite.proofs.Parts.{kept}
use Rattle.sap_rewrite.proofs.reduce.is_left_side.Goals as goal

pub returns-in-None : goal.returns-in-None
returns-in-None c =
    kept (equations c.args.sig.now) c.args.f.now (trees_of c.args.args.now) c.is_verified.result (sym c.place_of_part.ensures ∙ c.in-None.is) c.is_verified.ensures
