use Rattle.std.proofs.Common.{List, length, map, sym, ap, ◌∙◌}
use Rattle.std.proofs.lemmas.Slice.Zip.{AllZip-long}
use Rattle.sap_macro.specs.Expansion.{expansion}
use Rattle.sap_macro.specs.Located.{without_numbers}
use Rattle.sap_nodes.specs.HeadNodes.{Node, head_nodes}
use Rattle.sap_origin.specs.Definitions.{plain_definition}
use Rattle.sap_stems.specs.Likeness.{IsLike}
use Rattle.sap_stems.specs.Stems.{Stem}
use Rattle.sap_stems.proofs.Found.{has_stems}
use Rattle.sap_stems.proofs.Meant.{PlainLaw, expansion_meant}
use Rattle.sap_stems.proofs.OneStem.{one_list}
use Rattle.sap_stems.proofs.StemUses.{stem_above}
use Rattle.sap_stems.proofs.WrittenStems.{stem_written}
use Rattle.sap_stems.proofs.laws.nodes_have_stems.Goals as goal

pub returns-clause-some : goal.returns-clause-some
returns-clause-some c = λ ds p behind identifiers path y order uses e.
    let law : PlainLaw (map plain_definition ds) = record {
      stand = λ d ts among. c.plain_names_stand_for_bodies.ensures.defined (map plain_definition ds) d ts order among;
      bodies = c.plain_names_stand_for_bodies.ensures.bodies (map plain_definition ds) order;
    } in
    has_stems ds p behind path (expansion (map plain_definition ds) identifiers (without_numbers p)).process y (expansion_meant ds law order p identifiers uses) e

pub returns-clause-one : goal.returns-clause-one
returns-clause-one c = λ ds p behind path ss rs a b. one_list ds a b

pub returns-clause-as_many : goal.returns-clause-as_many
returns-clause-as_many c = λ ds p behind identifiers path y ss order uses e a.
    let law : PlainLaw (map plain_definition ds) = record {
      stand = λ d ts among. c.plain_names_stand_for_bodies.ensures.defined (map plain_definition ds) d ts order among;
      bodies = c.plain_names_stand_for_bodies.ensures.bodies (map plain_definition ds) order;
    } in
    let there = has_stems ds p behind path (expansion (map plain_definition ds) identifiers (without_numbers p)).process y (expansion_meant ds law order p identifiers uses) e in
    ap (λ (rs : List Stem). length rs) (one_list ds a there.1) ∙ sym (AllZip-long (λ (s : Stem) (n : Node). IsLike s.node n) there.0 (head_nodes y) there.2)

pub returns-clause-written : goal.returns-clause-written
returns-clause-written c = λ ds p behind path ss k s a e. stem_written ds p behind k s a e

pub returns-clause-above : goal.returns-clause-above
returns-clause-above c = λ ds p behind path ss k s a e. stem_above ds p behind path ss k s a e
