use Rattle.std.proofs.Common.{◌≡◌, rules}
use Rattle.sap_terms.specs.Equations.{equations}
use Rattle.sap_sides.proofs.Normals.{form_stays}
use Rattle.sap_sides.proofs.bindings.is_small_form.Goals as goal

pub returns-else-normal_of-id : goal.returns-else-normal_of-id
returns-else-normal_of-id c = (
  λ h.
      let at : c.normal_of.result ≡ c.args.id = search (rules, h) in
      absurd (c.if-normal_of-id.false at),
  λ small.
      let table = c.args.table.now in
      absurd (c.if-normal_of-id.false (form_stays c.normal_forms_are_unique.ensures (equations table.sig) table.trees c.args.id c.normal_of.result c.each_has_one_number.ensures c.requires c.normal_of.ensures.below c.normal_of.ensures.form small.normal)),
)
