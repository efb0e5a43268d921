use Rattle.sap_gen.proofs.Printable.Checks.{CheckLaws, inlined_theory_passes, theory_passes}
use Rattle.sap_gen.proofs.laws.theories_pass_checks.Goals as goal

pub returns : goal.returns
returns c =
    let laws : CheckLaws = record {
      seven = c.restrictions_are_closed.ensures.closed;
      closed = c.faultless_formulas_are_checked.ensures.closed;
      settled = record { labels = c.annotations_are_settled.ensures.labels; lookups = c.annotations_are_settled.ensures.lookups };
      made = c.rules_are_well_made.ensures.made;
      names = c.rules_are_well_made.ensures.names;
    } in
    record { plain = theory_passes laws; inlined = inlined_theory_passes laws }
