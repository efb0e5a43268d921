use Rattle.sap_gen.proofs.Printable.Theories.{SettledLaws, inlined_theory_printable, rules_linear, theory_printable}
use Rattle.sap_gen.proofs.laws.theories_are_printable.Goals as goal

pub returns : goal.returns
returns c =
    let laws : SettledLaws = record { labels = c.annotations_are_settled.ensures.labels; lookups = c.annotations_are_settled.ensures.lookups } in
    record { plain = theory_printable laws; inlined = inlined_theory_printable laws; linear = rules_linear laws }
