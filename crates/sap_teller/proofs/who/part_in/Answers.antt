use Rattle.std.proofs.Common.{ℕ, [], Some, ap, sym, ◌∙◌}
use Rattle.std.specs.Prelude.{option_map, slice_index_or}
use Rattle.sap_teller.proofs.who.part_in.Goals as goal

pub returns-in-Some : goal.returns-in-Some
returns-in-Some c = λ cast ds is are.
    ap (λ r. Some (r, c.in-Some.number)) (c.name.ensures cast is)
    ∙ ap (option_map (λ (k : ℕ). (slice_index_or cast.names c.args.role [], k))) (sym c.in-Some.is ∙ c.number.ensures.exact ds are)

pub returns-in-None : goal.returns-in-None
returns-in-None c = λ cast ds is are.
    ap (option_map (λ (k : ℕ). (slice_index_or cast.names c.args.role [], k))) (sym c.in-None.is ∙ c.number.ensures.exact ds are)
