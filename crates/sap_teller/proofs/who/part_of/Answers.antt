use Rattle.std.proofs.Common.{◌<◌, ℕ, [], Option, ap, sym, ◌∙◌, subst}
use Rattle.std.specs.Prelude.{IfSome, option_and_then, option_map, slice_index_or}
use Rattle.sap_players.specs.Numbers.{role_number}
use Rattle.sap_roles.specs.Casts.{role_count}
use Rattle.sap_teller.proofs.who.part_of.Goals as goal

pub part_in-requires : goal.part_in-requires
part_in-requires c = subst (λ (n : ℕ). c.in-Some.role < n) (sym c.requires.count) (subst (λ (o : Option ℕ). IfSome o (λ k. k < role_count c.args.script.now)) c.in-Some.is c.role.ensures.small)

pub returns-in-Some : goal.returns-in-Some
returns-in-Some c = λ cast ds is are.
    c.part_in.ensures cast ds is are
    ∙ ap (option_and_then (λ (r : ℕ). option_map (λ (k : ℕ). (slice_index_or cast.names r [], k)) (role_number ds r c.args.t))) (sym c.in-Some.is ∙ c.role.ensures.role cast is)

pub returns-in-None : goal.returns-in-None
returns-in-None c = λ cast ds is are.
    ap (option_and_then (λ (r : ℕ). option_map (λ (k : ℕ). (slice_index_or cast.names r [], k)) (role_number ds r c.args.t))) (sym c.in-None.is ∙ c.role.ensures.role cast is)
