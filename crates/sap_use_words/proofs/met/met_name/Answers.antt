use Rattle.std.proofs.Common.{◌≡◌, ℕ, false, List, [], Option, Some, None, sym, ap, ◌∙◌, subst, arith}
use Rattle.std.specs.Option.{option_copied}
use Rattle.std.specs.Prelude.{slice_index_or}
use Rattle.sap_terms.specs.NameMap.{value_at}
use Rattle.sap_terms.specs.Variables.{is_known}
use Rattle.sap_macro.specs.Indexed.{IsIndex, defined}
use Rattle.sap_macro.specs.Order.{AreInOrder}
use Rattle.sap_macro.specs.Sources.{definition_of, definitions, located, written}
use Rattle.sap_macro.specs.Written.{Definition}
use Rattle.sap_origin.specs.Definitions.{located_definitions}
use Rattle.sap_use_words.proofs.Located.{plain_there}
use Rattle.sap_use_words.proofs.Walking.{met_plain, met_unknown, met_use}
use Rattle.sap_use_words.proofs.met.met_name.Goals as goal

pub returns-in-None : goal.returns-in-None
returns-in-None c = λ us.
    let ds = located_definitions c.args.defs.now c.args.behind.now in
    let es = definitions c.args.defs.now in
    let f = c.args.name.now in
    let law = c.located_definitions_are_written.ensures c.args.defs.now c.args.behind.now c.requires.count in
    let none : value_at c.args.index.now f ≡ None = sym c.get.ensures ∙ ap option_copied c.in-None.is in
    let unknown : is_known (defined es) f ≡ false = subst (λ (o : Option ℕ). IsIndex es f o) none (c.requires.index f) in
    met_unknown ds es c.args.behind_source us c.args.source.now c.args.left f c.args.args.now (ap located c.requires.is)
    (subst (λ (xs : List Definition). is_known (defined xs) f ≡ false) (sym law) unknown)

pub returns-then-len-eq0 : goal.returns-then-len-eq0
returns-then-len-eq0 c = λ us.
    let ds = located_definitions c.args.defs.now c.args.behind.now in
    let es = definitions c.args.defs.now in
    let f = c.args.name.now in
    let k = c.in-Some.k.now in
    let d = c.at-definition.result.now in
    let law = c.located_definitions_are_written.ensures c.args.defs.now c.args.behind.now c.requires.count in
    let some : value_at c.args.index.now f ≡ Some k = sym c.get.ensures ∙ ap option_copied c.in-Some.is in
    let index : IsIndex es f (Some k) = subst (λ (o : Option ℕ). IsIndex es f o) some (c.requires.index f) in
    let count = c.len.ensures in
    let zero = c.if-len-eq0.true in
    met_plain ds es us (subst (λ (xs : List Definition). AreInOrder [] xs) (sym law) c.requires.order) c.args.source.now (record { left = c.args.left; behind = c.args.behind_source }) d
    (record { source = c.deref.result; behind = slice_index_or c.args.behind.now k 0 }) f c.args.args.now k (ap located c.requires.is) (ap written c.requires.is)
    (c.located_definitions_by_number.ensures.located c.args.defs.now c.args.behind.now k d c.requires.count c.at-definition.ensures) (c.located_definitions_by_number.ensures.named c.args.defs.now f k d c.at-definition.ensures index) (omega (arith, count, zero))
    c.deref.ensures (c.names_cost_their_bodies.ensures es k (definition_of d) c.requires.order (plain_there c.args.defs.now k d c.at-definition.ensures))

pub returns-else-len-eq0 : goal.returns-else-len-eq0
returns-else-len-eq0 c = λ us.
    let ds = located_definitions c.args.defs.now c.args.behind.now in
    let es = definitions c.args.defs.now in
    let f = c.args.name.now in
    let k = c.in-Some.k.now in
    let d = c.at-definition.result.now in
    let law = c.located_definitions_are_written.ensures c.args.defs.now c.args.behind.now c.requires.count in
    let some : value_at c.args.index.now f ≡ Some k = sym c.get.ensures ∙ ap option_copied c.in-Some.is in
    let index : IsIndex es f (Some k) = subst (λ (o : Option ℕ). IsIndex es f o) some (c.requires.index f) in
    let count = c.len.ensures in
    let other = c.if-len-eq0.false in
    met_use ds es us (subst (λ (xs : List Definition). AreInOrder [] xs) (sym law) c.requires.order) c.args.source.now
    (record {
      word = record { left = c.args.left; behind = c.args.behind_source };
      definition = c.at-definition.result;
      behind = slice_index_or c.args.behind.now k 0;
      args = c.args.args;
    })
    f k (ap located c.requires.is) (ap written c.requires.is) (c.located_definitions_by_number.ensures.located c.args.defs.now c.args.behind.now k d c.requires.count c.at-definition.ensures)
    (c.located_definitions_by_number.ensures.named c.args.defs.now f k d c.at-definition.ensures index) (λ h. absurd (omega (arith, count, other, h)))
    (c.names_cost_their_bodies.ensures es k (definition_of d) c.requires.order (plain_there c.args.defs.now k d c.at-definition.ensures))
