use Rattle.std.proofs.Common.{◌≡◌, ℕ, List, length, Option, Some, None, false, sym, ap, subst, ◌∙◌}
use Rattle.std.specs.Option.{option_copied}
use Rattle.std.proofs.lemmas.List.{nil_from_length}
use Rattle.sap_terms.specs.NameMap.{value_at}
use Rattle.sap_terms.specs.Variables.{is_known}
use Rattle.sap_macro.specs.Indexed.{IsIndex, defined}
use Rattle.sap_macro.specs.Sources.{definitions}
use Rattle.sap_origin.proofs.Numbered.{name_at}
use Rattle.sap_origin.proofs.Uses.{undefined, with_parameters}
use Rattle.sap_origin.proofs.trail.replacing.Goals as goal

pub returns-in-None : goal.returns-in-None
returns-in-None c = λ ns count.
    let f = c.args.name.now in
    let none : value_at c.args.index.now f ≡ None = sym c.get.ensures ∙ ap option_copied c.in-None.is in
    let unknown : is_known (defined (definitions c.args.defs.now)) f ≡ false = subst (λ (o : Option ℕ). IsIndex (definitions c.args.defs.now) f o) none (c.requires.index f) in
    undefined c.located_is_written.ensures c.args.defs.now c.requires.order ns count c.args.replaced f unknown

pub returns-in-Every : goal.returns-in-Every
returns-in-Every c =
    let f = c.args.name.now in
    let k = c.in-Some.k.now in
    let some : value_at c.args.index.now f ≡ Some k = sym c.get.ensures ∙ ap option_copied c.in-Some.is in
    let index : IsIndex (definitions c.args.defs.now) f (Some k) = subst (λ (o : Option ℕ). IsIndex (definitions c.args.defs.now) f o) some (c.requires.index f) in
    record {
      definition = c.at.result.now;
      stands = c.at.ensures;
      name_is = name_at c.args.defs.now f k c.at.result.now c.at.ensures index;
      replaced = rw c.in-Every.is tt;
    }

pub returns-then-len-eq0 : goal.returns-then-len-eq0
returns-then-len-eq0 c =
    let f = c.args.name.now in
    let k = c.in-Some.k.now in
    let some : value_at c.args.index.now f ≡ Some k = sym c.get.ensures ∙ ap option_copied c.in-Some.is in
    let index : IsIndex (definitions c.args.defs.now) f (Some k) = subst (λ (o : Option ℕ). IsIndex (definitions c.args.defs.now) f o) some (c.requires.index f) in
    record {
      definition = c.at.result.now;
      stands = c.at.ensures;
      name_is = name_at c.args.defs.now f k c.at.result.now c.at.ensures index;
      replaced = rw c.in-Plain.is (nil_from_length c.at.result.now.params (sym c.len.ensures ∙ c.if-len-eq0.true));
    }

pub returns-else-len-eq0 : goal.returns-else-len-eq0
returns-else-len-eq0 c = λ ns count.
    let f = c.args.name.now in
    let k = c.in-Some.k.now in
    let some : value_at c.args.index.now f ≡ Some k = sym c.get.ensures ∙ ap option_copied c.in-Some.is in
    let index : IsIndex (definitions c.args.defs.now) f (Some k) = subst (λ (o : Option ℕ). IsIndex (definitions c.args.defs.now) f o) some (c.requires.index f) in
    rw c.in-Plain.is
    (with_parameters c.located_is_written.ensures c.args.defs.now c.requires.order ns count f k c.at.result.now c.at.ensures (name_at c.args.defs.now f k c.at.result.now c.at.ensures index)
    (λ none. c.if-len-eq0.false (c.len.ensures ∙ ap (λ (xs : List (List ℕ)). length xs) none)))
