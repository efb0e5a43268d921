use Rattle.std.proofs.Common.{ℕ, List, ap, ◌∙◌, []}
use Rattle.std.specs.Prelude.{is_some}
use Rattle.sap_terms.specs.NameMap.{value_at}
use Rattle.sap_macro.specs.Expansion.{with_uses}
use Rattle.sap_macro.specs.Sources.{definitions, written}
use Rattle.sap_macro.specs.code.Heads.{names_in}
use Rattle.sap_macro.specs.code.Names.{with_names}
use Rattle.sap_macro.specs.code.Steps.{plain_of}
use Rattle.sap_macro.proofs.Bound.{own_set}
use Rattle.sap_macro.proofs.building.own_names.Goals as goal

pub returns : goal.returns
returns c =
    let ds = definitions c.args.defs.now in
    let known = λ (x : List ℕ). is_some (value_at c.args.terms.now x) in
    c.in_ok-add_names.ensures
    ∙ ap (λ own. with_names own (names_in ds known (written c.deref.result.now))) c.new-own.ensures
    ∙ ap (λ s. with_names [] (names_in ds known (written s))) c.deref.ensures
    ∙ own_set (with_uses (plain_of ds) (written c.args.d.now.body.value)) known c.args.d.now.params c.requires.params
