use Rattle.std.proofs.Common.{◌≡◌, [], Some, None, ap, ◌∙◌, sym}
use Rattle.std.specs.Prelude.{option_copied, option_map, slice_get}
use Rattle.sap_macro.specs.Sources.{located}
use Rattle.sap_macro.specs.declared.definition.Definition.{Definition}
use Rattle.sap_roles.proofs.Casts.{got_or, name_at, none_or}
use Rattle.sap_roles.proofs.script.Script.name.Goals as goal

pub returns-in-Some : goal.returns-in-Some
returns-in-Some c = λ cast is.
    let s = c.args.self.now in
    let at : slice_get s.definitions c.args.role ≡ Some c.in-Some.d.now = sym c.get.ensures ∙ ap option_copied c.in-Some.is in
    c.as_bytes.ensures ∙ sym (got_or cast.names c.args.role c.in-Some.d.now.name [] (name_at s.definitions is.counts is.as_many (located s.main.value) is.behind cast is.is c.args.role ∙ ap (option_map (λ (d : Definition). d.name)) at))

pub returns-in-None : goal.returns-in-None
returns-in-None c = λ cast is.
    let s = c.args.self.now in
    let at : slice_get s.definitions c.args.role ≡ None = sym c.get.ensures ∙ ap option_copied c.in-None.is in
    sym (none_or cast.names c.args.role [] (name_at s.definitions is.counts is.as_many (located s.main.value) is.behind cast is.is c.args.role ∙ ap (option_map (λ (d : Definition). d.name)) at))
