use Rattle.std.proofs.Common.{ap, ◌∙◌, is_some}
use Rattle.std.specs.List.{list_any}
use Rattle.std.specs.Str.{bytes_eq}
use Rattle.sap_terms.proofs.NameSetLemmas.{place-any}
use Rattle.sap_terms.proofs.name_set.NameSet.contains.Goals as goal

pub returns : goal.returns
returns c =
    c.is_some.ensures ∙ ap is_some c.index_of.ensures ∙ place-any c.self.inside.names c.args.name.now ∙ ap (list_any (bytes_eq c.args.name.now)) c.self.view_is
