use Rattle.std.proofs.Common.{ap, ◌∙◌}
use Rattle.std.specs.List.{position}
use Rattle.std.specs.Str.{bytes_eq}
use Rattle.sap_terms.proofs.NameSetLemmas.{place-position}
use Rattle.sap_terms.proofs.name_set.NameSet.index_of.Goals as goal

pub returns : goal.returns
returns c = c.index_of.ensures ∙ place-position c.self.inside.names c.args.name.now ∙ ap (position (bytes_eq c.args.name.now)) c.self.view_is
