use Rattle.std.proofs.Common.{◌∙◌}
use Rattle.sap_terms.specs.NameMap.{value_at}
use Rattle.sap_terms.proofs.NamedLemmas.{places-push}
use Rattle.sap_terms.proofs.named.Named.push_found.Goals as goal

pub invariant_of-self-in-Ok-keep : goal.invariant_of-self-in-Ok-keep
invariant_of-self-in-Ok-keep g c =
    rw c.in-Ok-push.ensures.ok
    (places-push g.T.HasName.name_of (value_at c.self.inside.places) (value_at c.keep.new.self) c.self.inside.items c.args.item c.in-Ok.name c.len-last.result c.in-Ok-keep.first
    c.self.invariant (c.in-Ok.ensures ∙ c.name.ensures) c.len-last.ensures c.in-Ok-keep.ensures.number c.in-Ok-keep.ensures.ok)
