use Rattle.std.proofs.Common.{◌∙◌, sym, ap, take, map, length, refl, arith}
use Rattle.std.proofs.lemmas.Option.{slice_get_read}
use Rattle.sap_terms.specs.declared.var.Var.{Var}
use Rattle.sap_terms.proofs.PlainLaws.Lists.{map_got}
use Rattle.sap_terms.specs.Variables.{is_known}
use Rattle.sap_rule.proofs.Known.{known_noted}
use Rattle.sap_rule.proofs.variables.names_of.Goals as goal

pub loop-v-preserved : goal.loop-v-preserved
loop-v-preserved c =
    let name = λ (v : Var). v.name in
    let xs = c.as_slice-v-items.result.now in
    let front = map name (take c.loop-v.v-index xs) in
    λ n. known_noted c.loop-v.names c.note.new.known c.v-item.result.name front c.loop-v.invariant c.in_ok-note.ensures.keys n ∙ sym (ap (λ ks. is_known ks n) (map_got name xs c.loop-v.v-index c.v-item.result (slice_get_read xs (length xs) c.loop-v.v-index c.v-item.result refl (omega arith) c.v-item.is)))
