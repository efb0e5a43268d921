use Rattle.std.proofs.Common.{◌∙◌, ◌∷◌, [], sym, ap, take, map, length, refl, arith}
use Rattle.std.proofs.lemmas.Option.{slice_get_read}
use Rattle.sap_terms.proofs.PlainLaws.Lists.{map_got}
use Rattle.sap_terms.specs.Variables.{is_known}
use Rattle.sap_terms.specs.declared.var.Var.{Var}
use Rattle.sap_heads.proofs.Known.{known_put, alike_ends}
use Rattle.sap_heads.proofs.bindings.names_in.Goals as goal

pub loop-v-preserved : goal.loop-v-preserved
loop-v-preserved c =
    let name = λ (v : Var). v.name in
    let xs = c.as_slice-v-items.result.now in
    let one = c.v-item.result.name ∷ [] in
    λ n. known_put c.loop-v.names c.insert.new.self c.v-item.result.name c.in_ok-insert.ensures.more n ∙ alike_ends c.loop-v.names (map name (take c.loop-v.v-index xs)) one one c.loop-v.invariant (λ m. refl) n
    ∙ sym (ap (λ ks. is_known ks n) (map_got name xs c.loop-v.v-index c.v-item.result (slice_get_read xs (length xs) c.loop-v.v-index c.v-item.result refl (omega arith) c.v-item.is)))
