use Rattle.std.proofs.Common.{◌≡◌, ◌<◌, ℕ, List, Some, length, get_or, refl, subst, arith}
use Rattle.std.specs.Prelude.{slice_get}
use Rattle.std.proofs.lemmas.Option.{slice_get_read}
use Rattle.sap_terms.proofs.PlainLaws.Lists.{drop_got}
use Rattle.sap_macro.proofs.Choices.{one_named}
use Rattle.sap_macro.proofs.chosen.new_names.Goals as goal

-- the name there
name_at : (own xs : List (List ℕ)) (k : ℕ) (n : List ℕ) → xs ≡ own → k < length xs → n ≡ get_or xs k n → slice_get own k ≡ Some n
name_at own xs k n same below is = subst (λ (zs : List (List ℕ)). slice_get zs k ≡ Some n) same (slice_get_read xs (length xs) k n refl below is)

pub loop-x-preserved : goal.loop-x-preserved
loop-x-preserved c =
    let there = name_at c.args.own.now c.as_slice-x-items.result.now c.loop-x.x-index c.x-item.result c.as_slice-x-items.ensures.names (omega arith) c.x-item.is in
    one_named c.args.chosen.now c.args.own.now c.loop-x.x-index c.loop-x.chosen c.choose_into.new.chosen c.loop-x.names c.choose_into.new.names c.x-item.result
    c.loop-x.invariant (drop_got c.args.own.now c.loop-x.x-index c.x-item.result there) c.in_ok-choose_into.ensures.taken c.in_ok-choose_into.ensures.names
