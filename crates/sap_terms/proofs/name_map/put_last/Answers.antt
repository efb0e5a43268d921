use Rattle.std.proofs.Common.{◌≡◌, Some, None, sym, ap, ◌∙◌, rules}
use Rattle.std.specs.BTreeMap.{get, is_at}
use Rattle.std.specs.Map.{set_value}
use Rattle.std.proofs.lemmas.Map.Steps.{set_value_same}
use Rattle.std.proofs.lemmas.Result.{on_err_weaker, on_ok_weaker}
use Rattle.sap_terms.specs.code.NameOrder.{name_cmp}
use Rattle.sap_terms.proofs.PlainLaws.Maps.{first_by_bytes, item_by_bytes}
use Rattle.sap_terms.proofs.name_map.put_last.Goals as goal

pub returns-in-Some : goal.returns-in-Some
returns-in-Some g c =
    let m = c.args.pairs.now in
    let n = c.args.name.now in
    let old = c.in-Some.items.now in
    let longer = c.push.new.self in
    let at : get name_cmp m n ≡ Some old = sym c.in-Some.ensures.value in
    record {
      ok = on_ok_weaker c.push.result (λ e. item_by_bytes m (c.get_mut.follows.lender longer) n old longer c.args.item at e ((c.get_mut.follows.holds longer).3 (search rules))) c.push.ensures.ok;
      err = on_err_weaker c.push.result (λ e. (c.get_mut.follows.holds longer).0 ∙ ap (set_value (is_at (name_cmp n)) m.entries) e ∙ set_value_same (is_at (name_cmp n)) m.entries old at) c.push.ensures.err;
    }

pub returns-in-None-clause-ok : goal.returns-in-None-clause-ok
returns-in-None-clause-ok g c =
    let m = c.args.pairs.now in
    let none : get name_cmp m c.args.name.now ≡ None = sym c.in-None.ensures.value in
    on_ok_weaker c.start.result (first_by_bytes m c.start.new.pairs.entries c.args.name.now c.args.item none) (rw c.get_mut.follows.holds-at-none at c.start.ensures.ok)
