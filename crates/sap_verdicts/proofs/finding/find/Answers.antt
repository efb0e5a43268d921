use Rattle.std.proofs.Common.{[], ◌∷◌, map, refl, ap, ◌∙◌}
use Rattle.std.proofs.lemmas.List.{map-append}
use Rattle.std.proofs.lemmas.Result.{on_ok_weaker}
use Rattle.sap_search.specs.View.{chosen_value}
use Rattle.sap_verdicts.specs.View.{found}
use Rattle.sap_verdicts.proofs.finding.find.Goals as goal

pub returns : goal.returns
returns c = λ g m k.
    let v = c.in_ok-verdict.ensures g m k in
    let r = c.in_ok-reason.ensures g m k v in
    on_ok_weaker c.push.result
    (λ put. record {
      more = record { name = c.args.name.now; what = c.args.what; verdict = c.in_ok-verdict.verdict; reason = map chosen_value c.in_ok-reason.reason.items } ∷ [];
      are = (record { name = refl; what = refl; verdict = v; reason = r }, tt);
      put = ap (map found) put ∙ map-append found c.args.out.now (_ ∷ []);
    }) c.push.ensures.ok
