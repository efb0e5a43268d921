use Rattle.std.proofs.Common.{◌≡◌, [], inr, subst}
use Rattle.std.specs.Global.{Box}
use Rattle.sap_rewrite.specs.Match.{IsOnlyMatch}
use Rattle.sap_terms.specs.View.{tree}
use Rattle.sap_teller.specs.declared.doing.Doing.{Doing}
use Rattle.sap_teller.specs.declared.doing.Doing.TheVariants as does
use Rattle.sap_teller.proofs.Found.{if_ok}
use Rattle.sap_teller.proofs.finding.met_by.Goals as goal

pub returns : goal.returns
returns c =
    let lent : c.deref.result.now ≡ c.args.sent.value = cc in
    let only = subst (λ two. IsOnlyMatch (tree c.args.p.now) (tree two.1) [] c.in-Some.b) lent (rw c.in-Some.is at c.in_ok-bound_to.ensures) in
    if_ok c.boxed.result _ _ (λ (r : Box Doing) same. inr (c.in-Some.b, (let meets : r.value ≡ does.Meets c.args.stands c.args.sent.value.0 c.args.sent.value.1 c.in-Some.b = cc in meets), only)) c.boxed.ensures
