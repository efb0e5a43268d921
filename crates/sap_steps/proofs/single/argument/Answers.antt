use Rattle.std.proofs.Common.{◌≡◌, length, arith}
use Rattle.sap_steps.proofs.Lists.{one_item}
use Rattle.sap_steps.proofs.single.argument.Goals as goal

pub returns : goal.returns
returns c =
    let one : length c.args.f.now.args ≡ 1 = omega (arith, c.len.ensures, c.if-len-ne1.false) in
    let args = one_item c.args.f.now.args c.at.result.now one c.at.ensures in
    let named = c.is.ensures.equal.0 c.if-not-is.false in
    λ i. record { name = named i; persistent = c.if-f.false i; args = args i }
