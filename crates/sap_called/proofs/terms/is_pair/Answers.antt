use Rattle.std.proofs.Common.{◌≡◌, ◌≢◌, length, ◌∙◌, sym, arith}
use Rattle.sap_called.proofs.Lists.{is_pair-two, is_pair-not_two}
use Rattle.sap_called.proofs.terms.is_pair.Goals as goal

pub returns-then-len-eq2-clause-is : goal.returns-then-len-eq2-clause-is
returns-then-len-eq2-clause-is c ds =
    let two : length c.args.args.now ≡ 2 = omega arith in c.is.ensures.test ∙ sym (is_pair-two ds c.args.f.now c.args.args.now two)

pub returns-else-len-eq2-clause-is : goal.returns-else-len-eq2-clause-is
returns-else-len-eq2-clause-is c ds = let other : length c.args.args.now ≢ 2 = omega arith in sym (is_pair-not_two ds c.args.f.now c.args.args.now other)
