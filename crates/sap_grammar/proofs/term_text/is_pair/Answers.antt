use Rattle.std.proofs.Common.{◌≡◌, ◌≢◌, length, ◌∙◌, sym, arith}
use Rattle.sap_grammar.proofs.Applied.{is_pair-two, is_pair-not_two}
use Rattle.sap_grammar.proofs.term_text.is_pair.Goals as goal

pub returns-then-len-eq2-clause-is : goal.returns-then-len-eq2-clause-is
returns-then-len-eq2-clause-is c =
    let two : length c.args.args.now ≡ 2 = omega arith in c.is.ensures.test ∙ sym (is_pair-two c.args.f.now c.args.args.now two)

pub returns-else-len-eq2-clause-is : goal.returns-else-len-eq2-clause-is
returns-else-len-eq2-clause-is c = let other : length c.args.args.now ≢ 2 = omega arith in sym (is_pair-not_two c.args.f.now c.args.args.now other)
