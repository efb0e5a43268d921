use Rattle.std.proofs.Common.{◌≡◌, ◌+◌, ◌*◌, drop, sym, arith}
use Rattle.std.proofs.lemmas.Grind.{common_steps}
use Rattle.sap_grammar.specs.Declarations.{value, value_from}
use Rattle.sap_expect.proofs.Arities.{arity_stop}
use Rattle.sap_expect.proofs.seen.is_arity.Goals as goal

pub returns-then-arity-gt-MOST_ARITY : goal.returns-then-arity-gt-MOST_ARITY
returns-then-arity-gt-MOST_ARITY c =
    let all : value c.args.digits.now ≡ value_from (c.loop-digit.arity * 10 + c.saturating_sub.result) (drop (c.loop-digit.digit-index + 1) c.args.digits.now) = grind (arith, common_steps) in
    sym (arity_stop c.args.digits.now (drop (c.loop-digit.digit-index + 1) c.args.digits.now) _ all c.if-arity-gt-MOST_ARITY.true)
