use Rattle.std.proofs.Common.{sym, ◌∙◌, arith}
use Rattle.sap_where.proofs.FirstDeclared.{first_here, none_more}
use Rattle.sap_where.proofs.first_declared.first_before.Goals as goal

pub returns-then-branch : goal.returns-then-branch
returns-then-branch c =
    let lt = c.loop-k-test.true in
    let end = c.requires in (lt, first_here c.args.bytes.now c.args.tokens.now c.args.name.now c.loop-k.k (omega (arith, lt, end)) (sym c.if-branch.true ∙ c.in_ok-declares_at.ensures) c.loop-k.invariant.none)

pub loop-k-preserved : goal.loop-k-preserved
loop-k-preserved c =
    let lt = c.loop-k-test.true in record {
      builtins = c.go_on-before.ensures.builtins;
      functions = c.go_on-before.ensures.functions;
      next = c.go_on-before.ensures.next;
      on = omega (arith, lt);
      none = none_more c.args.bytes.now c.args.tokens.now c.args.name.now c.loop-k.k (sym c.if-branch.false ∙ c.in_ok-declares_at.ensures) c.loop-k.invariant.none;
    }
