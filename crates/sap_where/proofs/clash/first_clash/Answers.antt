use Rattle.std.proofs.Common.{◌≡◌, ℕ, None, length, subst, arith}
use Rattle.sap_terms.specs.Signature.{pairs_alone}
use Rattle.sap_grammar.specs.Signatures.{clash_from}
use Rattle.sap_where.specs.FileDeclarations.{declared_before}
use Rattle.sap_where.proofs.Clashes.{clash_is, next_none, next_signature}
use Rattle.sap_where.proofs.clash.first_clash.Goals as goal

pub returns-in-Some : goal.returns-in-Some
returns-in-Some c =
    clash_is c.args.bytes.now c.args.tokens.now c.in-Some.name c.loop-k.k c.loop-k.signature c.loop-k-test.true c.loop-k.invariant.signature c.loop-k.invariant.none
    (rw c.in-Some.is at c.in_ok-name.ensures.clash)

pub loop-k-preserved : goal.loop-k-preserved
loop-k-preserved c =
    let lt = c.loop-k-test.true in record {
      builtins = c.go_on-before.ensures.builtins;
      functions = c.go_on-before.ensures.functions;
      next = c.go_on-before.ensures.next;
      signature = next_signature c.args.bytes.now c.args.tokens.now c.loop-k.k c.loop-k.signature c.add_at.new.signature c.loop-k.invariant.signature c.in_ok-name.ensures.added;
      on = omega (arith, lt);
      none = next_none c.args.bytes.now c.args.tokens.now c.loop-k.k c.loop-k.signature c.loop-k.invariant.signature c.loop-k.invariant.none
          (rw c.in_default.is at c.in_ok-name.ensures.clash);
    }

pub returns : goal.returns
returns c =
    let le = c.loop-k.invariant.on in
    let ge = c.loop-k-test.false in
    let same : c.loop-k.k ≡ length c.args.tokens.now = omega (arith, le, ge) in
    subst (λ (k : ℕ). clash_from pairs_alone (declared_before c.args.bytes.now c.args.tokens.now k) ≡ None) same c.loop-k.invariant.none
