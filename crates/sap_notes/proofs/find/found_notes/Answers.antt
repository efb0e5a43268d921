use Rattle.std.proofs.Common.{◌≡◌, ℕ, length, subst, arith}
use Rattle.sap_notes.specs.code.Walk.{notes_before}
use Rattle.sap_notes.proofs.Steps.{next_declared, next_notes}
use Rattle.sap_notes.proofs.find.found_notes.Goals as goal

pub loop-k-preserved : goal.loop-k-preserved
loop-k-preserved c =
    let lt = c.loop-k-test.true in
    record {
      functions = c.go_on-before.ensures.functions;
      next = c.go_on-before.ensures.next;
      defines = c.go_on-before.ensures.defines;
      declared = next_declared c.args.bytes.now c.args.tokens.now c.loop-k.k c.loop-k.declared c.push_declared_at.new.declared c.loop-k.invariant.declared c.in_ok-push_declared_at.ensures.declared;
      notes = next_notes c.args.known.now.signature.now c.args.known.now.symbols.now c.args.known.now.led.now c.args.bytes.now c.args.tokens.now c.loop-k.k c.loop-k.declared c.loop-k.notes
          c.push_declared_at.new.notes c.push_defined_at.new.notes c.loop-k.invariant.declared c.loop-k.invariant.notes c.in_ok-push_declared_at.ensures.notes c.in_ok-push_defined_at.ensures;
      on = omega (arith, lt);
    }

pub returns : goal.returns
returns c =
    let le = c.loop-k.invariant.on in
    let ge = c.loop-k-test.false in
    let same : c.loop-k.k ≡ length c.args.tokens.now = omega (arith, le, ge) in
    subst (λ (k : ℕ). c.loop-k.notes ≡ notes_before c.args.known.now.signature.now c.args.known.now.symbols.now c.args.known.now.led.now c.args.bytes.now c.args.tokens.now k) same
    c.loop-k.invariant.notes
