use Rattle.std.proofs.Common.{◌≤◌, length, refl, sym, ap, ◌∙◌, arith}
use Rattle.std.proofs.lemmas.Bool.Decides.{nat_tests}
use Rattle.sap_derive.proofs.Settled.{closed, grows-then}
use Rattle.sap_derive.proofs.closure.Closure.close.Goals as goal

pub returns-then-self-len-clause-closed : goal.returns-then-self-len-clause-closed
returns-then-self-len-clause-closed c =
    let s = c.loop.self in
    let all : length s.known ≤ s.done = grind (arith, nat_tests) in
    closed s c.loop.invariant.closure c.loop.invariant.placed all

pub loop-init : goal.loop-init
loop-init c = record { closure = c.place_all.ensures.closure; grows = c.place_all.ensures.grows; placed = c.in_ok-place_all.ensures.ok; done = refl }

pub loop-preserved : goal.loop-preserved
loop-preserved c =
    let i = c.loop.invariant in
    let e = c.pass.ensures in
    record {
      closure = e.closure;
      grows = grows-then c.args.self.now c.loop.self c.pass.new.self i.grows e.grows;
      placed = e.placed ∙ i.placed ∙ ap length (sym e.grows.clauses);
      done = c.in_ok-pass.ensures.ok ∙ (let l = i.done in omega arith);
    }

pub returns-in_err-pass-clause-grows : goal.returns-in_err-pass-clause-grows
returns-in_err-pass-clause-grows c = grows-then c.args.self.now c.loop.self c.pass.new.self c.loop.invariant.grows c.pass.ensures.grows
