use Rattle.std.proofs.Common.{ℕ, inl, inr, arith, subst}
use Rattle.sap_derive.proofs.Gets.{same-or_not}
use Rattle.sap_derive.proofs.Settled.{Settled, settled-advanced, settled-now}
use Rattle.sap_derive.proofs.closure.Closure.place_next.Goals as goal

pub returns-in_err-advance-clause-closure : goal.returns-in_err-advance-clause-closure
returns-in_err-advance-clause-closure c = record {
  sound = c.advance.ensures.sound;
  settled = settled-advanced c.args.self.now c.advance.new.self c.requires.closure.sound c.advance.ensures.advances c.requires.closure.settled;
}

pub returns-clause-closure : goal.returns-clause-closure
returns-clause-closure c =
    let old = c.args.self.now in
    let new = c.advance.new.self in
    let adv = c.advance.ensures.advances in
    let s = c.advance.ensures.sound in
    let next = c.requires.next in
    let here = settled-now new.clauses new.known new.waiting.items new.done new.looked old.placed c.in_ok-advance.ensures.settled in
    let before = settled-advanced old new c.requires.closure.sound adv c.requires.closure.settled in
    record {
      sound = record {
        count = s.count;
        once = s.once;
        steps = s.steps;
        waits = s.waits;
        placed_within = rw adv.grows.clauses (omega arith);
        done_within = s.done_within;
        none_looked = s.none_looked;
      };
      settled = λ i l.
          elim (same-or_not old.placed i) [
            | inl e ↦ subst (λ (j : ℕ). Settled new.clauses new.known new.waiting.items new.done new.looked j) e here
            | inr n ↦ before i (let p = adv.placed in omega arith)
          ];
    }
