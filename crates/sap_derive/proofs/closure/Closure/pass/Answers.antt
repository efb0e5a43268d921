use Rattle.std.proofs.Common.{◌≡◌, ℕ, Some, arith, subst, refl}
use Rattle.std.specs.Prelude.{slice_get}
use Rattle.std.proofs.lemmas.Option.{slice_get_within}
use Rattle.sap_derive.proofs.Settled.{Settled, settled-done}
use Rattle.sap_derive.proofs.closure.Closure.pass.Goals as goal

pub returns-clause-closure : goal.returns-clause-closure
returns-clause-closure c =
    let old = c.args.self.now in
    let new = c.look_at_all.new.self in
    let n = c.at-number.result in
    let e = c.look_at_all.ensures in
    let s = e.closure.sound in
    let here : slice_get new.known old.done ≡ Some n = e.grows.known old.done n c.at-number.ensures in
    let within = slice_get_within new.known old.done n here in
    record {
      sound = record {
        count = s.count;
        once = s.once;
        steps = s.steps;
        waits = s.waits;
        placed_within = s.placed_within;
        done_within = omega arith;
        none_looked = λ h. refl;
      };
      settled = λ i l.
          settled-done new.clauses new.known new.waiting.items old.done new.looked n here c.in_ok-look_at_all.ensures.ok i
          (subst (λ (j : ℕ). Settled new.clauses new.known new.waiting.items j new.looked i) e.done (e.closure.settled i l));
    }
