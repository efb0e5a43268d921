use Rattle.std.proofs.Common.{◌≡◌, ◌+◌, ℕ, Some, arith, subst}
use Rattle.std.specs.Prelude.{slice_get, List, Vec}
use Rattle.std.specs.declared.alloc.Global.{Global}
use Rattle.sap_derive.specs.declared.grounds.Wait.{Wait}
use Rattle.std.proofs.lemmas.Option.{slice_get_within}
use Rattle.sap_derive.specs.code.Lines.{premises_of}
use Rattle.sap_derive.specs.code.Listed.{AreListedBefore}
use Rattle.sap_derive.specs.code.Closed.{IsWaitAt}
use Rattle.sap_derive.specs.declared.clause.Clause.{Clause}
use Rattle.sap_derive.proofs.Settled.{Settled, settled-advanced, settled-looked}
use Rattle.sap_derive.proofs.closure.Closure.look_next.Goals as goal

pub advance-requires-clause-clause : goal.advance-requires-clause-clause
advance-requires-clause-clause c =
    let w = c.requires.closure.sound.waits c.args.number c.args.self.now.looked c.wait_at-wait.result (subst (λ (ws : List (Vec Wait Global)). IsWaitAt ws c.args.number c.args.self.now.looked c.wait_at-wait.result) c.as_slice.ensures.value c.wait_at-wait.ensures) in
    slice_get_within _ _ w.clause w.is

pub advance-requires-clause-before : goal.advance-requires-clause-before
advance-requires-clause-before c k e =
    let w = c.requires.closure.sound.waits c.args.number c.args.self.now.looked c.wait_at-wait.result (subst (λ (ws : List (Vec Wait Global)). IsWaitAt ws c.args.number c.args.self.now.looked c.wait_at-wait.result) c.as_slice.ensures.value c.wait_at-wait.ensures) in
    let i = w.is in
    let same : w.clause ≡ k = cc in
    subst (λ (x : Clause). AreListedBefore c.args.self.now.known (premises_of x.line) c.wait_at-wait.result.place) same w.before

pub returns-in_err-advance-clause-closure : goal.returns-in_err-advance-clause-closure
returns-in_err-advance-clause-closure c = record {
  sound = c.advance.ensures.sound;
  settled = settled-advanced c.args.self.now c.advance.new.self c.requires.closure.sound c.advance.ensures.advances c.requires.closure.settled;
}

pub returns-in_err-advance-clause-only : goal.returns-in_err-advance-clause-only
returns-in_err-advance-clause-only c k w a = c.advance.ensures.advances.only c.args.number k w (c.args.self.now.done, c.requires.known) a

pub returns-clause-only : goal.returns-clause-only
returns-clause-only c k w a = c.advance.ensures.advances.only c.args.number k w (c.args.self.now.done, c.requires.known) a

pub returns-clause-closure : goal.returns-clause-closure
returns-clause-closure c =
    let old = c.args.self.now in
    let new = c.advance.new.self in
    let adv = c.advance.ensures.advances in
    let s = c.advance.ensures.sound in
    let w = c.wait_at-wait.result in
    let here : slice_get new.known new.done ≡ Some c.args.number = rw adv.done (adv.grows.known old.done c.args.number c.requires.known) in
    let at : IsWaitAt new.waiting.items c.args.number new.looked w = rw adv.looked (adv.kept c.args.number old.looked w (subst (λ (ws : List (Vec Wait Global)). IsWaitAt ws c.args.number c.args.self.now.looked c.wait_at-wait.result) c.as_slice.ensures.value c.wait_at-wait.ensures)) in
    let within = slice_get_within new.known new.done c.args.number here in
    let before = settled-advanced old new c.requires.closure.sound adv c.requires.closure.settled in
    record {
      sound = record {
        count = s.count;
        once = s.once;
        steps = s.steps;
        waits = s.waits;
        placed_within = s.placed_within;
        done_within = s.done_within;
        none_looked = λ h. absurd (omega (arith, h));
      };
      settled = λ i l.
          subst (λ (j : ℕ). Settled new.clauses new.known new.waiting.items new.done (j + 1) i) adv.looked
          (settled-looked new.clauses new.known new.waiting.items new.done new.looked c.args.number here w at c.in_ok-advance.ensures.settled i (before i l));
    }
