use Rattle.std.proofs.Common.{◌≡◌, ℕ, Some, get_or, inl, inr, ◌∙◌, refl, subst}
use Rattle.std.specs.Prelude.{slice_get}
use Rattle.std.proofs.lemmas.Option.{get_or_from_slice_get}
use Rattle.std.proofs.lemmas.Result.{on_ok_weaker}
use Rattle.sap_derive.specs.code.Closed.{IsParked, IsWaiting}
use Rattle.sap_derive.specs.code.Listed.{IsListed}
use Rattle.sap_derive.specs.declared.grounds.Wait.{Wait}
use Rattle.sap_derive.proofs.Sound.{sound-parked}
use Rattle.sap_derive.proofs.closure.Closure.wait.Goals as goal

pub returns-clause-sound : goal.returns-clause-sound
returns-clause-sound c =
    let s = c.args.self.now in
    let k = c.at.result.now in
    let first = c.requires.first k c.at.ensures in
    let at : slice_get c.premises.result.now c.args.place ≡ Some first.number = rw c.premises.ensures first.at in
    let number = get_or_from_slice_get c.premises.result.now c.args.place first.number 0 at in
    let wait : Wait = record { clause = c.args.clause; place = c.args.place } in
    sound-parked s.clauses s.known s.ways.items s.waiting.items s.placed s.done s.looked c.requires.sound c.park.new.waiting.items (get_or c.premises.result.now c.args.place 0) wait c.park.ensures.only
    (record { clause = k; is = c.at.ensures; at = rw number first.at; before = first.before })

pub returns-clause-advances : goal.returns-clause-advances
returns-clause-advances c =
    let s = c.args.self.now in
    let k = c.at.result.now in
    let first = c.requires.first k c.at.ensures in
    let at : slice_get c.premises.result.now c.args.place ≡ Some first.number = rw c.premises.ensures first.at in
    let number = get_or_from_slice_get c.premises.result.now c.args.place first.number 0 at in
    record {
      grows = record { clauses = refl; known = λ i n e. e; given = λ n g. record { rank = g.rank; is = g.is; way = g.way } };
      placed = refl;
      done = refl;
      looked = refl;
      later = λ i n e. inl e;
      kept = c.park.ensures.kept;
      only = λ m i w l a.
          elim (c.park.ensures.only m i w a)
          [ inl old ↦ old | inr new ↦ absurd (first.unlisted (subst (λ (n : ℕ). IsListed s.known n) (new.0 ∙ number) l)) ];
    }

pub returns-clause-waits : goal.returns-clause-waits
returns-clause-waits c =
    let s = c.args.self.now in
    let k = c.at.result.now in
    let first = c.requires.first k c.at.ensures in
    let at : slice_get c.premises.result.now c.args.place ≡ Some first.number = rw c.premises.ensures first.at in
    let number = get_or_from_slice_get c.premises.result.now c.args.place first.number 0 at in
    let wait : Wait = record { clause = c.args.clause; place = c.args.place } in
    let waits = λ (p : IsParked c.park.new.waiting.items (get_or c.premises.result.now c.args.place 0) wait).
    let w : IsWaiting s.known c.park.new.waiting.items c.args.clause = record {
      number = get_or c.premises.result.now c.args.place 0;
      index = p.0;
      wait = wait;
      at = p.1;
      clause = refl;
      unknown = λ (l : IsListed s.known (get_or c.premises.result.now c.args.place 0)). first.unlisted (subst (λ (n : ℕ). IsListed s.known n) number l);
    } in w in
    on_ok_weaker c.park.result waits c.park.ensures.parked
