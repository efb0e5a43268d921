use Rattle.std.proofs.Common.{◌≡◌, ℕ, List, length, Some, refl, sym, ap, ◌∙◌, inl, inr, arith, subst}
use Rattle.std.specs.Prelude.{slice_get}
use Rattle.std.proofs.lemmas.Option.{slice_get_read, slice_get_within}
use Rattle.std.proofs.lemmas.Result.{on_ok_weaker}
use Rattle.sap_derive.specs.code.Lines.{premises_of}
use Rattle.sap_derive.specs.code.Listed.{IsListed}
use Rattle.sap_derive.specs.code.Needed.{StandsOn, IsCovered, AreCovered}
use Rattle.sap_derive.specs.declared.clause.Clause.{Clause}
use Rattle.sap_derive.specs.declared.grounds.Grounds.TheVariants.{Given, By}
use Rattle.sap_derive.proofs.needed.need_below.Goals as goal

pub at-requires : goal.at-requires
at-requires c =
    let s = c.args.closure.now in
    let count = c.requires.closure.sound.count in
    let w : slice_get s.ways.items c.args.rank ≡ Some (By c.in-By.clause) = slice_get_read s.ways.items (length s.ways.items) c.args.rank c.index.result.now refl (omega (arith, count)) c.index.ensures ∙ ap Some c.in-By.is in
    let step = c.requires.closure.sound.steps c.args.rank c.in-By.clause w in
    slice_get_within s.clauses c.in-By.clause step.clause step.is

pub need_all-requires-clause-known : goal.need_all-requires-clause-known
need_all-requires-clause-known c k n e =
    let s = c.args.closure.now in
    let count = c.requires.closure.sound.count in
    let w : slice_get s.ways.items c.args.rank ≡ Some (By c.in-By.clause) = slice_get_read s.ways.items (length s.ways.items) c.args.rank c.index.result.now refl (omega (arith, count)) c.index.ensures ∙ ap Some c.in-By.is in
    let step = c.requires.closure.sound.steps c.args.rank c.in-By.clause w in
    let a = step.is in
    let b = c.at.ensures in
    let same : c.at.result.now ≡ step.clause = cc in
    let here = subst (λ (k' : Clause). slice_get (premises_of k'.line) k ≡ Some n) same (subst (λ (ns : List ℕ). slice_get ns k ≡ Some n) c.premises.ensures e) in
    let before = step.before k n here in
    (before.0, before.2)

pub returns-in-Given-clause-ok : goal.returns-in-Given-clause-ok
returns-in-Given-clause-ok c j m on e =
    let s = c.args.closure.now in
    let count = c.requires.closure.sound.count in
    let w : slice_get s.ways.items c.args.rank ≡ Some Given = slice_get_read s.ways.items (length s.ways.items) c.args.rank c.index.result.now refl (omega (arith, count)) c.index.ensures ∙ ap Some c.in-Given.is in
    let v = on.by.way in
    absurd (cc)

pub returns-in-By-clause-only : goal.returns-in-By-clause-only
returns-in-By-clause-only c j h =
    let s = c.args.closure.now in
    let count = c.requires.closure.sound.count in
    let w : slice_get s.ways.items c.args.rank ≡ Some (By c.in-By.clause) = slice_get_read s.ways.items (length s.ways.items) c.args.rank c.index.result.now refl (omega (arith, count)) c.index.ensures ∙ ap Some c.in-By.is in
    let step = c.requires.closure.sound.steps c.args.rank c.in-By.clause w in
    let gives = step.gives in
    elim (c.need_all.ensures.only j h) [
      | inl x ↦ inl x
      | inr r ↦ inr (
        record {
          clause = c.at.result.now;
          by = record { number = step.clause.gives; at = step.gives; new = c.requires.new step.clause.gives step.gives; index = c.in-By.clause; way = w; is = c.at.ensures };
          place = r.0;
          number = r.1;
          premise = subst (λ (ns : List ℕ). slice_get ns r.0 ≡ Some r.1) c.premises.ensures r.2;
          at = r.3.at;
        },
        λ m e. (let q = r.3.at in let same : r.1 ≡ m = cc in subst (λ (i : ℕ). ¬ IsListed c.args.entries.now i) same r.3.new),
      )
    ]

pub returns-in-By-clause-ok : goal.returns-in-By-clause-ok
returns-in-By-clause-ok c =
    let s = c.args.closure.now in
    let count = c.requires.closure.sound.count in
    let w : slice_get s.ways.items c.args.rank ≡ Some (By c.in-By.clause) = slice_get_read s.ways.items (length s.ways.items) c.args.rank c.index.result.now refl (omega (arith, count)) c.index.ensures ∙ ap Some c.in-By.is in
    let all = λ (h : AreCovered s.known c.args.entries.now c.need_all.new.ranks c.premises.result.now) (j m : ℕ) (on : StandsOn s c.args.entries.now c.args.rank j) (e : slice_get s.known j ≡ Some m).
    let v = on.by.way in
    let index : on.by.index ≡ c.in-By.clause = cc in
    let there = subst (λ (i : ℕ). slice_get s.clauses i ≡ Some on.clause) index on.by.is in
    let b = c.at.ensures in
    let same : on.clause ≡ c.at.result.now = cc in
    let premise = subst (λ (ns : List ℕ). slice_get ns on.place ≡ Some on.number) (sym c.premises.ensures) (subst (λ (k : Clause). slice_get (premises_of k.line) on.place ≡ Some on.number) same on.premise) in
    let a = on.at in
    let number : on.number ≡ m = cc in
    let done : IsCovered s.known c.args.entries.now c.need_all.new.ranks m = subst (λ (i : ℕ). IsCovered s.known c.args.entries.now c.need_all.new.ranks i) number (h on.place on.number premise) in
    done in
    on_ok_weaker c.need_all.result all c.need_all.ensures.ok
