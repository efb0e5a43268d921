use Rattle.std.proofs.Common.{◌≡◌, ℕ, Some, sym, inl, inr, subst}
use Rattle.std.specs.Prelude.{slice_get}
use Rattle.std.proofs.lemmas.Result.{on_ok_weaker}
use Rattle.sap_derive.specs.code.Listed.{IsListed}
use Rattle.sap_derive.specs.code.Needed.{IsCovered}
use Rattle.sap_derive.proofs.Options.{from-some, from-none}
use Rattle.sap_derive.proofs.needed.need_number.Goals as goal

pub returns-then-is_some-clause-ok : goal.returns-then-is_some-clause-ok
returns-then-is_some-clause-ok c =
    let l = from-some c.place.result (λ (k : ℕ). slice_get c.args.entries.now k ≡ Some c.args.n) c.place.ensures.some (sym c.if-is_some.ensures) in
    inl (l.0, l.1)

pub returns-clause-only : goal.returns-clause-only
returns-clause-only c j l =
    let new : ¬ IsListed c.args.entries.now c.args.n = from-none c.place.result (¬ IsListed c.args.entries.now c.args.n) c.place.ensures.none (sym c.if-is_some.ensures) in
    elim (c.list.ensures.only j l) [
      | inl x ↦ inl x
      | inr e ↦ inr (record { at = subst (λ (i : ℕ). slice_get c.args.known.now i ≡ Some c.args.n) (sym e) c.in-Some.ensures.some; new = new })
    ]

pub returns-clause-ok : goal.returns-clause-ok
returns-clause-ok c =
    let one = λ (l : IsListed c.list.new.items c.in-Some.rank).
    let done : IsCovered c.args.known.now c.args.entries.now c.list.new.items c.args.n = inr (λ j e. subst (λ (i : ℕ). IsListed c.list.new.items i) (c.requires.once c.in-Some.rank j c.args.n c.in-Some.ensures.some e) l) in
    done in
    on_ok_weaker c.list.result one c.list.ensures.ok
