use Rattle.std.proofs.Common.{◌≡◌, Some, ap, sym, ◌∙◌}
use Rattle.std.specs.Prelude.{[], ◌∷◌, ◌++◌, false, slice_get, slice_set}
use Rattle.std.proofs.lemmas.Option.{get_or_from_slice_get}
use Rattle.sap_forward.specs.declared.seats.Seat.{Seat}
use Rattle.sap_forward.proofs.Lists.{set_twice, some_same}
use Rattle.sap_forward.proofs.seats.Seats.go_on.Goals.{in-Some-1, in-None-1}
use Rattle.sap_forward.proofs.seats.Seats.go_on.Goals as goal

pub returns-in_ok-push : goal.returns-in_ok-push
returns-in_ok-push c = λ s h.
    let items = c.self.inside.items.items in
    let t = c.args.t in
    let e = c.index_mut.ensures.value ∙ get_or_from_slice_get items t (Some s) c.index_mut.result.now (ap (λ xs. slice_get xs t) c.self.view_is ∙ h) in
    let same : c.in-Some.seat ≡ s = some_same (sym c.in-Some.is ∙ c.take-was.ensures.value ∙ e) in
    let path = c.in_ok-push.ensures.ok ∙ ap (λ (x : Seat). x.path ++ c.args.digit ∷ []) same in
    let is : c.match-index_mut.self ≡ slice_set (slice_set items t c.take-was.new.self) t (Some (record { place = c.args.place; path = c.push.new.self; number = c.args.number; copying = false })) = elim c.match-index_mut.branch [ in-Some-1 w ↦ w.self-is | in-None-1 w ↦ w.self-is ] in
    rw (← c.self.view_is) (is ∙ set_twice items t _ _ ∙ ap (λ p. slice_set items t (Some (record { place = c.args.place; path = p; number = c.args.number; copying = false }))) path)

pub returns-in_default : goal.returns-in_default
returns-in_default c = λ s h.
    let items = c.self.inside.items.items in
    let e = c.index_mut.ensures.value ∙ get_or_from_slice_get items c.args.t (Some s) c.index_mut.result.now (ap (λ xs. slice_get xs c.args.t) c.self.view_is ∙ h) in
    absurd (c.in_default.not-Some s (c.take-was.ensures.value ∙ e))
