use Rattle.std.proofs.Common.{Some, sym, ap, ◌∙◌}
use Rattle.sap_deduce.proofs.Lined.{name_stored, name_last, more_push, places_kept, places_put}
use Rattle.sap_deduce.proofs.lines.place_in.Goals as goal

pub returns-in_err-copy-2-clause-places : goal.returns-in_err-copy-2-clause-places
returns-in_err-copy-2-clause-places c = places_kept c.args.names.now c.push.new.self c.args.places.now (more_push _ _ _ c.in_ok-push.ensures.ok) c.requires

pub returns-in_err-insert-clause-places : goal.returns-in_err-insert-clause-places
returns-in_err-insert-clause-places c =
    rw c.in_err-insert.ensures.err (places_kept c.args.names.now c.push.new.self c.args.places.now (more_push _ _ _ c.in_ok-push.ensures.ok) c.requires)

pub returns-clause-places : goal.returns-clause-places
returns-clause-places c =
    let kept = places_kept c.args.names.now c.push.new.self c.args.places.now (more_push _ _ _ c.in_ok-push.ensures.ok) c.requires in
    let at = name_last c.args.names.now c.push.new.self c.len-place.result c.in_ok-copy.field-0 c.len-place.ensures c.in_ok-push.ensures.ok ∙ ap Some (c.in_ok-copy.ensures ∙ sym c.in_ok-copy-2.ensures) in
    places_put c.push.new.self c.args.places.now c.insert.new.self c.in_ok-copy-2.field-0 c.len-place.result kept at c.in_ok-insert.ensures.ok

pub returns-in-Some-clause-below : goal.returns-in-Some-clause-below
returns-in-Some-clause-below c = (name_stored c.args.names.now c.in-Some.place.now c.args.f.now (c.requires c.args.f.now c.in-Some.place.now (sym c.in-Some.ensures))).0

pub returns-in-Some-clause-name : goal.returns-in-Some-clause-name
returns-in-Some-clause-name c = (name_stored c.args.names.now c.in-Some.place.now c.args.f.now (c.requires c.args.f.now c.in-Some.place.now (sym c.in-Some.ensures))).1
