use Rattle.std.proofs.Common.{◌≡◌, ◌<◌, ◌≢◌, ◌∙◌, [], Some, None, arith, ap, sym, refl}
use Rattle.std.specs.Prelude.{option_map}
use Rattle.sap_process.specs.Proc.{proc}
use Rattle.sap_process.specs.Sites.{above_of}
use Rattle.sap_other_nodes.specs.code.FactSearches.{entry_of, fact_with, is_sought, most, process_at, seek}
use Rattle.sap_other_nodes.specs.declared.other_fact.Sought.TheVariants.{Other}
use Rattle.sap_other_nodes.proofs.FactPlaces.{AreOrdered}
use Rattle.sap_other_nodes.proofs.FactsTold.{answered, answered_both, not_a_fact}
use Rattle.sap_other_nodes.proofs.other_fact.differing_fact.Goals as goal

pub returns-in-None : goal.returns-in-None
returns-in-None c =
    let o : AreOrdered (proc c.args.p.now) = record { by_path = λ s h. c.places_are_by_path.ensures.at_path (proc c.args.p.now) (above_of [] 0) s h; listed = λ path s h. c.places_are_by_path.ensures.listed (proc c.args.p.now) (above_of [] 0) path s h; path = λ path s h. c.places_are_by_path.ensures.path (proc c.args.p.now) (above_of [] 0) path s h; in_order = λ i j s t. c.places_are_by_path.ensures.in_order (proc c.args.p.now) (above_of [] 0) i j s t; not_itself = c.places_are_ordered.ensures.not_itself; ordered = c.places_are_ordered.ensures.ordered; onward = c.places_are_ordered.ensures.onward } in
    let ne : c.args.node ≢ 18446744073709551615 = c.if-node-eq18446744073709551615.false in
    let fits = c.ranges.node.fits in
    let less : c.args.node < most = omega (arith, ne, fits) in
    let none : fact_with c.args.node (process_at (Some (proc c.args.p.now)) c.args.path.now) ≡ None =
    ap (λ v. fact_with c.args.node (process_at (Some (proc c.args.p.now)) v)) (sym c.as_slice.ensures.is) ∙ sym c.fact_at.ensures ∙ ap (option_map entry_of) c.in-None.is in
    not_a_fact (proc c.args.p.now) o c.args.path.now c.args.node less none

pub returns-in-Some : goal.returns-in-Some
returns-in-Some c =
    let o : AreOrdered (proc c.args.p.now) = record { by_path = λ s h. c.places_are_by_path.ensures.at_path (proc c.args.p.now) (above_of [] 0) s h; listed = λ path s h. c.places_are_by_path.ensures.listed (proc c.args.p.now) (above_of [] 0) path s h; path = λ path s h. c.places_are_by_path.ensures.path (proc c.args.p.now) (above_of [] 0) path s h; in_order = λ i j s t. c.places_are_by_path.ensures.in_order (proc c.args.p.now) (above_of [] 0) i j s t; not_itself = c.places_are_ordered.ensures.not_itself; ordered = c.places_are_ordered.ensures.ordered; onward = c.places_are_ordered.ensures.onward } in
    let ne : c.args.node ≢ 18446744073709551615 = c.if-node-eq18446744073709551615.false in
    let fits = c.ranges.node.fits in
    let less : c.args.node < most = omega (arith, ne, fits) in
    let there : fact_with c.args.node (process_at (Some (proc c.args.p.now)) c.args.path.now) ≡ Some (entry_of c.in-Some.told) =
    ap (λ v. fact_with c.args.node (process_at (Some (proc c.args.p.now)) v)) (sym c.as_slice.ensures.is) ∙ sym c.fact_at.ensures ∙ ap (option_map entry_of) c.in-Some.is in
    answered_both (proc c.args.p.now) c.args.path.now c.args.node c.seek.result _ _
    (λ r f g. answered (proc c.args.p.now) o c.args.path.now c.args.node (entry_of c.in-Some.told) (is_sought (Other c.in-Some.told.part c.in-Some.told.fact)) less there (λ x. refl) r
    (f ∙ ap (λ t. seek (is_sought (Other c.in-Some.told.part c.in-Some.told.fact)) t (proc c.args.p.now)) c.new-trail.ensures) g)
    c.seek.ensures.found c.seek.ensures.small
