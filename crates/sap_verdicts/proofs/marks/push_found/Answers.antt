use Rattle.std.proofs.Common.{◌≡◌, ◌<◌, ◌++◌, length, map, refl, sym, ap, ◌∙◌, arith}
use Rattle.std.specs.Prelude.{flat_map}
use Rattle.std.proofs.lemmas.Option.{slice_get_read}
use Rattle.sap_search.specs.View.{chosen_value}
use Rattle.sap_verdicts.specs.VerdictText.{choice_marks}
use Rattle.sap_verdicts.proofs.Pushed.{one_put, all_put, of_mapped}
use Rattle.sap_verdicts.proofs.marks.push_found.Goals as goal

pub loop-k-init : goal.loop-k-init
loop-k-init c = refl

pub loop-k-preserved : goal.loop-k-preserved
loop-k-preserved c =
    let cs = c.as_slice-choices.result.now in
    let x = c.index-choices-k.result in
    let inside : c.loop-k.k < length cs = omega arith in
    one_put (λ z. choice_marks c.args.lines.now c.args.y.now.name.now (chosen_value z).binder (chosen_value z).value) cs c.loop-k.k x c.loop-k.out c.push_mark.new.out
    (slice_get_read cs (length cs) c.loop-k.k x refl inside c.index-choices-k.is) c.in_ok-push_mark.ensures ∙ c.loop-k.invariant

pub returns : goal.returns
returns c =
    let cs = c.as_slice-choices.result.now in
    sym (all_put (λ z. choice_marks c.args.lines.now c.args.y.now.name.now (chosen_value z).binder (chosen_value z).value) cs c.loop-k.k c.loop-k.out (omega arith)) ∙ c.loop-k.invariant
    ∙ ap (λ ms. c.args.out.now ++ ms) (sym (of_mapped (λ z. choice_marks c.args.lines.now c.args.y.now.name.now z.binder z.value) chosen_value cs))
    ∙ ap (λ xs. c.args.out.now ++ flat_map (λ z. choice_marks c.args.lines.now c.args.y.now.name.now z.binder z.value) (map chosen_value xs)) c.as_slice-choices.ensures.value
