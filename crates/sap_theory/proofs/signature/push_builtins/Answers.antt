use Rattle.std.proofs.Common.{◌<◌, ◌≤◌, ◌++◌, ◌∙◌, ap, map, length, get_or, arith}
use Rattle.std.specs.Prelude.{codes, filter}
use Rattle.std.proofs.lemmas.List.{take_all}
use Rattle.std.proofs.lemmas.Option.{slice_get-get_or}
use Rattle.sap_terms.specs.Signature.{has_builtin}
use Rattle.sap_terms.specs.declared.signature.Builtin.TheVariants.{Hashing}
use Rattle.sap_theory.specs.Pieces.{line_of}
use Rattle.sap_theory.specs.SignatureText.{spelling, all_builtins}
use Rattle.sap_theory.proofs.Listing.{further, line_ended, passed}
use Rattle.sap_theory.proofs.signature.push_builtins.Goals as goal

pub loop-b-preserved : goal.loop-b-preserved
loop-b-preserved c =
    let k = c.loop-b.b-index in
    let inside : k < length all_builtins = omega arith in
    further (codes "\nbuiltins: ") c.args.text.now (has_builtin c.args.sig.now) spelling all_builtins k (get_or all_builtins k Hashing) c.loop-b.text c.loop-b.is_first c.push_builtin.new.text c.in_ok-is_first.is_first (slice_get-get_or all_builtins k Hashing inside) c.loop-b.invariant c.in_ok-is_first.ensures.text c.in_ok-is_first.ensures.first

pub returns : goal.returns
returns c =
    let k = c.loop-b.b-index in
    let text = c.args.text.now in
    let heading = codes "\nbuiltins: " in
    let has = has_builtin c.args.sig.now in
    let past : length all_builtins ≤ k = omega arith in
    c.in_ok-push_end.ensures ∙ (line_ended heading text (passed has spelling all_builtins k) c.loop-b.text c.loop-b.is_first c.loop-b.invariant
    ∙ ap (λ bs. text ++ line_of heading (map spelling (filter has bs))) (take_all k all_builtins past))
