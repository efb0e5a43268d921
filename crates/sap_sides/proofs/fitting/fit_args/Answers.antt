use Rattle.std.proofs.Common.{◌≡◌, ◌<◌, ℕ, length, sym, ◌∙◌, arith}
use Rattle.std.proofs.lemmas.List.{length-map}
use Rattle.sap_terms.specs.View.{tree}
use Rattle.sap_share.specs.Env.{bindings_of}
use Rattle.sap_share.specs.Shared.{tree_at, trees_at}
use Rattle.sap_sides.proofs.Found.{fit_length, args_past, args_not, args_end}
use Rattle.sap_sides.proofs.Lists.{all_at, get_map}
use Rattle.sap_sides.proofs.PlainMatch.{match_fits, no_match_fits_none, none_at}
use Rattle.sap_sides.proofs.fitting.fit_args.Goals as goal

pub returns-then-len-clause-not : goal.returns-then-len-clause-not
returns-then-len-clause-not c = λ no one σ s a f.
    let ts = c.args.table.now.trees in
    c.if-len.true (c.len.ensures ∙ fit_length c.args.table.now.sig c.args.ps.now (trees_at ts c.args.ks.now) σ f ∙ length-map c.args.ks.now (tree_at ts) ∙ sym c.len-2.ensures)

pub fits-requires-clause-id : goal.fits-requires-clause-id
fits-requires-clause-id c =
    all_at (λ (k : ℕ). k < length c.args.table.now.trees) c.args.ks.now c.loop-i.i c.at-in-loop-i.result.now c.requires.below c.at-in-loop-i.ensures

pub returns-then-not-branch-clause-not : goal.returns-then-not-branch-clause-not
returns-then-not-branch-clause-not c = λ no.
    let g = c.args.table.now.sig in
    let ts = c.args.table.now.trees in
    let p = tree c.at.result.now in
    let k = c.at-in-loop-i.result.now in
    let none = no_match_fits_none g p (tree_at ts k) (bindings_of ts c.loop-i.env) (none_at g c.args.ps.now c.loop-i.i p c.requires.plain c.at.ensures.got) (c.in_ok-fits.ensures.not c.if-not-branch.true) in
    args_not g c.args.ps.now (trees_at ts c.args.ks.now) (bindings_of ts c.args.env.now) (bindings_of ts c.loop-i.env) c.loop-i.i p (tree_at ts k) c.at.ensures.got (get_map (tree_at ts) c.args.ks.now c.loop-i.i k c.at-in-loop-i.ensures) c.extensions_join.ensures c.loop-i.invariant.left none

pub loop-i-preserved : goal.loop-i-preserved
loop-i-preserved c =
    let g = c.args.table.now.sig in
    let ts = c.args.table.now.trees in
    let p = tree c.at.result.now in
    let k = c.at-in-loop-i.result.now in
    let fit = match_fits c.agreeing_choices_substitute.ensures g p (tree_at ts k) (bindings_of ts c.loop-i.env) (bindings_of ts c.fits.new.env) (none_at g c.args.ps.now c.loop-i.i p c.requires.plain c.at.ensures.got) (c.in_ok-fits.ensures.yes c.if-not-branch.false) in
    record {
      left = args_past g c.args.ps.now (trees_at ts c.args.ks.now) (bindings_of ts c.args.env.now) (bindings_of ts c.loop-i.env) c.loop-i.i p (tree_at ts k) c.at.ensures.got (get_map (tree_at ts) c.args.ks.now c.loop-i.i k c.at-in-loop-i.ensures) c.extensions_join.ensures (bindings_of ts c.fits.new.env) c.loop-i.invariant.left fit;
      bound = c.in_ok-fits.ensures.below;
    }

pub returns-clause-yes : goal.returns-clause-yes
returns-clause-yes c = λ yes.
    let ts = c.args.table.now.trees in
    let at_end : c.loop-i.i ≡ length c.args.ps.now = omega (arith, c.len-i-end.ensures) in
    let same : length c.args.ps.now ≡ length c.args.ks.now = omega (arith, c.len.ensures, c.len-2.ensures, c.if-len.false) in
    args_end c.extensions_join.ensures c.args.table.now.sig c.args.ps.now (trees_at ts c.args.ks.now) (bindings_of ts c.args.env.now) (bindings_of ts c.loop-i.env) c.loop-i.i at_end (at_end ∙ same ∙ sym (length-map c.args.ks.now (tree_at ts))) c.loop-i.invariant.left
