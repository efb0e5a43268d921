use Rattle.std.proofs.Common.{ap, sym, ◌∙◌}
use Rattle.std.proofs.lemmas.Option.{slice_get_within}
use Rattle.std.specs.Prelude.{option_map}
use Rattle.sap_terms.specs.declared.signature.Symbol.{Symbol}
use Rattle.sap_terms.proofs.SignatureLemmas.{first_clash-here, first_clash-later}
use Rattle.sap_terms.proofs.signature.first_clash.Goals as goal

pub returns-then-is_held_otherwise : goal.returns-then-is_held_otherwise
returns-then-is_held_otherwise c =
    let ss = c.args.symbols.now in
    let xs = c.args.added.now in
    let k = c.loop-k.k in
    let x = c.at.result.now in
    let there = first_clash-here ss xs k x c.at.ensures (sym c.is_held_otherwise.ensures ∙ c.if-is_held_otherwise.true) in
    record {
      here = slice_get_within xs k x c.at.ensures;
      name = c.loop-k.invariant ∙ there ∙ sym (ap (option_map (λ (s : Symbol). s.name)) c.at.ensures);
    }

pub loop-k-preserved : goal.loop-k-preserved
loop-k-preserved c =
    c.loop-k.invariant ∙ first_clash-later c.args.symbols.now c.args.added.now c.loop-k.k c.at.result.now c.at.ensures (sym c.is_held_otherwise.ensures ∙ c.if-is_held_otherwise.false)
