use Rattle.std.proofs.Common.{ap, sym, ◌∙◌}
use Rattle.std.specs.Option.{option_copied}
use Rattle.sap_stems.proofs.StemLinks.{stem_told}
use Rattle.sap_stems.proofs.stem.stem_in.Goals as goal

pub returns-in-None : goal.returns-in-None
returns-in-None c = λ ns p behind path count trail.
    stem_told c.args.defs.now ns p behind path c.args.trail.now c.args.node c.in_ok-puts.puts c.new.result c.len.result c.in_head.new.making _ c.in_ok-puts.ensures c.new.ensures c.len.ensures
    c.in_ok-in_head.ensures (sym c.get.ensures ∙ ap option_copied c.in-None.is) trail

pub returns : goal.returns
returns c = λ ns p behind path count trail.
    stem_told c.args.defs.now ns p behind path c.args.trail.now c.args.node c.in_ok-puts.puts c.new.result c.len.result c.in_head.new.making _ c.in_ok-puts.ensures c.new.ensures c.len.ensures
    c.in_ok-in_head.ensures (sym c.get.ensures ∙ ap option_copied c.in-Some.is) trail
