use Rattle.std.proofs.Common.{[], sym, ap, ◌∙◌, arith}
use Rattle.std.specs.Option.{option_copied}
use Rattle.sap_macro.proofs.Endings.{end_through, end_within, last_unknown, last_with}
use Rattle.sap_macro.proofs.ends.end_of_name.Goals as goal

pub returns-in-None : goal.returns-in-None
returns-in-None c = last_unknown c.args.defs.now c.args.index.now c.args.name.now c.requires.index (sym c.get.ensures ∙ ap option_copied c.in-None.is)

pub returns-in-Some : goal.returns-in-Some
returns-in-Some c =
    let found = sym c.get.ensures ∙ ap option_copied c.in-Some.is in
    end_through c.args.defs.now c.args.index.now c.args.ends.now c.args.name.now c.in-Some.k.now c.at-in-Some.result.now c.at.result.now c.requires.index c.requires.ends found
    c.at.ensures (omega arith) (end_within c.args.defs.now c.args.index.now c.args.ends.now c.args.name.now [] c.in-Some.k.now c.requires.index c.requires.before found)
    c.at-in-Some.ensures

pub returns-in-Some-2 : goal.returns-in-Some-2
returns-in-Some-2 c =
    last_with c.args.defs.now c.args.index.now c.args.name.now c.in-Some.k.now c.at.result.now c.requires.order c.requires.index
    (sym c.get.ensures ∙ ap option_copied c.in-Some.is) c.at.ensures (λ h. absurd (omega (arith, h)))
