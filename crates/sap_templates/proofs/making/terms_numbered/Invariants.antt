use Rattle.std.proofs.Common.{◌≡◌, take}
use Rattle.sap_outlines.specs.Outlines.{all_numbered}
use Rattle.sap_templates.proofs.making.terms_numbered.Given as goal

abbrev pub invariant-loop-number : goal.invariant-loop-number
invariant-loop-number l = l.args ≡ all_numbered l.terms (take l.number-index l.numbers)
