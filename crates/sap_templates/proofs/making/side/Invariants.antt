use Rattle.std.proofs.Common.{◌≡◌, take}
use Rattle.sap_templates.specs.code.Sites.{side_of}
use Rattle.sap_templates.proofs.making.side.Given as goal

abbrev pub invariant-loop-part : goal.invariant-loop-part
invariant-loop-part l = l.facts ≡ side_of l.site (take l.part-index l.parts)
