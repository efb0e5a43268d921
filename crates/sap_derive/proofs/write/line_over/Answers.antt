use Rattle.std.proofs.Common.{ℕ, List, Some, ◌≡◌, subst}
use Rattle.std.specs.Prelude.{slice_get}
use Rattle.sap_derive.specs.code.Lines.{premises_of}
use Rattle.sap_derive.specs.code.Listed.{AreListed}
use Rattle.sap_derive.specs.declared.line.Line.{Line}
use Rattle.sap_derive.specs.declared.line.Line.TheVariants.{Apply}
use Rattle.sap_derive.proofs.write.line_over.Goals as goal

pub places_of-requires : goal.places_of-requires
places_of-requires c k n e =
    let all : AreListed c.args.items.now (premises_of (Apply c.in-Apply.f c.in-Apply.numbers)) = subst (λ (l : Line). AreListed c.args.items.now (premises_of l)) c.in-Apply.is c.requires in
    all k n (subst (λ (ns : List ℕ). slice_get ns k ≡ Some n) c.as_slice.ensures e)
