-- Lines of an adversary.
use Rattle.std.specs.Prelude.{ℕ, List, []}
use Rattle.sap_derive.specs.declared.line.Line.{Line}
use Rattle.sap_derive.specs.declared.line.Line.TheVariants.{Public, Apply}

-- the numbers of the terms that the line stands on
abbrev pub premises_of : Line → List ℕ
premises_of (Public a) = []
premises_of (Apply f ks) = ks
