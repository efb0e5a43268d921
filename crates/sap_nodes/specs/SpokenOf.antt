-- Of which place and which node a flaw speaks.
use Rattle.std.specs.Prelude.{◌≡◌, ℕ, List, length, Option, Some, None}
use Rattle.sap_terms.specs.Signature.{Sig}
use Rattle.sap_terms.specs.declared.var.Var.{Var}
use Rattle.sap_process.specs.Proc.{Proc}
use Rattle.sap_process.specs.Sites.{Site, above_of}
use Rattle.sap_process.specs.declared.flaw.Flaw.{Flaw}
use Rattle.sap_process.specs.declared.flaw.Flaw.TheVariants.{ScopeFull}
use Rattle.sap_nodes.specs.FlawNodes.{IsTold}
use Rattle.sap_nodes.specs.FullScope.{IsFillingTold}
use Rattle.sap_nodes.specs.declared.full.Spoken.{Spoken}

-- a node of the head of the place of this path itself, if there is one
abbrev pub of_itself : List ℕ → Option ℕ → Option Spoken
of_itself path None = None
of_itself path (Some k) = Some (record { depth = length path; node = Some k })

-- of this the flaw of a place of the process speaks, where these variables are in scope at the root and these places stand before it: that
-- of a full scope of what is the first too many on the way there, each other of a node of the place's head
abbrev pub IsSpoken : Sig → List Var → Proc → List Site → Site → Flaw → Option Spoken → Type 0
IsSpoken g scope p before s ScopeFull o = IsFillingTold (above_of scope 0) p s.path o
IsSpoken g scope p before s w o = (r : Option ℕ) × IsTold g before s w r × (o ≡ of_itself s.path r)
