-- What the code tells of the other place of a flaw of the process of a file.
use Rattle.std.specs.Prelude.{◌≡◌, ◌-◌, ◌^◌, ℕ, List, Option, Some, None, min, slice_get}
use Rattle.sap_terms.specs.Signature.{Sig}
use Rattle.sap_text.specs.declared.token.Token.{Token}
use Rattle.sap_process.specs.Proc.{Proc}
use Rattle.sap_process.specs.Sites.{Site, sites}
use Rattle.sap_process.specs.declared.flaw.Flaw.{Flaw}
use Rattle.sap_nodes.specs.declared.full.Spoken.{Spoken}
use Rattle.sap_origin.specs.Definitions.{located_definitions}
use Rattle.sap_read.specs.declared.written.FileProcesses.{FileProcesses}
use Rattle.sap_read.specs.declared.written.WrittenFile.{WrittenFile}
use Rattle.sap_read_places.specs.declared.told.Told.{Told}
use Rattle.sap_read_places.specs.FlawPlaces.{IsNodeTold}
use Rattle.sap_read_places.specs.OtherFlawPlaces.{IsOtherNode}
use Rattle.sap_read_places.specs.code.FlawNodes.{HasNoFlawIn, SpeaksOf, expansion_in, main_in}

-- of a place of the process at this path nothing else is told of the other node, where the flaw speaks of the node of this told number
abbrev pub IsOnly : List ℕ → List Token → FileProcesses → Proc → List ℕ → Flaw → ℕ → Option Told → Type 0
IsOnly z ts p q path w number o =
    (i node : ℕ) (s : Site) (v : List ℕ) (k : ℕ) (g : Sig) (t : Told) → slice_get (sites q) i ≡ Some s → s.path ≡ path → number ≡ min node (2 ^ 64 - 1)
    → IsOtherNode w q s node v k → IsNodeTold g z ts (located_definitions p.definitions p.behind) (main_in p) v k t → o ≡ Some t

-- so, where it speaks of a node
abbrev pub IsOtherSpoken : List ℕ → List Token → FileProcesses → Proc → List ℕ → Flaw → Spoken → Option Told → Type 0
IsOtherSpoken z ts p q path w f o = (number : ℕ) → f.node ≡ Some number → IsOnly z ts p q path w number o

-- the answer to a flaw
pub data IsOtherAnswer (z : List ℕ) (ts : List Token) (w : WrittenFile) (which : Flaw) (path : List ℕ) : Option Told → Type 0 where
  no_flaw : HasNoFlawIn w which path → IsOtherAnswer z ts w which path None
  some_flaw : {f : Spoken} {o : Option Told} → SpeaksOf w.declared.signature (expansion_in w) which path f
      → IsOtherSpoken z ts w.processes (expansion_in w) path which f o → IsOtherAnswer z ts w which path o
