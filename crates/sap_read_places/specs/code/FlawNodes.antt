-- What the code tells of a node of the process of a file.
use Rattle.std.specs.Prelude.{◌≡◌, ℕ, List, [], map, reverse, take, slice_get, Option, Some, None, IfSome, MatchOption}
use Rattle.sap_terms.specs.Signature.{Sig}
use Rattle.sap_text.specs.declared.token.Token.{Token}
use Rattle.sap_macro.specs.Expansion.{expansion}
use Rattle.sap_macro.specs.Sources.{definitions, located, written}
use Rattle.sap_process.specs.Proc.{Proc}
use Rattle.sap_process.specs.Sites.{Site, sites}
use Rattle.sap_process.specs.declared.flaw.Flaw.{Flaw}
use Rattle.sap_nodes.specs.SpokenOf.{IsSpoken}
use Rattle.sap_nodes.specs.declared.full.Spoken.{Spoken}
use Rattle.sap_origin.specs.Definitions.{located_definitions}
use Rattle.sap_origin.specs.Origins.{words_left}
use Rattle.sap_origin.specs.declared.origin.Origin.{Origin}
use Rattle.sap_read.specs.LocatedItems.{LocatedMain}
use Rattle.sap_read.specs.declared.written.FileProcesses.{FileProcesses}
use Rattle.sap_read.specs.declared.written.WrittenFile.{WrittenFile}
use Rattle.sap_stems.specs.StemOf.{IsNodeOf}
use Rattle.sap_stems.specs.Stems.{Stem}
use Rattle.sap_stems.specs.StemsAt.{AreStems}
use Rattle.sap_stems.specs.declared.making.WrittenNode.{WrittenNode}
use Rattle.sap_origin.specs.Trails.{use_word}
use Rattle.sap_origin.specs.declared.trail.Use.{Use}
use Rattle.sap_uses.specs.FaultCauses.{Holds}
use Rattle.sap_uses.specs.declared.fault.MacroFault.{MacroFault}
use Rattle.sap_read_places.specs.declared.told.Told.{Told}
use Rattle.sap_read_places.specs.FlawPlaces.{IsNodeTold, IsStemTold}
use Rattle.sap_read_places.specs.code.Walked.{IsOriginTold, LeadsNowhere, LeadsTo}

-- the process as it is written
abbrev pub main_in : FileProcesses → LocatedMain
main_in p = record { process = located p.main.value; behind = p.behind_main }

-- its expansion
abbrev pub expansion_in : WrittenFile → Proc
expansion_in w =
    (expansion (definitions w.processes.definitions) w.identifiers (written w.processes.main.value)).process

-- none does
abbrev pub IsFree : WrittenFile → Type 0
IsFree w =
    (e : MacroFault)
    → ¬ Holds w.declared.signature (definitions w.processes.definitions) (written w.processes.main.value) e

-- of this the flaw speaks that the process has at the path
pub record SpeaksOf (g : Sig) (p : Proc) (w : Flaw) (path : List ℕ) (f : Spoken) : Type 0 where
  pub number : ℕ
  pub site : Site
  pub stands : slice_get (sites p) number ≡ Some site
  pub path_is : site.path ≡ path
  pub speaks : IsSpoken g [] p (take number (sites p)) site w (Some f)

-- of this, or of nothing
abbrev pub Speaks : Sig → Proc → Flaw → List ℕ → Option Spoken → Type 0
Speaks g p w path o =
    MatchOption o ((f : Spoken) → SpeaksOf g p w path f → ⊥) (λ f. SpeaksOf g p w path f)

-- how many words are left from the names of the first of these uses, the innermost first
abbrev pub words_above : ℕ → List Use → List ℕ
words_above n us = reverse (map words_left (map use_word (take n us)))

-- what is told of a written node with these uses above it
abbrev pub IsWrittenTold : List ℕ → List Token → List Use → WrittenNode → Option Told → Type 0
IsWrittenTold z ts us w o =
    (g : Sig) (s : Stem) (u : Told) → IsNodeOf s w → s.standing.uses ≡ words_above w.uses us
    → IsStemTold g z ts s u → o ≡ Some u

-- node k of the place to which the path leads stems from a written node
pub record HasStem (p : FileProcesses) (path : List ℕ) (k : ℕ) : Type 0 where
  pub stems : List Stem
  pub are : AreStems (located_definitions p.definitions p.behind) (located p.main.value) p.behind_main path stems
  pub stem : Stem
  pub stands : slice_get stems k ≡ Some stem

-- this is told of it, if it stems from one, and nothing else is
pub record IsNodeIn (z : List ℕ) (ts : List Token) (p : FileProcesses) (path : List ℕ) (k : ℕ) (o : Option Told)
    : Type 0 where
  pub only : (g : Sig) (u : Told)
      → IsNodeTold g z ts (located_definitions p.definitions p.behind) (main_in p) path k u → o ≡ Some u
  pub stems : IfSome o (λ t. HasStem p path k)

-- what is told of a node, or of the place itself
abbrev pub IsSpokenIn : List ℕ → List Token → FileProcesses → List ℕ → Option ℕ → Option Told → Type 0
IsSpokenIn z ts p path (Some k) o = IsNodeIn z ts p path k o
IsSpokenIn z ts p path None o =
    MatchOption o (LeadsNowhere p path)
    (λ t. (origin : Origin) × LeadsTo p path origin × IsOriginTold ts origin t)

-- what is told of a flaw: nothing where a use refuses the file, or where the process has no such flaw at the path
pub record IsFlawIn (z : List ℕ) (ts : List Token) (w : WrittenFile) (which : Flaw) (path : List ℕ) (f : Spoken)
    (o : Option Told) : Type 0 where
  pub free : IsFree w
  pub speaks : SpeaksOf w.declared.signature (expansion_in w) which path f
  pub told : IsSpokenIn z ts w.processes (take f.depth path) f.node o

abbrev pub HasNoFlawIn : WrittenFile → Flaw → List ℕ → Type 0
HasNoFlawIn w which path =
    IsFree w → (f : Spoken) → SpeaksOf w.declared.signature (expansion_in w) which path f → ⊥

-- the answer to a flaw
pub data IsFlawAnswer (z : List ℕ) (ts : List Token) (w : WrittenFile) (which : Flaw) (path : List ℕ)
    : Option Told → Type 0 where
  no_flaw : HasNoFlawIn w which path → IsFlawAnswer z ts w which path None
  some_flaw : {f : Spoken} {o : Option Told} → IsFlawIn z ts w which path f o → IsFlawAnswer z ts w which path o
