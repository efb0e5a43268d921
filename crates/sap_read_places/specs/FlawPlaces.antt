-- Where a flaw of the process of a file stands.
use Rattle.std.specs.Prelude.{◌≡◌, ℕ, ◌+◌, List, [], map, take, slice_get, Option, Some, None}
use Rattle.sap_terms.specs.Signature.{Sig}
use Rattle.sap_text.specs.declared.token.Token.{Token}
use Rattle.sap_grammar.specs.Words.{words_of}
use Rattle.sap_process.specs.Proc.{Proc}
use Rattle.sap_process.specs.Sites.{Site, sites}
use Rattle.sap_process.specs.declared.flaw.Flaw.{Flaw}
use Rattle.sap_nodes.specs.SpokenOf.{IsSpoken}
use Rattle.sap_nodes.specs.declared.full.Spoken.{Spoken}
use Rattle.sap_origin.specs.Definitions.{LocatedDefinition}
use Rattle.sap_origin.specs.Reached.{number_of}
use Rattle.sap_stems.specs.Stems.{Stem}
use Rattle.sap_stems.specs.StemsAt.{AreStems}
use Rattle.sap_head_words.specs.HeadWords.{HeadWords}
use Rattle.sap_read.specs.Files.{IsFileProcess}
use Rattle.sap_read.specs.Item.{signature_of}
use Rattle.sap_read.specs.LocatedItems.{LocatedMain}
use Rattle.sap_read.specs.SpelledBodies.{item_end}
use Rattle.sap_read_places.specs.declared.told.Told.{Told}
use Rattle.sap_read_places.specs.Placed.{IsAtPath, IsPlaced, stretch_before}

-- a written node is told by its word, which the words of its item from its place on give it, below the uses above that place
pub record IsStemTold (g : Sig) (z : List ℕ) (ts : List Token) (s : Stem) (t : Told) : Type 0 where
  pub numbers : List ℕ
  pub head : HeadWords g s.place (item_end (words_of z ts) (number_of s.place) s.standing.behind) numbers
  pub number : ℕ
  pub stands : slice_get numbers s.index ≡ Some number
  pub word_is : t.word ≡ stretch_before ts (number + s.standing.behind)
  pub uses_are : t.uses ≡ map (stretch_before ts) s.standing.uses

-- the node of this number at the head to which the path leads stems from a written node that is told so
pub record IsNodeTold (g : Sig) (z : List ℕ) (ts : List Token) (ds : List LocatedDefinition) (m : LocatedMain) (path : List ℕ)
    (k : ℕ) (t : Told) : Type 0 where
  pub stems : List Stem
  pub are : AreStems ds m.process m.behind path stems
  pub stem : Stem
  pub stands : slice_get stems k ≡ Some stem
  pub told : IsStemTold g z ts stem t

-- what a flaw speaks of is told so: a node of the place above which so many digits of the path lead, or its lock by its own word
abbrev pub IsSpokenTold : Sig → List ℕ → List Token → List LocatedDefinition → LocatedMain → List ℕ → Option ℕ → Told → Type 0
IsSpokenTold g z ts ds m path (Some k) t = IsNodeTold g z ts ds m path k t
IsSpokenTold g z ts ds m path None t = IsAtPath z path t

-- the flaw that the process of the file has at this path stands there
pub record IsFlawPlace (z : List ℕ) (w : Flaw) (path : List ℕ) (t : Told) : Type 0 where
  pub tokens : List Token
  pub definitions : List LocatedDefinition
  pub main : LocatedMain
  pub placed : IsPlaced z tokens definitions main
  pub process : Proc
  pub whole : IsFileProcess z tokens placed.standing process
  pub number : ℕ
  pub site : Site
  pub stands : slice_get (sites process) number ≡ Some site
  pub path_is : site.path ≡ path
  pub spoken : Spoken
  pub speaks : IsSpoken (signature_of placed.standing) [] process (take number (sites process)) site w (Some spoken)
  pub told : IsSpokenTold (signature_of placed.standing) z tokens definitions main (take spoken.depth path) spoken.node t
