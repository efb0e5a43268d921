-- Where a flaw of a definition's body stands.
use Rattle.std.specs.Prelude.{◌≡◌, ℕ, ◌+◌, List, map, take, slice_get, Some}
use Rattle.sap_terms.specs.Signature.{Sig}
use Rattle.sap_text.specs.declared.token.Token.{Token}
use Rattle.sap_grammar.specs.Words.{words_of}
use Rattle.sap_process.specs.Sites.{Site, sites_in}
use Rattle.sap_process.specs.declared.flaw.Flaw.{Flaw}
use Rattle.sap_macro.specs.Located.{Located}
use Rattle.sap_uses.specs.ScopeFlaws.{params_in_scope}
use Rattle.sap_nodes.specs.FlawNodes.{IsTold}
use Rattle.sap_origin.specs.Definitions.{LocatedDefinition, plain_definition}
use Rattle.sap_origin.specs.Meant.{definition_of}
use Rattle.sap_origin.specs.Origins.{start}
use Rattle.sap_origin.specs.Reached.{number_of}
use Rattle.sap_origin.specs.Reached as reached
use Rattle.sap_seen.specs.SeenNodes.{seen_numbers}
use Rattle.sap_seen.specs.SeenPlaces.{ComesSeen, seen_of}
use Rattle.sap_head_words.specs.HeadWords.{HeadWords}
use Rattle.sap_read.specs.Item.{signature_of}
use Rattle.sap_read.specs.LocatedItems.{LocatedMain}
use Rattle.sap_read.specs.SpelledBodies.{item_end}
use Rattle.sap_read_places.specs.declared.told.Told.{Told}
use Rattle.sap_read_places.specs.Placed.{IsPlaced, stretch_before}

-- the places of a definition's body as flaws of scope see it, where its parameters are in scope
abbrev pub body_sites : List LocatedDefinition → LocatedDefinition → List Site
body_sites ds d = sites_in (params_in_scope (plain_definition d)) (seen_of ds d.body)

-- the node of this number that is seen at this path of the body is told by its word, which the words of its item from its place on give it;
-- the uses above it are those of names without parameters through which one comes there
pub record IsSeenNodeTold (g : Sig) (z : List ℕ) (ts : List Token) (ds : List LocatedDefinition) (d : LocatedDefinition) (path : List ℕ)
    (k : ℕ) (t : Told) : Type 0 where
  pub standing : reached.Standing
  pub place : Located
  pub comes : ComesSeen ds (start d.behind) d.body path standing place
  pub numbers : List ℕ
  pub head : HeadWords g place (item_end (words_of z ts) (number_of place) standing.behind) numbers
  pub number : ℕ
  pub stands : slice_get (seen_numbers place numbers) k ≡ Some number
  pub word_is : t.word ≡ stretch_before ts (number + standing.behind)
  pub uses_are : t.uses ≡ map (stretch_before ts) standing.uses

-- the flaw that the body of the definition of this name has at this path stands there
pub record IsBodyFlawPlace (z : List ℕ) (name : List ℕ) (w : Flaw) (path : List ℕ) (t : Told) : Type 0 where
  pub tokens : List Token
  pub definitions : List LocatedDefinition
  pub main : LocatedMain
  pub placed : IsPlaced z tokens definitions main
  pub definition : LocatedDefinition
  pub defines : definition_of definitions name ≡ Some definition
  pub number : ℕ
  pub site : Site
  pub stands : slice_get (body_sites definitions definition) number ≡ Some site
  pub path_is : site.path ≡ path
  pub node : ℕ
  pub speaks : IsTold (signature_of placed.standing) (take number (body_sites definitions definition)) site w (Some node)
  pub told : IsSeenNodeTold (signature_of placed.standing) z tokens definitions definition path node t
