-- Where a name stands in a file that a pattern takes: in an argument of a use a name that a pattern behind it binds, and a pattern that is
-- a variable in scope, which is compared.
use Rattle.std.specs.Prelude.{◌≡◌, ◌+◌, ◌-◌, ℕ, List, length, slice_get, Some, None, Contains, ⊤}
use Rattle.sap_terms.specs.Signature.{Sig}
use Rattle.sap_text.specs.declared.token.Token.{Token}
use Rattle.sap_grammar.specs.Cut.{Placed}
use Rattle.sap_grammar.specs.Words.{words_of}
use Rattle.sap_stretches.specs.Stretches.{stretch_at}
use Rattle.sap_stretches.specs.declared.stretch.Stretch.{Stretch}
use Rattle.sap_process.specs.Proc.{Proc}
use Rattle.sap_process.specs.Sites.{Site, sites}
use Rattle.sap_macro.specs.Located.{Located, nil_at, call_at, parallel_at, replicated_at, act_at, test_at, lookup_at}
use Rattle.sap_origin.specs.Definitions.{LocatedDefinition}
use Rattle.sap_origin.specs.Reached.{number_of}
use Rattle.sap_stems.specs.Stems.{Stem}
use Rattle.sap_stems.specs.StemsAt.{AreStems}
use Rattle.sap_head_words.specs.HeadWords.{HeadWords}
use Rattle.sap_read.specs.Causes.{cause_of}
use Rattle.sap_read.specs.Files.{IsFileProcess, IsParted}
use Rattle.sap_read.specs.Item.{Standing, signature_of}
use Rattle.sap_read.specs.ItemGrammar.{AreItems}
use Rattle.sap_read.specs.LocatedItems.{LocatedMain, definitions_at, located_bodies, main_at}
use Rattle.sap_read.specs.SpelledBodies.{item_end}
use Rattle.sap_captures.specs.Patterns.{IsNodeOfKind}
use Rattle.sap_captures.specs.declared.kind.Kind.{Kind}
use Rattle.sap_captures.specs.declared.kind.Kind.TheVariants.{Captured, Compared}

-- the bytes are a file of these tokens and items, with these definitions and this process as they are written, and this is its process
-- as it is read, with its uses replaced
pub record IsFileOf (z : List ℕ) (ts : List Token) (is : List Standing) (ds : List LocatedDefinition) (m : LocatedMain) (p : Proc)
    : Type 0 where
  pub name : List ℕ
  pub cut : List (List Placed)
  pub parted : IsParted z ts name cut
  pub items : AreItems (signature_of is) cut is
  pub nothing : cause_of is ≡ None
  pub definitions_are : definitions_at (located_bodies items) ≡ ds
  pub main_is : main_at (located_bodies items) ≡ Some m
  pub whole : IsFileProcess z ts is p

-- from the word of a written node on so many words of the file are left
pub record IsStemWord (g : Sig) (z : List ℕ) (ts : List Token) (s : Stem) (n : ℕ) : Type 0 where
  pub numbers : List ℕ
  pub head : HeadWords g s.place (item_end (words_of z ts) (number_of s.place) s.standing.behind) numbers
  pub number : ℕ
  pub stands : slice_get numbers s.index ≡ Some number
  pub left : n ≡ number + s.standing.behind

-- it is a use
abbrev pub IsUse : Located → Type 0
IsUse (nil_at k) = ⊥
IsUse (call_at k f ts) = ⊤
IsUse (parallel_at k p q) = ⊥
IsUse (replicated_at k p) = ⊥
IsUse (act_at k a p) = ⊥
IsUse (test_at k t u p q) = ⊥
IsUse (lookup_at k t x p q) = ⊥

-- where a node has to stem from: a name that is captured from an argument of a use, one that is compared from anywhere
abbrev pub IsFrom : Kind → Located → Type 0
IsFrom Captured q = IsUse q
IsFrom Compared q = ⊤

-- node k of the place to which the path leads stems from a written node there, and from its word on so many words of the file are left
pub record IsWordAt (kind : Kind) (g : Sig) (z : List ℕ) (ts : List Token) (ds : List LocatedDefinition) (m : LocatedMain)
    (path : List ℕ) (k n : ℕ) : Type 0 where
  pub stems : List Stem
  pub are : AreStems ds m.process m.behind path stems
  pub stem : Stem
  pub stands : slice_get stems k ≡ Some stem
  pub from : IsFrom kind stem.place
  pub word : IsStemWord g z ts stem n

-- in the file a name of the kind stands there: a node at the head of a place of its process stems from this word
pub record IsToldAt (kind : Kind) (z : List ℕ) (t : Stretch) : Type 0 where
  pub tokens : List Token
  pub items : List Standing
  pub definitions : List LocatedDefinition
  pub main : LocatedMain
  pub process : Proc
  pub file : IsFileOf z tokens items definitions main process
  pub site : Site
  pub place : Contains (sites process) site
  pub node : ℕ
  pub is : IsNodeOfKind kind site node
  pub left : ℕ
  pub word : IsWordAt kind (signature_of items) z tokens definitions main site.path node left
  pub stretch_is : t ≡ stretch_at tokens (length tokens - left)

-- a name in an argument of a use that a pattern behind it binds: the node that binds stems from the argument
abbrev pub IsCapturedAt : List ℕ → Stretch → Type 0
IsCapturedAt z t = IsToldAt Captured z t

-- the pattern of an input that is one variable in scope: what comes in is compared with it
abbrev pub IsComparedAt : List ℕ → Stretch → Type 0
IsComparedAt z t = IsToldAt Compared z t
