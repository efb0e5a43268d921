-- What a walk leaves.
use Rattle.std.specs.Prelude.{◌≡◌, ℕ, List, Contains}
use Rattle.sap_process.specs.Flaws.{scope_at}
use Rattle.sap_process.specs.Sites.{Site}
use Rattle.sap_captures.specs.Patterns.{IsNodeOfKind}
use Rattle.sap_captures.specs.code.Flags.{IsGrown}
use Rattle.sap_captures.specs.code.Marks.{IsIndexAt}
use Rattle.sap_captures.specs.declared.desk.Desk.{Desk}
use Rattle.sap_captures.specs.declared.kind.Kind.{Kind}
use Rattle.sap_captures.specs.declared.walk.Walk.{Walk}

-- the number of a token from which a node of the kind of this place stems
pub record IsIndexOf (d : Desk) (kind : Kind) (s : Site) (i : ℕ) : Type 0 where
  pub node : ℕ
  pub is : IsNodeOfKind kind s node
  pub index : IsIndexAt d kind s.path node i

-- of one of these places
pub record IsIndexAmong (d : Desk) (kind : Kind) (ss : List Site) (i : ℕ) : Type 0 where
  pub site : Site
  pub among : Contains ss site
  pub of : IsIndexOf d kind site i

-- the place was met, and what its head binds is in scope
pub record IsMet (d : Desk) (kind : Kind) (a : Walk) (s : Site) (b : Walk) : Type 0 where
  pub trail : b.trail ≡ a.trail
  pub scope : b.binding.scope ≡ scope_at a.binding.scope s.body
  pub flags : IsGrown (IsIndexOf d kind s) a.flags b.flags

-- these places were met, and the walk stands where it stood
pub record IsWalked (d : Desk) (kind : Kind) (a : Walk) (ss : List Site) (b : Walk) : Type 0 where
  pub trail : b.trail ≡ a.trail
  pub scope : b.binding.scope ≡ a.binding.scope
  pub flags : IsGrown (IsIndexAmong d kind ss) a.flags b.flags
