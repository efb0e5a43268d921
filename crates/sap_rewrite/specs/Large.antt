-- Terms that have large normal forms.
use Rattle.std.specs.Prelude.{ℕ, ◌<◌}
pub use Rattle.sap_terms.specs.Subterms.{SomeSubterm, SomeSubtermWithin, itself, below, here, later}
use Rattle.sap_terms.specs.Tree.{Tree, node_count}
use Rattle.sap_terms.specs.Equations.{Equations}
use Rattle.sap_terms.specs.Normal.{IsNormalForm}

-- a normal form of the tree has more than this many nodes
pub record HasLargeForm (e : Equations) (most : ℕ) (t : Tree) : Type 0 where
  pub form : Tree
  pub is_form : IsNormalForm e t form
  pub large : most < node_count form

-- so has a normal form of some subterm
abbrev pub HasLargeSubterm : Equations → ℕ → Tree → Type 0
HasLargeSubterm e most t = SomeSubterm (HasLargeForm e most) t
