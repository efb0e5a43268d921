-- What a search holds.
use Rattle.std.specs.Prelude.{◌≡◌, ◌<◌, ◌≤◌, ℕ, List, length, slice_get, Some}
use Rattle.sap_terms.specs.Tree.{Tree, node_count}
use Rattle.sap_terms.specs.Equations.{equations}
use Rattle.sap_terms.specs.Normal.{IsNormal}
use Rattle.sap_terms.specs.Signature.{Sig}
use Rattle.sap_terms.specs.declared.limits.TheConstants.{MOST_TERM_NODES}
use Rattle.sap_share.specs.Shared.{Shared, tree_at, trees_at, Keeps}
use Rattle.sap_derive.specs.Searched.{Searched}
use Rattle.sap_derive.specs.code.Clauses.{AreNumbered, HaveMakings, HaveOpenings, ArePartsListed}
use Rattle.sap_derive.specs.code.Closed.{IsClosure, IsGiven}
use Rattle.sap_derive.specs.code.Listed.{IsListed, AreListed}
use Rattle.sap_derive.specs.code.Openers.{AreOpeners}
use Rattle.sap_derive.specs.declared.closure.Closure.{Closure}
use Rattle.sap_derive.specs.declared.openers.Openers.{Openers}
use Rattle.sap_derive.specs.declared.state.State.{State}

-- the term of the number is normal, and has no more nodes than a term may have
pub record IsTerm (g : Sig) (trees : List Tree) (n : ℕ) : Type 0 where
  pub below : n < length trees
  pub normal : IsNormal (equations g) (tree_at trees n)
  pub within : node_count (tree_at trees n) ≤ MOST_TERM_NODES

-- the term has its parts among the terms, and the clauses that it brings
pub record IsBrought (g : Sig) (trees : List Tree) (terms : List ℕ) (closure : Closure) (n : ℕ) : Type 0 where
  pub parts : ArePartsListed trees terms (tree_at trees n)
  pub makings : HaveMakings g trees closure.clauses (tree_at trees n)
  pub openings : HaveOpenings g trees closure.clauses (tree_at trees n)

-- the terms of numbers, some of which have brought their clauses; the entries are among them, and some of these are known
pub record IsStateOf (s : Shared) (entries terms : List ℕ) (brought given : ℕ) (closure : Closure) (openers : Openers) : Type 0 where
  pub terms_are : (k n : ℕ) → slice_get terms k ≡ Some n → IsTerm s.sig s.trees n
  pub entries_are : AreListed terms entries
  pub brought_within : brought ≤ length terms
  pub brought_are : (k n : ℕ) → k < brought → slice_get terms k ≡ Some n → IsBrought s.sig s.trees terms closure n
  pub numbered : AreNumbered s.sig s.trees closure.clauses
  pub closed : IsClosure closure
  pub given_are : (n : ℕ) → IsGiven closure n → IsListed entries n
  pub given_within : given ≤ length entries
  pub given_known : (k n : ℕ) → k < given → slice_get entries k ≡ Some n → IsListed closure.known n
  pub openers_are : AreOpeners s.sig openers

abbrev pub IsState : State → Type 0
IsState s = IsStateOf s.table s.entries s.terms s.brought s.given s.closure s.openers

-- the signature, and the entries' terms
abbrev pub seen : State → Searched
seen s = record { sig = s.table.sig; entries = trees_at s.table.trees s.entries }

-- the entries stay, and numbers mean what they meant
pub record Stays (old new : State) : Type 0 where
  pub table : Keeps old.table new.table
  pub entries : new.entries ≡ old.entries
  pub terms : (n : ℕ) → IsListed old.terms n → IsListed new.terms n
