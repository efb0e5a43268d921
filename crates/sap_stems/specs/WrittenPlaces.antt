-- The places of what is written, and the nodes there.
use Rattle.std.specs.Prelude.{◌≡◌, ℕ, List, Some, Contains, slice_get}
use Rattle.sap_terms.specs.Tree.{Tree}
use Rattle.sap_terms.specs.declared.var.Var.{Var}
use Rattle.sap_process.specs.Action.{Action}
use Rattle.sap_macro.specs.Located.{Located, parallel_at, replicated_at, act_at, test_at, lookup_at}
use Rattle.sap_origin.specs.Definitions.{LocatedDefinition}
use Rattle.sap_stems.specs.Stems.{Stem}
use Rattle.sap_stems.specs.WrittenNodes.{written_nodes}

-- a place of what is written, itself among them; what a use stands for is none of its places
pub data IsPlaceIn : Located → Located → Type 0 where
  place_itself : {q : Located} → IsPlaceIn q q
  place_left : {k : ℕ} {q p r : Located} → IsPlaceIn q p → IsPlaceIn q (parallel_at k p r)
  place_right : {k : ℕ} {q p r : Located} → IsPlaceIn q r → IsPlaceIn q (parallel_at k p r)
  place_copy : {k : ℕ} {q p : Located} → IsPlaceIn q p → IsPlaceIn q (replicated_at k p)
  place_behind : {k : ℕ} {x : Action} {q p : Located} → IsPlaceIn q p → IsPlaceIn q (act_at k x p)
  place_then : {k : ℕ} {t u : Tree} {q p r : Located} → IsPlaceIn q p
      → IsPlaceIn q (test_at k t u p r)
  place_else : {k : ℕ} {t u : Tree} {q p r : Located} → IsPlaceIn q r
      → IsPlaceIn q (test_at k t u p r)
  place_found : {k : ℕ} {t : Tree} {x : Var} {q p r : Located} → IsPlaceIn q p
      → IsPlaceIn q (lookup_at k t x p r)
  place_missing : {k : ℕ} {t : Tree} {x : Var} {q p r : Located} → IsPlaceIn q r
      → IsPlaceIn q (lookup_at k t x p r)

-- a place of a process, or of a definition, behind whose item so many words of the file are
pub data IsPlaceOf (ds : List LocatedDefinition) (p : Located) (behind : ℕ) : ℕ → Located → Type 0 where
  of_process : {q : Located} → IsPlaceIn q p → IsPlaceOf ds p behind behind q
  of_definition : {d : LocatedDefinition} {q : Located} → Contains ds d → IsPlaceIn q d.body
      → IsPlaceOf ds p behind d.behind q

-- the node stands at its place, which is one of the file's, in the item in which one stands
pub record IsWrittenNode (ds : List LocatedDefinition) (p : Located) (behind : ℕ) (s : Stem) : Type 0 where
  pub place : IsPlaceOf ds p behind s.standing.behind s.place
  pub node : slice_get (written_nodes s.place) s.index ≡ Some s.node
