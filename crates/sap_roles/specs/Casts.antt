-- Which cast a file has: all its roles, by number, and which one a thread has along each path.
use Rattle.std.specs.Prelude.{◌≡◌, ℕ, List, [], Some, None, length, map, slice_get}
use Rattle.sap_macro.specs.Indexed.{AreIndexed, defined}
use Rattle.sap_macro.specs.Located.{Located}
use Rattle.sap_macro.specs.Order.{AreInOrder, UsesOnly}
use Rattle.sap_macro.specs.Sources.{definitions, located, written}
use Rattle.sap_origin.specs.Definitions.{LocatedDefinition, located_definitions}
use Rattle.sap_players.specs.Casts.{Cast}
use Rattle.sap_roles.specs.Roles.{IsRoleAt}
use Rattle.sap_roles.specs.declared.script.Script.{Script}

-- The cast is that of a file with these definitions and this process, behind whose item so many words of the file are: the names are those of
-- the definitions, in order, and along a path one has the role of a number exactly where one has that of its name there.
pub record IsCastOf (ds : List LocatedDefinition) (p : Located) (behind : ℕ) (cast : Cast) : Type 0 where
  pub names_are : cast.names ≡ map (λ (d : LocatedDefinition). d.name) ds
  pub some : (path : List ℕ) (k : ℕ) → cast.at path ≡ Some k
      → (f : List ℕ) × (slice_get cast.names k ≡ Some f) × IsRoleAt ds p behind path (Some f)
  pub none : (path f : List ℕ) → cast.at path ≡ None → IsRoleAt ds p behind path (Some f) → ⊥

-- no two definitions of the script have one name, each uses earlier ones alone and the process these, and the index is that of their names
pub record IsScript (s : Script) : Type 0 where
  pub order : AreInOrder [] (definitions s.definitions)
  pub indexed : AreIndexed (definitions s.definitions) s.index
  pub uses : UsesOnly (defined (definitions s.definitions)) (written s.main.value)

-- how many roles it has: one for each definition
abbrev pub role_count : Script → ℕ
role_count s = length s.definitions

-- it is that of what is written in the script, however many words of the file are behind each item
pub record IsCastOfScript (s : Script) (cast : Cast) : Type 0 where
  pub counts : List ℕ
  pub behind : ℕ
  pub as_many : length counts ≡ length s.definitions
  pub is : IsCastOf (located_definitions s.definitions counts) (located s.main.value) behind cast
