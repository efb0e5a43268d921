-- Where a path leads in the processes of a file as they are written.
use Rattle.std.specs.Prelude.{◌≡◌, ◌+◌, ◌-◌, ℕ, List, length, map, Option, Some, None}
use Rattle.sap_text.specs.declared.token.Token.{Token}
use Rattle.sap_grammar.specs.Cut.{Placed}
use Rattle.sap_locks.specs.declared.fault.LockFault.{LockFault}
use Rattle.sap_locks.specs.declared.fault.LockFault.TheVariants as lock
use Rattle.sap_macro.specs.Located.{Located}
use Rattle.sap_origin.specs.Definitions.{LocatedDefinition}
use Rattle.sap_origin.specs.Origins.{start}
use Rattle.sap_origin.specs.Reached as reached
use Rattle.sap_origin.specs.Reached.{Reaches, number_of}
use Rattle.sap_read.specs.Causes.{cause_of}
use Rattle.sap_read.specs.Files.{IsParted}
use Rattle.sap_read.specs.Item.{Standing, signature_of}
use Rattle.sap_read.specs.ItemGrammar.{AreItems}
use Rattle.sap_read.specs.LocatedItems.{LocatedMain, definitions_at, located_bodies, main_at}
use Rattle.sap_read.specs.declared.fault.ReadFault.{ReadFault}
use Rattle.sap_read.specs.declared.fault.ReadFault.TheVariants.{Lock}
use Rattle.sap_stretches.specs.declared.stretch.Stretch.{Stretch}
use Rattle.sap_read_places.specs.declared.told.Told.{Told}
use Rattle.sap_stretches.specs.Stretches.{stretch_at}

-- the bytes are a file of these tokens, which nothing refuses before its uses are looked at; these are its definitions and its process,
-- with the words of their places
pub record IsPlaced (z : List ℕ) (ts : List Token) (ds : List LocatedDefinition) (m : LocatedMain)
    : Type 0 where
  pub name : List ℕ
  pub cut : List (List Placed)
  pub standing : List Standing
  pub parted : IsParted z ts name cut
  pub items : AreItems (signature_of standing) cut standing
  pub nothing : cause_of standing ≡ None
  pub definitions_are : definitions_at (located_bodies items) ≡ ds
  pub main_is : main_at (located_bodies items) ≡ Some m

-- the stretch of the word from which so many words of the file are left
abbrev pub stretch_before : List Token → ℕ → Stretch
stretch_before ts n = stretch_at ts (length ts - n)

-- along this path one comes from the process of the file to a place that is told by this word, through the uses of these names, the
-- innermost first
pub record IsAtPath (z : List ℕ) (path : List ℕ) (t : Told) : Type 0 where
  pub tokens : List Token
  pub definitions : List LocatedDefinition
  pub main : LocatedMain
  pub placed : IsPlaced z tokens definitions main
  pub standing : reached.Standing
  pub place : Located
  pub reaches : Reaches definitions (start main.behind) main.process path standing place
  pub word_is : t.word ≡ stretch_before tokens (number_of place + standing.behind)
  pub uses_are : t.uses ≡ map (stretch_before tokens) standing.uses

-- the path of the place that can't be annotated
abbrev pub lock_path : LockFault → Option (List ℕ)
lock_path lock.Mem = None
lock_path (lock.UnlockWithoutLock path) = Some path
lock_path (lock.LockOverParallel path) = Some path

-- the path of the place at whose own word a cause stands, if it stands at one
abbrev pub path_of : ReadFault → Option (List ℕ)
path_of (Lock f) = lock_path f
path_of _ = None
