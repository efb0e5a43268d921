-- What is read of a file stands at one place, and where the file is refused for it, at some: cause by cause.
use Rattle.std.proofs.Common.{◌≡◌, ℕ, List}
use Rattle.std.specs.Prelude.{Err}
use Rattle.sap_formula.specs.declared.fault.FormulaFault.{FormulaFault}
use Rattle.sap_process.specs.declared.flaw.Flaw.{Flaw}
use Rattle.sap_read.specs.Files.{IsRead}
use Rattle.sap_read.specs.declared.fault.ReadFault.{ReadFault}
use Rattle.sap_read.specs.declared.fault.ReadFault.TheVariants.{Mem, Lex as LexFault, Header, Syntax, NoProcess, TwoProcesses, UnknownProcess, DuplicateName, FunctionClash, Parameters, Arguments, TooMany, TooDeep, Large, Flawed, Ill, Lock, Formula}
use Rattle.sap_read_places.specs.declared.told.Told.{Told}
use Rattle.sap_read_places.specs.BodyFlawPlaces.{IsBodyFlawPlace}
use Rattle.sap_read_places.specs.FlawPlaces.{IsFlawPlace}
use Rattle.sap_read_places.specs.LimitPlaces.{IsLevelBeyond, IsPlaceBeyond}
use Rattle.sap_read_places.specs.PartPlaces.{IsPartPlace}
use Rattle.sap_read_places.specs.ReadPlaces.{IsReadCause, IsReadPlace}
use Rattle.sap_read_places.specs.UndefinedPlaces.{IsUndefinedPlace}
use Rattle.sap_read_places.specs.UsePlaces.{IsLargeUsePlace, IsOtherUsePlace}

module _
    (one_place : (z : List ℕ) (s t : Told) → IsPlaceBeyond z s → IsPlaceBeyond z t → s ≡ t)
    (one_level : (z : List ℕ) (s t : Told) → IsLevelBeyond z s → IsLevelBeyond z t → s ≡ t)
    (one_undefined : (z x : List ℕ) (s t : Told) → IsUndefinedPlace z x s → IsUndefinedPlace z x t → s ≡ t)
    (one_other : (z x y : List ℕ) (s t : Told) → IsOtherUsePlace z x s → IsOtherUsePlace z y t → s ≡ t)
    (one_large : (z x y : List ℕ) (s t : Told) → IsLargeUsePlace z x s → IsLargeUsePlace z y t → s ≡ t)
    (one_flaw : (z : List ℕ) (w : Flaw) (path : List ℕ) (s t : Told) → IsFlawPlace z w path s → IsFlawPlace z w path t → s ≡ t)
    (one_body_flaw : (z x : List ℕ) (w : Flaw) (path : List ℕ) (s t : Told) → IsBodyFlawPlace z x w path s → IsBodyFlawPlace z x w path t → s ≡ t)
    (one_part : (z : List ℕ) (y : List ℕ) (f : FormulaFault) (s t : Told) → IsPartPlace z y f s → IsPartPlace z y f t → s ≡ t) where
  pub one_read_place : (z : List ℕ) (e : ReadFault) (s t : Told) → IsReadPlace z e s → IsReadPlace z e t → s ≡ t
  one_read_place z Mem s t h k = absurd h
  one_read_place z (LexFault f) s t h k = absurd h
  one_read_place z Header s t h k = absurd h
  one_read_place z (Syntax line) s t h k = absurd h
  one_read_place z NoProcess s t h k = absurd h
  one_read_place z (TwoProcesses line) s t h k = absurd h
  one_read_place z (UnknownProcess x) s t h k = one_undefined z x s t h k
  one_read_place z (DuplicateName x) s t h k = absurd h
  one_read_place z (FunctionClash x) s t h k = absurd h
  one_read_place z (Parameters x) s t h k = absurd h
  one_read_place z (Arguments x) s t h k = one_other z x x s t h k
  one_read_place z TooMany s t h k = one_place z s t h k
  one_read_place z TooDeep s t h k = one_level z s t h k
  one_read_place z (Large x) s t h k = one_large z x x s t h k
  one_read_place z (Flawed x w path) s t h k = one_body_flaw z x w path s t h k
  one_read_place z (Ill w path) s t h k = one_flaw z w path s t h k
  one_read_place z (Lock f) s t h k = absurd h
  one_read_place z (Formula x f) s t h k = one_part z x f s t h k

module _
    (some_place : (z : List ℕ) → IsRead z (Err TooMany) → (t : Told) × IsPlaceBeyond z t)
    (some_level : (z : List ℕ) → IsRead z (Err TooDeep) → (t : Told) × IsLevelBeyond z t)
    (some_undefined : (z x : List ℕ) → IsRead z (Err (UnknownProcess x)) → (t : Told) × IsUndefinedPlace z x t)
    (some_other : (z x : List ℕ) → IsRead z (Err (Arguments x)) → (t : Told) × IsOtherUsePlace z x t)
    (some_large : (z x : List ℕ) → IsRead z (Err (Large x)) → (t : Told) × IsLargeUsePlace z x t)
    (some_flaw : (z : List ℕ) (w : Flaw) (path : List ℕ) → IsRead z (Err (Ill w path)) → (t : Told) × IsFlawPlace z w path t)
    (some_body_flaw : (z x : List ℕ) (w : Flaw) (path : List ℕ) → IsRead z (Err (Flawed x w path)) → (t : Told) × IsBodyFlawPlace z x w path t)
    (some_part : (z : List ℕ) (y : List ℕ) (f : FormulaFault) → IsRead z (Err (Formula y f)) → (t : Told) × IsPartPlace z y f t) where
  pub some_read_place : (z : List ℕ) (e : ReadFault) → IsReadCause e → IsRead z (Err e) → (t : Told) × IsReadPlace z e t
  some_read_place z Mem h is = absurd h
  some_read_place z (LexFault f) h is = absurd h
  some_read_place z Header h is = absurd h
  some_read_place z (Syntax line) h is = absurd h
  some_read_place z NoProcess h is = absurd h
  some_read_place z (TwoProcesses line) h is = absurd h
  some_read_place z (UnknownProcess x) h is = some_undefined z x is
  some_read_place z (DuplicateName x) h is = absurd h
  some_read_place z (FunctionClash x) h is = absurd h
  some_read_place z (Parameters x) h is = absurd h
  some_read_place z (Arguments x) h is = some_other z x is
  some_read_place z TooMany h is = some_place z is
  some_read_place z TooDeep h is = some_level z is
  some_read_place z (Large x) h is = some_large z x is
  some_read_place z (Flawed x w path) h is = some_body_flaw z x w path is
  some_read_place z (Ill w path) h is = some_flaw z w path is
  some_read_place z (Lock f) h is = absurd h
  some_read_place z (Formula x f) h is = some_part z x f is
