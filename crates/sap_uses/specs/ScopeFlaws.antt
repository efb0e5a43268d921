-- Definitions whose bodies don't bind what they use, or bind it again, or sign it otherwise.
use Rattle.std.specs.Prelude.{◌≡◌, ◌<◌, ℕ, List, [], map, slice_get, Some, Contains}
use Rattle.sap_terms.specs.Signature.{Sig}
use Rattle.sap_terms.specs.declared.var.Sort.TheVariants.{Msg}
use Rattle.sap_terms.specs.declared.var.Var.{Var}
use Rattle.sap_process.specs.Flaws.{IsFirstScopeFlaw}
use Rattle.sap_process.specs.declared.flaw.Flaw.{Flaw}
use Rattle.sap_macro.specs.Expansion.{plain, plain_bodies}
use Rattle.sap_macro.specs.MacroCauses.{Use, uses}
use Rattle.sap_macro.specs.Seen.{seen}
use Rattle.sap_macro.specs.UpToNames.{named}
use Rattle.sap_macro.specs.Written.{Written, call, Definition}

-- the parameters as variables
abbrev pub params_in_scope : Definition → List Var
params_in_scope d = map (λ n. named n Msg) d.params

-- the process leads to the name: it uses it, or the body of a definition that it leads to does
pub data LeadsTo (ds : List Definition) (p : Written) : List ℕ → Type 0 where
  at_once : {u : Use} → Contains (uses p) u → LeadsTo ds p u.0
  further : {d : Definition} {u : Use} → LeadsTo ds p d.name → Contains ds d
      → Contains (uses d.body) u → LeadsTo ds p u.0

-- a definition with parameters that the process leads to has the flaw
pub record IsFlawed (g : Sig) (ds : List Definition) (p : Written) (d : Definition) (w : Flaw)
    (path : List ℕ) : Type 0 where
  pub parameters : ¬ (d.params ≡ [])
  pub reached : LeadsTo ds p d.name
  pub flaw : IsFirstScopeFlaw g (params_in_scope d) (seen d.body) w path

-- the first of them that has one has this name
pub record IsFirstFlawed (g : Sig) (ds : List Definition) (p : Written) (name : List ℕ) (w : Flaw)
    (path : List ℕ) : Type 0 where
  pub at : ℕ
  pub definition : Definition
  pub stands : slice_get ds at ≡ Some definition
  pub name_is : definition.name ≡ name
  pub flawed : IsFlawed g ds p definition w path
  pub first : (k : ℕ) → k < at → (d : Definition) → slice_get ds k ≡ Some d → (u : Flaw)
      (q : List ℕ) → ¬ IsFlawed g ds p d u q

-- the same of definitions and a process as they are written, names without parameters replaced before anything else
abbrev pub IsFirstFlawedBehind : Sig → List Definition → Written → List ℕ → Flaw → List ℕ → Type 0
IsFirstFlawedBehind g ds p name w path =
    IsFirstFlawed g (plain_bodies call ds) (plain ds p) name w path
