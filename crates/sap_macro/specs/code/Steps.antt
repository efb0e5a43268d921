-- What a process means behind definitions.
use Rattle.std.specs.Prelude.{◌≡◌, ℕ, List}
use Rattle.sap_terms.specs.Tree.{Tree}
use Rattle.sap_macro.specs.Expansion.{Expanded, Meaning, Plain, expanded, meaning_of, plain_after, plain_bodies, with_uses, where_none, entered, expanded_as}
use Rattle.sap_process.specs.Proc as whole
use Rattle.sap_macro.specs.Walked.{Cost, cost_of, steps}
use Rattle.sap_macro.specs.Written.{Written, call, Definition}
use Rattle.sap_macro.specs.code.Standings.{choice_of, name_of}
use Rattle.sap_macro.specs.declared.standing.Standing.{Standing}

-- what names without parameters stand for, and what names mean, behind these definitions
abbrev pub plain_of : List Definition → Plain
plain_of ds = plain_after call ds

abbrev pub meaning_in : List Definition → Meaning
meaning_in ds = meaning_of (plain_bodies call ds)

-- the expansion of a process with this put in, where these names are taken
unfoldable pub built : List Definition → Standing → Written → List (List ℕ) → Expanded
built ds s w taken =
    expanded (meaning_in ds) (choice_of s) (name_of s) (with_uses (plain_of ds) w) taken

-- the name of a definition means its body, all of whose names are understood
pub record IsResolvedBy (p : Plain) (m : Meaning) (c : Cost) (d : Definition) : Type 0 where
  pub plain : (ts : List Tree)
      → p d.name ts ≡ where_none d.params (with_uses p d.body) (call d.name ts)
  pub meaning : (ts : List Tree) (taken : List (List ℕ)) → m d.name ts taken
      ≡ entered m (record d { body = with_uses p d.body }) ts taken
  pub cost : c d.name ≡ steps c d.body

abbrev pub IsResolved : List Definition → Definition → Type 0
IsResolved ds d = IsResolvedBy (plain_of ds) (meaning_in ds) (cost_of ds) d

-- a name that nothing defines means `0`
pub record IsUnknown (ds : List Definition) (f : List ℕ) : Type 0 where
  pub plain : (ts : List Tree) → plain_of ds f ts ≡ call f ts
  pub meaning : (ts : List Tree) (taken : List (List ℕ))
      → meaning_in ds f ts taken ≡ expanded_as whole.nil taken

-- a name that stays a name
abbrev pub IsFormed : List Definition → Written → Type 0
IsFormed ds (call f ts) = (us : List Tree) → plain_of ds f us ≡ call f us
IsFormed ds w = Unit {0}
