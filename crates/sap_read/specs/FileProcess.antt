-- The process of a file: its own one, expanded behind the file's definitions.
use Rattle.std.specs.Prelude.{◌≡◌, ℕ, List, [], ◌∷◌, ◌++◌, Option, Some, None, if◌then◌else◌, is_none, option_map}
use Rattle.sap_terms.specs.Signature.{Sig}
use Rattle.sap_process.specs.Proc.{Proc}
use Rattle.sap_macro.specs.Expansion.{expansion}
use Rattle.sap_macro.specs.Written.{Written, nil, call, parallel, replicated, act, test, lookup, Definition}
use Rattle.sap_uses.specs.FaultCauses.{Holds, IsMacroCause}
use Rattle.sap_uses.specs.declared.fault.MacroFault.{MacroFault}
use Rattle.sap_read.specs.Item.{Body}

-- the names of processes in a process, from left to right
abbrev pub calls : Written → List (List ℕ)
calls nil = []
calls (call x ts) = x ∷ []
calls (parallel p q) = calls p ++ calls q
calls (replicated p) = calls p
calls (act a p) = calls p
calls (test t u p q) = calls p ++ calls q
calls (lookup t x p q) = calls p ++ calls q

-- what a body defines, by its label
abbrev pub defined_as : Option (List ℕ) → Body → List Definition
defined_as None b = []
defined_as (Some x) b = record { name = x; params = b.params; body = b.content } ∷ []

-- the definitions of a file, in order
abbrev pub definitions_of : List Body → List Definition
definitions_of [] = []
definitions_of (b ∷ bs) = defined_as b.label b ++ definitions_of bs

-- the file's process as it is written, the first where there are several
abbrev pub main_of : List Body → Option Written
main_of [] = None
main_of (b ∷ bs) = if is_none b.label then Some b.content else main_of bs

-- the file's process, where these are its identifiers
abbrev pub process_of : List (List ℕ) → List Body → Option Proc
process_of identifiers bs =
    option_map (λ p. (expansion (definitions_of bs) identifiers p).process) (main_of bs)

-- the file's process can't be expanded, for this cause, which counts
pub record IsUnexpanded (g : Sig) (bs : List Body) (f : MacroFault) : Type 0 where
  pub main : Written
  pub is_main : main_of bs ≡ Some main
  pub cause : IsMacroCause g (definitions_of bs) main f

-- it can, and this is its expansion
pub record IsExpanded (g : Sig) (identifiers : List (List ℕ)) (bs : List Body) (p : Proc)
    : Type 0 where
  pub main : Written
  pub is_main : main_of bs ≡ Some main
  pub no_cause : (f : MacroFault) → ¬ Holds g (definitions_of bs) main f
  pub whole : (expansion (definitions_of bs) identifiers main).process ≡ p
