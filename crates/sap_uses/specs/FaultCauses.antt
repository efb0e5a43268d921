-- Why a process can't be expanded: the six causes in their order.
use Rattle.std.specs.Prelude.{◌≡◌, ◌<◌, ℕ, List, Some}
use Rattle.sap_terms.specs.Signature.{Sig}
use Rattle.sap_terms.specs.declared.limits.TheConstants.{MOST_PROCESS_LEVELS, MOST_PROCESS_PLACES}
use Rattle.sap_process.specs.Proc.{node_count, level_count}
use Rattle.sap_macro.specs.Expansion.{expansion}
use Rattle.sap_macro.specs.MacroCauses.{first_other_count, first_parameter_twice}
use Rattle.sap_macro.specs.Written.{Written, Definition}
use Rattle.sap_uses.specs.ScopeFlaws.{IsFirstFlawedBehind}
use Rattle.sap_uses.specs.UseCauses.{first_large}
use Rattle.sap_uses.specs.declared.fault.MacroFault.{MacroFault}
use Rattle.sap_uses.specs.declared.fault.MacroFault.TheVariants.{Mem, Parameters, Arguments, TooMany, TooDeep, Large, Flawed}

-- the cause holds, of definitions and a process; want of memory has none
abbrev pub Holds : Sig → List Definition → Written → MacroFault → Type 0
Holds g ds p Mem = ⊥
Holds g ds p (Parameters x) = first_parameter_twice ds ≡ Some x
Holds g ds p (Arguments f) = first_other_count ds p ≡ Some f
Holds g ds p TooMany =
    (identifiers : List (List ℕ))
    → MOST_PROCESS_PLACES < node_count (expansion ds identifiers p).process
Holds g ds p TooDeep =
    (identifiers : List (List ℕ))
    → MOST_PROCESS_LEVELS < level_count (expansion ds identifiers p).process
Holds g ds p (Large f) = first_large ds p ≡ Some f
Holds g ds p (Flawed f w path) = IsFirstFlawedBehind g ds p f w path

-- the order in which they count
abbrev pub cause_rank : MacroFault → ℕ
cause_rank Mem = 0
cause_rank (Parameters x) = 1
cause_rank (Arguments f) = 2
cause_rank TooMany = 3
cause_rank TooDeep = 4
cause_rank (Large f) = 5
cause_rank (Flawed f w path) = 6

-- it is the first that holds
pub record IsMacroCause (g : Sig) (ds : List Definition) (p : Written) (e : MacroFault)
    : Type 0 where
  pub holds : Holds g ds p e
  pub first : (u : MacroFault) → cause_rank u < cause_rank e → ¬ Holds g ds p u
