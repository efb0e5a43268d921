-- The formula of each of the seven restrictions, and which full traces are admitted.
use Rattle.std.specs.Prelude.{List, [], ◌∷◌}
use Rattle.sap_formula.specs.Form.{Form}
use Rattle.sap_formula.specs.Truth.{IsTrueOn}
use Rattle.sap_shapes.specs.Formulas.{each_equal, each_found, each_lock, each_missed, each_served, each_unequal, one_start}
use Rattle.sap_restrict.specs.declared.which.Which.{Which}
use Rattle.sap_restrict.specs.declared.which.Which.TheVariants.{Eq, In, InEv, Init, Lock, NotEq, NotIn}
use Rattle.sap_terms.specs.Signature.{Sig}
use Rattle.sap_terms.specs.Trace.{Trace}

-- the formula of each
abbrev pub standard : Which → Form
standard Init = one_start
standard Eq = each_equal
standard NotEq = each_unequal
standard In = each_found
standard NotIn = each_missed
standard Lock = each_lock
standard InEv = each_served

-- all of them, in order
abbrev pub every_which : List Which
every_which = Init ∷ Eq ∷ NotEq ∷ In ∷ NotIn ∷ Lock ∷ InEv ∷ []

-- a full trace is admitted where all seven formulas are true on it
abbrev pub IsAdmitted : Sig → Trace → Type 0
IsAdmitted g tr = (w : Which) → IsTrueOn g (standard w) tr
