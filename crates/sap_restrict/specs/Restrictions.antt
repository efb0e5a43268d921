-- The restrictions of a theory under their names.
use Rattle.std.specs.Prelude.{ℕ, Bool, List, codes, map}
use Rattle.std.specs.List.{list_any}
use Rattle.std.specs.Str.{bytes_eq}
use Rattle.sap_formula.specs.Form.{RestrictionForm}
use Rattle.sap_process.specs.Proc.{Proc}
use Rattle.sap_restrict.specs.Needed.{needed}
use Rattle.sap_restrict.specs.Standard.{every_which, standard}
use Rattle.sap_restrict.specs.declared.which.Which.{Which}
use Rattle.sap_restrict.specs.declared.which.Which.TheVariants.{Eq, In, InEv, Init, Lock, NotEq, NotIn}

-- the name of each of the seven
abbrev pub restriction_name : Which → List ℕ
restriction_name Init = codes "sapic_init"
restriction_name Eq = codes "sapic_eq"
restriction_name NotEq = codes "sapic_noteq"
restriction_name In = codes "sapic_in"
restriction_name NotIn = codes "sapic_notin"
restriction_name Lock = codes "sapic_lock"
restriction_name InEv = codes "sapic_inev"

-- the names of all seven, which a file gives to no restriction or lemma of its own
abbrev pub generated_names : List (List ℕ)
generated_names = map restriction_name every_which

-- it is one of them
abbrev pub is_generated : List ℕ → Bool
is_generated n = list_any (bytes_eq n) generated_names

-- its formula under its name
abbrev pub named : Which → RestrictionForm
named w = record { name = restriction_name w; formula = standard w }

-- those that the process needs, in order
abbrev pub needed_restrictions : Proc → List RestrictionForm
needed_restrictions p = map named (needed p)
