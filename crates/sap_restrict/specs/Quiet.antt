-- The facts of which the restrictions speak first.
use Rattle.std.specs.Prelude.{ℕ, List}
use Rattle.sap_restrict.specs.declared.which.Which.{Which}
use Rattle.sap_restrict.specs.declared.which.Which.TheVariants.{Eq, In, InEv, Init, Lock, NotEq, NotIn}
use Rattle.sap_terms.specs.FactNames.{eq_name, in_event_name, init_name, is_in_name, is_not_set_name, lock_name, not_eq_name}

-- the name of the fact without which the premise is false
abbrev pub premise_name : Which → List ℕ
premise_name Init = init_name
premise_name Eq = eq_name
premise_name NotEq = not_eq_name
premise_name In = is_in_name
premise_name NotIn = is_not_set_name
premise_name Lock = lock_name
premise_name InEv = in_event_name
