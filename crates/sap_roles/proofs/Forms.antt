-- What is meant has the form of what is written.
use Rattle.std.proofs.Common.{ℕ, List}
use Rattle.sap_process.specs.Proc.{Proc}
use Rattle.sap_macro.specs.Located.{Located}
use Rattle.sap_origin.specs.Definitions.{LocatedDefinition}
use Rattle.sap_origin.specs.Meant.{Means, means_nil, means_parallel, means_replicated, means_act, means_test, means_lookup, means_use}
use Rattle.sap_origin.specs.Reached.{IsForm, Reaches, Standing, reaches_here, reaches_use, reaches_left, reaches_right, reaches_copy, reaches_behind, reaches_then, reaches_else, reaches_found, reaches_missing}
use Rattle.sap_roles.specs.Forms.{HasForm, form_nil, form_parallel, form_replicated, form_act, form_test, form_lookup}

pub has_form : {ds : List LocatedDefinition} {q : Located} {y : Proc} → IsForm q → Means ds q y → HasForm q y
has_form f means_nil = form_nil
has_form f (means_parallel m n) = form_parallel
has_form f (means_replicated m) = form_replicated
has_form f (means_act r b e m) = form_act
has_form f (means_test r e g m n) = form_test
has_form f (means_lookup r b e g m n) = form_lookup
has_form f (means_use e m) = absurd f

-- one comes to forms alone
pub is_form : {ds : List LocatedDefinition} {s z : Standing} {p q : Located} {path : List ℕ} → Reaches ds s p path z q → IsForm q
is_form (reaches_here f) = f
is_form (reaches_use e g r) = is_form r
is_form (reaches_left r) = is_form r
is_form (reaches_right r) = is_form r
is_form (reaches_copy r) = is_form r
is_form (reaches_behind r) = is_form r
is_form (reaches_then r) = is_form r
is_form (reaches_else r) = is_form r
is_form (reaches_found r) = is_form r
is_form (reaches_missing r) = is_form r
