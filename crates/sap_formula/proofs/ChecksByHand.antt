-- The worked examples of the check.
use Rattle.std.proofs.Common.{◌≡◌, ℕ, List, [], ◌∷◌, Bool, true, false, Option, Some, None, refl}
use Rattle.std.specs.Prelude.{codes}
use Rattle.sap_terms.specs.Signature.{Sig, pairs_alone}
use Rattle.sap_formula.proofs.Counting.{faultless as none_found, found-counts}
use Rattle.sap_formula.specs.CheckExamples.{IsTold, bad_functions, destructors, reserved_names, unbound, unguarded, places, two_functions, two_unbound, two_unguarded, function_before, destructor_before, reserved_before, unbound_before, faultless, sdec_declared, with_symmetric, decrypted, sorted_ones}
use Rattle.sap_formula.specs.Faults.{HasNoFault, IsFirstFault}
use Rattle.sap_formula.specs.Form.{Form}
use Rattle.sap_formula.specs.Parts.{form_parts}
use Rattle.sap_formula.specs.Sorted.{with_sorts}
use Rattle.sap_formula.specs.Truth.{EachIn}
use Rattle.sap_formula.specs.code.Tests.{first_fault}
use Rattle.sap_formula.specs.declared.fault.FormulaFlaw.{FormulaFlaw}
use Rattle.sap_formula.specs.declared.fault.FormulaFlaw.TheVariants.{BadFunction, Destructor, Reserved, UnboundVar, Unguarded}

-- what a search for the faults in their order finds
abbrev found : Sig → Bool → Form → Option (FormulaFlaw × List ℕ)
found g r f = first_fault g r (BadFunction ∷ Destructor ∷ Reserved ∷ UnboundVar ∷ Unguarded ∷ []) (form_parts [] f)

each_told : (w : FormulaFlaw) (es : List (Form × List ℕ)) → EachIn (λ e. found pairs_alone true e.0 ≡ Some (w, e.1)) es → EachIn (IsTold w) es
each_told w [] h = tt
each_told w (e ∷ es) h = (found-counts pairs_alone true e.0 w e.1 h.0, each_told w es h.1)

each_faultless : (fs : List Form) → EachIn (λ f. found pairs_alone true f ≡ None) fs → EachIn (HasNoFault pairs_alone true) fs
each_faultless [] h = tt
each_faultless (f ∷ fs) h = (none_found pairs_alone true f h.0, each_faultless fs h.1)

pub functions_told : EachIn (IsTold BadFunction) bad_functions
functions_told = each_told BadFunction bad_functions (refl, (refl, tt))

each_has_f : (fs : List Form) → EachIn (λ f. found pairs_alone true f ≡ Some (BadFunction, codes "f")) fs → EachIn (λ f. IsTold BadFunction (f, codes "f")) fs
each_has_f [] h = tt
each_has_f (f ∷ fs) h = (found-counts pairs_alone true f BadFunction (codes "f") h.0, each_has_f fs h.1)

pub everywhere : EachIn (λ f. IsTold BadFunction (f, codes "f")) places
everywhere = each_has_f places (refl, (refl, (refl, (refl, (refl, (refl, (refl, (refl, (refl, (refl, tt))))))))))

pub destructors_told : EachIn (IsTold Destructor) destructors
destructors_told = each_told Destructor destructors (refl, (refl, tt))

pub reserved_told : EachIn (IsTold Reserved) reserved_names
reserved_told = each_told Reserved reserved_names (refl, (refl, (refl, tt)))

pub unbound_told : EachIn (IsTold UnboundVar) unbound
unbound_told = each_told UnboundVar unbound (refl, (refl, (refl, (refl, (refl, (refl, (refl, (refl, tt))))))))

pub unguarded_told : EachIn (IsTold Unguarded) unguarded
unguarded_told = each_told Unguarded unguarded (refl, (refl, (refl, (refl, (refl, (refl, (refl, (refl, (refl, (refl, (refl, (refl, tt))))))))))))

pub first_function : EachIn (IsTold BadFunction) two_functions
first_function = each_told BadFunction two_functions (refl, (refl, (refl, (refl, (refl, (refl, (refl, tt)))))))

pub first_unbound : EachIn (IsTold UnboundVar) two_unbound
first_unbound = each_told UnboundVar two_unbound (refl, (refl, (refl, tt)))

pub first_unguarded : EachIn (IsTold Unguarded) two_unguarded
first_unguarded = each_told Unguarded two_unguarded (refl, (refl, tt))

pub function_told : IsTold BadFunction (function_before, codes "f")
function_told = found-counts pairs_alone true function_before BadFunction (codes "f") refl

pub destructor_told : IsTold Destructor (destructor_before, codes "fst")
destructor_told = found-counts pairs_alone true destructor_before Destructor (codes "fst") refl

pub name_told : IsTold Reserved (reserved_before, codes "Init")
name_told = found-counts pairs_alone true reserved_before Reserved (codes "Init") refl

pub variable_told : IsTold UnboundVar (unbound_before, codes "y")
variable_told = found-counts pairs_alone true unbound_before UnboundVar (codes "y") refl

pub none : EachIn (HasNoFault pairs_alone true) faultless
none = each_faultless faultless (refl, (refl, (refl, (refl, (refl, (refl, (refl, (refl, (refl, (refl, (refl, (refl, (refl, (refl, (refl, tt)))))))))))))))

each_allowed : (es : List (Form × List ℕ)) → EachIn (λ e. found pairs_alone false e.0 ≡ None) es → EachIn (λ e. HasNoFault pairs_alone false e.0) es
each_allowed [] h = tt
each_allowed (e ∷ es) h = (none_found pairs_alone false e.0 h.0, each_allowed es h.1)

pub reserved_allowed : EachIn (λ e. HasNoFault pairs_alone false e.0) reserved_names
reserved_allowed = each_allowed reserved_names (refl, (refl, (refl, tt)))

pub declared_alone : HasNoFault sdec_declared true decrypted
declared_alone = none_found sdec_declared true decrypted refl

pub with_its_equation : IsFirstFault with_symmetric true decrypted Destructor (codes "sdec")
with_its_equation = found-counts with_symmetric true decrypted Destructor (codes "sdec") refl

pub sorts : EachIn (λ e. with_sorts [] e.0 ≡ e.1) sorted_ones
sorts = (refl, (refl, (refl, (refl, (refl, (refl, (refl, tt)))))))
