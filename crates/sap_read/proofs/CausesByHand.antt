-- Causes for which the process of a small file can't be expanded.
use Rattle.std.proofs.Common.{◌≡◌, ◌≤◌, ◌<◌, ℕ, zero, suc, List, [], ◌∷◌, Option, Some, None, refl, subst, arith}
use Rattle.std.specs.Prelude.{slice_get}
use Rattle.std.specs.List.{AllByRecursion}
use Rattle.sap_terms.specs.Signature.{Sig}
use Rattle.sap_terms.specs.declared.limits.TheConstants.{MOST_PROCESS_LEVELS, MOST_PROCESS_PLACES}
use Rattle.sap_process.specs.Proc.{node_count, level_count}
use Rattle.sap_macro.specs.Expansion.{expansion, plain_bodies}
use Rattle.sap_macro.specs.MacroCauses.{first_other_count, first_parameter_twice}
use Rattle.sap_macro.specs.Written.{Written, Definition, call}
use Rattle.sap_uses.specs.FaultCauses.{Holds, IsMacroCause, cause_rank}
use Rattle.sap_uses.specs.UseCauses.{first_large}
use Rattle.sap_uses.specs.declared.fault.MacroFault.{MacroFault}
use Rattle.sap_uses.specs.declared.fault.MacroFault.TheVariants.{Mem, Parameters, Arguments, TooMany, TooDeep, Large, Flawed}
use Rattle.sap_read.specs.FileProcess.{IsExpanded, IsUnexpanded, definitions_of, main_of}
use Rattle.sap_read.specs.Item.{Body}

none_or : {x : List ℕ} (o : Option (List ℕ)) → o ≡ None → o ≡ Some x → ⊥
none_or None h e = absurd (cc (e))
none_or (Some y) h e = absurd (cc (h))

module _ (g : Sig) (ds : List Definition) (p : Written) where
  twice : (x : List ℕ) → first_parameter_twice ds ≡ Some x → IsMacroCause g ds p (Parameters x)
  twice x h = record { holds = h; first = first } where
    first : (u : MacroFault) → cause_rank u < 1 → ¬ Holds g ds p u
    first Mem l = λ h. h
    first (Parameters y) l = absurd (omega (arith, l))
    first (Arguments y) l = absurd (omega (arith, l))
    first TooMany l = absurd (omega (arith, l))
    first TooDeep l = absurd (omega (arith, l))
    first (Large y) l = absurd (omega (arith, l))
    first (Flawed y w path) l = absurd (omega (arith, l))

  other : (x : List ℕ) → first_parameter_twice ds ≡ None → first_other_count ds p ≡ Some x → IsMacroCause g ds p (Arguments x)
  other x none h = record { holds = h; first = first } where
    first : (u : MacroFault) → cause_rank u < 2 → ¬ Holds g ds p u
    first Mem l = λ h. h
    first (Parameters y) l = none_or (first_parameter_twice ds) none
    first (Arguments y) l = absurd (omega (arith, l))
    first TooMany l = absurd (omega (arith, l))
    first TooDeep l = absurd (omega (arith, l))
    first (Large y) l = absurd (omega (arith, l))
    first (Flawed y w path) l = absurd (omega (arith, l))

  many : first_parameter_twice ds ≡ None → first_other_count ds p ≡ None → ((names : List (List ℕ)) → MOST_PROCESS_PLACES < node_count (expansion ds names p).process) → IsMacroCause g ds p TooMany
  many none same h = record { holds = h; first = first } where
    first : (u : MacroFault) → cause_rank u < 3 → ¬ Holds g ds p u
    first Mem l = λ h. h
    first (Parameters y) l = none_or (first_parameter_twice ds) none
    first (Arguments y) l = none_or (first_other_count ds p) same
    first TooMany l = absurd (omega (arith, l))
    first TooDeep l = absurd (omega (arith, l))
    first (Large y) l = absurd (omega (arith, l))
    first (Flawed y w path) l = absurd (omega (arith, l))

  deep : first_parameter_twice ds ≡ None → first_other_count ds p ≡ None → node_count (expansion ds [] p).process ≤ MOST_PROCESS_PLACES
      → ((names : List (List ℕ)) → MOST_PROCESS_LEVELS < level_count (expansion ds names p).process) → IsMacroCause g ds p TooDeep
  deep none same few h = record { holds = h; first = first } where
    first : (u : MacroFault) → cause_rank u < 4 → ¬ Holds g ds p u
    first Mem l = λ h. h
    first (Parameters y) l = none_or (first_parameter_twice ds) none
    first (Arguments y) l = none_or (first_other_count ds p) same
    first TooMany l = λ all. let more = all [] in omega (arith, few, more)
    first TooDeep l = absurd (omega (arith, l))
    first (Large y) l = absurd (omega (arith, l))
    first (Flawed y w path) l = absurd (omega (arith, l))

  -- no definition has parameters
  abbrev IsPlain : Definition → Type 0
  IsPlain d = d.params ≡ []

  at_index : (es : List Definition) (k : ℕ) (d : Definition) → AllByRecursion IsPlain es → slice_get es k ≡ Some d → IsPlain d
  at_index [] k d h e = absurd (cc (e))
  at_index (f ∷ es) zero d h e = let same : f ≡ d = cc (e) in subst IsPlain same h.0
  at_index (f ∷ es) (suc k) d h e = at_index es k d h.1 e

  nothing : first_parameter_twice ds ≡ None → first_other_count ds p ≡ None → node_count (expansion ds [] p).process ≤ MOST_PROCESS_PLACES
      → level_count (expansion ds [] p).process ≤ MOST_PROCESS_LEVELS → first_large ds p ≡ None → AllByRecursion IsPlain (plain_bodies call ds) → (u : MacroFault) → ¬ Holds g ds p u
  nothing none same few low small bare Mem = λ h. h
  nothing none same few low small bare (Parameters y) = none_or (first_parameter_twice ds) none
  nothing none same few low small bare (Arguments y) = none_or (first_other_count ds p) same
  nothing none same few low small bare TooMany = λ all. let more = all [] in omega (arith, few, more)
  nothing none same few low small bare TooDeep = λ all. let more = all [] in omega (arith, low, more)
  nothing none same few low small bare (Large y) = none_or (first_large ds p) small
  nothing none same few low small bare (Flawed y w path) = λ h. h.flawed.parameters (at_index (plain_bodies call ds) h.at h.definition bare h.stands)

module _ (g : Sig) (bs : List Body) (p : Written) (is : main_of bs ≡ Some p) where
  pub is_twice : (x : List ℕ) → first_parameter_twice (definitions_of bs) ≡ Some x → IsUnexpanded g bs (Parameters x)
  is_twice x h = record { main = p; is_main = is; cause = twice g (definitions_of bs) p x h }

  pub is_other : (x : List ℕ) → first_parameter_twice (definitions_of bs) ≡ None → first_other_count (definitions_of bs) p ≡ Some x → IsUnexpanded g bs (Arguments x)
  is_other x none h = record { main = p; is_main = is; cause = other g (definitions_of bs) p x none h }

  pub is_many : first_parameter_twice (definitions_of bs) ≡ None → first_other_count (definitions_of bs) p ≡ None
      → ((names : List (List ℕ)) → MOST_PROCESS_PLACES < node_count (expansion (definitions_of bs) names p).process) → IsUnexpanded g bs TooMany
  is_many none same h = record { main = p; is_main = is; cause = many g (definitions_of bs) p none same h }

  pub is_deep : first_parameter_twice (definitions_of bs) ≡ None → first_other_count (definitions_of bs) p ≡ None → node_count (expansion (definitions_of bs) [] p).process ≤ MOST_PROCESS_PLACES
      → ((names : List (List ℕ)) → MOST_PROCESS_LEVELS < level_count (expansion (definitions_of bs) names p).process) → IsUnexpanded g bs TooDeep
  is_deep none same few h = record { main = p; is_main = is; cause = deep g (definitions_of bs) p none same few h }

  pub is_expanded : first_parameter_twice (definitions_of bs) ≡ None → first_other_count (definitions_of bs) p ≡ None → node_count (expansion (definitions_of bs) [] p).process ≤ MOST_PROCESS_PLACES
      → level_count (expansion (definitions_of bs) [] p).process ≤ MOST_PROCESS_LEVELS → first_large (definitions_of bs) p ≡ None
      → AllByRecursion (λ (d : Definition). d.params ≡ []) (plain_bodies call (definitions_of bs)) → (names : List (List ℕ)) → IsExpanded g names bs (expansion (definitions_of bs) names p).process
  is_expanded none same few low small bare names =
      record { main = p; is_main = is; no_cause = nothing g (definitions_of bs) p none same few low small bare; whole = refl }
