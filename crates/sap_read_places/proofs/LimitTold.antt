-- What is told of the first place beyond a limit.
use Rattle.std.proofs.Common.{◌≡◌, ℕ, List, [], ◌∷◌, length, map, Option, Some, None, Ok, Err, refl, sym, subst}
use Rattle.std.specs.Prelude.{IfOk, IfSome, MatchOption, Result}
use Rattle.sap_terms.specs.declared.limits.TheConstants.{MOST_PROCESS_LEVELS, MOST_PROCESS_PLACES}
use Rattle.sap_terms.specs.declared.mem.Mem.{Mem}
use Rattle.sap_text.specs.declared.token.Token.{Token}
use Rattle.sap_macro.specs.Located.{without_numbers}
use Rattle.sap_macro.specs.Sources.{definitions, located, written}
use Rattle.sap_macro.specs.Written as macro
use Rattle.sap_macro.specs.declared.definition.Definition.{Definition}
use Rattle.sap_macro.specs.declared.source.Source.{Source}
use Rattle.sap_origin.specs.Definitions.{located_definitions, plain_definition}
use Rattle.sap_origin.specs.declared.origin.Origin.{Origin}
use Rattle.sap_beyond.specs.Numbered.{IsFirstDeep, IsNumbered}
use Rattle.sap_read.specs.Files.{AreTokens}
use Rattle.sap_read.specs.WrittenFiles.{IsWrittenFile}
use Rattle.sap_read.specs.declared.written.FileProcesses.{FileProcesses}
use Rattle.sap_read.specs.declared.written.WrittenFile.{WrittenFile}
use Rattle.sap_read_places.specs.code.Beyond.{IsBeyondTold, IsFirstBeyond, IsLimitPlace}
use Rattle.sap_read_places.specs.code.Walked.{IsOriginTold, LeadsNowhere, LeadsTo}
use Rattle.sap_read_places.specs.declared.limit_told.Limit.{Limit}
use Rattle.sap_read_places.specs.declared.limit_told.Limit.TheVariants.{Levels, Places}
use Rattle.sap_read_places.specs.declared.told.Told.{Told}
use Rattle.sap_read_places.proofs.Along.{SameDefinitions, SameMain, SameTokens, comes_too}
use Rattle.sap_read_places.proofs.Limits.{OneDeep, OneNumbered, Said, said_too}
use Rattle.sap_read_places.proofs.PathTold.{as_placed, main_is, told_at}

-- ---- a walk to the first place beyond

one_first : OneNumbered → OneDeep → (limit : Limit) (p : FileProcesses) (v w : List ℕ) → IsFirstBeyond limit p v → IsFirstBeyond limit p w → v ≡ w
one_first numbered deep Places p v w a b = numbered (definitions p.definitions) (written p.main.value) MOST_PROCESS_PLACES v w a b
one_first numbered deep Levels p v w a b = deep (definitions p.definitions) (written p.main.value) MOST_PROCESS_LEVELS v w a b

module _ (numbered : OneNumbered) (deep : OneDeep) (limit : Limit) (p : FileProcesses) (ts : List Token) where
  pub beyond_told : (path : List ℕ) → IsFirstBeyond limit p path → (r : Result (Option Told) Mem)
      → IfOk r (λ o. MatchOption o (LeadsNowhere p path) (λ t. (o : Origin) × LeadsTo p path o × IsOriginTold ts o t)) → IfOk r (λ o. IsBeyondTold limit p ts o)
  beyond_told path first (Ok None) h = λ other f. subst (LeadsNowhere p) (one_first numbered deep limit p path other first f) h
  beyond_told path first (Ok (Some t)) h = (path, first, h)
  beyond_told path first (Err m) h = tt

-- ---- without numbers

abbrev pub Forgotten : Type 0
Forgotten = (s : Source) → without_numbers (located s) ≡ written s

abbrev plain_of : List Definition → List ℕ → List macro.Definition
plain_of ds ns = map plain_definition (located_definitions ds ns)

plain_are : Forgotten → (ds : List Definition) (ns : List ℕ) → length ns ≡ length ds → plain_of ds ns ≡ definitions ds
plain_are law [] ns e = refl
plain_are law (d ∷ ds) [] e = absurd (cc (e))
plain_are law (d ∷ ds) (n ∷ ns) e = λ i. record { name = d.name; params = d.params; body = law d.body.value i } ∷ plain_are law ds ns (cc (e)) i

-- ---- places of a file that was read

module _ {z : List ℕ} {ts : List Token} {w : WrittenFile} (forgotten : Forgotten) (only : (us : List Token) → AreTokens z us → us ≡ ts) (is : IsWrittenFile z w) where
  plain_ds : plain_of w.processes.definitions w.processes.behind ≡ definitions w.processes.definitions
  plain_ds = plain_are forgotten w.processes.definitions w.processes.behind is.count

  -- what is said of these is said without numbers, and back
  to_plain : (P : Said) → P (definitions w.processes.definitions) (written w.processes.main.value)
      → P (plain_of w.processes.definitions w.processes.behind) (without_numbers (located w.processes.main.value))
  to_plain P h = subst (λ (v : macro.Written). P (plain_of w.processes.definitions w.processes.behind) v) (sym (forgotten w.processes.main.value)) (subst (λ (es : List macro.Definition). P es (written w.processes.main.value)) (sym plain_ds) h)

  from_plain : (P : Said) → P (plain_of w.processes.definitions w.processes.behind) (without_numbers (located w.processes.main.value))
      → P (definitions w.processes.definitions) (written w.processes.main.value)
  from_plain P h = subst (λ (es : List macro.Definition). P es (written w.processes.main.value)) plain_ds (subst (λ (v : macro.Written). P (plain_of w.processes.definitions w.processes.behind) v) (forgotten w.processes.main.value) h)

  is_beyond : (limit : Limit) (path : List ℕ) (t : Told) (o : Origin) → IsFirstBeyond limit w.processes path → LeadsTo w.processes path o → IsOriginTold ts o t → IsLimitPlace z limit t
  is_beyond Places path t o first leads told = record {
    tokens = is.tokens;
    definitions = located_definitions w.processes.definitions w.processes.behind;
    main = main_is only is;
    placed = as_placed only is;
    path = path;
    numbered = to_plain (λ ds p. IsNumbered ds p MOST_PROCESS_PLACES path) first;
    at = told_at only is path t o leads told;
  }
  is_beyond Levels path t o first leads told = record {
    tokens = is.tokens;
    definitions = located_definitions w.processes.definitions w.processes.behind;
    main = main_is only is;
    placed = as_placed only is;
    path = path;
    deep = to_plain (λ ds p. IsFirstDeep ds p MOST_PROCESS_LEVELS path) first;
    at = told_at only is path t o leads told;
  }

  pub limit_there : (limit : Limit) (r : Result (Option Told) Mem) → IfOk r (λ o. IsBeyondTold limit w.processes ts o) → IfOk r (λ o. IfSome o (λ t. IsLimitPlace z limit t))
  limit_there limit (Ok None) h = tt
  limit_there limit (Ok (Some t)) h = is_beyond limit h.0 t h.2.0 h.1 h.2.1 h.2.2
  limit_there limit (Err m) h = tt

  module _ (tokens : SameTokens) (same_definitions : SameDefinitions) (mains : SameMain) where
    none_beyond : (limit : Limit) → ((path : List ℕ) → IsFirstBeyond limit w.processes path → LeadsNowhere w.processes path) → (t : Told) → IsLimitPlace z limit t → ⊥
    none_beyond Places h t a =
        h a.path (from_plain (λ ds p. IsNumbered ds p MOST_PROCESS_PLACES a.path) (said_too same_definitions mains (λ ds p. IsNumbered ds p MOST_PROCESS_PLACES a.path) a.placed (as_placed only is) a.numbered)) a.at.standing a.at.place
        (comes_too tokens same_definitions mains a.at.placed (as_placed only is) a.at.reaches)
    none_beyond Levels h t a =
        h a.path (from_plain (λ ds p. IsFirstDeep ds p MOST_PROCESS_LEVELS a.path) (said_too same_definitions mains (λ ds p. IsFirstDeep ds p MOST_PROCESS_LEVELS a.path) a.placed (as_placed only is) a.deep)) a.at.standing a.at.place
        (comes_too tokens same_definitions mains a.at.placed (as_placed only is) a.at.reaches)

    pub limit_nowhere : (limit : Limit) (r : Result (Option Told) Mem) → IfOk r (λ o. IsBeyondTold limit w.processes ts o) → IfOk r (λ o. o ≡ None → (t : Told) → IsLimitPlace z limit t → ⊥)
    limit_nowhere limit (Ok None) h = λ e. none_beyond limit h
    limit_nowhere limit (Ok (Some u)) h = λ e t a. absurd (cc (e))
    limit_nowhere limit (Err m) h = tt
