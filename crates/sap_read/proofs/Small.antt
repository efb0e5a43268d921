-- How large the process of a file is that can be expanded.
use Rattle.std.proofs.Common.{◌≡◌, ◌≤◌, ◌<◌, ℕ, List, ⊎_elim, subst}
use Rattle.std.specs.Prelude.{nat_lt}
use Rattle.std.proofs.lemmas.Bool.{cases_Bool, ltb-true, ltb-false}
use Rattle.sap_terms.specs.Signature.{Sig}
use Rattle.sap_terms.specs.declared.limits.TheConstants.{MOST_PROCESS_LEVELS, MOST_PROCESS_PLACES}
use Rattle.sap_process.specs.Proc.{Proc, node_count, level_count}
use Rattle.sap_macro.specs.Expansion.{expansion}
use Rattle.sap_macro.specs.Written.{Written, Definition}
use Rattle.sap_uses.specs.declared.fault.MacroFault.TheVariants.{TooDeep, TooMany}
use Rattle.sap_read.specs.FileProcess.{IsExpanded, definitions_of}
use Rattle.sap_read.specs.Item.{Body}

-- expansions are equally large, whatever names are taken
pub record AreOneSize : Type 0 where
  pub nodes : (ds : List Definition) (p : Written) (names other : List (List ℕ)) → node_count (expansion ds names p).process ≡ node_count (expansion ds other p).process
  pub levels : (ds : List Definition) (p : Written) (names other : List (List ℕ)) → level_count (expansion ds names p).process ≡ level_count (expansion ds other p).process

-- what isn't above for all names isn't for one
not_above : (measure : List (List ℕ) → ℕ) (most : ℕ) (names : List (List ℕ)) → ((other : List (List ℕ)) → measure names ≡ measure other) → (((other : List (List ℕ)) → most < measure other) → ⊥) → measure names ≤ most
not_above measure most names same never =
    ⊎_elim (λ e. let above = ltb-true most (measure names) e in absurd (never (λ other. subst (λ n. most < n) (same other) above)))
    (λ e. ltb-false most (measure names) e)
    (cases_Bool (nat_lt most (measure names)))

module _ (sizes : AreOneSize) (g : Sig) (names : List (List ℕ)) (bs : List Body) (p : Proc) (e : IsExpanded g names bs p) where
  pub few_places : node_count p ≤ MOST_PROCESS_PLACES
  few_places =
      let ds = definitions_of bs in
      subst (λ (q : Proc). node_count q ≤ MOST_PROCESS_PLACES) e.whole
      (not_above (λ other. node_count (expansion ds other e.main).process) MOST_PROCESS_PLACES names (λ other. sizes.nodes ds e.main names other) (e.no_cause TooMany))

  pub few_levels : level_count p ≤ MOST_PROCESS_LEVELS
  few_levels =
      let ds = definitions_of bs in
      subst (λ (q : Proc). level_count q ≤ MOST_PROCESS_LEVELS) e.whole
      (not_above (λ other. level_count (expansion ds other e.main).process) MOST_PROCESS_LEVELS names (λ other. sizes.levels ds e.main names other) (e.no_cause TooDeep))
