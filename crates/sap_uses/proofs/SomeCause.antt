-- Of definitions and a process a cause counts, or none holds.
use Rattle.std.proofs.Common.{◌≡◌, ◌<◌, ◌≤◌, ℕ, zero, suc, ◌+◌, ◌-◌, true, ◌⊎◌, inl, inr, List, [], ◌∷◌, Option, Some, None, length, map, get_or, refl, sym, ap, ◌∙◌, subst, ⊎_elim, arith}
use Rattle.std.proofs.lemmas.Bool.{cases_lt, cases_Bool}
use Rattle.std.proofs.lemmas.Option.{slice_get-get_or}
use Rattle.std.specs.List.{list_any}
use Rattle.std.specs.Prelude.{Contains, slice_get}
use Rattle.std.specs.Str.{bytes_eq}
use Rattle.sap_terms.specs.Signature.{Sig}
use Rattle.sap_terms.specs.Tree.{Tree}
use Rattle.sap_terms.specs.declared.limits.TheConstants.{MOST_PROCESS_LEVELS, MOST_PROCESS_PLACES}
use Rattle.sap_terms.specs.declared.var.Var.{Var}
use Rattle.sap_process.specs.Flaws.{HasNoScopeFlaw, IsFirstScopeFlaw}
use Rattle.sap_process.specs.Proc.{Proc, level_count, node_count}
use Rattle.sap_process.specs.declared.flaw.Flaw.{Flaw}
use Rattle.sap_macro.specs.Expansion.{expansion, plain, plain_after, plain_bodies, where_none, with_plain_body}
use Rattle.sap_macro.specs.MacroCauses.{first_other_count, first_parameter_twice}
use Rattle.sap_macro.specs.Order.{AreInOrder}
use Rattle.sap_macro.specs.Written.{Written, nil, call, Definition}
use Rattle.sap_uses.specs.FaultCauses.{Holds, IsMacroCause}
use Rattle.sap_macro.specs.Seen.{seen}
use Rattle.sap_uses.specs.ScopeFlaws.{params_in_scope}
use Rattle.sap_uses.specs.UseCauses.{first_large}
use Rattle.sap_uses.specs.code.Checked.{AreAbsent}
use Rattle.sap_uses.specs.code.Marks.{AreReached, IsFlawedThere, marked, marked_behind}
use Rattle.sap_uses.specs.declared.fault.MacroFault.{MacroFault}
use Rattle.sap_uses.proofs.Causes.{arguments_hold, cause_is, counts_absent, flawed_holds, joined, large_holds, levels_hold, none_holds, parameters_hold, places_hold, size_absent, uses_absent}
use Rattle.sap_uses.proofs.FirstFlawed.{NoneBefore, first_is, none_before, none_is, one_before}
use Rattle.sap_uses.proofs.Marked.{AreMarked, all_marked, none_marked, one_marked}
use Rattle.sap_terms.proofs.PlainLaws.Known.{clash}

abbrev some_definition : Definition
some_definition = record { name = []; params = []; body = nil }

there_is : (ds : List Definition) (k : ℕ) → k < length ds → (d : Definition) × (slice_get ds k ≡ Some d)
there_is ds k l = (get_or ds k some_definition, slice_get-get_or ds k some_definition l)

-- ---- the names that a process leads to

reached_from : (ds : List Definition) (p : Written) (order : AreInOrder [] ds) (k : ℕ) (names : List (List ℕ)) → AreMarked ds p k names
    → (all : List (List ℕ)) × AreReached ds p all
reached_from ds p order zero names h = (names, all_marked ds p 0 names (omega arith) h)
reached_from ds p order (suc k) names h =
    let most = h.within in
    let at = there_is ds k (omega (arith, most)) in
    let back : suc k - 1 ≡ k = omega arith in
    let there : slice_get ds (suc k - 1) ≡ Some at.0 = ap (slice_get ds) back ∙ at.1 in
    reached_from ds p order k (marked_behind names at.0)
    (subst (λ j. AreMarked ds p j (marked_behind names at.0)) back (one_marked ds p (suc k) at.0 names order (omega arith) there h (marked_behind names at.0) refl))

pub all_reached : (ds : List Definition) (p : Written) → AreInOrder [] ds → (all : List (List ℕ)) × AreReached ds p all
all_reached ds p order = reached_from ds p order (length ds) (marked [] p) (none_marked ds p (length ds) [] (marked [] p) refl refl refl)

-- ---- one that is flawed, or none

-- of each process one flaw of scope counts, or it has none
abbrev pub ScopeFlawOrNone : Sig → Type 0
ScopeFlawOrNone g = (scope : List Var) (p : Proc) → HasNoScopeFlaw g scope p ⊎ ((w : Flaw) × (path : List ℕ) × IsFirstScopeFlaw g scope p w path)

module _ (g : Sig) (flaws : ScopeFlawOrNone g) (ds : List Definition) (p : Written) (names : List (List ℕ)) (reached : AreReached ds p names) where
  abbrev FlawedOrNot : Definition → Type 0
  FlawedOrNot d = ((w : Flaw) (path : List ℕ) → ¬ IsFlawedThere g ds p d w path) ⊎ ((w : Flaw) × (path : List ℕ) × IsFlawedThere g ds p d w path)

  one_or_not : (d : Definition) → FlawedOrNot d
  one_or_not d = by d.params refl where
    body : ¬ (d.params ≡ []) → list_any (bytes_eq d.name) names ≡ true → FlawedOrNot d
    body some there =
        ⊎_elim (λ none. inl (λ w path h. none w h.flaw.of_scope h.flaw.place h.flaw.at))
        (λ f. inr (f.0, f.1, record { parameters = some; reached = reached.sound d.name there; flaw = f.2 }))
        (flaws (params_in_scope d) (seen (plain ds d.body)))

    by : (xs : List (List ℕ)) → d.params ≡ xs → FlawedOrNot d
    by [] e = inl (λ w path h. h.parameters e)
    by (x ∷ xs) e =
        ⊎_elim (λ there. body (λ n. let some : x ∷ xs ≡ [] = sym e ∙ n in absurd (cc)) there)
        (λ missed. inl (λ w path h. clash (list_any (bytes_eq d.name) names) (reached.all d.name h.reached) missed)) (cases_Bool (list_any (bytes_eq d.name) names))

  -- the first of so many
  abbrev pub IsFirst : Type 0
  IsFirst = (k : ℕ) × (d : Definition) × (w : Flaw) × (path : List ℕ) × (slice_get ds k ≡ Some d) × IsFlawedThere g ds p d w path × NoneBefore g ds p k

  pub first_or_none : (n : ℕ) → n ≤ length ds → NoneBefore g ds p n ⊎ IsFirst
  first_or_none zero l = inl (none_before g ds p)
  first_or_none (suc n) l = ⊎_elim next (λ f. inr f) (first_or_none n (omega (arith, l))) where
    next : NoneBefore g ds p n → NoneBefore g ds p (suc n) ⊎ IsFirst
    next before =
        let at = there_is ds n (omega (arith, l)) in
        let more : n + 1 ≡ suc n = omega arith in
        ⊎_elim (λ none. inl (subst (NoneBefore g ds p) more (one_before g ds p n at.0 at.1 none before))) (λ f. inr (n, at.0, f.0, f.1, at.1, f.2, before)) (one_or_not at.0)

-- ---- the causes in order

abbrev CauseOrNone : Sig → List Definition → Written → Type 0
CauseOrNone g ds p = ((e : MacroFault) × IsMacroCause g ds p e) ⊎ ((e : MacroFault) → ¬ Holds g ds p e)

module _ (g : Sig) (flaws : ScopeFlawOrNone g) (ds : List Definition) (p : Written) (order : AreInOrder [] ds) (bodies : plain_bodies call ds ≡ map (with_plain_body ds) ds)
    (defined : (d : Definition) (ts : List Tree) → Contains ds d → plain_after call ds d.name ts ≡ where_none d.params (plain ds d.body) (call d.name ts))
    (nodes : (identifiers other : List (List ℕ)) → node_count (expansion ds identifiers p).process ≡ node_count (expansion ds other p).process)
    (levels : (identifiers other : List (List ℕ)) → level_count (expansion ds identifiers p).process ≡ level_count (expansion ds other p).process) where
  by_flaws : AreAbsent g ds p 1 3 → AreAbsent g ds p 3 5 → first_large ds p ≡ None → CauseOrNone g ds p
  by_flaws a b e =
      let all = all_reached ds p order in
      ⊎_elim (λ none. inr (none_holds g ds p a b (uses_absent g ds p e (none_is ds p bodies defined g (length ds) (omega arith) none))))
      (λ (f : IsFirst g flaws ds p all.0 all.1). inl (
        _,
        cause_is g ds p 5 _ (joined g ds p 1 3 5 a b)
            (flawed_holds g ds p f.1.name f.2 f.3 e (first_is ds p bodies defined g f.0 f.1 f.1.name f.2 f.3 f.4 refl f.5 f.6)),
      ))
      (first_or_none g flaws ds p all.0 all.1 (length ds) (omega arith))

  by_large : AreAbsent g ds p 1 3 → AreAbsent g ds p 3 5 → CauseOrNone g ds p
  by_large a b = by (first_large ds p) refl where
    by : (o : Option (List ℕ)) → first_large ds p ≡ o → CauseOrNone g ds p
    by (Some x) e = inl (_, cause_is g ds p 5 _ (joined g ds p 1 3 5 a b) (large_holds g ds p x e))
    by None e = by_flaws a b e

  by_size : AreAbsent g ds p 1 3 → CauseOrNone g ds p
  by_size a = ⊎_elim many few (cases_lt MOST_PROCESS_PLACES (node_count (expansion ds [] p).process)) where
    many : MOST_PROCESS_PLACES < node_count (expansion ds [] p).process → CauseOrNone g ds p
    many l = inl (_, cause_is g ds p 3 _ a (places_hold g ds p (λ ids. let same = nodes ids [] in omega (arith, l, same))))

    few : node_count (expansion ds [] p).process ≤ MOST_PROCESS_PLACES → CauseOrNone g ds p
    few l = ⊎_elim deep flat (cases_lt MOST_PROCESS_LEVELS (level_count (expansion ds [] p).process)) where
      few_places : (ids : List (List ℕ)) → node_count (expansion ds ids p).process ≤ MOST_PROCESS_PLACES
      few_places ids = let same = nodes ids [] in omega (arith, l, same)

      deep : MOST_PROCESS_LEVELS < level_count (expansion ds [] p).process → CauseOrNone g ds p
      deep m = inl (_, cause_is g ds p 3 _ a (levels_hold g ds p few_places (λ ids. let same = levels ids [] in omega (arith, m, same))))

      flat : level_count (expansion ds [] p).process ≤ MOST_PROCESS_LEVELS → CauseOrNone g ds p
      flat m = by_large a (size_absent g ds p (λ ids. (few_places ids, let same = levels ids [] in omega (arith, m, same))))

  pub some_cause : CauseOrNone g ds p
  some_cause = by (first_parameter_twice ds) refl where
    counts : first_parameter_twice ds ≡ None → (o : Option (List ℕ)) → first_other_count ds p ≡ o → CauseOrNone g ds p
    counts n (Some x) e = inl (_, cause_is g ds p 1 _ (λ u l m x. omega (arith, l, m)) (arguments_hold g ds p x n e))
    counts n None e = by_size (counts_absent g ds p n e)

    by : (o : Option (List ℕ)) → first_parameter_twice ds ≡ o → CauseOrNone g ds p
    by (Some x) e = inl (_, cause_is g ds p 1 _ (λ u l m x. omega (arith, l, m)) (parameters_hold g ds p x e))
    by None e = counts e (first_other_count ds p) refl
