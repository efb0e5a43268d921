-- Without parameters and arguments a file's uses refuse nothing but by size, and its process is what is written.
use Rattle.std.proofs.Common.{◌≡◌, ◌==◌, ℕ, zero, suc, Bool, true, false, List, [], ◌∷◌, ◌++◌, length, slice_get, Option, Some, None, ◌⊎◌, inl, inr, refl, ap, subst, ◌∙◌, ⊎_elim}
use Rattle.std.specs.Option.{option_or}
use Rattle.std.specs.Prelude.{Contains, if◌then◌else◌, is_none, option_map}
use Rattle.std.specs.Str.{bytes_eq}
use Rattle.std.proofs.lemmas.List.Elements.{Contains-append_cases}
use Rattle.sap_terms.specs.Choice.{Choice}
use Rattle.sap_terms.specs.Signature.{Sig}
use Rattle.sap_terms.proofs.PlainLaws.Items.{first_item, later_item}
use Rattle.sap_process.specs.Proc.{Proc}
use Rattle.sap_macro.specs.Expansion.{Plain, expansion, plain, plain_bodies, unchanged, with_plain}
use Rattle.sap_macro.specs.Indexed.{defined}
use Rattle.sap_macro.specs.MacroCauses.{Use, all_uses, first_other, first_parameter_twice, first_twice, parameter_count, uses}
use Rattle.sap_macro.specs.Order.{AreInOrder, UsesOnly, where_some, with_parameters}
use Rattle.sap_macro.specs.Replaced.{AreWithoutParameters}
use Rattle.sap_macro.specs.Written.{Written, nil, call, parallel, replicated, act, test, lookup, Definition}
use Rattle.sap_uses.specs.FaultCauses.{Holds}
use Rattle.sap_uses.specs.UseCauses.{Large, large_in, large_after, none_large}
use Rattle.sap_uses.specs.declared.fault.MacroFault.{MacroFault}
use Rattle.sap_uses.specs.declared.fault.MacroFault.TheVariants as fault
use Rattle.sap_read.specs.FileProcess.{defined_as, definitions_of, main_of, process_of}
use Rattle.sap_read.specs.Item.{Body}
use Rattle.sap_read.specs.PlainFiles.{ArePlain, UsesNamesAlone}

-- ---- what such a file has

pub without_parameters : (bs : List Body) → ArePlain bs → AreWithoutParameters (definitions_of bs)
without_parameters [] h = tt
without_parameters (b ∷ bs) h = by b.label (without_parameters bs h.1) where
  by : (l : Option (List ℕ)) → AreWithoutParameters (definitions_of bs) → AreWithoutParameters (defined_as l b ++ definitions_of bs)
  by None rest = rest
  by (Some x) rest = (h.0.params, rest)

plain_main : (bs : List Body) (p : Written) → ArePlain bs → main_of bs ≡ Some p → UsesNamesAlone p
plain_main [] p h is = absurd (cc (is))
plain_main (b ∷ bs) p h is = by b.label is (plain_main bs p h.1) where
  by : (l : Option (List ℕ)) → (if is_none l then Some b.content else main_of bs) ≡ Some p → (main_of bs ≡ Some p → UsesNamesAlone p) → UsesNamesAlone p
  by None e later = let own : b.content ≡ p = cc in subst UsesNamesAlone own h.0.uses
  by (Some x) e later = later e

plain_uses : (bs : List Body) (p : Written) → ArePlain bs → UsesNamesAlone p → (u : Use) → Contains (all_uses (definitions_of bs) p) u → u.1 ≡ []
plain_uses [] p h own u c = own u c
plain_uses (b ∷ bs) p h own u c = by b.label c (plain_uses bs p h.1 own u) where
  by : (l : Option (List ℕ)) → Contains (all_uses (defined_as l b ++ definitions_of bs) p) u → (Contains (all_uses (definitions_of bs) p) u → u.1 ≡ []) → u.1 ≡ []
  by None c later = later c
  by (Some x) c later = ⊎_elim (h.0.uses u) later (Contains-append_cases (uses b.content) (all_uses (definitions_of bs) p) u c)

-- ---- no cause but of size

none_twice : (ds : List Definition) → AreWithoutParameters ds → first_parameter_twice ds ≡ None
none_twice [] h = refl
none_twice (d ∷ ds) h = ap (λ xs. option_or (first_twice xs) (first_parameter_twice ds)) h.0 ∙ none_twice ds h.1

counts_nothing : (ds : List Definition) (f : List ℕ) → AreWithoutParameters ds → parameter_count ds f ≡ 0
counts_nothing [] f h = refl
counts_nothing (d ∷ ds) f h = by (bytes_eq d.name f) (counts_nothing ds f h.1) where
  by : (t : Bool) → parameter_count ds f ≡ 0 → (if t then length d.params else parameter_count ds f) ≡ 0
  by true later = ap length h.0
  by false later = later

none_other : (count : List ℕ → ℕ) (us : List Use) → ((f : List ℕ) → count f ≡ 0) → ((u : Use) → Contains us u → u.1 ≡ []) → first_other count us ≡ None
none_other count [] none h = refl
none_other count (u ∷ us) none h =
    let same : (length u.1 == count u.0) ≡ true = λ i. (length (h u (first_item u us) i) == none u.0 i) in
    ap (λ t. if t then first_other count us else Some u.0) same ∙ none_other count us none (λ v c. h v (later_item u us v c))

none_large_in : (m : Large) (r : Choice) (w : Written) → UsesOnly [] w → large_in m r w ≡ None
none_large_in m r nil h = refl
none_large_in m r (call f ts) h = absurd (cc (h))
none_large_in m r (parallel p q) h = λ i. option_or (none_large_in m r p h.0 i) (none_large_in m r q h.1 i)
none_large_in m r (replicated p) h = none_large_in m r p h
none_large_in m r (act a p) h = none_large_in m r p h
none_large_in m r (test t u p q) h = λ i. option_or (none_large_in m r p h.0 i) (none_large_in m r q h.1 i)
none_large_in m r (lookup t x p q) h = λ i. option_or (none_large_in m r p h.0 i) (none_large_in m r q h.1 i)

names_stay : (names : List (List ℕ)) (ds : List Definition) → AreWithoutParameters ds → with_parameters names ds ≡ names
names_stay names [] h = refl
names_stay names (d ∷ ds) h = ap (λ xs. with_parameters (where_some xs d.name names) ds) h.0 ∙ names_stay names ds h.1

still_without : (m : Plain) (ds : List Definition) → AreWithoutParameters ds → AreWithoutParameters (plain_bodies m ds)
still_without m [] h = tt
still_without m (d ∷ ds) h = (h.0, still_without (with_plain m d) ds h.1)

none_there : (ds : List Definition) → AreWithoutParameters ds → (k : ℕ) (d : Definition) → slice_get ds k ≡ Some d → d.params ≡ []
none_there [] h k d e = absurd (cc (e))
none_there (d ∷ ds) h zero u e = let same : d ≡ u = cc in subst (λ (v : Definition). v.params ≡ []) same h.0
none_there (d ∷ ds) h (suc k) u e = none_there ds h.1 k u e

-- no use is left, where what is used is defined
module _ (parameters : (ds : List Definition) (p : Written) → AreInOrder [] ds → UsesOnly (defined ds) p → UsesOnly (with_parameters [] ds) (plain ds p)) where
  pub none_left : (ds : List Definition) (p : Written) → AreInOrder [] ds → UsesOnly (defined ds) p → AreWithoutParameters ds → UsesOnly [] (plain ds p)
  none_left ds p o only none = subst (λ names. UsesOnly names (plain ds p)) (names_stay [] ds none) (parameters ds p o only)

pub only_of_size : (g : Sig) (bs : List Body) (p : Written) (e : MacroFault) → ArePlain bs → main_of bs ≡ Some p → UsesOnly [] (plain (definitions_of bs) p)
    → Holds g (definitions_of bs) p e → (e ≡ fault.TooMany) ⊎ (e ≡ fault.TooDeep)
only_of_size g bs p e plain_bs is left = by e where
  ds : List Definition
  ds = definitions_of bs

  none : AreWithoutParameters ds
  none = without_parameters bs plain_bs

  by : (e : MacroFault) → Holds g ds p e → (e ≡ fault.TooMany) ⊎ (e ≡ fault.TooDeep)
  by fault.Mem h = absurd h
  by (fault.Parameters x) h = absurd (let no = none_twice ds none in cc)
  by (fault.Arguments f) h =
      absurd (let no = none_other (parameter_count ds) (all_uses ds p) (λ x. counts_nothing ds x none) (plain_uses bs p plain_bs (plain_main bs p plain_bs is)) in cc)
  by fault.TooMany h = inl refl
  by fault.TooDeep h = inr refl
  by (fault.Large f) h = absurd (let no = none_large_in (large_after none_large (plain_bodies call ds)) unchanged (plain ds p) left in cc)
  by (fault.Flawed f w path) h = absurd (h.flawed.parameters (none_there (plain_bodies call ds) (still_without call ds none) h.at h.definition h.stands))

-- ---- its process

pub process_stays : (names : List (List ℕ)) (bs : List Body) (main : Written) → main_of bs ≡ Some main → (q : Proc) → (expansion (definitions_of bs) names main).process ≡ q
    → process_of names bs ≡ Some q
process_stays names bs main is q e = ap (λ o. option_map (λ p. (expansion (definitions_of bs) names p).process) o) is ∙ ap (λ (r : Proc). Some r) e
