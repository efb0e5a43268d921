-- Uses with another number of arguments, and names that stand twice.
use Rattle.std.proofs.Common.{◌≡◌, ◌==◌, ◌<◌, ℕ, ◌+◌, ◌-◌, true, false, List, [], ◌∷◌, ◌++◌, ◌||◌, Option, None, Some, length, drop, refl, sym, ap, ◌∙◌, subst, ⊎_elim, arith}
use Rattle.std.proofs.lemmas.Bool.{cases_Bool}
use Rattle.std.specs.List.{list_any}
use Rattle.std.specs.Option.{option_or, unwrap_or}
use Rattle.std.specs.Prelude.{if◌then◌else◌, slice_get}
use Rattle.std.specs.Str.{bytes_eq}
use Rattle.sap_terms.specs.NameMap.{Puts, value_at}
use Rattle.sap_terms.specs.Variables.{is_known}
use Rattle.sap_terms.proofs.PlainLaws.Lists.{drop_got}
use Rattle.sap_macro.specs.MacroCauses.{Use, all_uses, first_other, first_parameter_twice, first_twice, parameter_count, uses}
use Rattle.sap_macro.specs.Written.{Written, Definition}
use Rattle.sap_uses.specs.code.Noted.{AreNoted}

pub other_append : (count : List ℕ → ℕ) (us vs : List Use) → first_other count (us ++ vs) ≡ option_or (first_other count us) (first_other count vs)
other_append count [] vs = refl
other_append count (u ∷ us) vs =
    elim (length u.1 == count u.0) as (λ b. (if b then first_other count (us ++ vs) else Some u.0) ≡ option_or (if b then first_other count us else Some u.0) (first_other count vs)) [
      | true ↦ other_append count us vs
      | false ↦ refl
    ]

pub ruleset other_laws = (other_append)

-- ---- names that stand twice

-- the names from this one on are noted, and the first of them that stands again is found
pub record AreFrom (names : List (List ℕ)) (later : List (List ℕ)) (found : Option (List ℕ)) : Type 0 where
  pub noted : (x : List ℕ) → list_any (bytes_eq x) later ≡ is_known names x
  pub first : found ≡ first_twice names

pub one_from : (names : List (List ℕ)) (k : ℕ) (n : List ℕ) (later next : List (List ℕ)) (found more : Option (List ℕ)) → 0 < k → slice_get names (k - 1) ≡ Some n
    → AreFrom (drop k names) later found → AreNoted later next n → more ≡ (if list_any (bytes_eq n) later then Some n else found) → AreFrom (drop (k - 1) names) next more
one_from names k n later next found more some is h note first =
    let whole : k - 1 + 1 ≡ k = omega (arith, some) in
    let rest : drop (k - 1) names ≡ n ∷ drop k names = drop_got names (k - 1) n is ∙ ap (λ m. n ∷ drop m names) whole in
    subst (λ ns. AreFrom ns next more) (sym rest) (record {
      noted = λ x. note x ∙ ap (λ b. bytes_eq n x || b) (h.noted x);
      first = first ∙ ap (λ b. if b then Some n else found) (h.noted n) ∙ ap (λ o. if is_known (drop k names) n then Some n else o) h.first;
    })

-- ---- definitions one by one

pub params_pass : (ds : List Definition) (k : ℕ) (d : Definition) → slice_get ds k ≡ Some d → first_twice d.params ≡ None → first_parameter_twice (drop k ds) ≡ first_parameter_twice (drop (k + 1) ds)
params_pass ds k d is none = ap first_parameter_twice (drop_got ds k d is) ∙ ap (λ o. option_or o (first_parameter_twice (drop (k + 1) ds))) none

pub params_found : (ds : List Definition) (k : ℕ) (d : Definition) (x : List ℕ) → slice_get ds k ≡ Some d → first_twice d.params ≡ Some x → first_parameter_twice (drop k ds) ≡ Some x
params_found ds k d x is some = ap first_parameter_twice (drop_got ds k d is) ∙ ap (λ o. option_or o (first_parameter_twice (drop (k + 1) ds))) some

pub counts_pass : (count : List ℕ → ℕ) (p : Written) (ds : List Definition) (k : ℕ) (d : Definition) → slice_get ds k ≡ Some d → first_other count (uses d.body) ≡ None
    → first_other count (all_uses (drop k ds) p) ≡ first_other count (all_uses (drop (k + 1) ds) p)
counts_pass count p ds k d is none =
    ap (λ xs. first_other count (all_uses xs p)) (drop_got ds k d is) ∙ other_append count (uses d.body) (all_uses (drop (k + 1) ds) p)
    ∙ ap (λ o. option_or o (first_other count (all_uses (drop (k + 1) ds) p))) none

pub counts_found : (count : List ℕ → ℕ) (p : Written) (ds : List Definition) (k : ℕ) (d : Definition) (x : List ℕ) → slice_get ds k ≡ Some d → first_other count (uses d.body) ≡ Some x
    → first_other count (all_uses (drop k ds) p) ≡ Some x
counts_found count p ds k d x is some =
    ap (λ xs. first_other count (all_uses xs p)) (drop_got ds k d is) ∙ other_append count (uses d.body) (all_uses (drop (k + 1) ds) p)
    ∙ ap (λ o. option_or o (first_other count (all_uses (drop (k + 1) ds) p))) some

-- ---- how many parameters

pub one_counted : (ds : List Definition) (k : ℕ) (d : Definition) (m later : List (List ℕ × ℕ)) → 0 < k → slice_get ds (k - 1) ≡ Some d
    → ((f : List ℕ) → unwrap_or (value_at m f) 0 ≡ parameter_count (drop k ds) f) → Puts m later d.name (Some (length d.params))
    → (f : List ℕ) → unwrap_or (value_at later f) 0 ≡ parameter_count (drop (k - 1) ds) f
one_counted ds k d m later some is h puts f =
    let whole : k - 1 + 1 ≡ k = omega (arith, some) in
    let rest : drop (k - 1) ds ≡ d ∷ drop k ds = drop_got ds (k - 1) d is ∙ ap (λ n. d ∷ drop n ds) whole in
    ap (λ (o : Option ℕ). unwrap_or o 0) (puts f)
    ∙ ⊎_elim
    (λ e. ap (λ b. unwrap_or (if b then Some (length d.params) else value_at m f) 0) e ∙ sym (ap (λ b. if b then length d.params else parameter_count (drop k ds) f) e))
    (λ e. ap (λ b. unwrap_or (if b then Some (length d.params) else value_at m f) 0) e ∙ h f ∙ sym (ap (λ b. if b then length d.params else parameter_count (drop k ds) f) e))
    (cases_Bool (bytes_eq d.name f))
    ∙ sym (ap (λ xs. parameter_count xs f) rest)
