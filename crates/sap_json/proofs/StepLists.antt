-- The steps that items are, one after another.
use Rattle.std.proofs.Common.{◌≡◌, ◌<◌, ◌≤◌, ◌+◌, ℕ, List, [], ◌∷◌, ◌++◌, append_assoc, append-nil, length, length-append, refl, sym, ap, subst, ◌∙◌, ◌⊎◌, inl, inr, arith}
use Rattle.std.proofs.lemmas.Bool.{cases_lt}
use Rattle.std.specs.Prelude.{Result, Ok, Err}
use Rattle.serde_json.specs.Data.{Data}
use Rattle.sap_json.specs.declared.json_fault.JsonFault.{JsonFault}
use Rattle.sap_json.specs.declared.json_fault.JsonFault.TheVariants as fault
use Rattle.sap_json.specs.Arrays.{AreEach}
use Rattle.sap_json.specs.RunValues.{AreSteps, all_steps, bad_step, too_many}
use Rattle.sap_json.proofs.Each.{each_append, each_length, each_middle, each_before, one_each}

module _ {A : Type 0} (Is : A → Data → Type 0) (one : (x y : A) (d : Data) → Is x d → Is y d → x ≡ y) (most : ℕ) (ds : List Data) where
  -- all are steps, and one is none's or too many
  all_or_bad : (xs ss : List A) (good : List Data) (d : Data) (more : List Data) → AreEach Is xs ds → ds ≡ good ++ d ∷ more → ((s : A) → Is s d → ⊥) → ⊥
  all_or_bad xs ss good d more h e none =
      let m = each_middle Is xs good d more (subst (AreEach Is xs) e h) in none m.0 m.1

  all_or_many : (xs ss : List A) (good : List Data) (d : Data) (more : List Data) → AreEach Is xs ds → length xs ≤ most → ds ≡ good ++ d ∷ more → AreEach Is ss good
      → length ss ≡ most → ⊥
  all_or_many xs ss good d more h few e k full =
      omega (arith, few, full, each_length Is xs ds h, each_length Is ss good k, ap length e, length-append good (d ∷ more))

  -- one that is none's stands behind the other's steps
  bad_within : (ss : List A) (good : List Data) (d : Data) (more : List Data) (ts : List A) (other : List Data) (e : Data) (rest : List Data)
      → ds ≡ good ++ d ∷ more → AreEach Is ss good → ((s : A) → Is s d → ⊥) → ds ≡ other ++ e ∷ rest → AreEach Is ts other → length ts ≤ length ss
  bad_within ss good d more ts other e rest p h none q k = at (cases_lt (length ss) (length ts)) where
    at : (length ss < length ts) ⊎ (length ts ≤ length ss) → length ts ≤ length ss
    at (inr le) = le
    at (inl lt) =
        let b = each_before Is ts other e rest good d more (sym q ∙ p) k (omega (arith, lt, each_length Is ss good h, each_length Is ts other k)) in
        absurd (none b.0 b.1)

  pub one_answer : (o u : Result (List A) JsonFault) → AreSteps Is most ds o → AreSteps Is most ds u → o ≡ u
  one_answer _ _ (all_steps {ss = ss} h few) (all_steps {ss = ts} k few') = ap Ok (one_each Is one ss ts ds h k)
  one_answer _ _ (all_steps {ss = xs} h few) (bad_step ss good d more e k low none) = absurd (all_or_bad xs ss good d more h e none)
  one_answer _ _ (all_steps {ss = xs} h few) (too_many ss good d more e k full) = absurd (all_or_many xs ss good d more h few e k full)
  one_answer _ _ (bad_step ss good d more e k low none) (all_steps {ss = xs} h few) = absurd (all_or_bad xs ss good d more h e none)
  one_answer _ _ (too_many ss good d more e k full) (all_steps {ss = xs} h few) = absurd (all_or_many xs ss good d more h few e k full)
  one_answer _ _ (bad_step ss good d more e k low none) (bad_step ts other f rest e' k' low' none') =
      let same : length ss ≡ length ts = omega (arith, bad_within ss good d more ts other f rest e k none e' k', bad_within ts other f rest ss good d more e' k' none' e k) in
      ap (λ (n : ℕ). Err (fault.BadStep (n + 1))) same
  one_answer _ _ (bad_step ss good d more e k low none) (too_many ts other f rest e' k' full) =
      absurd (omega (arith, low, full, bad_within ss good d more ts other f rest e k none e' k'))
  one_answer _ _ (too_many ts other f rest e' k' full) (bad_step ss good d more e k low none) =
      absurd (omega (arith, low, full, bad_within ss good d more ts other f rest e k none e' k'))
  one_answer _ _ (too_many ss good d more e k full) (too_many ts other f rest e' k' full') = refl

-- things of the items up to a place, and the data from there on
pub record IsSoFar {A : Type 0} (Is : A → Data → Type 0) (xs : List A) (all rest : List Data) : Type 0 where
  pub good : List Data
  pub apart : all ≡ good ++ rest
  pub are : AreEach Is xs good

module _ {A : Type 0} (Is : A → Data → Type 0) where
  pub begins : (all : List Data) → IsSoFar Is [] all all
  begins all = record { good = []; apart = refl; are = tt }

  pub goes_on : (xs : List A) (x : A) (all : List Data) (d : Data) (rest : List Data) → IsSoFar Is xs all (d ∷ rest) → Is x d → IsSoFar Is (xs ++ x ∷ []) all rest
  goes_on xs x all d rest h is = record {
    good = h.good ++ d ∷ [];
    apart = h.apart ∙ sym (append_assoc h.good (d ∷ []) rest);
    are = each_append Is xs h.good (x ∷ []) (d ∷ []) h.are (is, tt);
  }

  pub ends : (xs : List A) (all : List Data) → IsSoFar Is xs all [] → AreEach Is xs all
  ends xs all h = subst (AreEach Is xs) (sym (h.apart ∙ append-nil h.good)) h.are

  pub none_is : (xs : List A) (all : List Data) (d : Data) (rest : List Data) → IsSoFar Is xs all (d ∷ rest) → ((x : A) → Is x d → ⊥) → (ys : List A) → AreEach Is ys all → ⊥
  none_is xs all d rest h none ys are =
      let m = each_middle Is ys h.good d rest (subst (AreEach Is ys) h.apart are) in none m.0 m.1

  pub is_bad : (most : ℕ) (xs : List A) (all : List Data) (d : Data) (rest : List Data) → IsSoFar Is xs all (d ∷ rest) → length xs < most → ((x : A) → Is x d → ⊥)
      → AreSteps Is most all (Err (fault.BadStep (length xs + 1)))
  is_bad most xs all d rest h low none = bad_step xs h.good d rest h.apart h.are low none

  pub is_many : (most : ℕ) (xs : List A) (all : List Data) (d : Data) (rest : List Data) → IsSoFar Is xs all (d ∷ rest) → length xs ≤ most → most ≤ length xs
      → AreSteps Is most all (Err (fault.TooManySteps most))
  is_many most xs all d rest h few full = too_many xs h.good d rest h.apart h.are (omega (arith, few, full))

  pub is_all : (most : ℕ) (xs : List A) (all : List Data) → IsSoFar Is xs all [] → length xs ≤ most → AreSteps Is most all (Ok xs)
  is_all most xs all h few = all_steps (ends xs all h) few
