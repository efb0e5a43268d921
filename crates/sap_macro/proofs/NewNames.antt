-- New names are the first candidates that aren't taken, and different ones for different names.
use Rattle.std.proofs.Common.{◌≡◌, ◌==◌, ◌<◌, ◌≤◌, ℕ, zero, suc, ◌+◌, ◌^◌, Bool, true, false, List, [], ◌∷◌, ◌++◌, ◌⊎◌, inl, inr, length, refl, sym, ap, ◌∙◌, subst, ⊎_elim, arith}
use Rattle.std.proofs.lemmas.Bool.{cases_Bool, cases_lt, false≢true, eqb-true, eqb-false}
use Rattle.std.proofs.lemmas.List.{length-append}
use Rattle.std.proofs.lemmas.Fmt.{decimal_injective}
use Rattle.std.specs.Prelude.{if◌then◌else◌, codes, decimal}
use Rattle.std.specs.Str.{bytes_eq}
use Rattle.sap_terms.specs.Variables.{is_known}
use Rattle.sap_macro.specs.NewNames.{candidate, IsNewName, longer_than, first_free, new_name}
use Rattle.sap_terms.proofs.PlainLaws.Known.{one_name, two_names, in_head, in_tail, in_cases}

-- ---- a list has no more names than it is long

abbrev removed : List (List ℕ) → List ℕ → List (List ℕ)
removed [] x = []
removed (y ∷ ys) x = if bytes_eq y x then ys else (y ∷ removed ys x)

one_less : (ys : List (List ℕ)) (x : List ℕ) → is_known ys x ≡ true → length ys ≡ suc (length (removed ys x))
one_less [] x h = absurd (false≢true h)
one_less (y ∷ ys) x h =
    ⊎_elim (λ e. ap (λ b. suc (length (if b then ys else (y ∷ removed ys x)))) (sym e))
    (λ e. ap suc (one_less ys x (⊎_elim (λ f. absurd (two_names y x e f)) (λ k. k) (in_cases x y ys h))) ∙ ap (λ b. suc (length (if b then ys else (y ∷ removed ys x)))) (sym e))
    (cases_Bool (bytes_eq y x))

still_known : (ys : List (List ℕ)) (x z : List ℕ) → ¬ (z ≡ x) → is_known ys z ≡ true → is_known (removed ys x) z ≡ true
still_known [] x z d h = h
still_known (y ∷ ys) x z d h =
    ⊎_elim (λ e. ap (λ b. is_known (if b then ys else (y ∷ removed ys x)) z) e ∙ ⊎_elim (λ f. absurd (d (sym f ∙ one_name y x e))) (λ k. k) (in_cases z y ys h))
    (λ e. ap (λ b. is_known (if b then ys else (y ∷ removed ys x)) z) e
    ∙ ⊎_elim (λ f. subst (λ w. is_known (y ∷ removed ys x) w ≡ true) f (in_head y (removed ys x))) (λ k. in_tail z y (removed ys x) (still_known ys x z d k)) (in_cases z y ys h))
    (cases_Bool (bytes_eq y x))

-- so many different names are as many as the list has, or fewer
pub no_more : (f : ℕ → List ℕ) (k m : ℕ) (ys : List (List ℕ)) → ((i j : ℕ) → i < m + k → j < m + k → f i ≡ f j → i ≡ j)
    → ((j : ℕ) → m ≤ j → j < m + k → is_known ys (f j) ≡ true) → k ≤ length ys
no_more f zero m ys one all = omega arith
no_more f (suc k) m ys one all =
    let less = one_less ys (f m) (all m (omega arith) (omega arith)) in
    let rest = no_more f k (m + 1) (removed ys (f m)) (λ i j p q e. one i j (omega (arith, p)) (omega (arith, q)) e)
    (λ j p q. still_known ys (f m) (f j) (λ e. let same = one j m (omega (arith, q)) (omega arith) e in omega (arith, same, p)) (all j (omega (arith, p)) (omega (arith, q)))) in
    omega (arith, less, rest)

-- ---- candidates

abbrev tail : List ℕ → List ℕ
tail [] = []
tail (x ∷ xs) = xs

behind_same : (x a b : List ℕ) → x ++ a ≡ x ++ b → a ≡ b
behind_same [] a b h = h
behind_same (y ∷ ys) a b h = behind_same ys a b (ap tail h)

pub candidate_one : (x : List ℕ) (m n : ℕ) → m < 2 ^ 64 → n < 2 ^ 64 → candidate x m ≡ candidate x n → m ≡ n
candidate_one x m n p q e =
    ⊎_elim
    (λ f. decimal_injective m n p q (behind_same x (decimal m) (decimal n) (sym (at m f) ∙ e ∙ at n f)))
    (λ f. decimal_injective m n p q (behind_same (codes "_") (decimal m) (decimal n) (behind_same x (codes "_" ++ decimal m) (codes "_" ++ decimal n) (sym (at m f) ∙ e ∙ at n f))))
    (cases_Bool (bytes_eq x (codes "sapic"))) where
      at : (k : ℕ) {b : Bool} → bytes_eq x (codes "sapic") ≡ b → candidate x k ≡ (if b then x ++ decimal k else x ++ (codes "_" ++ decimal k))
      at k f = ap (λ z. if z then x ++ decimal k else x ++ (codes "_" ++ decimal k)) f

-- ---- the search

-- it ends at the first that isn't taken, or all are taken
abbrev pub Search : ℕ → ℕ → List (List ℕ) → List ℕ → Type 0
Search k m taken x =
    ((n : ℕ) × (m ≤ n) × (first_free k m taken x ≡ candidate x n) × (is_known taken (candidate x n) ≡ false) × ((j : ℕ) → m ≤ j → j < n → is_known taken (candidate x j) ≡ true))
    ⊎ ((first_free k m taken x ≡ longer_than taken) × ((j : ℕ) → m ≤ j → j < m + k → is_known taken (candidate x j) ≡ true))

pub search : (k m : ℕ) (taken : List (List ℕ)) (x : List ℕ) → Search k m taken x
search zero m taken x = inr (refl, λ j p q. absurd (omega (arith, p, q)))
search (suc k) m taken x =
    ⊎_elim
    (λ e. ⊎_elim
    (λ s. inl (s.0, omega (arith, s.1), step e ∙ s.2, s.3, λ j p q. from e j p (λ l. s.4 j l q)))
    (λ s. inr (step e ∙ s.0, λ j p q. from e j p (λ l. s.1 j l (omega (arith, q)))))
    (search k (m + 1) taken x))
    (λ e. inl (m, omega arith, ap (λ b. if b then first_free k (m + 1) taken x else candidate x m) e, e, λ j p q. absurd (omega (arith, p, q))))
    (cases_Bool (is_known taken (candidate x m))) where
      step : is_known taken (candidate x m) ≡ true → first_free (suc k) m taken x ≡ first_free k (m + 1) taken x
      step e = ap (λ b. if b then first_free k (m + 1) taken x else candidate x m) e

      from : is_known taken (candidate x m) ≡ true → (j : ℕ) → m ≤ j → (m + 1 ≤ j → is_known taken (candidate x j) ≡ true) → is_known taken (candidate x j) ≡ true
      from e j p later = ⊎_elim (λ f. subst (λ z. is_known taken (candidate x z) ≡ true) (eqb-true m j f) e) (λ f. later (let d = eqb-false m j f in omega (arith, p, d))) (cases_Bool (m == j))

-- a known name is shorter
shorter : (ys : List (List ℕ)) (x : List ℕ) → is_known ys x ≡ true → length x < length (longer_than ys)
shorter [] x h = absurd (false≢true h)
shorter (y ∷ ys) x h =
    let all = length-append y (longer_than ys) in
    ⊎_elim (λ e. let same = ap length e in omega (arith, all, same)) (λ k. let p = shorter ys x k in omega (arith, all, p)) (in_cases x y ys h)

longer_free : (ys : List (List ℕ)) → is_known ys (longer_than ys) ≡ false
longer_free ys = ⊎_elim (λ e. let p = shorter ys (longer_than ys) e in absurd (omega (arith, p))) (λ e. e) (cases_Bool (is_known ys (longer_than ys)))

pub new_is_free : (taken : List (List ℕ)) (x : List ℕ) → is_known taken (new_name taken x) ≡ false
new_is_free taken x =
    ⊎_elim (λ s. ap (is_known taken) s.2 ∙ s.3) (λ s. ap (is_known taken) s.0 ∙ longer_free taken) (search (length taken + 1) 1 taken x)

pub new_is_least : (taken : List (List ℕ)) (x : List ℕ) → length taken + 2 ≤ 2 ^ 64 → IsNewName taken x (new_name taken x)
new_is_least taken x h =
    ⊎_elim
    (λ s. record { number = s.0; from_one = omega (arith, s.1); is = s.2; free = ap (is_known taken) s.2 ∙ s.3; least = λ k p q. s.4 k (omega (arith, p)) q })
    (λ s. let many = no_more (candidate x) (length taken + 1) 1 taken (λ i j p q e. candidate_one x i j (omega (arith, p, h)) (omega (arith, q, h)) e) s.1 in absurd (omega (arith, many)))
    (search (length taken + 1) 1 taken x)

-- it is a candidate of a number of 64 bits
pub new_is_short : (taken : List (List ℕ)) (x : List ℕ) → length taken + 2 ≤ 2 ^ 64 → (number : ℕ) × (0 < number) × (number < 2 ^ 64) × (new_name taken x ≡ candidate x number)
new_is_short taken x h =
    let new = new_is_least taken x h in
    (new.number, new.from_one, ⊎_elim (λ l. omega (arith, l, h)) (λ l. absurd (too_many new.number new.least l)) (cases_lt new.number (length taken + 2)), new.is)
  where
    too_many : (n : ℕ) → ((k : ℕ) → 0 < k → k < n → is_known taken (candidate x k) ≡ true) → length taken + 2 ≤ n → ⊥
    too_many n least l =
        let many = no_more (candidate x) (length taken + 1) 1 taken (λ i j p q e. candidate_one x i j (omega (arith, p, h)) (omega (arith, q, h)) e)
        (λ j p q. least j (omega (arith, p)) (omega (arith, q, l))) in
        omega (arith, many)
