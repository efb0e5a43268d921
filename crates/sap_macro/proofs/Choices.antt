-- Names that are chosen, and what is kept of them.
use Rattle.std.proofs.Common.{◌≡◌, ◌<◌, ℕ, ◌+◌, Bool, true, false, List, [], ◌∷◌, ◌++◌, ◌||◌, Option, Some, None, length, drop, refl, sym, ap, ◌∙◌, subst, ⊎_elim, arith}
use Rattle.std.proofs.lemmas.Bool.{cases_Bool, false≢true}
use Rattle.std.specs.List.{IsDistinct, AllByRecursion, list_any}
use Rattle.std.specs.Option.{unwrap_or}
use Rattle.std.specs.Prelude.{if◌then◌else◌}
use Rattle.std.specs.Str.{bytes_eq}
use Rattle.sap_terms.specs.NameMap.{Puts, value_at}
use Rattle.sap_terms.specs.NameSet.{with_name}
use Rattle.sap_terms.specs.Variables.{is_known}
use Rattle.sap_macro.specs.NewNames.{candidate, new_name, renamed, taken_after}
use Rattle.sap_macro.specs.code.Taking.{latest_first, AreBelow, IsFirst, IsKept}
use Rattle.sap_macro.proofs.Bound.{turned}
use Rattle.sap_terms.proofs.PlainLaws.Known.{one_name, clash, in_tail, in_cases}
use Rattle.sap_macro.proofs.NewNames.{candidate_one, no_more, search}
use Rattle.sap_macro.proofs.Scopes.{at_head}

-- the first that isn't taken is the new name
pub first_is_new : (taken : List (List ℕ)) (x y : List ℕ) (m : ℕ) → IsFirst taken x y m → y ≡ new_name taken x
first_is_new taken x y m h =
    let free : is_known taken (candidate x m) ≡ false = sym (ap (is_known taken) h.is) ∙ h.free in
    let few = h.few in
    let from_one = h.from_one in
    ⊎_elim
    (λ s.
    let n = s.0 in
    let low = s.1 in
    let no_less : ¬ (m < n) = λ l. clash (is_known taken (candidate x m)) (s.4 m (omega arith) l) free in
    let no_more_so : ¬ (n < m) = λ l. clash (is_known taken (candidate x n)) (h.below n (omega arith) l) s.3 in
    let same : m ≡ n = omega (arith, no_less, no_more_so) in
    h.is ∙ ap (candidate x) same ∙ sym s.2)
    (λ s.
    let beyond : ¬ (m < 1 + (length taken + 1)) = λ l. clash (is_known taken (candidate x m)) (s.1 m (omega arith) l) free in
    let many = no_more (candidate x) (length taken + 1) 1 taken
    (λ i j p q e. candidate_one x i j (omega (arith, p, beyond, few)) (omega (arith, q, beyond, few)) e) s.1 in
    absurd (omega (arith, many)))
    (search (length taken + 1) 1 taken x)

-- ---- names in front of others

or_shift : (a b c : Bool) → (b || (a || c)) ≡ ((a || b) || c)
or_shift true true c = refl
or_shift true false c = refl
or_shift false true c = refl
or_shift false false c = refl

pub known_latest : (ns others : List (List ℕ)) (x : List ℕ) → is_known (latest_first ns others) x ≡ (list_any (bytes_eq x) ns || is_known others x)
known_latest [] others x = refl
known_latest (n ∷ ns) others x =
    known_latest ns (n ∷ others) x ∙ or_shift (bytes_eq n x) (list_any (bytes_eq x) ns) (is_known others x)
    ∙ ap (λ b. (b || list_any (bytes_eq x) ns) || is_known others x) (turned n x)

pub latest_push : (ns : List (List ℕ)) (n : List ℕ) (others : List (List ℕ)) → latest_first (ns ++ n ∷ []) others ≡ n ∷ latest_first ns others
latest_push [] n others = refl
latest_push (m ∷ ns) n others = latest_push ns n (m ∷ others)

-- ---- what is kept

or_turn : (a b : Bool) → (a || b) ≡ (b || a)
or_turn true true = refl
or_turn true false = refl
or_turn false true = refl
or_turn false false = refl

module _ (identifiers known chosen : List (List ℕ)) (begins : List (List ℕ × ℕ)) (h : IsKept identifiers known chosen begins) where
  pub taken_is : (x : List ℕ) → (list_any (bytes_eq x) known || list_any (bytes_eq x) chosen) ≡ is_known (latest_first chosen identifiers) x
  taken_is x =
      or_turn (list_any (bytes_eq x) known) (list_any (bytes_eq x) chosen) ∙ ap (λ b. list_any (bytes_eq x) chosen || b) (h.same x)
      ∙ sym (known_latest chosen identifiers x)

  -- a search begins later
  pub begins_later : (later : List (List ℕ × ℕ)) (x : List ℕ) (m : ℕ) → Puts begins later x (Some m) → 0 < m → AreBelow (latest_first chosen identifiers) x m
      → IsKept identifiers known chosen later
  begins_later later x m puts positive below = record {
    same = h.same;
    positive = λ y. ⊎_elim
        (λ e. subst (λ (o : Option ℕ). 0 < unwrap_or o 1) (sym (puts y ∙ ap (λ b. if b then Some m else value_at begins y) e)) positive)
        (λ e. subst (λ (o : Option ℕ). 0 < unwrap_or o 1) (sym (puts y ∙ ap (λ b. if b then Some m else value_at begins y) e)) (h.positive y))
        (cases_Bool (bytes_eq x y));
    below = λ y. ⊎_elim
        (λ e. subst (λ (o : Option ℕ). AreBelow (latest_first chosen identifiers) y (unwrap_or o 1)) (sym (puts y ∙ ap (λ b. if b then Some m else value_at begins y) e))
        (subst (λ z. AreBelow (latest_first chosen identifiers) z m) (one_name x y e) below))
        (λ e. subst (λ (o : Option ℕ). AreBelow (latest_first chosen identifiers) y (unwrap_or o 1)) (sym (puts y ∙ ap (λ b. if b then Some m else value_at begins y) e)) (h.below y))
        (cases_Bool (bytes_eq x y));
  }

  -- a name that isn't taken is put last
  free_name : (n : List ℕ) → is_known (latest_first chosen identifiers) n ≡ false → with_name chosen n ≡ chosen ++ n ∷ []
  free_name n free = ap (λ b. if b then chosen else (chosen ++ n ∷ []))
      (⊎_elim (λ e. clash (is_known (latest_first chosen identifiers) n) (known_latest chosen identifiers n ∙ ap (λ b. b || is_known identifiers n) e) free) (λ e. e)
      (cases_Bool (list_any (bytes_eq n) chosen)))

  -- and is taken then
  pub one_chosen : (n : List ℕ) → is_known (latest_first chosen identifiers) n ≡ false
      → latest_first (with_name chosen n) identifiers ≡ n ∷ latest_first chosen identifiers
  one_chosen n free = ap (λ ns. latest_first ns identifiers) (free_name n free) ∙ latest_push chosen n identifiers

  pub still_kept : (n : List ℕ) → is_known (latest_first chosen identifiers) n ≡ false → IsKept identifiers known (with_name chosen n) begins
  still_kept n free = record {
    same = h.same;
    positive = h.positive;
    below = λ x k p q. subst (λ ns. is_known ns (candidate x k) ≡ true) (sym (one_chosen n free))
        (in_tail (candidate x k) n (latest_first chosen identifiers) (h.below x k p q));
  }

-- before anything is chosen
pub none_chosen : (identifiers known : List (List ℕ)) (begins : List (List ℕ × ℕ)) → ((x : List ℕ) → list_any (bytes_eq x) known ≡ is_known identifiers x)
    → begins ≡ [] → IsKept identifiers known [] begins
none_chosen identifiers known begins h none = record {
  same = h;
  positive = λ x. subst (λ (b : List (List ℕ × ℕ)). 0 < unwrap_or (value_at b x) 1) (sym none) (omega arith);
  below = λ x. subst (λ (b : List (List ℕ × ℕ)). AreBelow identifiers x (unwrap_or (value_at b x) 1)) (sym none) (λ k p q. absurd (omega (arith, p, q)));
}

-- ---- all names of a body

-- the first of these names have new ones
pub record AreNamed (taken own : List (List ℕ)) (k : ℕ) (chosen : List (List ℕ)) (names : List (List ℕ × List ℕ)) : Type 0 where
  pub chosen_next : taken_after taken own ≡ taken_after chosen (drop k own)
  pub named : (x : List ℕ) → renamed taken own x ≡ unwrap_or (value_at names x) (renamed chosen (drop k own) x)
  pub later : (x : List ℕ) → is_known (drop k own) x ≡ true → value_at names x ≡ None
  pub distinct : IsDistinct bytes_eq (drop k own)

pub none_named : (taken own : List (List ℕ)) (names : List (List ℕ × List ℕ)) → names ≡ [] → IsDistinct bytes_eq own → AreNamed taken own 0 taken names
none_named taken own names none d = record {
  chosen_next = refl;
  named = λ x. ap (λ (m : List (List ℕ × List ℕ)). unwrap_or (value_at m x) (renamed taken own x)) (sym none);
  later = λ x h. ap (λ (m : List (List ℕ × List ℕ)). value_at m x) none;
  distinct = d;
}

apart_from_later : (y : List ℕ) (ys : List (List ℕ)) (x : List ℕ) → AllByRecursion (λ z. bytes_eq y z ≡ false) ys → is_known ys x ≡ true → bytes_eq y x ≡ false
apart_from_later y [] x h k = absurd (false≢true k)
apart_from_later y (z ∷ ys) x h k = ⊎_elim (λ e. subst (λ w. bytes_eq y w ≡ false) e h.0) (λ l. apart_from_later y ys x h.1 l) (in_cases x z ys k)

first_apart : (y : List ℕ) (ys : List (List ℕ)) (x : List ℕ) → IsDistinct bytes_eq (y ∷ ys) → is_known ys x ≡ true → bytes_eq y x ≡ false
unfolding IsDistinct
first_apart y ys x h k = apart_from_later y ys x h.0 k

rest_distinct : (y : List ℕ) (ys : List (List ℕ)) → IsDistinct bytes_eq (y ∷ ys) → IsDistinct bytes_eq ys
unfolding IsDistinct
rest_distinct y ys h = h.1

pub one_named : (taken own : List (List ℕ)) (k : ℕ) (chosen later_chosen : List (List ℕ)) (names later_names : List (List ℕ × List ℕ)) (y : List ℕ)
    → AreNamed taken own k chosen names → drop k own ≡ y ∷ drop (k + 1) own → later_chosen ≡ new_name chosen y ∷ chosen
    → Puts names later_names y (Some (new_name chosen y)) → AreNamed taken own (k + 1) later_chosen later_names
one_named taken own k chosen later_chosen names later_names y h first is puts =
    let ys = drop (k + 1) own in
    let n = new_name chosen y in
    let distinct : IsDistinct bytes_eq (y ∷ ys) = subst (λ ns. IsDistinct bytes_eq ns) first h.distinct in
    let put : (x : List ℕ) (b : Bool) → bytes_eq y x ≡ b → value_at later_names x ≡ (if b then Some n else value_at names x)
    = λ x b e. puts x ∙ ap (λ c. if c then Some n else value_at names x) e in
    let old : (x : List ℕ) (b : Bool) → bytes_eq y x ≡ b → renamed taken own x ≡ unwrap_or (value_at names x) (if b then n else renamed (n ∷ chosen) ys x)
    = λ x b e. h.named x ∙ ap (λ ns. unwrap_or (value_at names x) (renamed chosen ns x)) first
    ∙ ap (λ c. unwrap_or (value_at names x) (if c then n else renamed (n ∷ chosen) ys x)) e in
    record {
      chosen_next = h.chosen_next ∙ ap (taken_after chosen) first ∙ ap (λ ns. taken_after ns ys) (sym is);
      named = λ x. ⊎_elim
          (λ e. old x true e
          ∙ ap (λ (o : Option (List ℕ)). unwrap_or o n) (h.later x (subst (λ ns. is_known ns x ≡ true) (sym first) (at_head x y ys (one_name y x e))))
          ∙ ap (λ (o : Option (List ℕ)). unwrap_or o (renamed later_chosen ys x)) (sym (put x true e)))
          (λ e. old x false e ∙ ap (λ ns. unwrap_or (value_at names x) (renamed ns ys x)) (sym is)
          ∙ ap (λ (o : Option (List ℕ)). unwrap_or o (renamed later_chosen ys x)) (sym (put x false e)))
          (cases_Bool (bytes_eq y x));
      later = λ x k. put x false (first_apart y ys x distinct k) ∙ h.later x (subst (λ ns. is_known ns x ≡ true) (sym first) (in_tail x y ys k));
      distinct = rest_distinct y ys distinct;
    }

-- at the end all have
pub all_named : (taken own : List (List ℕ)) (chosen : List (List ℕ)) (names : List (List ℕ × List ℕ)) → AreNamed taken own (length own) chosen names
    → ((x : List ℕ) → unwrap_or (value_at names x) x ≡ renamed taken own x) × (chosen ≡ taken_after taken own)
all_named taken own chosen names h =
    let none : drop (length own) own ≡ [] = beyond own in
    (λ x. ap (λ ns. unwrap_or (value_at names x) (renamed chosen ns x)) (sym none) ∙ sym (h.named x), ap (taken_after chosen) (sym none) ∙ sym h.chosen_next)
  where
    beyond : (xs : List (List ℕ)) → drop (length xs) xs ≡ []
    beyond [] = refl
    beyond (x ∷ xs) = beyond xs

-- a name that is chosen is kept
pub kept_then : (identifiers known chosen self new : List (List ℕ)) (begins later : List (List ℕ × ℕ)) (x name : List ℕ) (m : ℕ) → IsKept identifiers known chosen begins
    → latest_first chosen identifiers ≡ self → IsFirst self x name m → Puts begins later x (Some m) → new ≡ with_name chosen name
    → IsKept identifiers known new later × (latest_first new identifiers ≡ name ∷ self)
kept_then identifiers known chosen self new begins later x name m h view first puts is =
    let free : is_known (latest_first chosen identifiers) name ≡ false = ap (λ ns. is_known ns name) view ∙ first.free in
    let below : AreBelow (latest_first chosen identifiers) x m = subst (λ ns. AreBelow ns x m) (sym view) first.below in
    let searched = begins_later identifiers known chosen begins h later x m puts first.from_one below in (
      subst (λ ns. IsKept identifiers known ns later) (sym is) (still_kept identifiers known chosen later searched name free),
      ap (λ ns. latest_first ns identifiers) is ∙ one_chosen identifiers known chosen later searched name free ∙ ap (λ ns. name ∷ ns) view,
    )
