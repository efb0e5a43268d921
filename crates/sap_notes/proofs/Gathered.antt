-- Names that are gathered in a set.
use Rattle.std.proofs.Common.{◌≡◌, ◌<◌, ◌+◌, length, ℕ, Bool, true, false, ◌||◌, ◌⊎◌, inl, inr, List, [], ◌∷◌, ◌++◌, Some, drop, refl, sym, ap, ◌∙◌, subst, ⊎_elim}
use Rattle.std.proofs.lemmas.Bool.{false≢true, or_left, or_right, or_cases}
use Rattle.std.proofs.lemmas.List.Folds.{list_any-append}
use Rattle.std.proofs.lemmas.Option.{slice_get-get_or}
use Rattle.std.specs.List.{list_any}
use Rattle.std.specs.Prelude.{if◌then◌else◌, Contains, get_or, slice_get}
use Rattle.std.specs.Str.{bytes_eq}
use Rattle.sap_terms.specs.NameSet.{with_name}
use Rattle.sap_terms.proofs.PlainLaws.Items.{cons_cases, first_item, later_item, none_contained}
use Rattle.sap_terms.proofs.PlainLaws.Known.{one_name, own_name}
use Rattle.sap_terms.proofs.PlainLaws.Lists.{drop_got}
use Rattle.sap_notes.specs.code.Gathered.{gathered}
use Rattle.sap_notes.specs.code.Led.{IsAmong}

-- one list behind another
pub gathered_joined : (names xs ys : List (List ℕ)) → gathered names (xs ++ ys) ≡ gathered (gathered names xs) ys
gathered_joined names [] ys = refl
gathered_joined names (x ∷ xs) ys = gathered_joined (with_name names x) xs ys

pub ruleset gathered_laws = (gathered_joined)

-- the names of a list from an item on, where those of the item are gathered first
pub gathered_step : {X : Type 0} (all : List X → List (List ℕ)) (one : X → List (List ℕ)) → ((x : X) (xs : List X) → all (x ∷ xs) ≡ one x ++ all xs)
    → (items : List X) (k : ℕ) (x : X) → slice_get items k ≡ Some x → (names next last : List (List ℕ)) → next ≡ gathered names (one x)
    → gathered names (all (drop k items)) ≡ last → gathered next (all (drop (k + 1) items)) ≡ last
gathered_step all one law items k x got names next last e whole =
    let rest = all (drop (k + 1) items) in
    let here : all (drop k items) ≡ one x ++ rest = ap all (drop_got items k x got) ∙ law x (drop (k + 1) items) in
    ap (λ (m : List (List ℕ)). gathered m rest) e ∙ (sym (gathered_joined names (one x) rest) ∙ (ap (gathered names) (sym here) ∙ whole))

-- the same of an item that a loop goes over
pub gathered_item : {X : Type 0} (all : List X → List (List ℕ)) (one : X → List (List ℕ)) → ((x : X) (xs : List X) → all (x ∷ xs) ≡ one x ++ all xs)
    → (items : List X) (k : ℕ) (x : X) → k < length items → x ≡ get_or items k x → (names next last : List (List ℕ)) → next ≡ gathered names (one x)
    → gathered names (all (drop k items)) ≡ last → gathered next (all (drop (k + 1) items)) ≡ last
gathered_item all one law items k x lt is names next last e whole =
    gathered_step all one law items k x (slice_get-get_or items k x lt ∙ ap Some (sym is)) names next last e whole

-- ---- one name more

pub one_kept : (names : List (List ℕ)) (n f : List ℕ) → IsAmong names f → IsAmong (with_name names n) f
one_kept names n f h = by (list_any (bytes_eq n) names) where
  by : (b : Bool) → list_any (bytes_eq f) (if b then names else names ++ n ∷ []) ≡ true
  by true = h
  by false = list_any-append (bytes_eq f) names (n ∷ []) ∙ or_left (list_any (bytes_eq f) names) (list_any (bytes_eq f) (n ∷ [])) h

pub one_there : (names : List (List ℕ)) (n : List ℕ) → IsAmong (with_name names n) n
one_there names n = by (list_any (bytes_eq n) names) refl where
  by : (b : Bool) → list_any (bytes_eq n) names ≡ b → list_any (bytes_eq n) (if b then names else names ++ n ∷ []) ≡ true
  by true e = e
  by false e =
      list_any-append (bytes_eq n) names (n ∷ [])
      ∙ or_right (list_any (bytes_eq n) names) (list_any (bytes_eq n) (n ∷ [])) (or_left (bytes_eq n n) false (own_name n))

pub one_only : (names : List (List ℕ)) (n f : List ℕ) → IsAmong (with_name names n) f → IsAmong names f ⊎ (n ≡ f)
one_only names n f h = by (list_any (bytes_eq n) names) h where
  last : (bytes_eq f n || false) ≡ true → IsAmong names f ⊎ (n ≡ f)
  last e = ⊎_elim (λ is. inr (sym (one_name f n is))) (λ n. absurd (false≢true n)) (or_cases (bytes_eq f n) false e)

  by : (b : Bool) → list_any (bytes_eq f) (if b then names else names ++ n ∷ []) ≡ true → IsAmong names f ⊎ (n ≡ f)
  by true e = inl e
  by false e =
      ⊎_elim (λ old. inl old) last
      (or_cases (list_any (bytes_eq f) names) (bytes_eq f n || false) (sym (list_any-append (bytes_eq f) names (n ∷ [])) ∙ e))

-- ---- all of them

pub kept : (names xs : List (List ℕ)) (f : List ℕ) → IsAmong names f → IsAmong (gathered names xs) f
kept names [] f h = h
kept names (x ∷ xs) f h = kept (with_name names x) xs f (one_kept names x f h)

pub there : (names xs : List (List ℕ)) (f : List ℕ) → Contains xs f → IsAmong (gathered names xs) f
there names [] f c = absurd (none_contained c)
there names (x ∷ xs) f c =
    ⊎_elim (λ e. kept (with_name names x) xs f (subst (IsAmong (with_name names x)) e (one_there names x))) (λ later. there (with_name names x) xs f later) (cons_cases x xs f c)

pub only : (names xs : List (List ℕ)) (f : List ℕ) → IsAmong (gathered names xs) f → IsAmong names f ⊎ Contains xs f
only names [] f h = inl h
only names (x ∷ xs) f h =
    ⊎_elim
    (λ old. ⊎_elim (λ o. inl o) (λ e. inr (subst (Contains (x ∷ xs)) e (first_item x xs))) (one_only names x f old))
    (λ c. inr (later_item x xs f c)) (only (with_name names x) xs f h)

-- nothing is in the empty set
pub none_among : (f : List ℕ) → IsAmong [] f → ⊥
none_among f h = false≢true h
