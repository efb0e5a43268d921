-- Where no name of a restriction or lemma is taken, each has a name of its own, also when restrictions stand in front of lemmas.
use Rattle.std.proofs.Common.{◌≡◌, ℕ, Bool, true, false, List, [], ◌∷◌, ◌++◌, map, Some, None, refl, sym}
use Rattle.std.specs.Prelude.{◌||◌, if◌then◌else◌}
use Rattle.std.specs.List.{AllByRecursion, IsDistinct}
use Rattle.std.specs.Str.{bytes_eq}
use Rattle.std.proofs.lemmas.Slice.Eq.{bytes_eq-Decides}
use Rattle.sap_formula.specs.Form.{RestrictionForm, LemmaForm}
use Rattle.sap_statements.specs.declared.statement.Statement.{Statement}
use Rattle.sap_statements.specs.declared.statement.Statement.TheVariants.{Restriction, Lemma}
use Rattle.sap_statements.specs.Statements.{name_of}
use Rattle.sap_read.specs.Causes.{first_taken, is_among}
use Rattle.sap_read.specs.OwnNames.{statement_names, HaveOwnNames}
use Rattle.sap_statements.specs.Stated.{restrictions_of, lemmas_of}
use Rattle.sap_read.proofs.EachOf.{both, left, right}

-- neither name is the other
abbrev IsOther : List ℕ → List ℕ → Type 0
IsOther x y = (bytes_eq x y ≡ false) × (bytes_eq y x ≡ false)

other_too : (x y : List ℕ) → bytes_eq y x ≡ false → IsOther x y
other_too x y e = (by (bytes_eq x y) refl, e)
  where
    by : (c : Bool) → bytes_eq x y ≡ c → c ≡ false
    by false f = refl
    by true f = let there : bytes_eq y x ≡ true = (bytes_eq-Decides y x).1 (sym ((bytes_eq-Decides x y).0 f)) in absurd (cc (e, there))

-- a name that isn't among these is none of them
none_of : (xs : List (List ℕ)) (x : List ℕ) → is_among xs x ≡ false → AllByRecursion (IsOther x) xs
none_of [] x e = tt
none_of (y ∷ ys) x e = by (bytes_eq y x) refl e (none_of ys x)
  where
    by : (c : Bool) → bytes_eq y x ≡ c → (c || is_among ys x) ≡ false → (is_among ys x ≡ false → AllByRecursion (IsOther x) ys) → AllByRecursion (IsOther x) (y ∷ ys)
    by true f e later = absurd (cc (e))
    by false f e later = (other_too x y f, later e)

-- none of these names is reserved, and none stands again behind itself
abbrev AreFree : (List ℕ → Bool) → List (List ℕ) → Type 0
AreFree is_reserved [] = Unit {0}
AreFree is_reserved (x ∷ xs) = (is_reserved x ≡ false) × AllByRecursion (IsOther x) xs × AreFree is_reserved xs

none_taken : (is_reserved : List ℕ → Bool) (xs : List (List ℕ)) → first_taken is_reserved xs ≡ None → AreFree is_reserved xs
none_taken is_reserved [] e = tt
none_taken is_reserved (x ∷ xs) e = by (is_reserved x) refl (is_among xs x) refl e (none_taken is_reserved xs)
  where
    by : (c : Bool) → is_reserved x ≡ c → (d : Bool) → is_among xs x ≡ d → (if c || d then Some x else first_taken is_reserved xs) ≡ None
        → (first_taken is_reserved xs ≡ None → AreFree is_reserved xs) → AreFree is_reserved (x ∷ xs)
    by true f d h e later = absurd (cc (e))
    by false f true h e later = absurd (cc (e))
    by false f false h e later = (f, none_of xs x h, later e)

abbrev restriction_names : List Statement → List (List ℕ)
restriction_names ss = map (λ (r : RestrictionForm). r.name) (restrictions_of ss)

abbrev lemma_names : List Statement → List (List ℕ)
lemma_names ss = map (λ (l : LemmaForm). l.name) (lemmas_of ss)

-- what is so of each name is so of each when restrictions stand in front
module _ (P : List ℕ → Type 0) where
  of_restrictions : (ss : List Statement) → AllByRecursion P (map name_of ss) → AllByRecursion P (restriction_names ss)
  of_restrictions [] h = tt
  of_restrictions (Restriction r ∷ ss) h = (h.0, of_restrictions ss h.1)
  of_restrictions (Lemma l ∷ ss) h = of_restrictions ss h.1

  of_lemmas : (ss : List Statement) → AllByRecursion P (map name_of ss) → AllByRecursion P (lemma_names ss)
  of_lemmas [] h = tt
  of_lemmas (Restriction r ∷ ss) h = of_lemmas ss h.1
  of_lemmas (Lemma l ∷ ss) h = (h.0, of_lemmas ss h.1)

  in_front : (ss : List Statement) → AllByRecursion P (map name_of ss) → AllByRecursion P (statement_names (restrictions_of ss) (lemmas_of ss))
  in_front ss h = both P (restriction_names ss) (lemma_names ss) (of_restrictions ss h) (of_lemmas ss h)

differing : (x : List ℕ) (ys : List (List ℕ)) → AllByRecursion (IsOther x) ys → AllByRecursion (λ y. bytes_eq x y ≡ false) ys
differing x [] h = tt
differing x (y ∷ ys) h = (h.0.0, differing x ys h.1)

-- one more name between distinct ones
put_between : (xs ys : List (List ℕ)) (x : List ℕ) → IsDistinct bytes_eq (xs ++ ys) → AllByRecursion (IsOther x) xs → AllByRecursion (IsOther x) ys
    → IsDistinct bytes_eq (xs ++ x ∷ ys)
unfolding IsDistinct
put_between [] ys x d h k = (differing x ys k, d)
put_between (z ∷ xs) ys x d h k =
    let P : List ℕ → Type 0 = λ y. bytes_eq z y ≡ false in
    (both P xs (x ∷ ys) (left P xs ys d.0) (h.0.1, right P xs ys d.0), put_between xs ys x d.1 h.1 k)

free_distinct : (is_reserved : List ℕ → Bool) (ss : List Statement) → AreFree is_reserved (map name_of ss) → HaveOwnNames (restrictions_of ss) (lemmas_of ss)
unfolding IsDistinct
free_distinct is_reserved [] h = tt
free_distinct is_reserved (Restriction r ∷ ss) h =
    (differing r.name (statement_names (restrictions_of ss) (lemmas_of ss)) (in_front (IsOther r.name) ss h.1), free_distinct is_reserved ss h.2)
free_distinct is_reserved (Lemma l ∷ ss) h =
    put_between (restriction_names ss) (lemma_names ss) l.name (free_distinct is_reserved ss h.2) (of_restrictions (IsOther l.name) ss h.1) (of_lemmas (IsOther l.name) ss h.1)

not_reserved : (is_reserved : List ℕ → Bool) (xs : List (List ℕ)) → AreFree is_reserved xs → AllByRecursion (λ x. is_reserved x ≡ false) xs
not_reserved is_reserved [] h = tt
not_reserved is_reserved (x ∷ xs) h = (h.0, not_reserved is_reserved xs h.2)

module _ (is_reserved : List ℕ → Bool) (ss : List Statement) (none : first_taken is_reserved (map name_of ss) ≡ None) where
  pub own_names : HaveOwnNames (restrictions_of ss) (lemmas_of ss)
  own_names = free_distinct is_reserved ss (none_taken is_reserved (map name_of ss) none)

  pub unreserved_names : AllByRecursion (λ x. is_reserved x ≡ false) (statement_names (restrictions_of ss) (lemmas_of ss))
  unreserved_names = in_front (λ x. is_reserved x ≡ false) ss (not_reserved is_reserved (map name_of ss) (none_taken is_reserved (map name_of ss) none))
