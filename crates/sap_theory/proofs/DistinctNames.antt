-- Restrictions and lemmas of a text have names of their own exactly where they have, one kind behind the other.
use Rattle.std.proofs.Common.{◌≡◌, ℕ, Bool, true, false, ◌||◌, List, [], ◌∷◌, ◌++◌, Some, None, refl}
use Rattle.std.specs.Prelude.{map, if◌then◌else◌}
use Rattle.std.specs.List.{list_any}
use Rattle.std.specs.Str.{bytes_eq}
use Rattle.sap_statements.specs.declared.statement.Statement.TheVariants.{Restriction as restriction, Lemma as lemma}
use Rattle.sap_theory.specs.TheoryGrammar.{TheoryItem, builtins, functions, rule, statement, statements_in, restrictions_in, lemmas_in}
use Rattle.sap_theory.specs.TheoryCauses.{first_repeated, statement_names}
use Rattle.sap_theory.specs.ReadAgain.{names_of}
use Rattle.sap_grammar.proofs.ReadingLaws.Signatures.{other_name}
use Rattle.sap_theory.proofs.ReadSpelled.{sorted_item}

-- the name stands among these
abbrev stands : List (List ℕ) → List ℕ → Bool
stands xs x = list_any (λ y. bytes_eq y x) xs

neither : (a b : Bool) → (a || b) ≡ false → (a ≡ false) × (b ≡ false)
neither true b e = absurd (cc (e))
neither false b e = (refl, e)

both_false : (a b : Bool) → a ≡ false → b ≡ false → (a || b) ≡ false
both_false a b e f = rw e f

-- where the first of these doesn't stand again
head_free : (x : List ℕ) (xs : List (List ℕ)) → first_repeated (x ∷ xs) ≡ None → (stands xs x ≡ false) × (first_repeated xs ≡ None)
head_free x xs h = by (stands xs x) refl h
  where
    by : (c : Bool) → stands xs x ≡ c → (if c then Some x else first_repeated xs) ≡ None → (stands xs x ≡ false) × (first_repeated xs ≡ None)
    by true e f = absurd (cc (f))
    by false e f = (e, f)

put_in_front : (x : List ℕ) (xs : List (List ℕ)) → stands xs x ≡ false → first_repeated xs ≡ None → first_repeated (x ∷ xs) ≡ None
put_in_front x xs e f = rw e f

-- what stands in none of both stands in none of them, one behind the other
stands_parted : (xs ys : List (List ℕ)) (x : List ℕ) → stands (xs ++ ys) x ≡ false → (stands xs x ≡ false) × (stands ys x ≡ false)
stands_parted [] ys x h = (refl, h)
stands_parted (z ∷ xs) ys x h =
    let here = neither (bytes_eq z x) (stands (xs ++ ys) x) h in
    let more = stands_parted xs ys x here.1 in
    (both_false (bytes_eq z x) (stands xs x) here.0 more.0, more.1)

stands_joined : (xs ys : List (List ℕ)) (x : List ℕ) → stands xs x ≡ false → stands ys x ≡ false → stands (xs ++ ys) x ≡ false
stands_joined [] ys x e f = f
stands_joined (z ∷ xs) ys x e f =
    let here = neither (bytes_eq z x) (stands xs x) e in
    both_false (bytes_eq z x) (stands (xs ++ ys) x) here.0 (stands_joined xs ys x here.1 f)

-- a name in the middle stands nowhere else, and the others have names of their own
middle_free : (xs ys : List (List ℕ)) (y : List ℕ) → first_repeated (xs ++ y ∷ ys) ≡ None → (stands (xs ++ ys) y ≡ false) × (first_repeated (xs ++ ys) ≡ None)
middle_free [] ys y h = head_free y ys h
middle_free (x ∷ xs) ys y h =
    let here = head_free x (xs ++ y ∷ ys) h in
    let later = stands_parted xs (y ∷ ys) x here.0 in
    let apart = neither (bytes_eq y x) (stands ys x) later.1 in
    let more = middle_free xs ys y here.1 in (
      both_false (bytes_eq x y) (stands (xs ++ ys) y) (other_name y x apart.0) more.0,
      put_in_front x (xs ++ ys) (stands_joined xs ys x later.0 apart.1) more.1,
    )

-- the names of restrictions and lemmas, one kind behind the other
abbrev kinds : List TheoryItem → List (List ℕ)
kinds vs = names_of (restrictions_in (map sorted_item vs)) (lemmas_in (map sorted_item vs))

-- a name that stands among the one stands among the other
stands_mixed : (vs : List TheoryItem) (x : List ℕ) → stands (kinds vs) x ≡ false → stands (statement_names (statements_in vs)) x ≡ false
stands_mixed [] x h = refl
stands_mixed (builtins bs ∷ vs) x h = stands_mixed vs x h
stands_mixed (functions ss ∷ vs) x h = stands_mixed vs x h
stands_mixed (rule r ∷ vs) x h = stands_mixed vs x h
stands_mixed (statement (restriction r) ∷ vs) x h =
    let here = neither (bytes_eq r.name x) (stands (kinds vs) x) h in
    both_false (bytes_eq r.name x) (stands (statement_names (statements_in vs)) x) here.0 (stands_mixed vs x here.1)
stands_mixed (statement (lemma l) ∷ vs) x h =
    let rs = map (λ r. r.name) (restrictions_in (map sorted_item vs)) in
    let ls = map (λ k. k.name) (lemmas_in (map sorted_item vs)) in
    let parts = stands_parted rs (l.name ∷ ls) x h in
    let here = neither (bytes_eq l.name x) (stands ls x) parts.1 in
    both_false (bytes_eq l.name x) (stands (statement_names (statements_in vs)) x) here.0 (stands_mixed vs x (stands_joined rs ls x parts.0 here.1))

pub names_mixed : (vs : List TheoryItem) → first_repeated (kinds vs) ≡ None → first_repeated (statement_names (statements_in vs)) ≡ None
names_mixed [] h = refl
names_mixed (builtins bs ∷ vs) h = names_mixed vs h
names_mixed (functions ss ∷ vs) h = names_mixed vs h
names_mixed (rule r ∷ vs) h = names_mixed vs h
names_mixed (statement (restriction r) ∷ vs) h =
    let here = head_free r.name (kinds vs) h in
    put_in_front r.name (statement_names (statements_in vs)) (stands_mixed vs r.name here.0) (names_mixed vs here.1)
names_mixed (statement (lemma l) ∷ vs) h =
    let here = middle_free (map (λ r. r.name) (restrictions_in (map sorted_item vs))) (map (λ k. k.name) (lemmas_in (map sorted_item vs))) l.name h in
    put_in_front l.name (statement_names (statements_in vs)) (stands_mixed vs l.name here.0) (names_mixed vs here.1)

-- And the other way round: a name that stands nowhere can be put in the middle.
put_in_middle : (xs ys : List (List ℕ)) (y : List ℕ) → stands (xs ++ ys) y ≡ false → first_repeated (xs ++ ys) ≡ None → first_repeated (xs ++ y ∷ ys) ≡ None
put_in_middle [] ys y e h = put_in_front y ys e h
put_in_middle (x ∷ xs) ys y e h =
    let here = neither (bytes_eq x y) (stands (xs ++ ys) y) e in
    let rest = head_free x (xs ++ ys) h in
    let parts = stands_parted xs ys x rest.0 in
    let apart : stands (xs ++ y ∷ ys) x ≡ false = stands_joined xs (y ∷ ys) x parts.0 (both_false (bytes_eq y x) (stands ys x) (other_name x y here.0) parts.1) in
    put_in_front x (xs ++ y ∷ ys) apart (put_in_middle xs ys y here.1 rest.1)

stands_sorted : (vs : List TheoryItem) (x : List ℕ) → stands (statement_names (statements_in vs)) x ≡ false → stands (kinds vs) x ≡ false
stands_sorted [] x h = refl
stands_sorted (builtins bs ∷ vs) x h = stands_sorted vs x h
stands_sorted (functions ss ∷ vs) x h = stands_sorted vs x h
stands_sorted (rule r ∷ vs) x h = stands_sorted vs x h
stands_sorted (statement (restriction r) ∷ vs) x h =
    let here = neither (bytes_eq r.name x) (stands (statement_names (statements_in vs)) x) h in
    both_false (bytes_eq r.name x) (stands (kinds vs) x) here.0 (stands_sorted vs x here.1)
stands_sorted (statement (lemma l) ∷ vs) x h =
    let rs = map (λ r. r.name) (restrictions_in (map sorted_item vs)) in
    let ls = map (λ k. k.name) (lemmas_in (map sorted_item vs)) in
    let here = neither (bytes_eq l.name x) (stands (statement_names (statements_in vs)) x) h in
    let parts = stands_parted rs ls x (stands_sorted vs x here.1) in
    stands_joined rs (l.name ∷ ls) x parts.0 (both_false (bytes_eq l.name x) (stands ls x) here.0 parts.1)

pub names_sorted : (vs : List TheoryItem) → first_repeated (statement_names (statements_in vs)) ≡ None → first_repeated (kinds vs) ≡ None
names_sorted [] h = refl
names_sorted (builtins bs ∷ vs) h = names_sorted vs h
names_sorted (functions ss ∷ vs) h = names_sorted vs h
names_sorted (rule r ∷ vs) h = names_sorted vs h
names_sorted (statement (restriction r) ∷ vs) h =
    let here = head_free r.name (statement_names (statements_in vs)) h in
    put_in_front r.name (kinds vs) (stands_sorted vs r.name here.0) (names_sorted vs here.1)
names_sorted (statement (lemma l) ∷ vs) h =
    let here = head_free l.name (statement_names (statements_in vs)) h in
    put_in_middle (map (λ r. r.name) (restrictions_in (map sorted_item vs))) (map (λ k. k.name) (lemmas_in (map sorted_item vs))) l.name (stands_sorted vs l.name here.0) (names_sorted vs here.1)
