-- First occurrences of new variables: of lists one after the other, of filtered lists, and of first occurrences.
use Rattle.std.proofs.Common.{◌≡◌, ℕ, List, [], ◌∷◌, ◌++◌, refl, sym, ap, ◌∙◌, subst, Bool, true, false, cond, append-nil, append_assoc, not, ◌&&◌, ◌||◌, ◌⊎◌, inl, inr}
use Rattle.std.specs.Str.{bytes_eq}
use Rattle.sap_terms.specs.Variables.{is_known, new_vars}
use Rattle.sap_terms.specs.declared.var.Var.{Var}
use Rattle.sap_process.specs.Sites.{var_names}
use Rattle.sap_translate.specs.Members.{Member}
use Rattle.sap_translate.proofs.Lists.FactLists.{map_joined}
use Rattle.sap_translate.proofs.Shared.Lookups.{member_left, member_right}
use Rattle.sap_translate.proofs.Shared.Facts.{same_name_self, same_name_true}
use Rattle.sap_translate.proofs.Terms.Substitution.{known_new, member_known, names-append, new_of}

abbrev Names : Type 0
Names = List (List ℕ)

abbrev AllKnown : Names → List Var → Type 0
AllKnown k xs = (x : Var) → Member x xs → is_known k x.name ≡ true

or_assoc : (a b c : Bool) → ((a || b) || c) ≡ (a || (b || c))
or_assoc true b c = refl
or_assoc false b c = refl

or_true : (b : Bool) → (b || true) ≡ true
or_true true = refl
or_true false = refl

pub or_more : (b c : Bool) → (b || c) ≡ (b || (not b && c))
or_more true c = refl
or_more false c = refl

-- nothing is new where all is known
pub new_none : (known : Names) (vs : List Var) → AllKnown known vs → new_vars known vs ≡ []
new_none known [] h = refl
new_none known (v ∷ vs) h = ap (λ b. cond b (new_vars known vs) (v ∷ new_vars (known ++ v.name ∷ []) vs)) (h v Member.here) ∙ new_none known vs (λ w m. h w (Member.later m))

-- the names that are known, and this one, are known
known_more : (known : Names) (v w : Var) → (is_known known w.name ≡ true) ⊎ (w ≡ v) → is_known (known ++ v.name ∷ []) w.name ≡ true
known_more known v w (inl k) = names-append known (v.name ∷ []) w.name ∙ ap (λ b. b || is_known (v.name ∷ []) w.name) k
known_more known v w (inr e) =
    names-append known (v.name ∷ []) w.name
    ∙ ap (λ b. is_known known w.name || (b || false)) (ap (λ (z : Var). bytes_eq v.name z.name) e ∙ same_name_self v.name)
    ∙ or_true (is_known known w.name)

not_first : {v z : Var} {vs : List Var} (known : Names) → Member z (v ∷ vs) → is_known known v.name ≡ true → is_known known z.name ≡ false → Member z vs
not_first known Member.here k f = absurd (let e : true ≡ false = sym k ∙ f in cc)
not_first known (Member.later m) k f = m

-- one variable alone is new
pub new_one : (known : Names) (z : Var) (vs : List Var) → ((v : Var) → Member v vs → (is_known known v.name ≡ true) ⊎ (v ≡ z)) → Member z vs → is_known known z.name ≡ false → new_vars known vs ≡ z ∷ []
new_one known z [] h m f = elim m [ ]
new_one known z (v ∷ vs) h m f = elim (h v Member.here) [
  | inl k ↦ ap (λ b. cond b (new_vars known vs) (v ∷ new_vars (known ++ v.name ∷ []) vs)) k ∙ new_one known z vs (λ w n. h w (Member.later n)) (not_first known m k f) f
  | inr e ↦ ap (λ b. cond b (new_vars known vs) (v ∷ new_vars (known ++ v.name ∷ []) vs)) (ap (λ (w : Var). is_known known w.name) e ∙ f)
      ∙ ap (λ ws. v ∷ ws) (new_none (known ++ v.name ∷ []) vs (λ w n. known_more known v w (elim (h w (Member.later n)) [ inl k ↦ inl k | inr i ↦ inr (i ∙ sym e) ])))
      ∙ ap (λ w. w ∷ []) e
]

longer : {x v : Var} {xs vs : List Var} → Member x (v ∷ xs) → (Member x xs → Member x vs) → Member x (v ∷ vs)
longer Member.here k = Member.here
longer (Member.later h) k = Member.later (k h)

-- the first occurrences of new variables are among the variables
pub new_in : (known : Names) (vs : List Var) (x : Var) → Member x (new_vars known vs) → Member x vs
new_in known [] x m = elim m [ ]
new_in known (v ∷ vs) x m = by (is_known known v.name) m (λ k. new_in known vs x k) (λ k. new_in (known ++ v.name ∷ []) vs x k)
  where
    by : (b : Bool) → Member x (cond b (new_vars known vs) (v ∷ new_vars (known ++ v.name ∷ []) vs)) → (Member x (new_vars known vs) → Member x vs) → (Member x (new_vars (known ++ v.name ∷ []) vs) → Member x vs) → Member x (v ∷ vs)
    by true h k l = Member.later (k h)
    by false h k l = longer h l

-- of a filtered list
pub filter_new : (v : List Var) (k1 k2 : Names) → ((n : List ℕ) → is_known k2 n ≡ (is_known (var_names v) n || is_known k1 n)) → (ws : List Var) → new_vars k1 (new_of v ws) ≡ new_vars k2 ws
filter_new v k1 k2 same [] = refl
filter_new v k1 k2 same (w ∷ ws) = by (is_known (var_names v) w.name) refl (is_known k1 w.name) refl (filter_new v k1 k2 same ws) (filter_new v (k1 ++ w.name ∷ []) (k2 ++ w.name ∷ []) grown ws)
  where
    grown : (n : List ℕ) → is_known (k2 ++ w.name ∷ []) n ≡ (is_known (var_names v) n || is_known (k1 ++ w.name ∷ []) n)
    grown n =
        names-append k2 (w.name ∷ []) n ∙ ap (λ b. b || is_known (w.name ∷ []) n) (same n) ∙ or_assoc (is_known (var_names v) n) (is_known k1 n) (is_known (w.name ∷ []) n)
        ∙ ap (λ b. is_known (var_names v) n || b) (sym (names-append k1 (w.name ∷ []) n))

    by : (b : Bool) → is_known (var_names v) w.name ≡ b → (c : Bool) → is_known k1 w.name ≡ c → new_vars k1 (new_of v ws) ≡ new_vars k2 ws → new_vars (k1 ++ w.name ∷ []) (new_of v ws) ≡ new_vars (k2 ++ w.name ∷ []) ws
        → new_vars k1 (cond (not b) (w ∷ new_of v ws) (new_of v ws)) ≡ cond (is_known k2 w.name) (new_vars k2 ws) (w ∷ new_vars (k2 ++ w.name ∷ []) ws)
    by true eb c ec one two = one ∙ sym (ap (λ x. cond x (new_vars k2 ws) (w ∷ new_vars (k2 ++ w.name ∷ []) ws)) (same w.name ∙ ap (λ x. x || is_known k1 w.name) eb))
    by false eb true ec one two = ap (λ x. cond x (new_vars k1 (new_of v ws)) (w ∷ new_vars (k1 ++ w.name ∷ []) (new_of v ws))) ec ∙ one ∙ sym (ap (λ x. cond x (new_vars k2 ws) (w ∷ new_vars (k2 ++ w.name ∷ []) ws)) (same w.name ∙ (λ i. eb i || ec i)))
    by false eb false ec one two =
        ap (λ x. cond x (new_vars k1 (new_of v ws)) (w ∷ new_vars (k1 ++ w.name ∷ []) (new_of v ws))) ec ∙ ap (λ zs. w ∷ zs) two
        ∙ sym (ap (λ x. cond x (new_vars k2 ws) (w ∷ new_vars (k2 ++ w.name ∷ []) ws)) (same w.name ∙ (λ i. eb i || ec i)))

-- of first occurrences

abbrev Below : Names → Names → Type 0
Below k k1 = (n : List ℕ) → is_known k n ≡ true → is_known k1 n ≡ true

below_one : (k k1 : Names) (w : Var) → Below k k1 → is_known k1 w.name ≡ true → Below (k ++ w.name ∷ []) k1
below_one k k1 w h e n a = by (is_known k n) refl (bytes_eq w.name n) refl (sym (names-append k (w.name ∷ []) n) ∙ a)
  where
    by : (b : Bool) → is_known k n ≡ b → (c : Bool) → bytes_eq w.name n ≡ c → (is_known k n || (bytes_eq w.name n || false)) ≡ true → is_known k1 n ≡ true
    by true eb c ec z = h n eb
    by false eb true ec z = subst (λ m. is_known k1 m ≡ true) (same_name_true w.name n ec) e
    by false eb false ec z = absurd (let i : false ≡ true = sym (λ j. eb j || (ec j || false)) ∙ z in cc)

below_both : (k k1 : Names) (w : Var) → Below k k1 → Below (k ++ w.name ∷ []) (k1 ++ w.name ∷ [])
below_both k k1 w h n a = by (is_known k n) refl (sym (names-append k (w.name ∷ []) n) ∙ a)
  where
    by : (b : Bool) → is_known k n ≡ b → (is_known k n || is_known (w.name ∷ []) n) ≡ true → is_known (k1 ++ w.name ∷ []) n ≡ true
    by true eb z = names-append k1 (w.name ∷ []) n ∙ ap (λ b. b || is_known (w.name ∷ []) n) (h n eb)
    by false eb z =
        names-append k1 (w.name ∷ []) n ∙ ap (λ b. is_known k1 n || b) (sym (ap (λ b. b || is_known (w.name ∷ []) n) eb) ∙ z) ∙ or_true (is_known k1 n)

twice_new : (k k1 : Names) → Below k k1 → (ws : List Var) → new_vars k1 (new_vars k ws) ≡ new_vars k1 ws
twice_new k k1 h [] = refl
twice_new k k1 h (w ∷ ws) = by (is_known k w.name) refl (is_known k1 w.name) refl (twice_new k k1 h ws) (λ e. twice_new (k ++ w.name ∷ []) k1 (below_one k k1 w h e) ws) (twice_new (k ++ w.name ∷ []) (k1 ++ w.name ∷ []) (below_both k k1 w h) ws)
  where
    by : (b : Bool) → is_known k w.name ≡ b → (c : Bool) → is_known k1 w.name ≡ c → new_vars k1 (new_vars k ws) ≡ new_vars k1 ws → (is_known k1 w.name ≡ true → new_vars k1 (new_vars (k ++ w.name ∷ []) ws) ≡ new_vars k1 ws)
        → new_vars (k1 ++ w.name ∷ []) (new_vars (k ++ w.name ∷ []) ws) ≡ new_vars (k1 ++ w.name ∷ []) ws
        → new_vars k1 (cond b (new_vars k ws) (w ∷ new_vars (k ++ w.name ∷ []) ws)) ≡ cond (is_known k1 w.name) (new_vars k1 ws) (w ∷ new_vars (k1 ++ w.name ∷ []) ws)
    by true eb c ec one two three = one ∙ sym (ap (λ x. cond x (new_vars k1 ws) (w ∷ new_vars (k1 ++ w.name ∷ []) ws)) (h w.name eb))
    by false eb true ec one two three =
        ap (λ x. cond x (new_vars k1 (new_vars (k ++ w.name ∷ []) ws)) (w ∷ new_vars (k1 ++ w.name ∷ []) (new_vars (k ++ w.name ∷ []) ws))) ec ∙ two ec
        ∙ sym (ap (λ x. cond x (new_vars k1 ws) (w ∷ new_vars (k1 ++ w.name ∷ []) ws)) ec)
    by false eb false ec one two three =
        ap (λ x. cond x (new_vars k1 (new_vars (k ++ w.name ∷ []) ws)) (w ∷ new_vars (k1 ++ w.name ∷ []) (new_vars (k ++ w.name ∷ []) ws))) ec ∙ ap (λ zs. w ∷ zs) three
        ∙ sym (ap (λ x. cond x (new_vars k1 ws) (w ∷ new_vars (k1 ++ w.name ∷ []) ws)) ec)

-- of lists one after the other

new_append : (k : Names) (xs ys : List Var) → new_vars k (xs ++ ys) ≡ new_vars k xs ++ new_vars (k ++ var_names (new_vars k xs)) ys
new_append k [] ys = ap (λ z. new_vars z ys) (sym (append-nil k))
new_append k (x ∷ xs) ys = by (is_known k x.name) (new_append k xs ys) (new_append (k ++ x.name ∷ []) xs ys)
  where
    by : (b : Bool) → new_vars k (xs ++ ys) ≡ new_vars k xs ++ new_vars (k ++ var_names (new_vars k xs)) ys → new_vars (k ++ x.name ∷ []) (xs ++ ys) ≡ new_vars (k ++ x.name ∷ []) xs ++ new_vars ((k ++ x.name ∷ []) ++ var_names (new_vars (k ++ x.name ∷ []) xs)) ys
        → cond b (new_vars k (xs ++ ys)) (x ∷ new_vars (k ++ x.name ∷ []) (xs ++ ys)) ≡ cond b (new_vars k xs) (x ∷ new_vars (k ++ x.name ∷ []) xs) ++ new_vars (k ++ var_names (cond b (new_vars k xs) (x ∷ new_vars (k ++ x.name ∷ []) xs))) ys
    by true one two = one
    by false one two = ap (λ zs. x ∷ zs) (two ∙ ap (λ z. new_vars (k ++ x.name ∷ []) xs ++ new_vars z ys) (append_assoc k (x.name ∷ []) (var_names (new_vars (k ++ x.name ∷ []) xs))))

skip : (k : Names) (xs ys : List Var) → AllKnown k xs → new_vars k (xs ++ ys) ≡ new_vars k ys
skip k xs ys h =
    new_append k xs ys ∙ (λ i. new_none k xs h i ++ new_vars (k ++ var_names (new_none k xs h i)) ys) ∙ ap (λ z. new_vars z ys) (append-nil k)

known_left : (k ns : Names) (n : List ℕ) → is_known k n ≡ true → is_known (k ++ ns) n ≡ true
known_left k ns n h = names-append k ns n ∙ ap (λ b. b || is_known ns n) h

-- what is known, or new among these, is known with the new ones
after_new : (k : Names) (xs : List Var) → AllKnown (k ++ var_names (new_vars k xs)) xs
after_new k xs x m =
    names-append k (var_names (new_vars k xs)) x.name ∙ ap (λ b. is_known k x.name || b) (known_new k xs x.name ∙ ap (λ b. not (is_known k x.name) && b) (member_known xs x m))
    ∙ sym (or_more (is_known k x.name) true) ∙ or_true (is_known k x.name)

-- what an embedded rule leaves open, by lists alone: its state facts add nothing
pub rule_new : (v L A R : List Var) → let K : Names = var_names (v ++ L) in new_vars K ((v ++ L) ++ (A ++ ((v ++ new_vars (var_names v) (L ++ (A ++ R))) ++ R))) ≡ new_vars K (A ++ R)
rule_new v L A R =
    let K : Names = var_names (v ++ L) in
    let ns : List Var = new_vars (var_names v) (L ++ (A ++ R)) in
    let K1 : Names = K ++ var_names (new_vars K A) in
    let K2 : Names = K1 ++ var_names (new_vars K1 ns) in
    let all : AllKnown K (v ++ L) = λ x m. member_known (v ++ L) x m in
    let all_v : AllKnown K1 v = λ x m. known_left K (var_names (new_vars K A)) x.name (all x (member_left L m)) in
    let all_L : AllKnown K1 L = λ x m. known_left K (var_names (new_vars K A)) x.name (all x (member_right v m)) in
    let below : Below (var_names v) K1 = λ n h. known_left K (var_names (new_vars K A)) n (subst (λ k. is_known k n ≡ true) (sym (map_joined (λ (x : Var). x.name) v L)) (known_left (var_names v) (var_names L) n h)) in
    let again : new_vars K1 ns ≡ new_vars K1 R = twice_new (var_names v) K1 below (L ++ (A ++ R)) ∙ skip K1 L (A ++ R) all_L ∙ skip K1 A R (after_new K A) in
    let none : new_vars K2 R ≡ [] = ap (λ z. new_vars (K1 ++ var_names z) R) again ∙ new_none (K1 ++ var_names (new_vars K1 R)) R (after_new K1 R) in
    let rest : new_vars K1 ((v ++ ns) ++ R) ≡ new_vars K1 R = ap (new_vars K1) (append_assoc v ns R) ∙ skip K1 v (ns ++ R) all_v ∙ new_append K1 ns R ∙ (λ i. again i ++ none i) ∙ append-nil (new_vars K1 R) in
    skip K (v ++ L) (A ++ ((v ++ ns) ++ R)) all ∙ new_append K A ((v ++ ns) ++ R) ∙ ap (λ z. new_vars K A ++ z) rest ∙ sym (new_append K A R)
