-- What builtins and functions words are read as.
use Rattle.std.proofs.Common.{rules, ◌≡◌, ◌≤◌, ◌<◌, ℕ, zero, suc, Bool, true, false, List, [], ◌∷◌, length, drop, Option, Some, None, refl, sym, ap, subst, ◌∙◌, arith}
use Rattle.std.specs.Prelude.{codes, if◌then◌else◌, ◌&&◌, nat_le, map, option_map}
use Rattle.sap_terms.specs.declared.signature.Symbol.{Symbol}
use Rattle.sap_terms.specs.declared.signature.Builtin.{Builtin}
use Rattle.sap_terms.specs.declared.signature.Builtin.TheVariants.{Hashing, Symmetric, Asymmetric, Signing, RevealingSigning}
use Rattle.sap_grammar.specs.Words.{Word, mark, name, number, quoted, starts, is_lower}
use Rattle.sap_grammar.specs.Reading.{Read, Reader, given, name_at, names, number_at}
use Rattle.sap_grammar.specs.Declarations.{value, IsBuiltin, AreBuiltins, IsSymbol, AreSymbols, spells_hashing, spells_symmetric, spells_asymmetric, spells_signing, spells_revealing, builtins_last, builtins_more, spells_public, spells_private, symbols_last, symbols_more}
use Rattle.sap_grammar.specs.ItemReading.{is_joined, builtin_at, arity_of_digits, small_value, arity_at, is_private, with_privacy, symbol_at, mapped, is_over, on_read, in_front, whole_list}
use Rattle.sap_grammar.proofs.ReadingLaws.Limits.{fits}
use Rattle.sap_grammar.proofs.ReadingLaws.OnRead.{Says, OnRead, given_on, if_on, same_bytes, starts_is, name_is}
use Rattle.sap_terms.specs.declared.limits.TheConstants.{MOST_ARITY}

-- What is spelled so is read.

pub builtin_read : {b : Builtin} {a r : List Word} → IsBuiltin b a r → builtin_at a ≡ Some (b, r)
builtin_read spells_hashing = refl
builtin_read spells_symmetric = refl
builtin_read spells_asymmetric = refl
builtin_read spells_signing = refl
builtin_read spells_revealing = refl

pub builtin_shorter : {b : Builtin} {a r : List Word} → IsBuiltin b a r → length r < length a
builtin_shorter spells_hashing = omega arith
builtin_shorter spells_symmetric = omega arith
builtin_shorter spells_asymmetric = omega arith
builtin_shorter spells_signing = omega arith
builtin_shorter spells_revealing = omega arith

arity_read : (ds : List ℕ) → value ds ≤ MOST_ARITY → arity_of_digits ds ≡ Some (value ds)
arity_read ds le = rw (fits (value ds) MOST_ARITY le) refl

-- no bracket follows
not_private : (ws : List Word) → starts (codes "[") ws ≡ false → is_private ws ≡ false
not_private ws e = rw e refl

pub symbol_read : {s : Symbol} {a r : List Word} → IsSymbol s a r → starts (codes "[") r ≡ false → symbol_at a ≡ Some (s, r)
unfolding given
symbol_read (spells_public {f = f} {n = n} {a = a} low le) follows = rw (arity_read n le, low, follows) refl
symbol_read (spells_private {f = f} {n = n} {a = a} low le) follows = rw (arity_read n le, low) refl

pub symbol_shorter : {s : Symbol} {a r : List Word} → IsSymbol s a r → length r < length a
symbol_shorter (spells_public low le) = omega arith
symbol_shorter (spells_private low le) = omega arith

pub builtins_read : {bs : List Builtin} {a : List Word} → AreBuiltins bs a → (n : ℕ) → length a ≤ n → whole_list builtin_at n a ≡ Some bs
unfolding whole_list
builtins_read (builtins_last r) zero le = absurd (omega (arith, le, builtin_shorter r))
builtins_read (builtins_more r s) zero le = absurd (omega (arith, le, builtin_shorter r))
builtins_read (builtins_last r) (suc n) le = rw (builtin_read r) refl
builtins_read (builtins_more r s) (suc n) le = rw (builtin_read r, builtins_read s n (omega (arith, le, builtin_shorter r))) refl

pub symbols_read : {ss : List Symbol} {a : List Word} → AreSymbols ss a → (n : ℕ) → length a ≤ n → whole_list symbol_at n a ≡ Some ss
unfolding whole_list
symbols_read (symbols_last r) zero le = absurd (omega (arith, le, symbol_shorter r))
symbols_read (symbols_more r s) zero le = absurd (omega (arith, le, symbol_shorter r))
symbols_read (symbols_last r) (suc n) le = rw (symbol_read r refl) refl
symbols_read (symbols_more r s) (suc n) le = rw (symbol_read r refl, symbols_read s n (omega (arith, le, symbol_shorter r))) refl

-- What is read is spelled so.

names_is : (x : List ℕ) (ws : List Word) → names x ws ≡ true → ws ≡ name x ∷ drop 1 ws
names_is x [] e = absurd (cc)
names_is x (mark s ∷ ws) e = absurd (cc)
names_is x (name s ∷ ws) e = let same : s ≡ x = same_bytes s x e in cc
names_is x (number s ∷ ws) e = absurd (cc)
names_is x (quoted s ∷ ws) e = absurd (cc)

number_is : (ws : List Word) (x : List ℕ) → number_at ws ≡ Some x → ws ≡ number x ∷ drop 1 ws
number_is [] x e = absurd (cc)
number_is (mark s ∷ ws) x e = absurd (cc)
number_is (name s ∷ ws) x e = absurd (cc)
number_is (number s ∷ ws) x e = cc
number_is (quoted s ∷ ws) x e = absurd (cc)

both : (a b : Bool) → (a && b) ≡ true → (a ≡ true) × (b ≡ true)
both true true e = (refl, refl)
both true false e = absurd (cc)
both false b e = absurd (cc)

-- two names with a dash between them
joined_is : (x y : List ℕ) (ws : List Word) → names x ws ≡ true → is_joined y (drop 1 ws) ≡ true
    → ws ≡ name x ∷ mark (codes "-") ∷ name y ∷ drop 3 ws
joined_is x y [] e f = absurd (cc)
joined_is x y (w ∷ []) e f = absurd (cc)
joined_is x y (w ∷ v ∷ []) e f = let no : false ≡ true = (both (starts (codes "-") (v ∷ [])) false f).1 in absurd (cc)
joined_is x y (w ∷ v ∷ u ∷ ws) e f =
    let first = names_is x (w ∷ v ∷ u ∷ ws) e in
    let two = both _ _ f in
    let second = starts_is (codes "-") (v ∷ u ∷ ws) two.0 in
    let third = names_is y (u ∷ ws) two.1 in
    cc

pub builtin_sound : (ws : List Word) → OnRead (λ b r. IsBuiltin b ws r) (builtin_at ws)
builtin_sound ws =
    let Q : Says Builtin = λ b r. IsBuiltin b ws r in
    if_on Q (names (codes "hashing") ws) _ _
    (λ e. subst (λ (y : List Word). IsBuiltin Hashing y (drop 1 ws)) (sym (names_is (codes "hashing") ws e)) spells_hashing)
    (λ no. if_on Q (names (codes "signing") ws) _ _
    (λ e. subst (λ (y : List Word). IsBuiltin Signing y (drop 1 ws)) (sym (names_is (codes "signing") ws e)) spells_signing)
    (λ no. if_on Q (is_joined (codes "encryption") (drop 1 ws)) _ _
    (λ f. if_on Q (names (codes "symmetric") ws) _ _
    (λ e. subst (λ (y : List Word). IsBuiltin Symmetric y (drop 3 ws)) (sym (joined_is (codes "symmetric") (codes "encryption") ws e f)) spells_symmetric)
    (λ no. if_on Q (names (codes "asymmetric") ws) _ _
    (λ e. subst (λ (y : List Word). IsBuiltin Asymmetric y (drop 3 ws)) (sym (joined_is (codes "asymmetric") (codes "encryption") ws e f)) spells_asymmetric)
    (λ no. tt)))
    (λ no. if_on Q (is_joined (codes "signing") (drop 1 ws)) _ _
    (λ f. if_on Q (names (codes "revealing") ws) _ _
    (λ e. subst (λ (y : List Word). IsBuiltin RevealingSigning y (drop 3 ws)) (sym (joined_is (codes "revealing") (codes "signing") ws e f)) spells_revealing)
    (λ no. tt))
    (λ no. tt))))

-- the arity is that of the number that stands first
arity_is : (ws : List Word) (n : ℕ) → arity_at ws ≡ Some n → (ds : List ℕ) × (ws ≡ number ds ∷ drop 1 ws) × (value ds ≤ MOST_ARITY) × (n ≡ value ds)
arity_is ws n e = by_number (number_at ws) refl e
  where
    within : (ds : List ℕ) → ws ≡ number ds ∷ drop 1 ws → (c : Bool) → nat_le (value ds) MOST_ARITY ≡ c → (if c then Some (value ds) else None) ≡ Some n
        → (ds : List ℕ) × (ws ≡ number ds ∷ drop 1 ws) × (value ds ≤ MOST_ARITY) × (n ≡ value ds)
    within ds is true e f = (ds, is, search rules, cc)
    within ds is false e f = absurd (cc)

    by_number : (o : Option (List ℕ)) → number_at ws ≡ o → small_value o ≡ Some n → (ds : List ℕ) × (ws ≡ number ds ∷ drop 1 ws) × (value ds ≤ MOST_ARITY) × (n ≡ value ds)
    by_number None e f = absurd (cc)
    by_number (Some ds) e f = within ds (number_is ws ds e) (nat_le (value ds) MOST_ARITY) refl f

private_is : (ws : List Word) → is_private ws ≡ true → ws ≡ mark (codes "[") ∷ name (codes "private") ∷ mark (codes "]") ∷ drop 3 ws
private_is [] e = absurd (cc)
private_is (w ∷ []) e = let no : false ≡ true = (both (starts (codes "[") (w ∷ [])) false e).1 in absurd (cc)
private_is (w ∷ v ∷ []) e =
    let none : (names (codes "private") (v ∷ []) && false) ≡ true = (both (starts (codes "[") (w ∷ v ∷ [])) _ e).1 in
    let no : false ≡ true = (both (names (codes "private") (v ∷ [])) false none).1 in
    absurd (cc)
private_is (w ∷ v ∷ u ∷ ws) e =
    let one = both (starts (codes "[") (w ∷ v ∷ u ∷ ws)) _ e in
    let two = both (names (codes "private") (v ∷ u ∷ ws)) _ one.1 in
    let first = starts_is (codes "[") (w ∷ v ∷ u ∷ ws) one.0 in
    let second = names_is (codes "private") (v ∷ u ∷ ws) two.0 in
    let third = starts_is (codes "]") (u ∷ ws) two.1 in
    cc

-- the words before a symbol's privacy
symbol_front : (f : List ℕ) (ws : List Word) (n : ℕ) → name_at ws ≡ Some f → starts (codes "/") (drop 1 ws) ≡ true → arity_at (drop 2 ws) ≡ Some n
    → (ds : List ℕ) × (ws ≡ name f ∷ mark (codes "/") ∷ number ds ∷ drop 3 ws) × (value ds ≤ MOST_ARITY) × (n ≡ value ds)
symbol_front f [] n e s k = absurd (cc)
symbol_front f (w ∷ []) n e s k = absurd (cc)
symbol_front f (w ∷ v ∷ []) n e s k = absurd (cc)
symbol_front f (w ∷ v ∷ u ∷ ws) n e s k =
    let first = name_is (w ∷ v ∷ u ∷ ws) f e in
    let second = starts_is (codes "/") (v ∷ u ∷ ws) s in
    let third = arity_is (u ∷ ws) n k in
    (third.0, cc (first, second, third.1), third.2, third.3)

pub symbol_sound : (ws : List Word) → OnRead (λ s r. IsSymbol s ws r) (symbol_at ws)
symbol_sound ws =
    let Q : Says Symbol = λ s r. IsSymbol s ws r in
    given_on Q (name_at ws) _ (λ f e. given_on Q (arity_at (drop 2 ws)) _ (λ n k. if_on Q (is_lower f && starts (codes "/") (drop 1 ws)) _ _
    (λ t. with_front f n (both (is_lower f) _ t).0 (symbol_front f ws n e (both (is_lower f) _ t).1 k))
    (λ no. tt)))
  where
    with_front : (f : List ℕ) (n : ℕ) → is_lower f ≡ true
        → ((ds : List ℕ) × (ws ≡ name f ∷ mark (codes "/") ∷ number ds ∷ drop 3 ws) × (value ds ≤ MOST_ARITY) × (n ≡ value ds))
        → OnRead (λ s r. IsSymbol s ws r) (with_privacy f n (drop 3 ws))
    with_front f n low (ds, front, few, same) =
        let Q : Says Symbol = λ s r. IsSymbol s ws r in
        if_on Q (is_private (drop 3 ws)) _ _
        (λ e. subst (λ (m : ℕ). IsSymbol (record { name = f; arity = m; private = true }) ws (drop 3 (drop 3 ws))) (sym same)
        (subst (λ (y : List Word). IsSymbol (record { name = f; arity = value ds; private = true }) y (drop 3 (drop 3 ws)))
        (sym (front ∙ ap (λ q. name f ∷ mark (codes "/") ∷ number ds ∷ q) (private_is (drop 3 ws) e))) (spells_private low few)))
        (λ e. subst (λ (m : ℕ). IsSymbol (record { name = f; arity = m; private = false }) ws (drop 3 ws)) (sym same)
        (subst (λ (y : List Word). IsSymbol (record { name = f; arity = value ds; private = false }) y (drop 3 ws)) (sym front) (spells_public low few)))

-- Lists of what was read.

no_words : (r : List Word) → is_over r ≡ true → r ≡ []
no_words [] e = refl
no_words (w ∷ r) e = absurd (cc)

module _ {A : Type 0} (Is : A → List Word → List Word → Type 0) (Are : List A → List Word → Type 0)
    (last : (x : A) (a : List Word) → Is x a [] → Are (x ∷ []) a) (more : (x : A) (xs : List A) (a c : List Word) → Is x a (mark (codes ",") ∷ c) → Are xs c → Are (x ∷ xs) a)
    (u : Reader A) (sound : (ws : List Word) → OnRead (λ x r. Is x ws r) (u ws)) where
  abbrev Later : ℕ → Type 0
  Later n = (ws : List Word) (xs : List A) → whole_list u n ws ≡ Some xs → Are xs ws

  -- what is listed is spelled so
  pub list_sound : (n : ℕ) (ws : List Word) (xs : List A) → whole_list u n ws ≡ Some xs → Are xs ws
  unfolding whole_list
  list_sound zero ws xs e = absurd (cc)
  list_sound (suc n) ws xs e = by_read (list_sound n) (u ws) (sound ws) e
    where
      by_tail : Later n → (x : A) (r : List Word) → Is x ws (mark (codes ",") ∷ drop 1 r) → (o : Option (List A)) → whole_list u n (drop 1 r) ≡ o → in_front (x ∷ []) o ≡ Some xs → Are xs ws
      by_tail later x r is None f e = absurd (cc)
      by_tail later x r is (Some ys) f e = let same : x ∷ ys ≡ xs = cc in subst (λ (y : List A). Are y ws) same (more x ys ws (drop 1 r) is (later (drop 1 r) ys f))

      by_comma : Later n → (x : A) (r : List Word) → Is x ws r → (c : Bool) → starts (codes ",") r ≡ c → (if c then in_front (x ∷ []) (whole_list u n (drop 1 r)) else None) ≡ Some xs → Are xs ws
      by_comma later x r is true f e = by_tail later x r (subst (λ (y : List Word). Is x ws y) (starts_is (codes ",") r f) is) (whole_list u n (drop 1 r)) refl e
      by_comma later x r is false f e = absurd (cc)

      by_end : Later n → (x : A) (r : List Word) → Is x ws r → (c : Bool) → is_over r ≡ c
          → (if c then Some (x ∷ []) else if starts (codes ",") r then in_front (x ∷ []) (whole_list u n (drop 1 r)) else None) ≡ Some xs → Are xs ws
      by_end later x r is true f e =
          let same : x ∷ [] ≡ xs = cc in
          subst (λ (y : List A). Are y ws) same (last x ws (subst (λ (y : List Word). Is x ws y) (no_words r f) is))
      by_end later x r is false f e = by_comma later x r is (starts (codes ",") r) refl e

      by_read : Later n → (o : Read A) → OnRead (λ x r. Is x ws r) o
          → on_read o (λ x r. if is_over r then Some (x ∷ []) else if starts (codes ",") r then in_front (x ∷ []) (whole_list u n (drop 1 r)) else None) ≡ Some xs → Are xs ws
      by_read later None h e = absurd (cc)
      by_read later (Some p) h e = by_end later p.0 p.1 h (is_over p.1) refl e

pub builtins_sound : (n : ℕ) (ws : List Word) (bs : List Builtin) → whole_list builtin_at n ws ≡ Some bs → AreBuiltins bs ws
builtins_sound = list_sound IsBuiltin AreBuiltins (λ x a. builtins_last) (λ x xs a c. builtins_more) builtin_at builtin_sound

pub symbols_sound : (n : ℕ) (ws : List Word) (ss : List Symbol) → whole_list symbol_at n ws ≡ Some ss → AreSymbols ss ws
symbols_sound = list_sound IsSymbol AreSymbols (λ x a. symbols_last) (λ x xs a c. symbols_more) symbol_at symbol_sound

-- The same, as declarations.

abbrev LaterMapped : {A B : Type 0} → (A → B) → Reader A → ℕ → Type 0
LaterMapped f u n = (ws : List Word) → whole_list (λ y. mapped f (u y)) n ws ≡ option_map (map f) (whole_list u n ws)

-- other values in the place of those that were read
pub list_mapped : {A B : Type 0} (f : A → B) (u : Reader A) (n : ℕ) (ws : List Word) → whole_list (λ y. mapped f (u y)) n ws ≡ option_map (map f) (whole_list u n ws)
unfolding whole_list
list_mapped f u zero ws = refl
list_mapped {A = A} {B = B} f u (suc n) ws = by_read (list_mapped f u n) (u ws)
  where
    by_tail : (x : A) (o : Option (List A)) → in_front (f x ∷ []) (option_map (map f) o) ≡ option_map (map f) (in_front (x ∷ []) o)
    by_tail x None = refl
    by_tail x (Some ys) = refl

    by_comma : LaterMapped f u n → (x : A) (r : List Word) (c : Bool) → (if c then in_front (f x ∷ []) (whole_list (λ y. mapped f (u y)) n (drop 1 r)) else None)
        ≡ option_map (map f) (if c then in_front (x ∷ []) (whole_list u n (drop 1 r)) else None)
    by_comma later x r true = rw (later (drop 1 r)) (by_tail x (whole_list u n (drop 1 r)))
    by_comma later x r false = refl

    by_end : LaterMapped f u n → (x : A) (r : List Word) (c : Bool)
        → (if c then Some (f x ∷ []) else if starts (codes ",") r then in_front (f x ∷ []) (whole_list (λ y. mapped f (u y)) n (drop 1 r)) else None)
        ≡ option_map (map f) (if c then Some (x ∷ []) else if starts (codes ",") r then in_front (x ∷ []) (whole_list u n (drop 1 r)) else None)
    by_end later x r true = refl
    by_end later x r false = by_comma later x r (starts (codes ",") r)

    by_read : LaterMapped f u n → (o : Read A) → on_read (mapped f o) (λ x r. if is_over r then Some (x ∷ []) else if starts (codes ",") r then in_front (x ∷ []) (whole_list (λ y. mapped f (u y)) n (drop 1 r)) else None)
        ≡ option_map (map f) (on_read o (λ x r. if is_over r then Some (x ∷ []) else if starts (codes ",") r then in_front (x ∷ []) (whole_list u n (drop 1 r)) else None))
    by_read later None = refl
    by_read later (Some p) = by_end later p.0 p.1 (is_over p.1)
