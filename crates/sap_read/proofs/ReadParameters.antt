-- Parameters of definitions, as they are read and as they are spelled.
use Rattle.std.proofs.Common.{◌≡◌, ◌⊎◌, inl, inr, ℕ, List, [], ◌∷◌, ◌++◌, append_assoc, drop, Bool, true, false, Some, None, refl, sym, ap, subst, ◌∙◌}
use Rattle.std.specs.Prelude.{codes, if◌then◌else◌}
use Rattle.std.specs.Str.{bytes_eq}
use Rattle.std.proofs.lemmas.Slice.Eq.{bytes_eq-Decides}
use Rattle.sap_text.specs.declared.token.Token.{Token}
use Rattle.sap_grammar.specs.Words.{Word, mark, name, number, quoted, starts, words_of}
use Rattle.sap_grammar.specs.Reading.{name_at}
use Rattle.sap_read.specs.ItemGrammar.{AreParameters, parameters_last, parameters_more, HasParameters, without_parameters, with_parameters}
use Rattle.sap_read.specs.code.Parameters.{Params, in_front, params_in}
use Rattle.sap_grammar.proofs.ReadingLaws.OnRead.{starts_is, name_is}
use Rattle.sap_grammar.proofs.ReadingLaws.Tokens.{words-drop}

-- ---- what is read is spelled, and what is spelled is read

-- the names, and the words behind them
abbrev names_of : Params → List (List ℕ)
names_of None = []
names_of (Some r) = r.0

abbrev rest_of : Params → List Word
rest_of None = []
rest_of (Some r) = r.1

abbrev is_there : Params → Bool
is_there None = false
is_there (Some r) = true

never : {A : Type 0} (o : Params) (r : List (List ℕ) × List Word) → o ≡ None → o ≡ Some r → A
never o r e f = absurd (let no : true ≡ false = sym (ap is_there f) ∙ ap is_there e in cc (no))

spelled_here : (x : List ℕ) (m : List ℕ) (ws : List Word) (xs : List (List ℕ)) (b : List Word) → ((ys : List (List ℕ)) (d : List Word) → params_in ws ≡ Some (ys, d) → AreParameters ys ws d)
    → (s t : Bool) → bytes_eq m (codes ")") ≡ s → bytes_eq m (codes ",") ≡ t → (if s then Some (x ∷ [], ws) else (if t then in_front (x ∷ []) (params_in ws) else None)) ≡ Some (xs, b)
    → AreParameters xs (name x ∷ mark m ∷ ws) b
spelled_here x m ws xs b later true t es et h =
    let is : m ≡ codes ")" = (bytes_eq-Decides m (codes ")")).0 es in
    let names : x ∷ [] ≡ xs = ap names_of h in
    let rest : ws ≡ b = ap rest_of h in
    subst (λ ys. AreParameters ys (name x ∷ mark m ∷ ws) b) names (subst (λ n. AreParameters (x ∷ []) (name x ∷ mark n ∷ ws) b) (sym is) (subst (λ d. AreParameters (x ∷ []) (name x ∷ mark (codes ")") ∷ ws) d) rest parameters_last))
spelled_here x m ws xs b later false false es et h = absurd (cc)
spelled_here x m ws xs b later false true es et h = by (params_in ws) refl where
  is : m ≡ codes ","
  is = (bytes_eq-Decides m (codes ",")).0 et

  by : (o : Params) → params_in ws ≡ o → AreParameters xs (name x ∷ mark m ∷ ws) b
  by None e = never (in_front (x ∷ []) (params_in ws)) (xs, b) (ap (in_front (x ∷ [])) e) h
  by (Some r) e =
      let same = ap (in_front (x ∷ [])) e in
      let names : x ∷ r.0 ≡ xs = sym (ap names_of same) ∙ ap names_of h in
      let rest : r.1 ≡ b = sym (ap rest_of same) ∙ ap rest_of h in
      subst (λ ys. AreParameters ys (name x ∷ mark m ∷ ws) b) names (subst (λ n. AreParameters (x ∷ r.0) (name x ∷ mark n ∷ ws) b) (sym is) (subst (λ d. AreParameters (x ∷ r.0) (name x ∷ mark (codes ",") ∷ ws) d) rest (parameters_more (later r.0 r.1 e))))

pub params_spelled : (ws : List Word) (xs : List (List ℕ)) (b : List Word) → params_in ws ≡ Some (xs, b) → AreParameters xs ws b
params_spelled [] xs b h = absurd (cc)
params_spelled (w ∷ []) xs b h = absurd (cc)
params_spelled (name x ∷ mark m ∷ ws) xs b h = spelled_here x m ws xs b (params_spelled ws) (bytes_eq m (codes ")")) (bytes_eq m (codes ",")) refl refl h
params_spelled (name x ∷ name n ∷ ws) xs b h = absurd (cc)
params_spelled (name x ∷ number n ∷ ws) xs b h = absurd (cc)
params_spelled (name x ∷ quoted n ∷ ws) xs b h = absurd (cc)
params_spelled (mark x ∷ v ∷ ws) xs b h = absurd (cc)
params_spelled (number x ∷ v ∷ ws) xs b h = absurd (cc)
params_spelled (quoted x ∷ v ∷ ws) xs b h = absurd (cc)

pub params_read : {ws : List Word} {xs : List (List ℕ)} {b : List Word} → AreParameters xs ws b → params_in ws ≡ Some (xs, b)
params_read parameters_last = refl
params_read (parameters_more {x = x} r) = ap (in_front (x ∷ [])) (params_read r)

-- ---- turns of the reader

pub turn_last : (ws : List Word) (x : List ℕ) → name_at ws ≡ Some x → starts (codes ")") (drop 1 ws) ≡ true → params_in ws ≡ Some (x ∷ [], drop 1 (drop 1 ws))
turn_last ws x n s =
    let first = name_is ws x n in
    let second = starts_is (codes ")") (drop 1 ws) s in
    ap params_in (first ∙ ap (λ us. name x ∷ us) second)

pub turn_more : (ws : List Word) (x : List ℕ) → name_at ws ≡ Some x → starts (codes ",") (drop 1 ws) ≡ true → params_in ws ≡ in_front (x ∷ []) (params_in (drop 1 (drop 1 ws)))
turn_more ws x n s =
    let first = name_is ws x n in
    let second = starts_is (codes ",") (drop 1 ws) s in
    ap params_in (first ∙ ap (λ us. name x ∷ us) second)

pub turn_bad : (ws : List Word) (x : List ℕ) → name_at ws ≡ Some x → starts (codes ")") (drop 1 ws) ≡ false → starts (codes ",") (drop 1 ws) ≡ false → params_in ws ≡ None
turn_bad ws x n s t = ap params_in (name_is ws x n) ∙ by (drop 1 ws) s t where
  by : (us : List Word) → starts (codes ")") us ≡ false → starts (codes ",") us ≡ false → params_in (name x ∷ us) ≡ None
  by [] s t = refl
  by (mark m ∷ us) s t = rw (s, t) refl
  by (name m ∷ us) s t = refl
  by (number m ∷ us) s t = refl
  by (quoted m ∷ us) s t = refl

pub turn_none : (ws : List Word) → name_at ws ≡ None → params_in ws ≡ None
turn_none [] n = refl
turn_none (w ∷ []) n = refl
turn_none (name x ∷ v ∷ ws) n = absurd (cc)
turn_none (mark x ∷ v ∷ ws) n = refl
turn_none (number x ∷ v ∷ ws) n = refl
turn_none (quoted x ∷ v ∷ ws) n = refl

pub front_twice : (xs ys : List (List ℕ)) (o : Params) → in_front xs (in_front ys o) ≡ in_front (xs ++ ys) o
front_twice xs ys None = refl
front_twice xs ys (Some r) = ap (λ zs. Some (zs, r.1)) (sym (append_assoc xs ys r.0))

-- the same of tokens, where these names were read before the rest of them
module _ (z : List ℕ) (ts rest : List Token) (xs : List (List ℕ)) (so_far : params_in (words_of z ts) ≡ in_front xs (params_in (words_of z rest))) where
  pub no_more : name_at (words_of z rest) ≡ None → params_in (words_of z ts) ≡ None
  no_more n = so_far ∙ ap (in_front xs) (turn_none (words_of z rest) n)

  module _ (x : List ℕ) (n : name_at (words_of z rest) ≡ Some x) (behind : List Token) (is : behind ≡ drop 1 rest) where
    words_behind : words_of z behind ≡ drop 1 (words_of z rest)
    words_behind = ap (words_of z) is ∙ words-drop z 1 rest

    words_next : (next : List Token) → next ≡ drop 1 behind → words_of z next ≡ drop 1 (drop 1 (words_of z rest))
    words_next next e = ap (words_of z) e ∙ words-drop z 1 behind ∙ ap (drop 1) words_behind

    pub closes : (next : List Token) → next ≡ drop 1 behind → starts (codes ")") (words_of z behind) ≡ true → params_in (words_of z ts) ≡ Some (xs ++ x ∷ [], words_of z next)
    closes next e s =
        let found = turn_last (words_of z rest) x n (ap (starts (codes ")")) (sym words_behind) ∙ s) in
        so_far ∙ ap (in_front xs) found ∙ ap (λ ws. Some (xs ++ x ∷ [], ws)) (sym (words_next next e))

    pub stops : starts (codes ")") (words_of z behind) ≡ false → starts (codes ",") (words_of z behind) ≡ false → params_in (words_of z ts) ≡ None
    stops s t =
        so_far ∙ ap (in_front xs) (turn_bad (words_of z rest) x n (ap (starts (codes ")")) (sym words_behind) ∙ s) (ap (starts (codes ",")) (sym words_behind) ∙ t))

    pub goes_on : (next : List Token) → next ≡ drop 1 behind → starts (codes ",") (words_of z behind) ≡ true → params_in (words_of z ts) ≡ in_front (xs ++ x ∷ []) (params_in (words_of z next))
    goes_on next e t =
        let more = turn_more (words_of z rest) x n (ap (starts (codes ",")) (sym words_behind) ∙ t) in
        so_far ∙ ap (in_front xs) more ∙ front_twice xs (x ∷ []) (params_in (drop 1 (drop 1 (words_of z rest)))) ∙ ap (λ ws. in_front (xs ++ x ∷ []) (params_in ws)) (sym (words_next next e))

-- ---- what stands behind a name

-- parameters, and the words behind `=`, or neither
abbrev pub HeadOrNone : List Word → Type 0
HeadOrNone ws = ((xs : List (List ℕ)) × (b : List Word) × HasParameters xs ws b) ⊎ ((xs : List (List ℕ)) (b : List Word) → HasParameters xs ws b → ⊥)

no_equals_behind : (ws : List Word) (xs : List (List ℕ)) (d : List Word) → params_in ws ≡ Some (xs, d) → starts (codes "=") d ≡ false → (ys : List (List ℕ)) (b : List Word) → AreParameters ys ws (mark (codes "=") ∷ b) → ⊥
no_equals_behind ws xs d found none ys b r =
    let same : mark (codes "=") ∷ b ≡ d = sym (ap rest_of (params_read r)) ∙ ap rest_of found in
    let there : true ≡ false = ap (starts (codes "=")) same ∙ none in
    absurd (cc (there))

no_params : (ws : List Word) → params_in ws ≡ None → (ys : List (List ℕ)) (b : List Word) → AreParameters ys ws b → ⊥
no_params ws none ys b r = never (params_in ws) (ys, b) none (params_read r)

opens_so : {xs : List (List ℕ)} {ws b : List Word} → starts (codes "=") ws ≡ false → starts (codes "(") ws ≡ false → HasParameters xs ws b → ⊥
opens_so e p without_parameters = absurd (cc)
opens_so e p (with_parameters r) = absurd (cc)

pub neither_opens : (ws : List Word) → starts (codes "=") ws ≡ false → starts (codes "(") ws ≡ false → (xs : List (List ℕ)) (b : List Word) → HasParameters xs ws b → ⊥
neither_opens ws e p xs b h = opens_so e p h

unclosed_so : {xs : List (List ℕ)} {ws b : List Word} → starts (codes "(") ws ≡ true → params_in (drop 1 ws) ≡ None → HasParameters xs ws b → ⊥
unclosed_so s none without_parameters = absurd (cc)
unclosed_so s none (with_parameters {a = a} r) = no_params a none _ _ r

pub unclosed : (ws : List Word) → starts (codes "(") ws ≡ true → params_in (drop 1 ws) ≡ None → (xs : List (List ℕ)) (b : List Word) → HasParameters xs ws b → ⊥
unclosed ws s none xs b h = unclosed_so s none h

lacking_so : {xs : List (List ℕ)} {ws b : List Word} (ys : List (List ℕ)) (d : List Word) → starts (codes "(") ws ≡ true → params_in (drop 1 ws) ≡ Some (ys, d) → starts (codes "=") d ≡ false → HasParameters xs ws b → ⊥
lacking_so ys d s found none without_parameters = absurd (cc)
lacking_so ys d s found none (with_parameters {xs = xs} {a = a} {b = b} r) = no_equals_behind a ys d found none xs b r

pub without_equals : (ws : List Word) (ys : List (List ℕ)) (d : List Word) → starts (codes "(") ws ≡ true → params_in (drop 1 ws) ≡ Some (ys, d) → starts (codes "=") d ≡ false → (xs : List (List ℕ)) (b : List Word) → HasParameters xs ws b → ⊥
without_equals ws ys d s found none xs b h = lacking_so ys d s found none h

pub plain_head : (ws : List Word) → starts (codes "=") ws ≡ true → HasParameters [] ws (drop 1 ws)
plain_head ws s = subst (λ us. HasParameters [] us (drop 1 ws)) (sym (starts_is (codes "=") ws s)) without_parameters

pub whole_head : (ws : List Word) (xs : List (List ℕ)) (d : List Word) → starts (codes "(") ws ≡ true → params_in (drop 1 ws) ≡ Some (xs, d) → starts (codes "=") d ≡ true → HasParameters xs ws (drop 1 d)
whole_head ws xs d s found e =
    let spelled = params_spelled (drop 1 ws) xs d found in
    subst (λ us. HasParameters xs us (drop 1 d)) (sym (starts_is (codes "(") ws s)) (with_parameters (subst (λ us. AreParameters xs (drop 1 ws) us) (starts_is (codes "=") d e) spelled))

pub head_or_none : (ws : List Word) → HeadOrNone ws
head_or_none ws = by (starts (codes "=") ws) (starts (codes "(") ws) refl refl where
  behind : (xs : List (List ℕ)) (d : List Word) → starts (codes "(") ws ≡ true → params_in (drop 1 ws) ≡ Some (xs, d) → (t : Bool) → starts (codes "=") d ≡ t → HeadOrNone ws
  behind xs d s found true e = inl (xs, drop 1 d, whole_head ws xs d s found e)
  behind xs d s found false e = inr (without_equals ws xs d s found e)

  inside : starts (codes "(") ws ≡ true → (o : Params) → params_in (drop 1 ws) ≡ o → HeadOrNone ws
  inside s None e = inr (unclosed ws s e)
  inside s (Some r) e = behind r.0 r.1 s e (starts (codes "=") r.1) refl

  by : (s t : Bool) → starts (codes "=") ws ≡ s → starts (codes "(") ws ≡ t → HeadOrNone ws
  by true t e p = inl ([], drop 1 ws, plain_head ws e)
  by false true e p = inside p (params_in (drop 1 ws)) refl
  by false false e p = inr (neither_opens ws e p)

-- there is one at most
pub one_head : {xs ys : List (List ℕ)} {ws a b : List Word} → HasParameters xs ws a → HasParameters ys ws b → (xs ≡ ys) × (a ≡ b)
one_head without_parameters without_parameters = (refl, refl)
one_head (with_parameters {xs = xs} {b = a} r) (with_parameters {xs = ys} {b = b} s) = (
  sym (ap names_of (params_read r)) ∙ ap names_of (params_read s),
  ap (drop 1) (sym (ap rest_of (params_read r)) ∙ ap rest_of (params_read s)),
)
