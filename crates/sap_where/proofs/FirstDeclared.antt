-- Of a name that clashes a word before declares it, or it is a symbol of pairs.
use Rattle.std.proofs.Common.{◌≡◌, ◌<◌, ◌+◌, ℕ, zero, suc, Bool, true, false, List, [], ◌∷◌, ◌++◌, length, refl, sym, ap, subst, ◌∙◌, arith, ◌⊎◌, inl, inr, ⊎_elim, Option, Some, None}
use Rattle.std.specs.Prelude.{◌||◌, cond, if◌then◌else◌, is_some, map}
use Rattle.std.specs.Option.{option_map_or}
use Rattle.std.specs.Str.{bytes_eq}
use Rattle.sap_terms.proofs.PlainLaws.Known.{clash}
use Rattle.sap_terms.proofs.PlainLaws.Numbers.{same_number}
use Rattle.sap_terms.specs.Signature.{Sig, added, builtin_symbols, declared, declared_all, find_symbol, first_clash, is_held_otherwise, pairs_alone}
use Rattle.sap_terms.specs.Variables.{is_known}
use Rattle.sap_terms.specs.declared.signature.Symbol.{Symbol}
use Rattle.sap_text.specs.declared.token.Token.{Token}
use Rattle.sap_grammar.specs.Declarations.{Declaration, of_builtin, of_symbol}
use Rattle.sap_grammar.specs.Signatures.{clash_with, signature_from, with_declaration}
use Rattle.sap_where.specs.FileDeclarations.{IsClashAt, declared_at, declared_before, listed}
use Rattle.sap_where.specs.OtherPlaces.{DeclaresAt, declares}
use Rattle.sap_where.specs.Where.{IsFirst}
use Rattle.sap_where.proofs.Clashes.{signature_more}

some_same : {x y : List ℕ} → ◌≡◌ {A = Option (List ℕ)} (Some x) (Some y) → x ≡ y
some_same e = cc

none_some : {x : List ℕ} → ◌≡◌ {A = Option (List ℕ)} None (Some x) → ⊥
none_some e = absurd (cc)

false_true : false ≡ true → ⊥
false_true e = absurd (cc)

-- the name is held
abbrev Held : List Symbol → List ℕ → Type 0
Held ss x = is_some (find_symbol ss x) ≡ true

-- what is held otherwise is held
otherwise : (o : Option Symbol) (f : Symbol → Bool) → option_map_or f o false ≡ true → is_some o ≡ true
otherwise None f h = absurd (false_true h)
otherwise (Some s) f h = refl

first_clash_held : (ss xs : List Symbol) (x : List ℕ) → first_clash ss xs ≡ Some x → Held ss x
first_clash_held ss [] x h = absurd (none_some h)
first_clash_held ss (y ∷ ys) x h = by (is_held_otherwise ss y) refl h (λ e. first_clash_held ss ys x e)
  where
    by : (b : Bool) → is_held_otherwise ss y ≡ b → (if b then Some y.name else first_clash ss ys) ≡ Some x → (first_clash ss ys ≡ Some x → Held ss x) → Held ss x
    by true is same rest = subst (λ (n : List ℕ). Held ss n) (some_same same) (otherwise (find_symbol ss y.name) _ is)
    by false is later rest = rest later

clash_held : (g : Sig) (d : Declaration) (x : List ℕ) → clash_with g d ≡ Some x → Held g.symbols x
clash_held g (of_builtin b) x h = first_clash_held g.symbols (builtin_symbols b) x h
clash_held g (of_symbol s) x h = by (is_held_otherwise g.symbols s) refl h
  where
    by : (b : Bool) → is_held_otherwise g.symbols s ≡ b → (if b then Some s.name else None) ≡ Some x → Held g.symbols x
    by true is same = subst (λ (n : List ℕ). Held g.symbols n) (some_same same) (otherwise (find_symbol g.symbols s.name) _ is)
    by false is never = absurd (none_some never)

-- a name that is held with a symbol more is held without it, or is that symbol's
held_more : (ss : List Symbol) (s : Symbol) (x : List ℕ) → Held (ss ++ s ∷ []) x → Held ss x ⊎ (bytes_eq s.name x ≡ true)
held_more [] s x h = by (bytes_eq s.name x) refl h
  where
    by : (b : Bool) → bytes_eq s.name x ≡ b → is_some (cond b (Some s) None) ≡ true → Held [] x ⊎ (bytes_eq s.name x ≡ true)
    by true is same = inr is
    by false is never = absurd (false_true never)
held_more (r ∷ ss) s x h = by (bytes_eq r.name x) refl h (λ k. held_more ss s x k)
  where
    by : (b : Bool) → bytes_eq r.name x ≡ b → is_some (cond b (Some r) (find_symbol (ss ++ s ∷ []) x)) ≡ true
        → (Held (ss ++ s ∷ []) x → Held ss x ⊎ (bytes_eq s.name x ≡ true)) → Held (r ∷ ss) x ⊎ (bytes_eq s.name x ≡ true)
    by true is same rest = inl (rw is refl)
    by false is later rest = ⊎_elim (λ (k : Held ss x). inl (rw is k)) (λ k. inr k) (rest later)

held_declared : (ss : List Symbol) (s : Symbol) (x : List ℕ) → Held (declared ss s.name s.arity s.private) x → Held ss x ⊎ (bytes_eq s.name x ≡ true)
held_declared ss s x h = by (is_some (find_symbol ss s.name)) h
  where
    by : (b : Bool) → Held (if b then ss else ss ++ record { name = s.name; arity = s.arity; private = s.private } ∷ []) x → Held ss x ⊎ (bytes_eq s.name x ≡ true)
    by true k = inl k
    by false k = held_more ss (record { name = s.name; arity = s.arity; private = s.private }) x k

either : {A B C : Type 0} → A ⊎ B → (A → C) → (B → C) → C
either (inl a) f g = f a
either (inr b) f g = g b

or_first : (b c : Bool) → b ≡ true → (b || c) ≡ true
or_first true c e = refl
or_first false c e = absurd (false_true e)

or_second : (b c : Bool) → c ≡ true → (b || c) ≡ true
or_second true c e = refl
or_second false c e = e

held_all : (ss xs : List Symbol) (x : List ℕ) → Held (declared_all ss xs) x → Held ss x ⊎ (is_known (map (λ (s : Symbol). s.name) xs) x ≡ true)
held_all ss [] x h = inl h
held_all ss (y ∷ ys) x h =
    either (held_all (declared ss y.name y.arity y.private) ys x h)
    (λ here. either (held_declared ss y x here) (λ before. inl before) (λ same. inr (or_first (bytes_eq y.name x) _ same)))
    (λ later. inr (or_second (bytes_eq y.name x) _ later))

held_with : (g : Sig) (d : Declaration) (x : List ℕ) → Held (with_declaration g d).symbols x → Held g.symbols x ⊎ (declares x d ≡ true)
held_with g (of_symbol s) x h = held_declared g.symbols s x h
held_with g (of_builtin b) x h = by (is_some (first_clash g.symbols (builtin_symbols b))) h
  where
    by : (c : Bool) → Held (if c then g else added g b).symbols x → Held g.symbols x ⊎ (declares x (of_builtin b) ≡ true)
    by true k = inl k
    by false k = held_all g.symbols (builtin_symbols b) x k

module _ (z : List ℕ) (ts : List Token) (x : List ℕ) where
  -- a word before this one declares the name
  abbrev DeclaredBefore : ℕ → Type 0
  DeclaredBefore k = (j : ℕ) × (j < k) × (option_map_or (declares x) (declared_at z ts j) false ≡ true)

  later : (k : ℕ) → DeclaredBefore k → DeclaredBefore (suc k)
  later k h = let lt = h.1 in (h.0, omega (arith, lt), h.2)

  held_before : (g : Sig) (k : ℕ) → Held (signature_from g (declared_before z ts k)).symbols x → Held g.symbols x ⊎ DeclaredBefore k
  held_before g zero h = inl h
  held_before g (suc k) h =
      by (declared_at z ts k) refl (subst (λ (f : Sig). Held f.symbols x) (signature_more g (declared_before z ts k) (listed (declared_at z ts k))) h)
      (λ before. either (held_before g k before) (λ a. inl a) (λ b. inr (later k b)))
    where
      by : (o : Option Declaration) → declared_at z ts k ≡ o → Held (signature_from (signature_from g (declared_before z ts k)) (listed o)).symbols x
          → (Held (signature_from g (declared_before z ts k)).symbols x → Held g.symbols x ⊎ DeclaredBefore (suc k)) → Held g.symbols x ⊎ DeclaredBefore (suc k)
      by None is same rest = rest same
      by (Some d) is with rest = either (held_with (signature_from g (declared_before z ts k)) d x with) rest
          (λ here. inr (k, omega arith, ap (λ (o : Option Declaration). option_map_or (declares x) o false) is ∙ here))

  -- one clashes, so that a word before it declares the name, where it is no symbol of pairs
  pub declared_earlier : (k : ℕ) → find_symbol pairs_alone.symbols x ≡ None → IsClashAt z ts x k → (j : ℕ) × (j < k) × DeclaresAt z ts x j
  declared_earlier k none c =
      either (held_before pairs_alone k (clash_held (signature_from pairs_alone (declared_before z ts k)) c.declaration x c.clashes))
      (λ held. absurd (false_true (sym (ap (λ (o : Option Symbol). is_some o) none) ∙ held)))
      (λ h. let lt = h.1 in let inside = c.inside in (h.0, h.1, record { inside = omega (arith, lt, inside); is = h.2 }))

  -- none does before it, so none is told to be the first
  pub none_earlier : (k : ℕ) → find_symbol pairs_alone.symbols x ≡ None → IsClashAt z ts x k → ((i : ℕ) → i < k → DeclaresAt z ts x i → ⊥) → ⊥
  none_earlier k pairs c none = let h = declared_earlier k pairs c in none h.0 h.1 h.2

  -- before a word that doesn't declare it none does, nor before the next
  pub none_more : (k : ℕ) → false ≡ option_map_or (declares x) (declared_at z ts k) false → ((i : ℕ) → i < k → DeclaresAt z ts x i → ⊥) → (i : ℕ) → i < k + 1 → DeclaresAt z ts x i → ⊥
  none_more k here none i lt d =
      let same : i ≡ k = same_number i k (λ l. none i l d) (λ l. absurd (omega (arith, lt, l))) in
      clash (option_map_or (declares x) (declared_at z ts k) false) (subst (λ (j : ℕ). option_map_or (declares x) (declared_at z ts j) false ≡ true) same d.is) (sym here)

  pub first_here : (k : ℕ) → k < length ts → true ≡ option_map_or (declares x) (declared_at z ts k) false → ((i : ℕ) → i < k → DeclaresAt z ts x i → ⊥) → IsFirst (DeclaresAt z ts x) k
  first_here k lt here none = record { is = record { inside = lt; is = sym here }; none_before = none }
