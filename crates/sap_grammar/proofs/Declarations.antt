-- Turns of the readers of arities and of declarations.
use Rattle.std.proofs.Common.{rules, ◌≡◌, ◌≤◌, ◌<◌, ◌+◌, ◌*◌, ◌-◌, ℕ, zero, suc, Bool, true, false, List, [], ◌∷◌, ◌++◌, append_assoc, length, drop, Option, Some, None, refl, sym, ap, ◌∙◌, arith}
use Rattle.std.specs.Prelude.{codes, nat_le, map}
use Rattle.std.proofs.lemmas.List.{length-drop, map-append}
use Rattle.sap_terms.specs.declared.signature.Symbol.{Symbol}
use Rattle.sap_terms.specs.declared.signature.Builtin.{Builtin}
use Rattle.sap_text.specs.declared.token.Token.{Token}
use Rattle.sap_grammar.specs.Words.{Word, words_of, starts}
use Rattle.sap_grammar.specs.Reading.{Read, Reader, given}
use Rattle.sap_grammar.specs.Declarations.{Declaration, of_builtin, of_symbol}
use Rattle.sap_grammar.specs.Declarations.{value_from, value, IsBuiltin, IsSymbol}
use Rattle.sap_grammar.specs.ItemReading.{arity_of_digits, builtin_at, symbol_at, mapped, declaration_at, is_over, in_front, whole_list}
use Rattle.sap_grammar.specs.declared.declaration.Declaration as code
use Rattle.sap_grammar.specs.code.DeclarationView.{declaration}
use Rattle.sap_grammar.proofs.ReadingLaws.OnRead.{OnRead}
use Rattle.sap_grammar.proofs.ReadingLaws.Tokens.{words-drop, length-words}
use Rattle.sap_grammar.proofs.ItemWords.{builtin_shorter, builtin_sound, symbol_shorter, symbol_sound}
use Rattle.sap_terms.specs.declared.limits.TheConstants.{MOST_ARITY}

-- what comes later makes no value smaller
value_grows : (n : ℕ) (ds : List ℕ) → n ≤ value_from n ds
value_grows n [] = omega arith
value_grows n (d ∷ ds) = omega (arith, value_grows (n * 10 + (d - 48)) ds)

too_large : (m : ℕ) → MOST_ARITY < m → nat_le m MOST_ARITY ≡ false
too_large m lt = search rules

-- a part that is too large makes the whole too large
pub arity_stop : (all ds : List ℕ) (n : ℕ) → value all ≡ value_from n ds → MOST_ARITY < n → arity_of_digits all ≡ None
arity_stop all ds n e lt = rw (too_large (value all) (omega (arith, e, lt, value_grows n ds))) refl

pub arity_end : (all ds : List ℕ) (n : ℕ) → value all ≡ value_from n ds → ds ≡ [] → n ≤ MOST_ARITY → arity_of_digits all ≡ Some n
arity_end all ds n e none le =
    let same : value all ≡ n = e ∙ ap (λ (y : List ℕ). value_from n y) none in
    let few : nat_le n MOST_ARITY ≡ true = within n le in
    rw (same, few) refl
  where
    within : (m : ℕ) → m ≤ MOST_ARITY → nat_le m MOST_ARITY ≡ true
    within m le = search rules

pub declaration_shorter : (c : Bool) (ws r : List Word) (d : Declaration) → declaration_at c ws ≡ Some (d, r) → length r < length ws
declaration_shorter true ws r d e = by_read (builtin_at ws) (builtin_sound ws) e
  where
    by_read : (o : Read Builtin) → OnRead (λ b r. IsBuiltin b ws r) o → mapped of_builtin o ≡ Some (d, r) → length r < length ws
    by_read None h e = absurd (cc)
    by_read (Some p) h e =
        let both : ◌≡◌ {A = Declaration × List Word} (of_builtin p.0, p.1) (d, r) = cc in
        let same : p.1 ≡ r = ap (λ q. q.1) both in
        rw (← same) (builtin_shorter h)
declaration_shorter false ws r d e = by_read (symbol_at ws) (symbol_sound ws) e
  where
    by_read : (o : Read Symbol) → OnRead (λ s r. IsSymbol s ws r) o → mapped of_symbol o ≡ Some (d, r) → length r < length ws
    by_read None h e = absurd (cc)
    by_read (Some p) h e =
        let both : ◌≡◌ {A = Declaration × List Word} (of_symbol p.0, p.1) (d, r) = cc in
        let same : p.1 ≡ r = ap (λ q. q.1) both in
        rw (← same) (symbol_shorter h)

-- what follows a declaration is shorter
pub shorter : (c : Bool) (z : List ℕ) (ts next : List Token) (d : Declaration) → declaration_at c (words_of z ts) ≡ Some (d, words_of z next) → length next < length ts
shorter c z ts next d e = omega (arith, declaration_shorter c (words_of z ts) (words_of z next) d e, length-words z next, length-words z ts)

-- behind one more token
pub shorter_still : (c : Bool) (z : List ℕ) (ts next rest : List Token) (d : Declaration) → declaration_at c (words_of z ts) ≡ Some (d, words_of z next) → rest ≡ drop 1 next → length rest < length ts
shorter_still c z ts next rest d e f =
    let less : length rest ≡ length next - 1 = ap (λ (y : List Token). length y) f ∙ length-drop 1 next in
    omega (arith, less, shorter c z ts next d e)

pub declaration_nothing : (c : Bool) → declaration_at c [] ≡ None
unfolding given
declaration_nothing true = refl
declaration_nothing false = refl

pub over_words : (z : List ℕ) (ts : List Token) → ts ≡ [] → is_over (words_of z ts) ≡ true
over_words z ts e = rw e refl

pub not_over_words : (z : List ℕ) (ts : List Token) → 0 < length ts → is_over (words_of z ts) ≡ false
not_over_words z [] lt = absurd (omega (arith, lt))
not_over_words z (t ∷ ts) lt = refl

module _ (u : Reader Declaration) where
  list_stop : (n : ℕ) (ws : List Word) → u ws ≡ None → whole_list u n ws ≡ None
  unfolding whole_list
  list_stop zero ws e = refl
  list_stop (suc n) ws e = rw e refl

  list_last : (n : ℕ) (ws r : List Word) (d : Declaration) → 0 < n → u ws ≡ Some (d, r) → is_over r ≡ true → whole_list u n ws ≡ Some (d ∷ [])
  unfolding whole_list
  list_last zero ws r d lt e f = absurd (omega (arith, lt))
  list_last (suc n) ws r d lt e f = rw (e, f) refl

  list_bad : (n : ℕ) (ws r : List Word) (d : Declaration) → u ws ≡ Some (d, r) → is_over r ≡ false → starts (codes ",") r ≡ false → whole_list u n ws ≡ None
  unfolding whole_list
  list_bad zero ws r d e f h = refl
  list_bad (suc n) ws r d e f h = rw (e, f, h) refl

  list_go : (n m : ℕ) (ws r : List Word) (d : Declaration) → n ≡ suc m → u ws ≡ Some (d, r) → is_over r ≡ false → starts (codes ",") r ≡ true
      → whole_list u n ws ≡ in_front (d ∷ []) (whole_list u m (drop 1 r))
  unfolding whole_list
  list_go zero m ws r d is e f h = absurd (omega (arith, is))
  list_go (suc n) m ws r d is e f h = let same : n ≡ m = omega (arith, is) in rw (e, f, h, same) refl

front_push : (xs : List Declaration) (x : Declaration) (o : Option (List Declaration)) → in_front xs (in_front (x ∷ []) o) ≡ in_front (xs ++ (x ∷ [])) o
front_push xs x None = refl
front_push xs x (Some ys) = ap (λ (y : List Declaration). Some y) (sym (append_assoc xs (x ∷ []) ys))

pub front_none : (o : Option (List Declaration)) → in_front [] o ≡ o
front_none None = refl
front_none (Some ds) = refl

pub ruleset front_nothing = (front_none)

-- one turn of the loop, where `xs` was read before the tokens `ts`, and `all` is what reading all of them gives
module _ (c : Bool) (z : List ℕ) (ts : List Token) (xs : List Declaration) (n : ℕ) (all : Option (List Declaration)) (long : length ts < n)
    (so_far : all ≡ in_front xs (whole_list (declaration_at c) n (words_of z ts))) where
  pub turn_stop : declaration_at c (words_of z ts) ≡ None → all ≡ None
  turn_stop e = so_far ∙ ap (λ (o : Option (List Declaration)). in_front xs o) (list_stop (declaration_at c) n (words_of z ts) e)

  module _ (d : Declaration) (next : List Token) (is : declaration_at c (words_of z ts) ≡ Some (d, words_of z next)) where
    pub turn_last : (ys : List Declaration) → ys ≡ xs ++ (d ∷ []) → next ≡ [] → all ≡ Some ys
    turn_last ys f e =
        rw f (so_far ∙ ap (λ (o : Option (List Declaration)). in_front xs o) (list_last (declaration_at c) n (words_of z ts) (words_of z next) d (omega (arith, long)) is (over_words z next e)))

    pub turn_bad : 0 < length next → starts (codes ",") (words_of z next) ≡ false → all ≡ None
    turn_bad lt s = so_far ∙ ap (λ (o : Option (List Declaration)). in_front xs o) (list_bad (declaration_at c) n (words_of z ts) (words_of z next) d is (not_over_words z next lt) s)

    pub turn_go : (ys : List Declaration) (rest : List Token) → ys ≡ xs ++ (d ∷ []) → rest ≡ drop 1 next → 0 < length next → starts (codes ",") (words_of z next) ≡ true
        → (m : ℕ) × (length rest < m) × (all ≡ in_front ys (whole_list (declaration_at c) m (words_of z rest)))
    turn_go ys rest f h lt s =
        let fewer : length rest < length ts = shorter_still c z ts next rest d is h in
        let one : n ≡ suc (n - 1) = omega (arith, long, fewer) in
        let go = list_go (declaration_at c) n (n - 1) (words_of z ts) (words_of z next) d one is (not_over_words z next lt) s in
        let whole = so_far ∙ (ap (λ (o : Option (List Declaration)). in_front xs o) go ∙ front_push xs d (whole_list (declaration_at c) (n - 1) (drop 1 (words_of z next)))) in
        (n - 1, omega (arith, long, fewer), rw (f, h, words-drop z 1 next) whole)

-- one more of the program's own declarations
pub map_push : (all xs : List code.Declaration) (x : code.Declaration) → all ≡ xs ++ (x ∷ []) → map declaration all ≡ map declaration xs ++ (declaration x ∷ [])
map_push all xs x e = ap (λ (y : List code.Declaration). map declaration y) e ∙ map-append declaration xs (x ∷ [])
