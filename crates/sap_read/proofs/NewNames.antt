-- New names are names, and none of them is a constant.
use Rattle.std.proofs.Common.{◌≡◌, ◌≤◌, ◌<◌, ◌^◌, ◌+◌, ◌%◌, ◌⊎◌, inl, inr, ℕ, Bool, true, false, not, ◌||◌, List, [], ◌∷◌, ◌++◌, length, Option, Some, None, refl, sym, ap, subst, ◌∙◌, ⊎_elim, arith}
use Rattle.std.specs.Prelude.{codes, decimal, if◌then◌else◌, is_some, option_map}
use Rattle.std.specs.Char.{is_ascii_digit}
use Rattle.std.specs.List.{list_all, list_any, AllByRecursion}
use Rattle.std.specs.Str.{bytes_eq}
use Rattle.std.proofs.Common.{length-append}
use Rattle.std.proofs.lemmas.Fmt.{decimal_by_steps, length-decimal-le}
use Rattle.std.proofs.lemmas.List.Folds.{list_all-append}
use Rattle.std.proofs.lemmas.Slice.Eq.{bytes_eq-Decides}
use Rattle.sap_terms.proofs.PlainLaws.Tests.{and_true, and_left, and_right}
use Rattle.sap_terms.specs.declared.signature.Builtin.{Builtin}
use Rattle.sap_terms.specs.declared.signature.Builtin.TheVariants.{Hashing, Symmetric, Asymmetric, Signing, RevealingSigning}
use Rattle.sap_terms.specs.declared.signature.Symbol.{Symbol}
use Rattle.sap_terms.specs.Signature.{Sig, find_symbol, declared, declared_all, added, builtin_symbols, first_clash, pairs_alone}
use Rattle.sap_text.specs.declared.token.Kind.TheVariants as kind
use Rattle.sap_text.specs.Tokens.{is_word, IsToken, ident}
use Rattle.sap_grammar.specs.ByteWords.{IsName}
use Rattle.sap_grammar.specs.Declarations.{Declaration, of_builtin, of_symbol}
use Rattle.sap_grammar.specs.Signatures.{signature_from, with_declaration}
use Rattle.sap_grammar.specs.TermGrammar.{IsConstant}
use Rattle.sap_grammar.specs.Words.{is_grammar_word, item_words, process_words}
use Rattle.sap_macro.specs.NewNames.{candidate}
use Rattle.sap_read.proofs.OccurringWords.{DeclaredNameIs}

-- ---- digits

digit_word : (n : ℕ) → n < 10 → is_word (48 + n) ≡ true
digit_word n lt = grind (arith, lt)

one_digit : (n : ℕ) → n < 10 → is_ascii_digit (48 + n) ≡ true
one_digit n lt = grind (arith, lt)

words_both : (xs ys : List ℕ) → list_all is_word xs ≡ true → list_all is_word ys ≡ true → list_all is_word (xs ++ ys) ≡ true
words_both xs ys h k = list_all-append is_word xs ys ∙ and_true (list_all is_word xs) (list_all is_word ys) h k

decimal_words : (n : ℕ) → n < 2 ^ 64 → list_all is_word (decimal n) ≡ true
decimal_words = decimal_by_steps (λ n ds. list_all is_word ds ≡ true) (λ n small. and_true (is_word (48 + n)) true (digit_word n small) refl)
    (λ n ds big h. words_both ds ((48 + n % 10) ∷ []) h (and_true (is_word (48 + n % 10)) true (digit_word (n % 10) (omega arith)) refl))

-- the last byte is a digit
abbrev pub ends_in_digit : List ℕ → Bool
ends_in_digit [] = false
ends_in_digit (b ∷ []) = is_ascii_digit b
ends_in_digit (b ∷ c ∷ z) = ends_in_digit (c ∷ z)

ends_behind : (xs ys : List ℕ) → ends_in_digit ys ≡ true → ends_in_digit (xs ++ ys) ≡ true
ends_behind [] ys h = h
ends_behind (x ∷ []) [] h = absurd (cc)
ends_behind (x ∷ []) (y ∷ ys) h = h
ends_behind (x ∷ z ∷ xs) ys h = ends_behind (z ∷ xs) ys h

decimal_ends : (n : ℕ) → n < 2 ^ 64 → ends_in_digit (decimal n) ≡ true
decimal_ends = decimal_by_steps (λ n ds. ends_in_digit ds ≡ true) (λ n small. one_digit n small)
    (λ n ds big h. ends_behind ds ((48 + n % 10) ∷ []) (one_digit (n % 10) (omega arith)))

-- none of these ends so
abbrev AllEndOtherwise : List (List ℕ) → Bool
AllEndOtherwise ws = list_all (λ w. not (ends_in_digit w)) ws

other_words : (x : List ℕ) (ws : List (List ℕ)) → ends_in_digit x ≡ true → AllEndOtherwise ws ≡ true → list_any (λ w. bytes_eq x w) ws ≡ false
other_words x [] e h = refl
other_words x (w ∷ ws) e h = by (bytes_eq x w) refl (other_words x ws e) where
  by : (t : Bool) → bytes_eq x w ≡ t → (AllEndOtherwise ws ≡ true → list_any (λ v. bytes_eq x v) ws ≡ false) → (t || list_any (λ v. bytes_eq x v) ws) ≡ false
  by true q later =
      let same : x ≡ w = (bytes_eq-Decides x w).0 q in
      let ends : ends_in_digit w ≡ true = subst (λ z. ends_in_digit z ≡ true) same e in
      let other : not (ends_in_digit w) ≡ true = and_left (not (ends_in_digit w)) (AllEndOtherwise ws) h in
      absurd (let no : not true ≡ true = subst (λ b. not b ≡ true) ends other in cc)
  by false q later = later (and_right (not (ends_in_digit w)) (AllEndOtherwise ws) h)

no_word : (x : List ℕ) → ends_in_digit x ≡ true → is_grammar_word x ≡ false
no_word x e =
    ap (λ b. b || list_any (λ w. bytes_eq x w) process_words) (other_words x item_words e refl) ∙ other_words x process_words e refl

-- ---- candidates

-- what stands behind the name
abbrev behind_name : List ℕ → ℕ → List ℕ
behind_name x m = if bytes_eq x (codes "sapic") then decimal m else codes "_" ++ decimal m

candidate_is : (x : List ℕ) (m : ℕ) → candidate x m ≡ x ++ behind_name x m
candidate_is x m = by (bytes_eq x (codes "sapic")) where
  by : (t : Bool) → (if t then x ++ decimal m else x ++ (codes "_" ++ decimal m)) ≡ x ++ (if t then decimal m else codes "_" ++ decimal m)
  by true = refl
  by false = refl

-- what is so of the digits, and of `_` and the digits
by_behind : (P : List ℕ → Type 0) (x : List ℕ) (m : ℕ) → P (decimal m) → P (codes "_" ++ decimal m) → P (behind_name x m)
by_behind P x m h k = by (bytes_eq x (codes "sapic")) where
  by : (t : Bool) → P (if t then decimal m else codes "_" ++ decimal m)
  by true = h
  by false = k

candidate_ends : (x : List ℕ) (m : ℕ) → m < 2 ^ 64 → ends_in_digit (candidate x m) ≡ true
candidate_ends x m small =
    ap ends_in_digit (candidate_is x m) ∙ ends_behind x (behind_name x m) (by_behind (λ s. ends_in_digit s ≡ true) x m (decimal_ends m small) (ends_behind (codes "_") (decimal m) (decimal_ends m small)))

behind_words : (x : List ℕ) (m : ℕ) → m < 2 ^ 64 → list_all is_word (behind_name x m) ≡ true
behind_words x m small = by_behind (λ s. list_all is_word s ≡ true) x m (decimal_words m small) (words_both (codes "_") (decimal m) refl (decimal_words m small))

behind_short : (x : List ℕ) (m : ℕ) → m < 2 ^ 64 → length (behind_name x m) ≤ 21
behind_short x m small =
    let few : length (decimal m) ≤ 20 = length-decimal-le 20 m (omega arith) (omega (arith, small)) small in
    let long : length (codes "_" ++ decimal m) ≡ length (codes "_") + length (decimal m) = length-append (codes "_") (decimal m) in
    by_behind (λ s. length s ≤ 21) x m (omega (arith, few)) (omega (arith, few, long))

longer_token : {x : List ℕ} (s : List ℕ) → IsToken kind.Ident x → list_all is_word s ≡ true → IsToken kind.Ident (x ++ s)
longer_token s (ident {b = b} {z = z} letter rest) h = ident letter (words_both z s rest h)

-- a candidate for a name is one
pub candidate_name : (most wide : ℕ) (x : List ℕ) (m : ℕ) → m < 2 ^ 64 → most + 21 ≤ wide → IsName most x → IsName wide (candidate x m)
candidate_name most wide x m small room h =
    let is = candidate_is x m in
    let long : length (x ++ behind_name x m) ≡ length x + length (behind_name x m) = length-append x (behind_name x m) in
    let same : length (candidate x m) ≡ length (x ++ behind_name x m) = ap length is in
    let few = behind_short x m small in
    let short = h.short in
    record {
      is = subst (λ y. IsToken kind.Ident y) (sym is) (longer_token (behind_name x m) h.is (behind_words x m small));
      no_grammar_word = no_word (candidate x m) (candidate_ends x m small);
      short = omega (arith, long, same, few, short, room);
    }

-- ---- constants

module _ (N M : List ℕ → Type 0) where
  -- a symbol that was declared, or whose name doesn't end in a digit
  abbrev IsDeclaredOrOther : Symbol → Type 0
  IsDeclaredOrOther s = N s.name ⊎ (ends_in_digit s.name ≡ false)

  abbrev AreDeclaredOrOther : List Symbol → Type 0
  AreDeclaredOrOther ss = AllByRecursion IsDeclaredOrOther ss

  last_too : (ss : List Symbol) (x : Symbol) → AreDeclaredOrOther ss → IsDeclaredOrOther x → AreDeclaredOrOther (ss ++ x ∷ [])
  last_too [] x h k = (k, tt)
  last_too (s ∷ ss) x h k = (h.0, last_too ss x h.1 k)

  declared_too : (ss : List Symbol) (x : Symbol) → AreDeclaredOrOther ss → IsDeclaredOrOther x → AreDeclaredOrOther (declared ss x.name x.arity x.private)
  declared_too ss x h k = by (is_some (find_symbol ss x.name))
    where
      by : (c : Bool) → AreDeclaredOrOther (if c then ss else ss ++ x ∷ [])
      by true = h
      by false = last_too ss x h k

  all_too : (xs ss : List Symbol) → AreDeclaredOrOther ss → AreDeclaredOrOther xs → AreDeclaredOrOther (declared_all ss xs)
  all_too [] ss h k = h
  all_too (x ∷ xs) ss h k = all_too xs (declared ss x.name x.arity x.private) (declared_too ss x h k.0) k.1

  builtin_too : (b : Builtin) → AreDeclaredOrOther (builtin_symbols b)
  builtin_too Hashing = (inr refl, tt)
  builtin_too Symmetric = (inr refl, (inr refl, tt))
  builtin_too Asymmetric = (inr refl, (inr refl, (inr refl, tt)))
  builtin_too Signing = (inr refl, (inr refl, (inr refl, (inr refl, tt))))
  builtin_too RevealingSigning = (inr refl, (inr refl, (inr refl, (inr refl, (inr refl, tt)))))

  with_too : (g : Sig) (d : Declaration) → AreDeclaredOrOther g.symbols → DeclaredNameIs N M d → AreDeclaredOrOther (with_declaration g d).symbols
  with_too g (of_symbol x) h k = declared_too g.symbols x h (inl k)
  with_too g (of_builtin b) h k = by (is_some (first_clash g.symbols (builtin_symbols b)))
    where
      by : (c : Bool) → AreDeclaredOrOther (if c then g else added g b).symbols
      by true = h
      by false = all_too (builtin_symbols b) g.symbols h (builtin_too b)

  from_too : (ds : List Declaration) (g : Sig) → AreDeclaredOrOther g.symbols → AllByRecursion (DeclaredNameIs N M) ds → AreDeclaredOrOther (signature_from g ds).symbols
  from_too [] g h k = h
  from_too (d ∷ ds) g h k = from_too ds (with_declaration g d) (with_too g d h k.0) k.1

  found_so : (ss : List Symbol) (y : List ℕ) (s : Symbol) → AreDeclaredOrOther ss → find_symbol ss y ≡ Some s → N y ⊎ (ends_in_digit y ≡ false)
  found_so [] y s h e = absurd (cc)
  found_so (t ∷ ss) y s h e = by (bytes_eq t.name y) refl e (found_so ss y s h.1) where
    by : (c : Bool) → bytes_eq t.name y ≡ c → (if c then Some t else find_symbol ss y) ≡ Some s → (find_symbol ss y ≡ Some s → N y ⊎ (ends_in_digit y ≡ false)) → N y ⊎ (ends_in_digit y ≡ false)
    by true q e later = subst (λ z. N z ⊎ (ends_in_digit z ≡ false)) ((bytes_eq-Decides t.name y).0 q) h.0
    by false q e later = later e

  -- a constant was declared, or its name doesn't end in a digit
  constant_so : (ds : List Declaration) (y : List ℕ) → AllByRecursion (DeclaredNameIs N M) ds → IsConstant (signature_from pairs_alone ds) y → N y ⊎ (ends_in_digit y ≡ false)
  constant_so ds y k c = by (find_symbol (signature_from pairs_alone ds).symbols y) refl c where
    by : (o : Option Symbol) → find_symbol (signature_from pairs_alone ds).symbols y ≡ o → option_map (λ (s : Symbol). s.arity) o ≡ Some 0 → N y ⊎ (ends_in_digit y ≡ false)
    by None q e = absurd (cc)
    by (Some s) q e = found_so (signature_from pairs_alone ds).symbols y s (from_too ds pairs_alone (inr refl, (inr refl, (inr refl, tt))) k) q

  -- a candidate that wasn't declared is none
  pub candidate_no_constant : (ds : List Declaration) (x : List ℕ) (m : ℕ) → m < 2 ^ 64 → AllByRecursion (DeclaredNameIs N M) ds → (N (candidate x m) → ⊥) → IsConstant (signature_from pairs_alone ds) (candidate x m) → ⊥
  candidate_no_constant ds x m small k never c =
      ⊎_elim never (λ (e : ends_in_digit (candidate x m) ≡ false). let ends = candidate_ends x m small in absurd (cc (ends, e))) (constant_so ds (candidate x m) k c)
