-- One row's sentence is told at most where a cause stands, and which.
use Rattle.std.proofs.Common.{◌≡◌, ◌≤◌, ◌<◌, ◌+◌, ℕ, zero, suc, true, false, List, [], ◌∷◌, ◌++◌, append_assoc, take, drop, refl, sym, ap, ◌∙◌, subst, arith, Option, None, Some}
use Rattle.std.specs.Prelude.{MatchOption}
use Rattle.std.specs.Option.{option_copied}
use Rattle.std.specs.Borrow.{Bor}
use Rattle.sap_terms.proofs.PlainLaws.Numbers.{same_number}
use Rattle.sap_text.specs.declared.token.Token.{Token}
use Rattle.sap_grammar.specs.Words.{Word, words_of}
use Rattle.sap_read.specs.Files.{AreTokens}
use Rattle.sap_read.specs.declared.fault.ReadFault.{ReadFault}
use Rattle.sap_read.specs.declared.fault.ReadFault.TheVariants.{Syntax}
use Rattle.sap_expect.specs.FileWords.{IsFileWords}
use Rattle.sap_expect.specs.FirstWrong.{GoOn, IsFirstWrong}
use Rattle.sap_cures.specs.ByteCures.{byte_cure}
use Rattle.sap_cures.specs.WordCures.{word_cure}
use Rattle.sap_explain.specs.Cures.{IsAdvice, IsCure, at_byte, at_word, bad_byte, cured, is_syntax, uncured}

split : (m n : ℕ) (ws : List Word) → m ≤ n → take n ws ≡ take m ws ++ drop m (take n ws)
split zero n ws le = refl
split (suc m) zero ws le = absurd (omega (arith, le))
split (suc m) (suc n) [] le = refl
split (suc m) (suc n) (w ∷ ws) le = ap (λ (vs : List Word). w ∷ vs) (split m n ws (omega (arith, le)))

fewer : (m n : ℕ) (ws : List Word) → m ≤ n → GoOn IsFileWords (take n ws) → GoOn IsFileWords (take m ws)
fewer m n ws le g =
    let cut : take n ws ++ g.0 ≡ take m ws ++ (drop m (take n ws) ++ g.0) =
    ap (λ (vs : List Word). vs ++ g.0) (split m n ws le) ∙ append_assoc (take m ws) (drop m (take n ws)) g.0 in
    (drop m (take n ws) ++ g.0, subst IsFileWords cut g.1)

not_wrong : (ws : List Word) (j k : ℕ) → IsFirstWrong IsFileWords ws j → IsFirstWrong IsFileWords ws k → j < k → ⊥
not_wrong ws j k a b lt =
    let most = b.inside in
    a.wrong (omega (arith, lt, most)) (fewer (j + 1) k ws (omega (arith, lt)) b.before)

one_wrong : (ws : List Word) (j k : ℕ) → IsFirstWrong IsFileWords ws j → IsFirstWrong IsFileWords ws k → j ≡ k
one_wrong ws j k a b = same_number j k (not_wrong ws j k a b) (not_wrong ws k j b a)

some_same : {a b : ℕ} → Some a ≡ Some b → a ≡ b
some_same e = cc

some_text : (t u : List ℕ) → ◌≡◌ {A = Option (List ℕ)} (Some t) (Some u) → t ≡ u
some_text t u e = cc

none_some : (t : List ℕ) → ◌≡◌ {A = Option (List ℕ)} None (Some t) → ⊥
none_some t e = cc

true_false : true ≡ false → ⊥
true_false e = cc

-- a byte that begins no token is no piece
not_both : (at : ℕ) (e : ReadFault) → bad_byte e ≡ Some at → is_syntax e ≡ true → ⊥
not_both at (Syntax line) b s = absurd (cc (b))
not_both at _ b s = absurd (cc (s))

pub byte_only : (z : List ℕ) (e : ReadFault) (at : ℕ) (t : List ℕ) → bad_byte e ≡ Some at → IsCure z e t → byte_cure z at ≡ Some t
byte_only z e at t is (at_byte b c) = subst (λ (n : ℕ). byte_cure z n ≡ Some t) (some_same (sym b ∙ is)) c
byte_only z e at t is (at_word s a w c) = absurd (not_both at e is s)

pub word_only : (z : List ℕ) (ts : List Token) (e : ReadFault) (k : ℕ) (t : List ℕ) → is_syntax e ≡ true → ((us : List Token) → AreTokens z us → us ≡ ts)
    → IsFirstWrong IsFileWords (words_of z ts) k → IsCure z e t → word_cure (words_of z ts) k ≡ Some t
word_only z ts e k t is only w (at_byte b c) = absurd (not_both _ e b is)
word_only z ts e k t is only w (at_word {ts = us} {k = j} s a v c) =
    let same = only us a in
    let v' = subst (λ (us : List Token). IsFirstWrong IsFileWords (words_of z us) j) same v in
    let c' = subst (λ (us : List Token). word_cure (words_of z us) j ≡ Some t) same c in
    subst (λ (n : ℕ). word_cure (words_of z ts) n ≡ Some t) (one_wrong (words_of z ts) j k v' w) c'

-- what the code tells is the cure
abbrev pub Says : List ℕ → ReadFault → Option (Bor (List ℕ)) → Type 0
Says z e o = MatchOption o ((t : List ℕ) → IsCure z e t → ⊥) (λ t. IsCure z e t.now)

pub byte_says : (z : List ℕ) (e : ReadFault) (at : ℕ) (o : Option (Bor (List ℕ))) → bad_byte e ≡ Some at → option_copied o ≡ byte_cure z at → Says z e o
byte_says z e at None is told = λ t c. none_some t (told ∙ byte_only z e at t is c)
byte_says z e at (Some t) is told = at_byte is (sym told)

pub word_says : (z : List ℕ) (ts : List Token) (k : ℕ) (o : Option (Bor (List ℕ))) → AreTokens z ts → ((us : List Token) → AreTokens z us → us ≡ ts)
    → IsFirstWrong IsFileWords (words_of z ts) k → option_copied o ≡ word_cure (words_of z ts) k → (e : ReadFault) → is_syntax e ≡ true → Says z e o
word_says z ts k None are only w told e is = λ t c. none_some t (told ∙ word_only z ts e k t is only w c)
word_says z ts k (Some t) are only w told e is = at_word is are w (sym told)

-- where the words are a file's
pub file_says : (z : List ℕ) (ts : List Token) → ((us : List Token) → AreTokens z us → us ≡ ts) → IsFileWords (words_of z ts) → (e : ReadFault) → is_syntax e ≡ true
    → (t : List ℕ) → IsCure z e t → ⊥
file_says z ts only file e is t (at_byte b c) = not_both _ e b is
file_says z ts only file e is t (at_word {ts = us} s a v c) = v.isnt (subst (λ (us : List Token). IsFileWords (words_of z us)) (sym (only us a)) file)

pub other_says : (z : List ℕ) (e : ReadFault) → bad_byte e ≡ None → is_syntax e ≡ false → (t : List ℕ) → IsCure z e t → ⊥
other_says z e none isnt t (at_byte b c) = none_byte (sym none ∙ b) where
  none_byte : {at : ℕ} → ◌≡◌ {A = Option ℕ} None (Some at) → ⊥
  none_byte f = cc
other_says z e none isnt t (at_word s a v c) = true_false (sym s ∙ isnt)

-- one sentence is told
one_cure : (z : List ℕ) (e : ReadFault) → ((ts us : List Token) → AreTokens z ts → AreTokens z us → us ≡ ts) → (t u : List ℕ) → IsCure z e t → IsCure z e u → t ≡ u
one_cure z e only t u (at_byte {at = at} b c) x = some_text t u (sym c ∙ byte_only z e at u b x)
one_cure z e only t u (at_word {ts = ts} {k = k} s a v c) x = some_text t u (sym c ∙ word_only z ts e k u s (λ us. only ts us a) v x)

pub one_advice : (z : List ℕ) (e : ReadFault) → ((ts us : List Token) → AreTokens z ts → AreTokens z us → us ≡ ts) → (t u : List ℕ) → IsAdvice z e t → IsAdvice z e u → t ≡ u
one_advice z e only _ _ (cured {t = t} a) (cured {t = u} b) = one_cure z e only t u a b
one_advice z e only _ _ (cured {t = t} a) (uncured none) = absurd (none t a)
one_advice z e only _ _ (uncured none) (cured {t = u} b) = absurd (none u b)
one_advice z e only _ _ (uncured none) (uncured none_too) = refl
