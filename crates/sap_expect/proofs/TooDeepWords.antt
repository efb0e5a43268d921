-- A wrong word, and what is expected in its place.
use Rattle.std.proofs.Common.{◌≡◌, ◌≤◌, ◌<◌, ◌+◌, ℕ, zero, suc, List, [], ◌∷◌, ◌++◌, refl, sym, ap, ◌∙◌, subst, arith, length, get_or, take, drop, true, false, Option, Some, None, Result, Ok, Err}
use Rattle.std.specs.Prelude.{IfOk, MatchOption}
use Rattle.std.specs.Bool.{Decides}
use Rattle.sap_terms.proofs.PlainLaws.Numbers.{same_number}
use Rattle.sap_text.specs.declared.token.Token.{Token}
use Rattle.sap_grammar.specs.Words.{Word, word_of, words_of}
use Rattle.sap_grammar.proofs.ReadingLaws.Tokens.{length-words}
use Rattle.sap_expect.specs.declared.nested.Nested.{Nested}
use Rattle.sap_expect.specs.declared.nested.Nested.TheVariants.{Term as ATerm, Process as AProcess, Formula as AFormula}
use Rattle.sap_expect.specs.Expected.{Expected, IsExpected, fewer_levels, may_stand, one_of, too_deep}
use Rattle.sap_expect.specs.FileTable.{Open, all_but, file}
use Rattle.sap_expect.specs.FileWords.{IsFileWords}
use Rattle.sap_expect.specs.FirstWrong.{GoOn, IsFirstWrong}
use Rattle.sap_expect.specs.Letters.{AreLettered}
use Rattle.sap_expect.specs.Levels.{AreTakenBy, IsTooDeep}
use Rattle.sap_expect.specs.code.Going.{CanGoBy, StandsBehind}
use Rattle.sap_expect.proofs.FirstWrong.{one_longer, token_at}
use Rattle.sap_expect.proofs.KindNames.{one_list}
use Rattle.sap_expect.proofs.KindReached.{front_goes, lettered_front, take_take}
use Rattle.sap_expect.proofs.Taken.{all_more, last_taken, one_nested, taken_more}

-- the word is the one of this number
longer : (k : ℕ) (ws rest : List Word) (w : Word) → drop k ws ≡ w ∷ rest → take (k + 1) ws ≡ take k ws ++ (w ∷ [])
longer k ws rest w e =
    let i : k + 1 ≡ suc k = omega arith in
    ap (λ (j : ℕ). take j ws) i ∙ one_longer k ws rest w e

module _ (c : Nested) (z : List ℕ) (ts : List Token) (k : ℕ) (d : Token) (n : ℕ) (vs : List Open) where
  front : k < length ts → take (k + 1) (words_of z ts) ≡ take k (words_of z ts) ++ (word_of z (get_or ts k d) ∷ [])
  front lt = longer k (words_of z ts) (drop (suc k) (words_of z ts)) (word_of z (get_or ts k d)) (token_at z k ts d lt)

  pub deep_is : k < length ts → StandsBehind (words_of z ts) k n vs → IsFirstWrong IsFileWords (words_of z ts) k → CanGoBy (all_but c) n vs (word_of z (get_or ts k d))
      → IsTooDeep c (take (k + 1) (words_of z ts))
  deep_is lt s f g = record {
    isnt = f.wrong (omega (arith, lt, length-words z ts));
    alone = (g.0, g.1, subst (λ (x : List Word). AreTakenBy (all_but c) 0 file x g.0 g.1) (sym (front lt)) (taken_more (all_more (all_but c) s.1) g.2));
  }

  pub deep_back : k < length ts → StandsBehind (words_of z ts) k n vs → IsTooDeep c (take (k + 1) (words_of z ts)) → CanGoBy (all_but c) n vs (word_of z (get_or ts k d))
  deep_back lt s h =
      let j = h.alone.0 in
      let next = h.alone.1 in
      (j, next, last_taken (take k (words_of z ts)) s.1 (subst (λ (x : List Word). AreTakenBy (all_but c) 0 file x j next) (front lt) h.alone.2))

past : (k : ℕ) (ws : List Word) → length ws ≤ k → take (suc k) ws ≡ take k ws
past zero [] le = refl
past zero (w ∷ ws) le = absurd (omega (arith, le))
past (suc k) [] le = refl
past (suc k) (w ∷ ws) le = ap (λ (x : List Word). w ∷ x) (past k ws (omega (arith, le)))

-- where no word is left none is too deep
pub none_deep : (c : Nested) (z : List ℕ) (ts : List Token) (k : ℕ) → length ts ≤ k → IsFirstWrong IsFileWords (words_of z ts) k → IsTooDeep c (take (k + 1) (words_of z ts)) → ⊥
none_deep c z ts k le f h =
    let i : k + 1 ≡ suc k = omega arith in
    let all : take (k + 1) (words_of z ts) ≡ take k (words_of z ts) = ap (λ (j : ℕ). take j (words_of z ts)) i ∙ past k (words_of z ts) (omega (arith, le, length-words z ts)) in
    h.isnt (subst (λ (x : List Word). GoOn IsFileWords x) (sym all) f.before)

-- one thing is expected
pub one_is_expected : (ws : List Word) (k : ℕ) (e f : Expected) → AreLettered ws → IsExpected ws k e → IsExpected ws k f → e ≡ f
one_is_expected ws k e f l (too_deep {c = c} h) (too_deep {c = d} g) = ap fewer_levels (one_nested c d (take (k + 1) ws) (lettered_front (k + 1) ws l) h g)
one_is_expected ws k e f l (too_deep {c = c} h) (may_stand never g) = absurd (never c h)
one_is_expected ws k e f l (may_stand never h) (too_deep {c = d} g) = absurd (never d g)
one_is_expected ws k e f l (may_stand {those = a} never h) (may_stand {those = b} nor g) = ap one_of (one_list h g)

not_wrong : (ws : List Word) (j k : ℕ) → IsFirstWrong IsFileWords ws j → IsFirstWrong IsFileWords ws k → j < k → ⊥
not_wrong ws j k a b lt =
    let most = b.inside in
    a.wrong (omega (arith, lt, most)) (subst (λ (x : List Word). GoOn IsFileWords x) (take_take (j + 1) k ws (omega (arith, lt))) (front_goes (j + 1) (take k ws) b.before))

-- one word is the first wrong one
pub one_wrong : (ws : List Word) (j k : ℕ) → IsFirstWrong IsFileWords ws j → IsFirstWrong IsFileWords ws k → j ≡ k
one_wrong ws j k a b = same_number j k (not_wrong ws j k a b) (not_wrong ws k j b a)

-- what is tried one by one
pub is_so : {A : Type 0} → Decides true A → A
is_so d = d.0 refl

pub isnt_so : {A : Type 0} → Decides false A → A → ⊥
isnt_so d a = absurd (cc (d.1 a))

pub none_of_three : (P : Nested → Type 0) → Decides false (P ATerm) → Decides false (P AProcess) → Decides false (P AFormula) → (c : Nested) → P c → ⊥
none_of_three P a b d ATerm p = isnt_so a p
none_of_three P a b d AProcess p = isnt_so b p
none_of_three P a b d AFormula p = isnt_so d p

-- what is told of the token of this number
pub told_at : {E : Type 0} (z : List ℕ) (ts : List Token) (k : ℕ) (d : Token) (n : ℕ) (vs : List Open) (w : Word) → w ≡ word_of z (get_or ts k d) → (r : Result (Option Nested) E) → k < length ts
    → StandsBehind (words_of z ts) k n vs → IsFirstWrong IsFileWords (words_of z ts) k
    → IfOk r (λ o. MatchOption o ((c : Nested) → CanGoBy (all_but c) n vs w → ⊥) (λ c. CanGoBy (all_but c) n vs w))
    → IfOk r (λ o. MatchOption o ((c : Nested) → IsTooDeep c (take (k + 1) (words_of z ts)) → ⊥) (λ c. IsTooDeep c (take (k + 1) (words_of z ts))))
told_at z ts k d n vs w e (Ok None) lt s f h = λ c g. h c (subst (λ (x : Word). CanGoBy (all_but c) n vs x) (sym e) (deep_back c z ts k d n vs lt s g))
told_at z ts k d n vs w e (Ok (Some c)) lt s f h = deep_is c z ts k d n vs lt s f (subst (λ (x : Word). CanGoBy (all_but c) n vs x) e h)
told_at z ts k d n vs w e (Err m) lt s f h = tt
