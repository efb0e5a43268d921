-- One step of reading, and what was read before.
use Rattle.std.proofs.Common.{◌≡◌, ◌≤◌, ◌<◌, ◌+◌, ℕ, List, [], ◌∷◌, ◌++◌, append_assoc, length, take, drop, refl, sym, ap, subst, ◌∙◌, arith}
use Rattle.std.specs.Prelude.{Ok, Err}
use Rattle.std.proofs.lemmas.Grind.{common_steps}
use Rattle.sap_text.specs.declared.token.Kind.{Kind}
use Rattle.sap_text.specs.declared.token.Token.{Token}
use Rattle.sap_text.specs.declared.fault.Lex.{Lex}
use Rattle.sap_text.specs.declared.fault.Lex.TheVariants as fault
use Rattle.sap_text.specs.Tokens.{line_feeds, counted, IsLongest, IsSkip, IsFault, bad_byte, bad_content, open_comment, open_quote, Lexed, before, IsLexed, skipped, taken, long}
use Rattle.sap_text.specs.code.Front.{AtFront, all_before}
use Rattle.sap_text.specs.Told.{Told}

pub taken_front : (n : ℕ) (p b : List ℕ) → length p ≡ n → take n (p ++ b) ≡ p
taken_front n p b e = rw (sym e) (grind (arith, common_steps))

pub dropped_front : (n : ℕ) (p b : List ℕ) → length p ≡ n → drop n (p ++ b) ≡ b
dropped_front n p b e = rw (sym e) (grind (arith, common_steps))

module _ (most at line n : ℕ) (z : List ℕ) (o : Lexed) where
  pub step_skip : AtFront IsSkip z n → IsLexed most (at + n) (line + line_feeds (take n z)) (drop n z) o → IsLexed most at line z o
  step_skip s r =
      let t : take n z ≡ s.part = ap (λ y. take n y) s.whole ∙ taken_front n s.part s.rest s.counts in
      let d : drop n z ≡ s.rest = ap (λ y. drop n y) s.whole ∙ dropped_front n s.part s.rest s.counts in
      let q : IsLexed most (at + n) (line + line_feeds s.part) s.rest o =
      subst (λ (y : List ℕ). IsLexed most (at + n) (line + line_feeds y) s.rest o) t (subst (λ (y : List ℕ). IsLexed most (at + n) (line + line_feeds (take n z)) y o) d r) in
      subst (λ (y : List ℕ). IsLexed most at line y o) (sym s.whole)
      (skipped s.is (subst (λ (k : ℕ). IsLexed most (at + k) (line + line_feeds s.part) s.rest o) (sym s.counts) q))

  pub step_taken : (k : Kind) → AtFront (IsLongest k) z n → counted k n ≤ most → IsLexed most (at + n) line (drop n z) o
      → IsLexed most at line z (before (record { kind = k; from = at; to = at + n; line = line }) o)
  step_taken k s le r =
      let d : drop n z ≡ s.rest = ap (λ y. drop n y) s.whole ∙ dropped_front n s.part s.rest s.counts in
      let q : IsLexed most (at + n) line s.rest o = subst (λ (y : List ℕ). IsLexed most (at + n) line y o) d r in
      subst (λ (i : ℕ). IsLexed most at line z (before (record { kind = k; from = at; to = at + i; line = line }) o)) s.counts
      (subst (λ (y : List ℕ). IsLexed most at line y (before (record { kind = k; from = at; to = at + length s.part; line = line }) o)) (sym s.whole)
      (taken s.is (subst (λ (i : ℕ). counted k i ≤ most) (sym s.counts) le) (subst (λ (i : ℕ). IsLexed most (at + i) line s.rest o) (sym s.counts) q)))

pub step_long : (most at line n : ℕ) (z : List ℕ) (k : Kind) → AtFront (IsLongest k) z n → most < counted k n → IsLexed most at line z (Err (fault.NameLong at))
step_long most at line n z k s lt =
    subst (λ (y : List ℕ). IsLexed most at line y (Err (fault.NameLong at))) (sym s.whole) (long s.is (subst (λ (i : ℕ). most < counted k i) (sym s.counts) lt))

pub push_before : (ts : List Token) (t : Token) (o : Lexed) → all_before (ts ++ (t ∷ [])) o ≡ all_before ts (before t o)
push_before ts t (Ok us) = ap Ok (append_assoc ts (t ∷ []) us)
push_before ts t (Err f) = refl

pub none_before : (o : Lexed) → all_before [] o ≡ o
none_before (Ok us) = refl
none_before (Err f) = refl

pub fault_told : (most at : ℕ) (w z : List ℕ) (f : Lex) → IsFault at w f → IsLexed most 0 1 z (Err f) → Told most z (Err f)
fault_told most at w z f (bad_byte a b c) r = r
fault_told most at w z f (bad_content a b c d e g h) r = r
fault_told most at w z f (open_comment a) r = r
fault_told most at w z f (open_quote a) r = r

pub feeds_most : (p : List ℕ) → line_feeds p ≤ length p
feeds_most p = grind (arith, common_steps)
