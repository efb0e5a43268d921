-- Notes tried by hand.
use Rattle.std.proofs.Common.{◌≡◌, ◌≤◌, ◌<◌, ◌+◌, ℕ, zero, suc, true, false, inl, inr, List, [], ◌∷◌, ◌++◌, Some, None, refl, sym, ◌∙◌, subst, ⊎_elim, arith}
use Rattle.std.proofs.lemmas.Bool.{false≢true, true≢false}
use Rattle.std.specs.Prelude.{Contains, codes, drop, ◌⊎◌}
use Rattle.sap_terms.proofs.PlainLaws.Items.{cons_cases, none_contained}
use Rattle.sap_terms.specs.Equations.{IsInstance, first, second, symmetric, asymmetric, signing, revealing, revealed}
use Rattle.sap_terms.specs.Signature.{Sig, added, arity_of, has_builtin, holds, no_builtins, with_builtin}
use Rattle.sap_terms.specs.Tree.{Tree}
use Rattle.sap_terms.specs.declared.signature.Builtin.{Builtin}
use Rattle.sap_terms.specs.declared.signature.Builtin.TheVariants.{Asymmetric, Hashing, RevealingSigning, Signing, Symmetric}
use Rattle.sap_stretches.specs.StretchExamples.{stretch}
use Rattle.sap_stretches.specs.PositionExamples.{at}
use Rattle.sap_stretches.specs.Positions.{IsFeed, IsPlaceText, LineBegins, LineEnds}
use Rattle.sap_terms.specs.declared.fact.Fact.{Fact}
use Rattle.sap_grammar.specs.FactGrammar.{IsFact, fact, fact_linear, fact_persistent}
use Rattle.sap_grammar.specs.TermGrammar.{args_none}
use Rattle.sap_grammar.specs.Words.{Word, starts, words_of}
use Rattle.sap_notes.specs.FactExamples.{facts_text, facts_tokens}
use Rattle.sap_notes.specs.FactWords.{IsFactAt}
use Rattle.sap_notes.specs.Facts.{by_arity}
use Rattle.sap_notes.specs.NoteExamples.{a_place, a_told, declared, declared_tokens, note, sdec_place, sdec_told, two_lines, with_symbol}
use Rattle.sap_notes.specs.NotedWords.{IsDeclaredAt, IsDefinedAt, IsFirstDeclaredAt}
use Rattle.sap_notes.specs.Notes.{AreAscending, IsBefore}
use Rattle.sap_notes.specs.NotesTold.{AreNotesTold, is_told, more_told, none_told}
use Rattle.sap_notes.specs.OtherSymbols.{IsAnother, speaks_of}
use Rattle.sap_notes.specs.declared.note.Kind.TheVariants.{CapturedName, ComparedName, OtherSymbol, UnusedDefinition, UnusedSymbol}
use Rattle.sap_notes.specs.declared.note.Note.{Note}

-- ---- words

h_there : IsDeclaredAt declared declared_tokens (codes "h") 2
h_there = record { is = refl; item = refl; next = refl }

pub h_first : IsFirstDeclaredAt declared declared_tokens (codes "h") 2
h_first = record { here = h_there; none_before = before } where
  before : (i : ℕ) → i < 2 → IsDeclaredAt declared declared_tokens (codes "h") i → ⊥
  before zero lt d = false≢true d.is
  before (suc zero) lt d = false≢true d.is
  before (suc (suc i)) lt d = absurd (omega (arith, lt))

pub f_first : IsFirstDeclaredAt declared declared_tokens (codes "f") 6
f_first = record { here = record { is = refl; item = refl; next = refl }; none_before = before } where
  before : (i : ℕ) → i < 6 → IsDeclaredAt declared declared_tokens (codes "f") i → ⊥
  before zero lt d = false≢true d.is
  before (suc zero) lt d = false≢true d.is
  before (suc (suc zero)) lt d = false≢true d.is
  before (suc (suc (suc zero))) lt d = false≢true d.is
  before (suc (suc (suc (suc zero)))) lt d = false≢true d.is
  before (suc (suc (suc (suc (suc zero))))) lt d = false≢true d.is
  before (suc (suc (suc (suc (suc (suc i)))))) lt d = absurd (omega (arith, lt))

pub h_again : IsDeclaredAt declared declared_tokens (codes "h") 13
h_again = record { is = refl; item = refl; next = refl }

pub h_not_first : IsFirstDeclaredAt declared declared_tokens (codes "h") 13 → ⊥
h_not_first f = f.none_before 2 (omega arith) h_there

pub f_not_at_h : IsDeclaredAt declared declared_tokens (codes "f") 2 → ⊥
f_not_at_h d = false≢true d.is

pub private_not : IsDeclaredAt declared declared_tokens (codes "private") 10 → ⊥
private_not d = false≢true d.next

pub a_not : IsDeclaredAt declared declared_tokens (codes "A") 17 → ⊥
a_not d = false≢true d.item

pub f_not_parameter : IsDeclaredAt declared declared_tokens (codes "f") 21 → ⊥
f_not_parameter d = false≢true d.item

pub f_not_behind : IsDeclaredAt declared declared_tokens (codes "f") 24 → ⊥
f_not_behind d = false≢true d.item

pub a_defined : IsDefinedAt declared declared_tokens (codes "A") 17
a_defined = record { is = refl; behind = refl }

pub h_not_defined : IsDefinedAt declared declared_tokens (codes "h") 2 → ⊥
h_not_defined d = false≢true d.behind

pub f_not_defined : IsDefinedAt declared declared_tokens (codes "f") 24 → ⊥
f_not_defined d = false≢true d.behind

pub b_not_defined : IsDefinedAt declared declared_tokens (codes "B") 17 → ⊥
b_not_defined d = false≢true d.is

-- ---- symbols

pub no_equation : (l r : Tree) → IsInstance (with_builtin no_builtins Hashing) l r → IsInstance no_builtins l r
no_equation _ _ first = first
no_equation _ _ second = second
no_equation _ _ (symmetric e) = symmetric e
no_equation _ _ (asymmetric e) = asymmetric e
no_equation _ _ (signing e) = signing e
no_equation _ _ (revealing e) = revealing e
no_equation _ _ (revealed e) = revealed e

none_held : {A : Type 0} (b : Builtin) → holds no_builtins b ≡ true → A
none_held Hashing e = absurd (false≢true e)
none_held Symmetric e = absurd (false≢true e)
none_held Asymmetric e = absurd (false≢true e)
none_held Signing e = absurd (false≢true e)
none_held RevealingSigning e = absurd (false≢true e)

pub sdec_another : IsAnother (with_symbol (codes "sdec") 2) (codes "sdec")
sdec_another = record { arity = 2; held = refl; builtin = Symmetric; spoken = refl; none_added = λ b e. none_held b e }

pub pk_another : IsAnother (with_symbol (codes "pk") 1) (codes "pk")
pk_another = record { arity = 1; held = refl; builtin = Asymmetric; spoken = refl; none_added = λ b e. none_held b e }

pub sdec_beside : IsAnother (added (with_symbol (codes "sdec") 2) Signing) (codes "sdec")
sdec_beside = record { arity = 2; held = refl; builtin = Symmetric; spoken = refl; none_added = by } where
  by : (b : Builtin) → has_builtin (added (with_symbol (codes "sdec") 2) Signing) b ≡ true → speaks_of b (codes "sdec") 2 ≡ false
  by Hashing e = absurd (false≢true e)
  by Symmetric e = absurd (false≢true e)
  by Asymmetric e = absurd (false≢true e)
  by Signing e = refl
  by RevealingSigning e = absurd (false≢true e)

same_arity : (n m : ℕ) → Some n ≡ Some m → n ≡ m
same_arity n m e = cc

-- where the builtin was added that speaks of it, it is that of the builtin
added_speaks : (g : Sig) (x : List ℕ) (n : ℕ) (b : Builtin) → arity_of g x ≡ Some n → has_builtin g b ≡ true → speaks_of b x n ≡ true → IsAnother g x → ⊥
added_speaks g x n b held has speaks a =
    let same : a.arity ≡ n = same_arity a.arity n (sym a.held ∙ held) in
    true≢false (sym speaks ∙ subst (λ m. speaks_of b x m ≡ false) same (a.none_added b has))

-- where no equation speaks of it, it is none
unspoken : (g : Sig) (x : List ℕ) (n : ℕ) → arity_of g x ≡ Some n → ((b : Builtin) → speaks_of b x n ≡ false) → IsAnother g x → ⊥
unspoken g x n held none a =
    let same : a.arity ≡ n = same_arity a.arity n (sym a.held ∙ held) in
    true≢false (sym (subst (λ m. speaks_of a.builtin x m ≡ true) same a.spoken) ∙ none a.builtin)

pub sdec_builtin : IsAnother (added (with_symbol (codes "sdec") 2) Symmetric) (codes "sdec") → ⊥
sdec_builtin a = added_speaks (added (with_symbol (codes "sdec") 2) Symmetric) (codes "sdec") 2 Symmetric refl refl refl a

pub pk_builtin : IsAnother (added (with_symbol (codes "pk") 1) Signing) (codes "pk") → ⊥
pk_builtin a = added_speaks (added (with_symbol (codes "pk") 1) Signing) (codes "pk") 1 Signing refl refl refl a

pub sdec_of_three : IsAnother (with_symbol (codes "sdec") 3) (codes "sdec") → ⊥
sdec_of_three a = unspoken (with_symbol (codes "sdec") 3) (codes "sdec") 3 refl by a where
  by : (b : Builtin) → speaks_of b (codes "sdec") 3 ≡ false
  by Hashing = refl
  by Symmetric = refl
  by Asymmetric = refl
  by Signing = refl
  by RevealingSigning = refl

pub h_unspoken : IsAnother (with_symbol (codes "h") 1) (codes "h") → ⊥
h_unspoken a = unspoken (with_symbol (codes "h") 1) (codes "h") 1 refl by a where
  by : (b : Builtin) → speaks_of b (codes "h") 1 ≡ false
  by Hashing = refl
  by Symmetric = refl
  by Asymmetric = refl
  by Signing = refl
  by RevealingSigning = refl

pub pair_unspoken : IsAnother (with_symbol (codes "pair") 2) (codes "pair") → ⊥
pair_unspoken a = unspoken (with_symbol (codes "pair") 2) (codes "pair") 2 refl by a where
  by : (b : Builtin) → speaks_of b (codes "pair") 2 ≡ false
  by Hashing = refl
  by Symmetric = refl
  by Asymmetric = refl
  by Signing = refl
  by RevealingSigning = refl

no_arity : (n : ℕ) → None ≡ Some n → ⊥
no_arity n e = absurd (cc)

pub not_held : IsAnother (with_symbol (codes "h") 1) (codes "sdec") → ⊥
not_held a = no_arity a.arity a.held

-- ---- order

before_all : (n a : Note) (ms : List Note) → IsBefore n a → ((m : Note) → Contains ms m → IsBefore n m) → (m : Note) → Contains (a ∷ ms) m → IsBefore n m
before_all n a ms b more m c = ⊎_elim (λ e. subst (IsBefore n) e b) (λ later. more m later) (cons_cases a ms m c)

before_none : (n m : Note) → Contains [] m → IsBefore n m
before_none n m c = absurd (none_contained c)

pub four_ascend : AreAscending (note OtherSymbol 3 7 ∷ note UnusedSymbol 3 7 ∷ note UnusedDefinition 9 10 ∷ note OtherSymbol 12 16 ∷ [])
four_ascend =
    let a = note OtherSymbol 3 7 in
    let b = note UnusedSymbol 3 7 in
    let c = note UnusedDefinition 9 10 in
    let d = note OtherSymbol 12 16 in (
      before_all a b (c ∷ d ∷ []) (inr (refl, omega arith)) (before_all a c (d ∷ []) (inl (omega arith)) (before_all a d [] (inl (omega arith)) (before_none a))),
      (
        before_all b c (d ∷ []) (inl (omega arith)) (before_all b d [] (inl (omega arith)) (before_none b)),
        (
          before_all c d [] (inl (omega arith)) (before_none c),
          (before_none d, tt),
        ),
      ),
    )

pub not_itself : IsBefore (note OtherSymbol 3 7) (note OtherSymbol 3 7) → ⊥
not_itself b = ⊎_elim (λ lt. omega (arith, lt)) (λ s. let lt = s.1 in omega (arith, lt)) b

pub not_later_kind : IsBefore (note UnusedSymbol 3 7) (note OtherSymbol 3 7) → ⊥
not_later_kind b = ⊎_elim (λ lt. omega (arith, lt)) (λ s. let lt = s.1 in omega (arith, lt)) b

pub not_last_kind : IsBefore (note UnusedDefinition 3 7) (note UnusedSymbol 3 7) → ⊥
not_last_kind b = ⊎_elim (λ lt. omega (arith, lt)) (λ s. let lt = s.1 in omega (arith, lt)) b

pub not_later_word : IsBefore (note OtherSymbol 9 10) (note UnusedDefinition 3 7) → ⊥
not_later_word b = ⊎_elim (λ lt. omega (arith, lt)) (λ s. let e = s.0 in omega (arith, e)) b

pub two_kinds : AreAscending (note CapturedName 3 4 ∷ note ComparedName 3 4 ∷ [])
two_kinds =
    let a = note CapturedName 3 4 in
    let b = note ComparedName 3 4 in
    (before_all a b [] (inr (refl, omega arith)) (before_none a), (before_none b, tt))

pub not_compared_first : IsBefore (note ComparedName 3 4) (note CapturedName 3 4) → ⊥
not_compared_first b = ⊎_elim (λ lt. omega (arith, lt)) (λ s. let lt = s.1 in omega (arith, lt)) b

-- ---- facts

-- a fact begins with its name and a parenthesis, or with `!`
begins : {g : Sig} {f : Fact} {ws b : List Word} → IsFact g f ws b → (starts (codes "(") (drop 1 ws) ≡ true) ⊎ (starts (codes "!") ws ≡ true)
begins (fact_linear up r) = inl refl
begins (fact_persistent up r) = inr refl

pub fact_there : (g : Sig) → IsFactAt g facts_text facts_tokens (by_arity (codes "E") 0) 4
fact_there g = record {
  fact = fact false (codes "E") [];
  key = refl;
  behind = words_of facts_text (drop 7 facts_tokens);
  spelled = record { spelled = fact_linear refl args_none; small = λ k d lt. absurd (omega (arith, lt)); sign = λ e. absurd (false≢true e) };
}

pub no_fact_of_name : (g : Sig) → IsFactAt g facts_text facts_tokens (by_arity (codes "A") 0) 1 → ⊥
no_fact_of_name g a = ⊎_elim (λ e. false≢true e) (λ e. false≢true e) (begins a.spelled.spelled)

pub no_fact_before : (g : Sig) → IsFactAt g facts_text facts_tokens (by_arity (codes "E") 0) 3 → ⊥
no_fact_before g a = ⊎_elim (λ e. false≢true e) (λ e. false≢true e) (begins a.spelled.spelled)

-- ---- what is told

first_begins : LineBegins two_lines 0 0
first_begins = record { order = omega arith; begins = λ k e. absurd (omega (arith, e)); no_feed = λ k le lt f. omega (arith, lt) }

first_ends : LineEnds two_lines 0 4
first_ends = record { order = omega arith; inside = omega arith; ends = λ lt. refl; no_feed = none } where
  none : (k : ℕ) → 0 ≤ k → k < 4 → IsFeed two_lines k → ⊥
  none zero le lt e = absurd (omega (arith, e))
  none (suc zero) le lt e = absurd (omega (arith, e))
  none (suc (suc zero)) le lt e = absurd (omega (arith, e))
  none (suc (suc (suc zero))) le lt e = absurd (omega (arith, e))
  none (suc (suc (suc (suc k)))) le lt e = absurd (omega (arith, lt))

only_four : (k : ℕ) → k + 1 ≡ 5 → k ≡ 4
only_four k e = omega (arith, e)

only_five : (k : ℕ) → 5 ≤ k → k < 6 → k ≡ 5
only_five k le lt = omega (arith, le, lt)

second_begins : LineBegins two_lines 5 5
second_begins = record {
  order = omega arith;
  begins = λ k e. subst (IsFeed two_lines) (sym (only_four k e)) refl;
  no_feed = λ k le lt f. omega (arith, le, lt);
}

second_ends : LineEnds two_lines 5 6
second_ends = record { order = omega arith; inside = omega arith; ends = λ lt. absurd (omega (arith, lt)); no_feed = none } where
  five : IsFeed two_lines 5 → ⊥
  five e = absurd (omega (arith, e))

  none : (k : ℕ) → 5 ≤ k → k < 6 → IsFeed two_lines k → ⊥
  none k le lt e = five (subst (IsFeed two_lines) (only_five k le lt) e)

sdec_stands : IsPlaceText two_lines (stretch 0 4) sdec_place
sdec_stands = record {
  position = at 1 1;
  is_position = record { from = 0; begins = first_begins; line = refl; column = refl };
  from = 0;
  begins = first_begins;
  to = 4;
  ends = first_ends;
  text = refl;
}

a_stands : IsPlaceText two_lines (stretch 5 6) a_place
a_stands = record {
  position = at 2 1;
  is_position = record { from = 5; begins = second_begins; line = refl; column = refl };
  from = 5;
  begins = second_begins;
  to = 6;
  ends = second_ends;
  text = refl;
}

pub two_told : AreNotesTold two_lines [] (note OtherSymbol 0 4 ∷ note UnusedDefinition 5 6 ∷ []) (sdec_told ++ (a_told ++ []))
two_told = more_told {t = sdec_told} {u = a_told ++ []} (is_told {t = sdec_place} sdec_stands) (more_told {t = a_told} {u = []} (is_told {t = a_place} a_stands) none_told)

nothing : (z t : List ℕ) → AreNotesTold z [] [] t → t ≡ []
nothing z _ none_told = refl

pub nothing_told : AreNotesTold two_lines [] [] a_told → ⊥
nothing_told told = some (nothing two_lines a_told told) where
  some : a_told ≡ [] → ⊥
  some e = absurd (cc)
