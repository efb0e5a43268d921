use Rattle.std.proofs.Common.{◌≡◌, ◌≤◌, ◌<◌, ◌+◌, ℕ, zero, suc, [], ◌∷◌, true, false, refl, sym, ap, subst, arith, Some}
use Rattle.std.proofs.lemmas.List.{append-nil}
use Rattle.std.specs.Prelude.{List, ◌++◌, codes}
use Rattle.std.specs.Str.{bytes_eq}
use Rattle.std.proofs.lemmas.Fmt.{decimal_digit}
use Rattle.std.proofs.lemmas.Slice.Eq.{bytes_eq-Decides}
use Rattle.sap_read.specs.declared.fault.ReadFault.TheVariants.{Lex, NoProcess}
use Rattle.sap_text.specs.declared.fault.Lex.TheVariants.{BadByte}
use Rattle.sap_stretches.specs.declared.stretch.Stretch.{Stretch}
use Rattle.sap_read_places.specs.declared.told.Told.{Told}
use Rattle.sap_stretches.specs.Positions.{IsFeed, IsPlaceText, IsPosition, LineBegins, LineEnds}
use Rattle.sap_explain.specs.Told.{IsPlaceOf, by_path, by_reading, by_words}
use Rattle.sap_where.specs.Where.{IsWhere, at_byte as place_at_byte}
use Rattle.sap_cures.specs.ByteCures.{byte_cure}
use Rattle.sap_cures.specs.ByteRows.{mark_rows, sign_rows}
use Rattle.sap_explain.specs.Advice.{advice}
use Rattle.sap_explain.specs.Cures.{IsCure, at_byte, at_word, uncured}
use Rattle.sap_explain.specs.Explained.{AreUseTexts, AreUsesTold, IsPlaceTold, IsUseText, a_use, no_use, nowhere, somewhere}
use Rattle.sap_explain.specs.ExpectedTold.{no_such, none_open, one_open}
use Rattle.sap_explain.specs.OtherTold.{IsOtherPlaceOf, no_other, other_by_reading, other_by_words}
use Rattle.sap_explain.specs.ExplainedExamples.{first_use, first_word, four_uses, four_words, nine_words, one_mark, second_use, shown_byte, used_word, uses}
use Rattle.sap_explain.proofs.Telling.{OnePosition, one_uses_text}
use Rattle.sap_explain.proofs.laws.explanations_by_hand.Goals as goal

only_one : (k : ℕ) → k + 1 ≡ 2 → k ≡ 1
only_one k e = omega (arith, e)

no_feed_there : (k : ℕ) → 2 ≤ k → k < 3 → IsFeed uses k → ⊥
no_feed_there zero le lt e = absurd (omega (arith, le))
no_feed_there (suc zero) le lt e = absurd (omega (arith, le))
no_feed_there (suc (suc zero)) le lt e = absurd (omega (arith, e))
no_feed_there (suc (suc (suc k))) le lt e = absurd (omega (arith, lt))

second : IsPosition uses 3 (record { line = 2; column = 2 })
second = record {
  from = 2;
  begins = record {
    order = omega arith;
    begins = λ k e. subst (λ (j : ℕ). IsFeed uses j) (sym (only_one k e)) refl;
    no_feed = no_feed_there;
  };
  line = refl;
  column = refl;
}

no_words : (s : Stretch) → IsWhere [] NoProcess s → ⊥
no_words s w = elim w [ ]

no_place : (t : Told) → IsPlaceOf [] NoProcess t → ⊥
no_place t (by_words w u) = no_words t.word w
no_place t (by_path h a) = absurd (cc (h))
no_place t (by_reading r) = r

abbrev byte : Stretch
byte = record { from = 0; to = 1 }

begins : LineBegins one_mark 0 0
begins = record {
  order = omega arith;
  begins = λ k e. absurd (omega (arith, e));
  no_feed = λ k le lt. absurd (omega (arith, lt));
}

no_feed_first : (k : ℕ) → k < 1 → IsFeed one_mark k → ⊥
no_feed_first zero lt e = absurd (omega (arith, e))
no_feed_first (suc k) lt e = absurd (omega (arith, lt))

ends : LineEnds one_mark 0 1
ends = record {
  order = omega arith;
  inside = omega arith;
  ends = λ lt. absurd (omega (arith, lt));
  no_feed = λ k le lt. no_feed_first k lt;
}

byte_text : IsPlaceText one_mark byte shown_byte
byte_text = record {
  position = record { line = 1; column = 1 };
  is_position = record { from = 0; begins = begins; line = refl; column = refl };
  from = 0;
  begins = begins;
  to = 1;
  ends = ends;
  text = refl;
}

abbrev told : Told
told = record { word = byte; uses = [] }

at_byte_0 : IsWhere one_mark (Lex (BadByte 0)) byte
at_byte_0 = place_at_byte refl (omega arith) refl

is_told : IsPlaceOf one_mark (Lex (BadByte 0)) told
is_told = (by_words at_byte_0 refl)

place_told : IsPlaceTold one_mark (Lex (BadByte 0)) (shown_byte ++ [])
place_told = somewhere is_told byte_text (record { texts = []; are = no_use; text = refl })

-- it has no other place, and no process has none
no_other_byte : (s : Stretch) → IsOtherPlaceOf one_mark (Lex (BadByte 0)) s → ⊥
no_other_byte s (other_by_words w) = elim w [ ]
no_other_byte s (other_by_reading h is) = elim h [ ]

no_other_process : (s : Stretch) → IsOtherPlaceOf [] NoProcess s → ⊥
no_other_process s (other_by_words w) = elim w [ ]
no_other_process s (other_by_reading h is) = elim h [ ]

-- no row says anything of this byte, and of no process none does
some_same : {a b : ℕ} → Some a ≡ Some b → a ≡ b
some_same e = cc

no_cure_there : (t : List ℕ) → IsCure one_mark (Lex (BadByte 0)) t → ⊥
unfolding mark_rows sign_rows
no_cure_there t (at_byte b c) = absurd (cc (subst (λ (n : ℕ). byte_cure one_mark n ≡ Some t) (sym (some_same b)) c))
no_cure_there t (at_word s a w c) = absurd (cc (s))

no_cure_nowhere : (t : List ℕ) → IsCure [] NoProcess t → ⊥
no_cure_nowhere t (at_byte b c) = absurd (cc (b))
no_cure_nowhere t (at_word s a w c) = absurd (cc (s))

pub returns-clause-somewhere : goal.returns-clause-somewhere
returns-clause-somewhere c = record {
  place = shown_byte ++ [];
  is_place = place_told;
  other = [];
  is_other = no_other no_other_byte;
  wanted = [];
  is_wanted = no_such refl;
  change = advice (Lex (BadByte 0));
  is_change = uncured no_cure_there;
  text = sym (ap (λ (p : List ℕ). p ++ (advice (Lex (BadByte 0)) ++ (10 ∷ []))) (append-nil shown_byte));
}

pub returns-clause-nowhere : goal.returns-clause-nowhere
returns-clause-nowhere c = record { place = []; is_place = nowhere no_place; other = []; is_other = no_other no_other_process; wanted = []; is_wanted = no_such refl; change = advice NoProcess; is_change = uncured no_cure_nowhere; text = refl }

-- the name on the first line, and what is told of each use
first : IsPosition uses 0 (record { line = 1; column = 1 })
first = record {
  from = 0;
  begins = record {
    order = omega arith;
    begins = λ k e. absurd (omega (arith, e));
    no_feed = λ k le lt. absurd (omega (arith, lt));
  };
  line = refl;
  column = refl;
}

at_second : IsUseText uses used_word second_use
at_second = record {
  position = record { line = 2; column = 2 };
  is_position = second;
  text = ap (λ (d : List ℕ). codes "in P, used at line " ++ (d ++ (10 ∷ []))) (sym (decimal_digit 2 (omega arith)));
}

at_first : IsUseText uses first_word first_use
at_first = record {
  position = record { line = 1; column = 1 };
  is_position = first;
  text = ap (λ (d : List ℕ). codes "in P, used at line " ++ (d ++ (10 ∷ []))) (sym (decimal_digit 1 (omega arith)));
}

-- one use, two, and eight
abbrev one_told : AreUseTexts uses (used_word ∷ []) (second_use ++ [])
one_told = a_use at_second no_use

two_told : AreUseTexts uses (used_word ∷ first_word ∷ []) (second_use ++ (first_use ++ []))
two_told = a_use at_second (a_use at_first no_use)

more_told : {us : List Stretch} {t : List ℕ} → AreUseTexts uses us t → AreUseTexts uses (four_words ++ us) (first_use ++ (first_use ++ (first_use ++ (first_use ++ t))))
more_told h = a_use at_first (a_use at_first (a_use at_first (a_use at_first h)))

eight_told : AreUseTexts uses (four_words ++ four_words) (first_use ++ (first_use ++ (first_use ++ (first_use ++ (first_use ++ (first_use ++ (first_use ++ (first_use ++ []))))))))
eight_told = more_told (more_told no_use)

is_used : AreUsesTold uses (used_word ∷ []) second_use
is_used = record { texts = _; are = one_told; text = refl }

are_two : AreUsesTold uses (used_word ∷ first_word ∷ []) (second_use ++ first_use)
are_two = record { texts = _; are = two_told; text = refl }

are_nine : AreUsesTold uses nine_words (four_uses ++ (four_uses ++ codes "and 1 more\n"))
are_nine = record {
  texts = _;
  are = eight_told;
  text = ap (λ (d : List ℕ). four_uses ++ (four_uses ++ (codes "and " ++ (d ++ codes " more\n")))) (sym (decimal_digit 1 (omega arith)));
}

-- another text is not told
not_told : OnePosition → {us : List Stretch} {t : List ℕ} (x : List ℕ) → AreUsesTold uses us t → bytes_eq t x ≡ false → AreUsesTold uses us x → ⊥
not_told one {us = us} {t = t} x h other g =
    let same : t ≡ x = one_uses_text one uses us us t x refl h g in
    let equal : bytes_eq t x ≡ true = (bytes_eq-Decides t x).1 same in
    absurd (cc (other, equal))

pub returns-clause-used : goal.returns-clause-used
returns-clause-used c = is_used

pub returns-clause-unused : goal.returns-clause-unused
returns-clause-unused c = record { texts = []; are = no_use; text = refl }

pub returns-clause-two : goal.returns-clause-two
returns-clause-two c = are_two

pub returns-clause-eight : goal.returns-clause-eight
returns-clause-eight c = record { texts = _; are = eight_told; text = refl }

pub returns-clause-nine : goal.returns-clause-nine
returns-clause-nine c = are_nine

pub returns-clause-not_untold : goal.returns-clause-not_untold
returns-clause-not_untold c = not_told c.one_place_text.ensures.positions [] is_used refl

pub returns-clause-not_reversed : goal.returns-clause-not_reversed
returns-clause-not_reversed c = not_told c.one_place_text.ensures.positions (first_use ++ second_use) are_two refl

pub returns-clause-not_one : goal.returns-clause-not_one
returns-clause-not_one c = (not_told c.one_place_text.ensures.positions second_use are_two refl, not_told c.one_place_text.ensures.positions first_use are_two refl)

pub returns-clause-not_nine : goal.returns-clause-not_nine
returns-clause-not_nine c = (
  not_told c.one_place_text.ensures.positions (four_uses ++ (four_uses ++ second_use)) are_nine refl,
  not_told c.one_place_text.ensures.positions (four_uses ++ four_uses) are_nine refl,
  not_told c.one_place_text.ensures.positions (four_uses ++ (four_uses ++ codes "and 9 more\n")) are_nine refl,
)

pub returns-clause-opened : goal.returns-clause-opened
returns-clause-opened c = (one_open second, none_open)
