use Rattle.std.proofs.Common.{◌≡◌, ℕ, ◌+◌, List, [], ◌∷◌, refl, sym, ap, ◌∙◌, arith}
use Rattle.sap_macro.specs.Located.{Located, call_at}
use Rattle.std.specs.Prelude.{map, reverse}
use Rattle.sap_origin.specs.Examples.{ComesTo, both, out_in_p, p_body, p_is, p_use, q_is, q_name, q_use, small}
use Rattle.sap_origin.specs.Origins.{IsOrigin, start, words_left}
use Rattle.sap_origin.specs.declared.origin.FileWord.{FileWord}
use Rattle.sap_origin.specs.declared.trail.Replaced.TheVariants.{Every}
use Rattle.sap_origin.specs.Reached.{Reaches, Standing, number_of, reaches_here, reaches_use, reaches_left, reaches_right, reaches_behind}
use Rattle.sap_origin.proofs.OneReach.{one_reach}
use Rattle.sap_origin.proofs.Walked.{through}
use Rattle.sap_origin.proofs.laws.places_by_hand.Goals as goal

sign : ComesTo [] 6 []
sign = record { standing = _; place = _; reaches = reaches_here tt; word_is = refl; uses_are = refl }

through_both : ComesTo (1 ∷ []) 20 (13 ∷ 7 ∷ [])
through_both = record { standing = _; place = _; reaches = reaches_left (reaches_use refl tt (reaches_use refl tt (reaches_here tt))); word_is = refl; uses_are = refl }

beside : ComesTo (2 ∷ []) 5 []
beside = record { standing = _; place = _; reaches = reaches_right (reaches_here tt); word_is = refl; uses_are = refl }

missing_through : ComesTo (1 ∷ 1 ∷ []) 20 (13 ∷ 7 ∷ [])
missing_through = record { standing = _; place = _; reaches = reaches_left (reaches_use refl tt (reaches_use refl tt (reaches_behind (reaches_here tt)))); word_is = refl; uses_are = refl }

missing_beside : ComesTo (2 ∷ 1 ∷ []) 5 []
missing_beside = record { standing = _; place = _; reaches = reaches_right (reaches_behind (reaches_here tt)); word_is = refl; uses_are = refl }

-- one word, and one chain of uses
one_word : {path : List ℕ} {k j : ℕ} {us vs : List ℕ} → ComesTo path k us → ComesTo path j vs → (k ≡ j) × (us ≡ vs)
one_word a b =
    let one = one_reach both Every a.reaches b.reaches in (
      a.word_is ∙ ap (λ (q : Located). number_of q + a.standing.behind) one.1 ∙ ap (λ (s : Standing). number_of b.place + s.behind) one.0 ∙ sym b.word_is,
      a.uses_are ∙ ap (λ (s : Standing). s.uses) one.0 ∙ sym b.uses_are,
    )

other_word : {path : List ℕ} {k : ℕ} {us vs : List ℕ} (j : ℕ) → ComesTo path k us → (k ≡ j → ⊥) → ComesTo path j vs → ⊥
other_word j a other b = other (one_word a b).0

other_uses : {path : List ℕ} {k j : ℕ} {us : List ℕ} (vs : List ℕ) → ComesTo path k us → (us ≡ vs → ⊥) → ComesTo path j vs → ⊥
other_uses vs a other b = other (one_word a b).1

no_third_digit : {z : Standing} {q : Located} → Reaches both (start 1) small (3 ∷ []) z q → ⊥
no_third_digit r = elim r [ ]

no_second_digit : {s z : Standing} {q : Located} → Reaches both s p_body (2 ∷ []) z q → ⊥
no_second_digit r = elim r [ ]

left_of : {z : Standing} {q : Located} → Reaches both (start 1) small (1 ∷ 2 ∷ []) z q → Reaches both (start 1) (call_at 6 q_name []) (2 ∷ []) z q
left_of (reaches_left r) = r

no_second : {z : Standing} {q : Located} → Reaches both (start 1) small (1 ∷ 2 ∷ []) z q → ⊥
no_second r = no_second_digit (through both Every p_is refl tt (through both Every q_is refl tt (left_of r)))

pub returns-clause-sign : goal.returns-clause-sign
returns-clause-sign c = sign

pub returns-clause-through_both : goal.returns-clause-through_both
returns-clause-through_both c = through_both

pub returns-clause-beside : goal.returns-clause-beside
returns-clause-beside c = beside

pub returns-clause-missing : goal.returns-clause-missing
returns-clause-missing c = (missing_through, missing_beside)

pub returns-clause-no_use : goal.returns-clause-no_use
returns-clause-no_use c = λ us. (other_word 13 through_both (λ e. omega (arith, e)), other_word 7 through_both (λ e. omega (arith, e)))

pub returns-clause-no_other : goal.returns-clause-no_other
returns-clause-no_other c = λ us. other_word 5 through_both (λ e. omega (arith, e))

pub returns-clause-no_words_behind : goal.returns-clause-no_words_behind
returns-clause-no_words_behind c = λ us. other_word 4 through_both (λ e. omega (arith, e))

pub returns-clause-no_other_order : goal.returns-clause-no_other_order
returns-clause-no_other_order c = λ k. other_uses (7 ∷ 13 ∷ []) through_both (λ e. cc (e))

pub returns-clause-no_fewer : goal.returns-clause-no_fewer
returns-clause-no_fewer c = λ k. (other_uses (13 ∷ []) through_both (λ e. cc (e)), other_uses (7 ∷ []) through_both (λ e. cc (e)), other_uses [] through_both (λ e. cc (e)))

pub returns-clause-no_use_beside : goal.returns-clause-no_use_beside
returns-clause-no_use_beside c = λ k. (other_uses (7 ∷ []) beside (λ e. cc (e)), other_uses (7 ∷ []) sign (λ e. cc (e)))

pub returns-clause-origin : goal.returns-clause-origin
returns-clause-origin c =
    record { standing = _; place = _; reaches = reaches_left (reaches_use refl tt (reaches_use refl tt (reaches_here tt))); word_is = refl; uses_are = refl }

-- the word that an origin tells is that of the place
pub returns-clause-one_word : goal.returns-clause-one_word
returns-clause-one_word c = λ o h.
    let comes : ComesTo (1 ∷ []) (words_left o.word) (reverse (map words_left o.uses)) =
    record { standing = h.standing; place = h.place; reaches = h.reaches; word_is = h.word_is; uses_are = h.uses_are }
    in
    (one_word comes through_both).0

-- so it is a place to which one comes through these uses
as_place : (us : List FileWord) → IsOrigin both small 1 (1 ∷ []) (out_in_p us) → ComesTo (1 ∷ []) 20 (reverse (map words_left us))
as_place us o = record { standing = o.standing; place = o.place; reaches = o.reaches; word_is = o.word_is; uses_are = o.uses_are }

pub returns-clause-no_origin : goal.returns-clause-no_origin
returns-clause-no_origin c = (
  (λ o. other_uses (7 ∷ 13 ∷ []) through_both (λ e. cc (e)) (as_place (p_use ∷ q_use ∷ []) o)),
  (λ o. other_uses (13 ∷ []) through_both (λ e. cc (e)) (as_place (p_use ∷ []) o)),
  (λ o. other_uses [] through_both (λ e. cc (e)) (as_place [] o)),
)

pub returns-clause-nowhere : goal.returns-clause-nowhere
returns-clause-nowhere c = λ k us. ((λ h. no_third_digit h.reaches), (λ h. no_second h.reaches))
