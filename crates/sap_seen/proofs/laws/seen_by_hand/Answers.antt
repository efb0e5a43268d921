use Rattle.std.proofs.Common.{codes, ◌≡◌, ℕ, List, [], ◌∷◌, Option, Some, refl, sym, ap, subst, ◌∙◌, arith}
use Rattle.sap_macro.specs.Located.{Located, call_at}
use Rattle.sap_terms.specs.Tree.{Tree, variable}
use Rattle.sap_origin.specs.Definitions.{LocatedDefinition}
use Rattle.sap_origin.specs.Meant.{definition_of}
use Rattle.sap_origin.specs.Origins.{start}
use Rattle.sap_origin.specs.Reached.{IsLeft, Standing, entered, number_of, reaches_here, reaches_use, reaches_left, reaches_right, reaches_behind}
use Rattle.sap_origin.specs.declared.trail.Replaced.TheVariants.{Plain}
use Rattle.sap_stems.specs.StemsAt.{arguments}
use Rattle.sap_seen.specs.Examples.{SeesAt, all_four, b_body, b_left, b_right, b_use, q_body, q_is, r_body, r_is}
use Rattle.sap_seen.specs.SeenPlaces.{ComesSeen}
use Rattle.sap_seen.proofs.laws.seen_by_hand.Goals as goal

-- A has a parameter
a_stays : IsLeft all_four Plain (codes "A")
a_stays d e g = let none : d.params ≡ [] = g in absurd (cc (e, none))

sign : SeesAt [] b_body 7 []
sign = record { standing = _; comes = reaches_here tt; behind_is = refl; uses_are = refl }

through_both : SeesAt (1 ∷ []) r_body 28 (25 ∷ 18 ∷ [])
through_both = record { standing = _; comes = reaches_left (reaches_use refl refl (reaches_use refl refl (reaches_here a_stays))); behind_is = refl; uses_are = refl }

beside : SeesAt (2 ∷ []) b_right 7 []
beside = record { standing = _; comes = reaches_right (reaches_here tt); behind_is = refl; uses_are = refl }

left : SeesAt (2 ∷ 1 ∷ []) b_use 7 []
left = record { standing = _; comes = reaches_right (reaches_behind (reaches_here a_stays)); behind_is = refl; uses_are = refl }

-- along a path one comes to one place
abbrev OneSeen : Type 0
OneSeen = (s z w : Standing) (p q r : Located) (path : List ℕ) → ComesSeen all_four s p path z q → ComesSeen all_four s p path w r → (z ≡ w) × (q ≡ r)

module _ (one_seen : OneSeen) where
  -- one place, with one number of words behind it, and one chain of uses
  one_place : {path : List ℕ} {p q : Located} {n m : ℕ} {us vs : List ℕ} → SeesAt path p n us → SeesAt path q m vs → (p ≡ q) × (n ≡ m) × (us ≡ vs)
  one_place {path = path} {p = p} {q = q} a b =
      let one = one_seen (start 7) a.standing b.standing b_body p q path a.comes b.comes in (
        one.1,
        a.behind_is ∙ ap (λ (s : Standing). s.behind) one.0 ∙ sym b.behind_is,
        a.uses_are ∙ ap (λ (s : Standing). s.uses) one.0 ∙ sym b.uses_are,
      )

  other_place : {path : List ℕ} {p : Located} {k : ℕ} {us : List ℕ} (q : Located) (n : ℕ) (vs : List ℕ) → SeesAt path p k us → (number_of p ≡ number_of q → ⊥) → SeesAt path q n vs → ⊥
  other_place q n vs a other b = other (ap number_of (one_place a b).0)

  other_words : {path : List ℕ} {p : Located} {k : ℕ} {us : List ℕ} (q : Located) (n : ℕ) (vs : List ℕ) → SeesAt path p k us → (k ≡ n → ⊥) → SeesAt path q n vs → ⊥
  other_words q n vs a other b = other (one_place a b).1

  other_uses : {path : List ℕ} {p : Located} {k : ℕ} {us : List ℕ} (q : Located) (n : ℕ) (vs : List ℕ) → SeesAt path p k us → (us ≡ vs → ⊥) → SeesAt path q n vs → ⊥
  other_uses q n vs a other b = other (one_place a b).2

left_of : {s z : Standing} {q : Located} {path : List ℕ} → ComesSeen all_four s b_body (1 ∷ path) z q → ComesSeen all_four s b_left path z q
left_of (reaches_left r) = r

right_of : {s z : Standing} {q : Located} {path : List ℕ} → ComesSeen all_four s b_body (2 ∷ path) z q → ComesSeen all_four s b_right path z q
right_of (reaches_right r) = r

behind_of : {s z : Standing} {q : Located} {path : List ℕ} → ComesSeen all_four s b_right (1 ∷ path) z q → ComesSeen all_four s b_use path z q
behind_of (reaches_behind r) = r

-- below a use that is left there is nothing, and a path goes on through another
nothing : {s z : Standing} {k e : ℕ} {ts : List Tree} {path : List ℕ} {q : Located} → ComesSeen all_four s (call_at k (codes "A") ts) (e ∷ path) z q → ⊥
nothing (reaches_use {d = d} e none r) = a_stays d e none

some_is : {d e : LocatedDefinition} → ◌≡◌ {A = Option LocatedDefinition} (Some d) (Some e) → d ≡ e
some_is h = cc (h)

through : {s z : Standing} {k e : ℕ} {f : List ℕ} {ts : List Tree} {path : List ℕ} {q : Located} (d : LocatedDefinition) → definition_of all_four f ≡ Some d
    → ComesSeen all_four s (call_at k f ts) (e ∷ path) z q → ComesSeen all_four (entered s k d) d.body (e ∷ path) z q
through {s = s} {z = z} {k = k} {e = e} {path = path} {q = q} d is (reaches_use {d = c} g none r) =
    subst (λ (b : LocatedDefinition). ComesSeen all_four (entered s k b) b.body (e ∷ path) z q) (some_is (sym g ∙ is)) r

none_left : {z : Standing} {q : Located} {s : Standing} → ComesSeen all_four s b_body (1 ∷ 1 ∷ []) z q → ⊥
none_left r = nothing (through r_is refl (through q_is refl (left_of r)))

none_right : {z : Standing} {q : Located} {s : Standing} → ComesSeen all_four s b_body (2 ∷ 1 ∷ 1 ∷ []) z q → ⊥
none_right r = nothing (behind_of (right_of r))

-- the two uses of A have other arguments
abbrev letter : List ℕ → ℕ
letter [] = 0
letter (k ∷ ks) = k

abbrev first_letter : List Tree → ℕ
first_letter [] = 0
first_letter (variable v ∷ ts) = letter v.name
first_letter (t ∷ ts) = 0

not_alike : r_body ≡ b_use → ⊥
not_alike e = let same : 114 ≡ 113 = ap (λ (q : Located). first_letter (arguments q)) e in omega (arith, same)

pub returns-clause-sign : goal.returns-clause-sign
returns-clause-sign c = sign

pub returns-clause-through_both : goal.returns-clause-through_both
returns-clause-through_both c = through_both

pub returns-clause-beside : goal.returns-clause-beside
returns-clause-beside c = beside

pub returns-clause-left : goal.returns-clause-left
returns-clause-left c = left

pub returns-clause-no_use : goal.returns-clause-no_use
returns-clause-no_use c = λ n us. (other_place (c.one_written_place.ensures.one all_four Plain) b_left n us through_both (λ e. omega (arith, e)), other_place (c.one_written_place.ensures.one all_four Plain) q_body n us through_both (λ e. omega (arith, e)))

pub returns-clause-no_body : goal.returns-clause-no_body
returns-clause-no_body c = λ n us. ((λ b. let e = (one_place (c.one_written_place.ensures.one all_four Plain) through_both b).0 in cc (e)), (λ b. let e = (one_place (c.one_written_place.ensures.one all_four Plain) left b).0 in cc (e)))

pub returns-clause-no_other_use : goal.returns-clause-no_other_use
returns-clause-no_other_use c = λ n us. ((λ b. not_alike (one_place (c.one_written_place.ensures.one all_four Plain) through_both b).0), (λ b. not_alike (sym (one_place (c.one_written_place.ensures.one all_four Plain) left b).0)))

pub returns-clause-no_other_branch : goal.returns-clause-no_other_branch
returns-clause-no_other_branch c = λ n us. other_place (c.one_written_place.ensures.one all_four Plain) b_right n us through_both (λ e. omega (arith, e))

pub returns-clause-no_other_words : goal.returns-clause-no_other_words
returns-clause-no_other_words c = λ q us. (other_words (c.one_written_place.ensures.one all_four Plain) q 7 us through_both (λ e. omega (arith, e)), other_words (c.one_written_place.ensures.one all_four Plain) q 35 us through_both (λ e. omega (arith, e)))

pub returns-clause-no_other_uses : goal.returns-clause-no_other_uses
returns-clause-no_other_uses c = λ q n. (
  other_uses (c.one_written_place.ensures.one all_four Plain) q n [] through_both (λ e. cc (e)),
  other_uses (c.one_written_place.ensures.one all_four Plain) q n (18 ∷ 25 ∷ []) through_both (λ e. cc (e)),
  other_uses (c.one_written_place.ensures.one all_four Plain) q n (11 ∷ []) left (λ e. cc (e)),
)

pub returns-clause-nothing_below : goal.returns-clause-nothing_below
returns-clause-nothing_below c = λ q n us. ((λ h. none_left h.comes), (λ h. none_right h.comes))
