use Rattle.std.proofs.Common.{◌≡◌, refl, arith}
use Rattle.sap_macro.specs.Located.{nil_at, call_at}
use Rattle.sap_origin.specs.Reached.{number_of}
use Rattle.sap_stems.specs.WrittenPlaces.{place_itself, place_left, place_right, place_copy, place_behind, place_then, place_else, place_found, place_missing}
use Rattle.sap_head_words.proofs.SomeHeads.{at_place}
use Rattle.sap_head_words.proofs.laws.places_by_hand.Goals as goal

pub returns-clause-itself : goal.returns-clause-itself
returns-clause-itself c = place_itself

pub returns-clause-first_branch : goal.returns-clause-first_branch
returns-clause-first_branch c = place_left (place_behind (place_then place_itself))

pub returns-clause-second_branch : goal.returns-clause-second_branch
returns-clause-second_branch c = place_left (place_behind (place_else place_itself))

pub returns-clause-found : goal.returns-clause-found
returns-clause-found c = place_right (place_copy (place_found place_itself))

pub returns-clause-missing : goal.returns-clause-missing
returns-clause-missing c = place_right (place_copy (place_missing place_itself))

pub returns-clause-no_other_number : goal.returns-clause-no_other_number
returns-clause-no_other_number c = λ q h.
    at_place h (λ q. number_of q ≡ 10 → ⊥) (
      (λ e. absurd (omega (arith, e))),
      (
        ((λ e. absurd (omega (arith, e))), ((λ e. absurd (omega (arith, e))), ((λ e. absurd (omega (arith, e))), (λ e. absurd (omega (arith, e)))))),
        ((λ e. absurd (omega (arith, e))), ((λ e. absurd (omega (arith, e))), ((λ e. absurd (omega (arith, e))), (λ e. absurd (omega (arith, e)))))),
      ),
    )

pub returns-clause-no_other_missing : goal.returns-clause-no_other_missing
returns-clause-no_other_missing c = λ h.
    at_place h (λ q. q ≡ nil_at 15 → ⊥) (
      (λ e. absurd (cc (e))),
      (
        ((λ e. absurd (cc (e))), ((λ e. absurd (cc (e))), ((λ e. absurd (cc (e))), (λ e. absurd (cc (e)))))),
        ((λ e. absurd (cc (e))), ((λ e. absurd (cc (e))), ((λ e. absurd (cc (e))), (λ e. absurd (cc (e)))))),
      ),
    ) refl

pub returns-clause-uses : goal.returns-clause-uses
returns-clause-uses c = λ k f ts q h. at_place h (λ q. q ≡ call_at k f ts) refl
