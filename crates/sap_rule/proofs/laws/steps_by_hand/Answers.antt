use Rattle.std.proofs.Common.{codes, [], ◌∷◌, refl, lit<, arith}
use Rattle.std.specs.Prelude.{Contains}
use Rattle.std.proofs.lemmas.List.Elements.{All-nil, All-cons}
use Rattle.sap_terms.specs.Equal.{same, next, forward}
use Rattle.sap_terms.specs.Equations.{equations, first, pair_name, fst_name}
use Rattle.sap_terms.specs.Piles.{one, nothing}
use Rattle.sap_terms.specs.Signature.{pairs_alone}
use Rattle.sap_terms.specs.Tree.{fresh}
use Rattle.sap_rule.specs.RuleSteps.{makes_name, learns, owns, knows_public, applies, gives, uses}
use Rattle.sap_rule.specs.StepExamples.{a, b, lasting_fact, left_fact, moving, opening, pair, right_fact, shown_fact, taking_lasting}
use Rattle.sap_rule.proofs.StepForms.{own_form, fresh_normal, pair_form, first_form, names, names_messages, no_other}
use Rattle.sap_rule.proofs.laws.steps_by_hand.Goals as goal

pub returns-clause-makes_name : goal.returns-clause-makes_name
returns-clause-makes_name c = λ g rules. makes_name 5 (no_other 4 5 (λ e. omega arith))

pub returns-clause-learns : goal.returns-clause-learns
returns-clause-learns c = λ g rules. learns 1 b (one refl nothing)

pub returns-clause-owns : goal.returns-clause-owns
returns-clause-owns c = λ g rules. owns 0 4 (one refl nothing)

pub returns-clause-knows_public : goal.returns-clause-knows_public
returns-clause-knows_public c = λ g rules. knows_public (codes "b")

pub returns-clause-applies : goal.returns-clause-applies
returns-clause-applies c = λ rules. applies pair_name (b ∷ a ∷ []) (pair b a) refl refl
    (All-cons (Contains (a ∷ b ∷ [])) b (a ∷ []) (1, lit< tt, refl) (All-cons (Contains (a ∷ b ∷ [])) a [] (0, lit< tt, refl) (All-nil (Contains (a ∷ b ∷ [])))))
    (pair_form (equations pairs_alone) (codes "b") (codes "a"))

pub returns-clause-applies_normal : goal.returns-clause-applies_normal
returns-clause-applies_normal c = λ rules. applies fst_name (pair (fresh 4) b ∷ []) (fresh 4) refl refl
    (All-cons (Contains (pair (fresh 4) b ∷ [])) (pair (fresh 4) b) [] (0, lit< tt, refl) (All-nil (Contains (pair (fresh 4) b ∷ []))))
    (record { equal = next (forward first) same; normal = fresh_normal (equations pairs_alone) 4 })

pub returns-clause-gives : goal.returns-clause-gives
returns-clause-gives c = λ g rules. gives b (1, lit< tt, refl)

pub returns-clause-uses : goal.returns-clause-uses
returns-clause-uses c = λ g. uses (moving _) (1 ∷ []) names (left_fact a ∷ []) (shown_fact a ∷ []) (right_fact a ∷ []) (1, lit< tt, refl)
    (one refl nothing)
    (record {
      messages = names_messages c.names_are_messages.ensures g;
      takes = (record { name = refl; persistent = refl; args = (same, tt) }, tt);
      shows = (record { name = refl; persistent = refl; args = (first_form (equations g) (codes "a") b, tt) }, tt);
      adds = (record { name = refl; persistent = refl; args = (first_form (equations g) (codes "a") b, tt) }, tt);
    })

pub returns-clause-uses_equal : goal.returns-clause-uses_equal
returns-clause-uses_equal c = λ g. uses opening (0 ∷ []) names (left_fact a ∷ []) (shown_fact a ∷ shown_fact b ∷ []) (right_fact a ∷ left_fact b ∷ []) (0, lit< tt, refl)
    (one refl nothing)
    (record {
      messages = names_messages c.names_are_messages.ensures g;
      takes = (record { name = refl; persistent = refl; args = (next (forward first) same, tt) }, tt);
      shows = (
        record { name = refl; persistent = refl; args = (own_form (equations g) (codes "a"), tt) },
        (record { name = refl; persistent = refl; args = (own_form (equations g) (codes "b"), tt) }, tt),
      );
      adds = (
        record { name = refl; persistent = refl; args = (own_form (equations g) (codes "a"), tt) },
        (record { name = refl; persistent = refl; args = (own_form (equations g) (codes "b"), tt) }, tt),
      );
    })

pub returns-clause-uses_lasting : goal.returns-clause-uses_lasting
returns-clause-uses_lasting c = λ g. uses taking_lasting (0 ∷ 0 ∷ []) names (lasting_fact a ∷ lasting_fact a ∷ []) (shown_fact a ∷ []) []
    (0, lit< tt, refl)
    (one refl (one refl nothing))
    (record {
      messages = names_messages c.names_are_messages.ensures g;
      takes = (record { name = refl; persistent = refl; args = (same, tt) }, (record { name = refl; persistent = refl; args = (same, tt) }, tt));
      shows = (record { name = refl; persistent = refl; args = (own_form (equations g) (codes "a"), tt) }, tt);
      adds = tt;
    })
