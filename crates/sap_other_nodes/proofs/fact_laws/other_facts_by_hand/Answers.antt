use Rattle.std.proofs.Common.{◌≡◌, [], ◌∷◌, arith, refl, ap}
use Rattle.std.specs.Prelude.{codes, length}
use Rattle.sap_terms.specs.AdversaryFacts.{linear}
use Rattle.sap_nodes.specs.declared.part.Part.TheVariants.{Pattern, Shown, Given}
use Rattle.sap_process.specs.Sites.{above_of}
use Rattle.sap_other_nodes.specs.OtherFactExamples.{x, stored, lasting, three_events, alike, side_by_side, both_forms, shown_between, three_rules}
use Rattle.sap_other_nodes.specs.code.FactSearches.{numbered}
use Rattle.sap_other_nodes.proofs.FactsTold.{no_fact_by_hand, no_other_by_hand, not_by_hand, told_by_hand}
use Rattle.sap_other_nodes.proofs.fact_laws.other_facts_by_hand.Goals as goal

pub returns-clause-first : goal.returns-clause-first
returns-clause-first c = told_by_hand three_events (record { by_path = λ s h. c.places_are_by_path.ensures.at_path three_events (above_of [] 0) s h; listed = λ path s h. c.places_are_by_path.ensures.listed three_events (above_of [] 0) path s h; path = λ path s h. c.places_are_by_path.ensures.path three_events (above_of [] 0) path s h; in_order = λ i j s t. c.places_are_by_path.ensures.in_order three_events (above_of [] 0) i j s t; not_itself = c.places_are_ordered.ensures.not_itself; ordered = c.places_are_ordered.ensures.ordered; onward = c.places_are_ordered.ensures.onward }) (1 ∷ []) 0 (numbered 0 Shown (linear (codes "A") (x ∷ x ∷ []))) ([]) 0 (omega arith) refl refl (omega arith)

pub returns-clause-behind : goal.returns-clause-behind
returns-clause-behind c = told_by_hand three_events (record { by_path = λ s h. c.places_are_by_path.ensures.at_path three_events (above_of [] 0) s h; listed = λ path s h. c.places_are_by_path.ensures.listed three_events (above_of [] 0) path s h; path = λ path s h. c.places_are_by_path.ensures.path three_events (above_of [] 0) path s h; in_order = λ i j s t. c.places_are_by_path.ensures.in_order three_events (above_of [] 0) i j s t; not_itself = c.places_are_ordered.ensures.not_itself; ordered = c.places_are_ordered.ensures.ordered; onward = c.places_are_ordered.ensures.onward }) ([]) 0 (numbered 0 Shown (linear (codes "A") (x ∷ []))) (1 ∷ []) 0 (omega arith) refl refl (omega arith)

pub returns-clause-beside : goal.returns-clause-beside
returns-clause-beside c = told_by_hand side_by_side (record { by_path = λ s h. c.places_are_by_path.ensures.at_path side_by_side (above_of [] 0) s h; listed = λ path s h. c.places_are_by_path.ensures.listed side_by_side (above_of [] 0) path s h; path = λ path s h. c.places_are_by_path.ensures.path side_by_side (above_of [] 0) path s h; in_order = λ i j s t. c.places_are_by_path.ensures.in_order side_by_side (above_of [] 0) i j s t; not_itself = c.places_are_ordered.ensures.not_itself; ordered = c.places_are_ordered.ensures.ordered; onward = c.places_are_ordered.ensures.onward }) (2 ∷ []) 0 (numbered 0 Shown (linear (codes "A") (x ∷ x ∷ []))) (1 ∷ []) 0 (omega arith) refl refl (omega arith)

pub returns-clause-form : goal.returns-clause-form
returns-clause-form c = told_by_hand both_forms (record { by_path = λ s h. c.places_are_by_path.ensures.at_path both_forms (above_of [] 0) s h; listed = λ path s h. c.places_are_by_path.ensures.listed both_forms (above_of [] 0) path s h; path = λ path s h. c.places_are_by_path.ensures.path both_forms (above_of [] 0) path s h; in_order = λ i j s t. c.places_are_by_path.ensures.in_order both_forms (above_of [] 0) i j s t; not_itself = c.places_are_ordered.ensures.not_itself; ordered = c.places_are_ordered.ensures.ordered; onward = c.places_are_ordered.ensures.onward }) ([]) 2 (numbered 2 Given lasting) ([]) 0 (omega arith) refl refl (omega arith)

pub returns-clause-counted : goal.returns-clause-counted
returns-clause-counted c = told_by_hand shown_between (record { by_path = λ s h. c.places_are_by_path.ensures.at_path shown_between (above_of [] 0) s h; listed = λ path s h. c.places_are_by_path.ensures.listed shown_between (above_of [] 0) path s h; path = λ path s h. c.places_are_by_path.ensures.path shown_between (above_of [] 0) path s h; in_order = λ i j s t. c.places_are_by_path.ensures.in_order shown_between (above_of [] 0) i j s t; not_itself = c.places_are_ordered.ensures.not_itself; ordered = c.places_are_ordered.ensures.ordered; onward = c.places_are_ordered.ensures.onward }) ([]) 9 (numbered 9 Given (stored (x ∷ x ∷ []))) ([]) 4 (omega arith) refl refl (omega arith)

pub returns-clause-left : goal.returns-clause-left
returns-clause-left c = told_by_hand three_rules (record { by_path = λ s h. c.places_are_by_path.ensures.at_path three_rules (above_of [] 0) s h; listed = λ path s h. c.places_are_by_path.ensures.listed three_rules (above_of [] 0) path s h; path = λ path s h. c.places_are_by_path.ensures.path three_rules (above_of [] 0) path s h; in_order = λ i j s t. c.places_are_by_path.ensures.in_order three_rules (above_of [] 0) i j s t; not_itself = c.places_are_ordered.ensures.not_itself; ordered = c.places_are_ordered.ensures.ordered; onward = c.places_are_ordered.ensures.onward }) (1 ∷ []) 0 (numbered 0 Pattern (stored (x ∷ x ∷ []))) ([]) 0 (omega arith) refl refl (omega arith)

pub returns-clause-not_last : goal.returns-clause-not_last
returns-clause-not_last c = not_by_hand three_events (record { by_path = λ s h. c.places_are_by_path.ensures.at_path three_events (above_of [] 0) s h; listed = λ path s h. c.places_are_by_path.ensures.listed three_events (above_of [] 0) path s h; path = λ path s h. c.places_are_by_path.ensures.path three_events (above_of [] 0) path s h; in_order = λ i j s t. c.places_are_by_path.ensures.in_order three_events (above_of [] 0) i j s t; not_itself = c.places_are_ordered.ensures.not_itself; ordered = c.places_are_ordered.ensures.ordered; onward = c.places_are_ordered.ensures.onward }) (1 ∷ []) 0 (numbered 0 Shown (linear (codes "A") (x ∷ x ∷ []))) ([]) 0 (omega arith) refl refl (omega arith) (1 ∷ 1 ∷ []) 0 (λ h. let e : 2 ≡ 0 = ap length h.0 in omega (arith, e))

pub returns-clause-not_alike : goal.returns-clause-not_alike
returns-clause-not_alike c = not_by_hand three_events (record { by_path = λ s h. c.places_are_by_path.ensures.at_path three_events (above_of [] 0) s h; listed = λ path s h. c.places_are_by_path.ensures.listed three_events (above_of [] 0) path s h; path = λ path s h. c.places_are_by_path.ensures.path three_events (above_of [] 0) path s h; in_order = λ i j s t. c.places_are_by_path.ensures.in_order three_events (above_of [] 0) i j s t; not_itself = c.places_are_ordered.ensures.not_itself; ordered = c.places_are_ordered.ensures.ordered; onward = c.places_are_ordered.ensures.onward }) ([]) 0 (numbered 0 Shown (linear (codes "A") (x ∷ []))) (1 ∷ []) 0 (omega arith) refl refl (omega arith) (1 ∷ 1 ∷ []) 0 (λ h. let e : 2 ≡ 1 = ap length h.0 in omega (arith, e))

pub returns-clause-not_itself : goal.returns-clause-not_itself
returns-clause-not_itself c = not_by_hand both_forms (record { by_path = λ s h. c.places_are_by_path.ensures.at_path both_forms (above_of [] 0) s h; listed = λ path s h. c.places_are_by_path.ensures.listed both_forms (above_of [] 0) path s h; path = λ path s h. c.places_are_by_path.ensures.path both_forms (above_of [] 0) path s h; in_order = λ i j s t. c.places_are_by_path.ensures.in_order both_forms (above_of [] 0) i j s t; not_itself = c.places_are_ordered.ensures.not_itself; ordered = c.places_are_ordered.ensures.ordered; onward = c.places_are_ordered.ensures.onward }) ([]) 2 (numbered 2 Given lasting) ([]) 0 (omega arith) refl refl (omega arith) ([]) 2 (λ h. let e : 2 ≡ 0 = h.1 in omega (arith, e))

pub returns-clause-not_shown : goal.returns-clause-not_shown
returns-clause-not_shown c = not_by_hand shown_between (record { by_path = λ s h. c.places_are_by_path.ensures.at_path shown_between (above_of [] 0) s h; listed = λ path s h. c.places_are_by_path.ensures.listed shown_between (above_of [] 0) path s h; path = λ path s h. c.places_are_by_path.ensures.path shown_between (above_of [] 0) path s h; in_order = λ i j s t. c.places_are_by_path.ensures.in_order shown_between (above_of [] 0) i j s t; not_itself = c.places_are_ordered.ensures.not_itself; ordered = c.places_are_ordered.ensures.ordered; onward = c.places_are_ordered.ensures.onward }) ([]) 9 (numbered 9 Given (stored (x ∷ x ∷ []))) ([]) 4 (omega arith) refl refl (omega arith) ([]) 6 (λ h. let e : 6 ≡ 4 = h.1 in omega (arith, e))

pub returns-clause-not_right : goal.returns-clause-not_right
returns-clause-not_right c = not_by_hand three_rules (record { by_path = λ s h. c.places_are_by_path.ensures.at_path three_rules (above_of [] 0) s h; listed = λ path s h. c.places_are_by_path.ensures.listed three_rules (above_of [] 0) path s h; path = λ path s h. c.places_are_by_path.ensures.path three_rules (above_of [] 0) path s h; in_order = λ i j s t. c.places_are_by_path.ensures.in_order three_rules (above_of [] 0) i j s t; not_itself = c.places_are_ordered.ensures.not_itself; ordered = c.places_are_ordered.ensures.ordered; onward = c.places_are_ordered.ensures.onward }) (1 ∷ []) 0 (numbered 0 Pattern (stored (x ∷ x ∷ []))) ([]) 0 (omega arith) refl refl (omega arith) ([]) 2 (λ h. let e : 2 ≡ 0 = h.1 in omega (arith, e))

pub returns-clause-shown_alone : goal.returns-clause-shown_alone
returns-clause-shown_alone c = no_other_by_hand shown_between (record { by_path = λ s h. c.places_are_by_path.ensures.at_path shown_between (above_of [] 0) s h; listed = λ path s h. c.places_are_by_path.ensures.listed shown_between (above_of [] 0) path s h; path = λ path s h. c.places_are_by_path.ensures.path shown_between (above_of [] 0) path s h; in_order = λ i j s t. c.places_are_by_path.ensures.in_order shown_between (above_of [] 0) i j s t; not_itself = c.places_are_ordered.ensures.not_itself; ordered = c.places_are_ordered.ensures.ordered; onward = c.places_are_ordered.ensures.onward }) ([]) 6 (numbered 6 Shown (stored (x ∷ x ∷ []))) (omega arith) refl refl

pub returns-clause-as_many : goal.returns-clause-as_many
returns-clause-as_many c = no_other_by_hand alike (record { by_path = λ s h. c.places_are_by_path.ensures.at_path alike (above_of [] 0) s h; listed = λ path s h. c.places_are_by_path.ensures.listed alike (above_of [] 0) path s h; path = λ path s h. c.places_are_by_path.ensures.path alike (above_of [] 0) path s h; in_order = λ i j s t. c.places_are_by_path.ensures.in_order alike (above_of [] 0) i j s t; not_itself = c.places_are_ordered.ensures.not_itself; ordered = c.places_are_ordered.ensures.ordered; onward = c.places_are_ordered.ensures.onward }) ([]) 0 (numbered 0 Shown (linear (codes "A") (x ∷ []))) (omega arith) refl refl

pub returns-clause-other_name : goal.returns-clause-other_name
returns-clause-other_name c = no_other_by_hand alike (record { by_path = λ s h. c.places_are_by_path.ensures.at_path alike (above_of [] 0) s h; listed = λ path s h. c.places_are_by_path.ensures.listed alike (above_of [] 0) path s h; path = λ path s h. c.places_are_by_path.ensures.path alike (above_of [] 0) path s h; in_order = λ i j s t. c.places_are_by_path.ensures.in_order alike (above_of [] 0) i j s t; not_itself = c.places_are_ordered.ensures.not_itself; ordered = c.places_are_ordered.ensures.ordered; onward = c.places_are_ordered.ensures.onward }) (1 ∷ 1 ∷ []) 0 (numbered 0 Shown (linear (codes "B") (x ∷ []))) (omega arith) refl refl

pub returns-clause-no_fact : goal.returns-clause-no_fact
returns-clause-no_fact c = no_fact_by_hand three_events (record { by_path = λ s h. c.places_are_by_path.ensures.at_path three_events (above_of [] 0) s h; listed = λ path s h. c.places_are_by_path.ensures.listed three_events (above_of [] 0) path s h; path = λ path s h. c.places_are_by_path.ensures.path three_events (above_of [] 0) path s h; in_order = λ i j s t. c.places_are_by_path.ensures.in_order three_events (above_of [] 0) i j s t; not_itself = c.places_are_ordered.ensures.not_itself; ordered = c.places_are_ordered.ensures.ordered; onward = c.places_are_ordered.ensures.onward }) (1 ∷ []) 1 (omega arith) refl
