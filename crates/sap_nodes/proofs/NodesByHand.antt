-- Of which nodes of small heads flaws speak.
use Rattle.std.proofs.Common.{◌≡◌, ℕ, zero, suc, ◌<◌, List, [], ◌∷◌, Some, inr, arith, refl, sym, ap, subst, ◌∙◌}
use Rattle.std.specs.Prelude.{Contains, slice_get, take, codes}
use Rattle.sap_terms.specs.AdversaryFacts.{linear}
use Rattle.sap_terms.specs.Equations.{fst_name, pair_name}
use Rattle.sap_terms.specs.Signature.{pairs_alone}
use Rattle.sap_terms.specs.declared.fact.Fact.{Fact}
use Rattle.sap_terms.specs.declared.var.Sort.TheVariants.{Msg, Fresh, Pub}
use Rattle.sap_terms.specs.declared.var.Var.{Var}
use Rattle.sap_terms.proofs.PlainLaws.Items.{first_item, item_cases}
use Rattle.sap_process.specs.Proc.{nil, act}
use Rattle.sap_process.specs.Sites.{Site}
use Rattle.sap_process.specs.declared.flaw.Flaw.{Flaw}
use Rattle.sap_process.specs.declared.flaw.Flaw.TheVariants.{BadFunction, ReservedVar, ReservedFact, FactClash, PatternDestructor, Unbound, Rebound, SortClash}
use Rattle.sap_nodes.specs.HeadNodes.{Node, binder, variable, symbol, fact, head_nodes}
use Rattle.sap_nodes.specs.FlawNodes.{IsFlawedNode, IsFlawedAt, IsNodeOf, HasOtherSign}
use Rattle.sap_nodes.specs.NodeExamples.{x, y, public_x, var_of, c_and_x, at_root, SpeaksOf, destructors, unknown_symbols, two_variables, with_public, two_signs, twice_reserved, reserved_facts, lasting, clashing, found_again}
use Rattle.sap_nodes.specs.declared.part.Part.TheVariants.{Pattern, Shown, Given}
use Rattle.sap_nodes.proofs.FirstNodes.{one_node}

one_of : (m n : Node) → Some m ≡ Some n → m ≡ n
one_of m n e = cc

-- the node that stands there isn't flawed
clean : (s : Site) (w : Flaw) (k : ℕ) (n : Node) → slice_get (head_nodes s.body) k ≡ Some n → ¬ IsFlawedNode pairs_alone [] s w (take k (head_nodes s.body)) n
    → ¬ IsFlawedAt pairs_alone [] s w k
clean s w k n e not_so h =
    not_so (subst (IsFlawedNode pairs_alone [] s w (take k (head_nodes s.body))) (one_of h.node n (sym h.stands ∙ e)) h.flaw)

-- it speaks of no second node
pub no_other : (s : Site) (w : Flaw) (j k : ℕ) → IsNodeOf pairs_alone [] s w j → ¬ (j ≡ k) → ¬ IsNodeOf pairs_alone [] s w k
no_other s w j k h apart other = apart (one_node pairs_alone [] s w j k h other)

-- none of the first so many nodes
first_one : (s : Site) (w : Flaw) → ¬ IsFlawedAt pairs_alone [] s w 0 → (j : ℕ) → j < 1 → ¬ IsFlawedAt pairs_alone [] s w j
first_one s w h zero l = h
first_one s w h (suc j) l = absurd (omega (arith, l))

first_two : (s : Site) (w : Flaw) → ¬ IsFlawedAt pairs_alone [] s w 0 → ¬ IsFlawedAt pairs_alone [] s w 1 → (j : ℕ) → j < 2 → ¬ IsFlawedAt pairs_alone [] s w j
first_two s w h i zero l = h
first_two s w h i (suc zero) l = i
first_two s w h i (suc (suc j)) l = absurd (omega (arith, l))

first_four : (s : Site) (w : Flaw) → ¬ IsFlawedAt pairs_alone [] s w 0 → ¬ IsFlawedAt pairs_alone [] s w 1 → ¬ IsFlawedAt pairs_alone [] s w 2 → ¬ IsFlawedAt pairs_alone [] s w 3
    → (j : ℕ) → j < 4 → ¬ IsFlawedAt pairs_alone [] s w j
first_four s w a b c d zero l = a
first_four s w a b c d (suc zero) l = b
first_four s w a b c d (suc (suc zero)) l = c
first_four s w a b c d (suc (suc (suc zero))) l = d
first_four s w a b c d (suc (suc (suc (suc j)))) l = absurd (omega (arith, l))

pub in_the_pattern : SpeaksOf c_and_x destructors PatternDestructor 4
in_the_pattern = record {
  here = record { node = symbol Pattern fst_name 1; stands = refl; flaw = refl };
  first = first_four (at_root c_and_x (act destructors nil)) PatternDestructor
      (clean (at_root c_and_x (act destructors nil)) PatternDestructor 0 (symbol Given fst_name 1) refl (λ h. h))
      (clean (at_root c_and_x (act destructors nil)) PatternDestructor 1 (variable (var_of (codes "c") Msg)) refl (λ h. h))
      (clean (at_root c_and_x (act destructors nil)) PatternDestructor 2 (symbol Pattern pair_name 2) refl (λ h. cc))
      (clean (at_root c_and_x (act destructors nil)) PatternDestructor 3 (variable (var_of (codes "w") Msg)) refl (λ h. h));
}

pub unknown : SpeaksOf c_and_x unknown_symbols BadFunction 1
unknown = record {
  here = record { node = symbol Given (codes "h") 1; stands = refl; flaw = λ e. cc };
  first = first_one (at_root c_and_x (act unknown_symbols nil)) BadFunction
      (clean (at_root c_and_x (act unknown_symbols nil)) BadFunction 0 (symbol Given pair_name 2) refl (λ h. h refl));
}

abbrev first_letter : List ℕ → ℕ
first_letter [] = 0
first_letter (k ∷ ks) = k

two_numbers : (m n : ℕ) → m ≡ 121 → n ≡ 120 → m ≡ n → ⊥
two_numbers m n e d h = omega (arith, e, d, h)

other_letter : first_letter (codes "y") ≡ first_letter (codes "x") → ⊥
other_letter e = two_numbers (first_letter (codes "y")) (first_letter (codes "x")) refl refl e

other_name : ¬ Contains (var_of (codes "y") Msg ∷ []) (var_of (codes "x") Msg)
other_name h = other_letter (ap (λ (v : Var). first_letter v.name) (item_cases (var_of (codes "y") Msg) (var_of (codes "x") Msg) h))

pub nothing_binds : SpeaksOf c_and_x two_variables Unbound 2
nothing_binds = record {
  here = record { node = variable (var_of (codes "y") Msg); stands = refl; flaw = first_item (var_of (codes "y") Msg) [] };
  first = first_two (at_root c_and_x (act two_variables nil)) Unbound
      (clean (at_root c_and_x (act two_variables nil)) Unbound 0 (symbol Given pair_name 2) refl (λ h. h))
      (clean (at_root c_and_x (act two_variables nil)) Unbound 1 (variable (var_of (codes "x") Msg)) refl other_name);
}

other_public : ¬ Contains (var_of (codes "y") Msg ∷ []) (var_of (codes "x") Pub)
other_public h = other_letter (ap (λ (v : Var). first_letter v.name) (item_cases (var_of (codes "y") Msg) (var_of (codes "x") Pub) h))

pub nothing_binds_in_rule : SpeaksOf [] with_public Unbound 4
nothing_binds_in_rule = record {
  here = record { node = variable (var_of (codes "y") Msg); stands = refl; flaw = first_item (var_of (codes "y") Msg) [] };
  first = first_four (at_root [] (act with_public nil)) Unbound
      (clean (at_root [] (act with_public nil)) Unbound 0 (fact Shown (linear (codes "A") (public_x ∷ []))) refl (λ h. h))
      (clean (at_root [] (act with_public nil)) Unbound 1 (variable (var_of (codes "x") Pub)) refl other_public)
      (clean (at_root [] (act with_public nil)) Unbound 2 (fact Given (linear (codes "F") (x ∷ y ∷ []))) refl (λ h. h))
      (clean (at_root [] (act with_public nil)) Unbound 3 (variable (var_of (codes "x") Msg)) refl other_name);
}

own_sign : HasOtherSign c_and_x (var_of (codes "x") Fresh) → ⊥
own_sign h = h.other (sym (ap (λ (v : Var). v.sort) (one_var (var_of (codes "x") Fresh) h.bound h.binder))) where
  one_var : (v w : Var) → Some v ≡ Some w → v ≡ w
  one_var v w e = cc

pub other_sign : SpeaksOf c_and_x two_signs SortClash 2
other_sign = record {
  here = record {
    node = variable (var_of (codes "x") Pub);
    stands = refl;
    flaw = record { signed = λ e. cc; bound = var_of (codes "x") Fresh; binder = refl; other = λ e. cc };
  };
  first = first_two (at_root c_and_x (act two_signs nil)) SortClash
      (clean (at_root c_and_x (act two_signs nil)) SortClash 0 (symbol Given pair_name 2) refl (λ h. h))
      (clean (at_root c_and_x (act two_signs nil)) SortClash 1 (variable (var_of (codes "x") Fresh)) refl own_sign);
}

pub reserved_variable : SpeaksOf [] twice_reserved ReservedVar 2
reserved_variable = record {
  here = record { node = variable (var_of (codes "sapic_z") Msg); stands = refl; flaw = refl };
  first = first_two (at_root [] (act twice_reserved nil)) ReservedVar
      (clean (at_root [] (act twice_reserved nil)) ReservedVar 0 _ refl (λ h. h))
      (clean (at_root [] (act twice_reserved nil)) ReservedVar 1 (symbol Shown pair_name 2) refl (λ h. h));
}

pub reserved_fact_shown : SpeaksOf c_and_x reserved_facts ReservedFact 2
reserved_fact_shown = record {
  here = record { node = fact Shown (linear (codes "K") (x ∷ [])); stands = refl; flaw = refl };
  first = first_two (at_root c_and_x (act reserved_facts nil)) ReservedFact
      (clean (at_root c_and_x (act reserved_facts nil)) ReservedFact 0 (fact Pattern (linear (codes "L") (x ∷ []))) refl (λ h. cc))
      (clean (at_root c_and_x (act reserved_facts nil)) ReservedFact 1 (variable (var_of (codes "x") Msg)) refl (λ h. h));
}

pub bound_again : IsNodeOf pairs_alone [] (at_root c_and_x found_again) Rebound 1
bound_again = record {
  here = record { node = binder (var_of (codes "x") Msg); stands = refl; flaw = refl };
  first = first_one (at_root c_and_x found_again) Rebound (clean (at_root c_and_x found_again) Rebound 0 (variable (var_of (codes "x") Msg)) refl (λ h. h));
}

first_five : (s : Site) (w : Flaw) → ¬ IsFlawedAt pairs_alone [] s w 0 → ¬ IsFlawedAt pairs_alone [] s w 1 → ¬ IsFlawedAt pairs_alone [] s w 2 → ¬ IsFlawedAt pairs_alone [] s w 3
    → ¬ IsFlawedAt pairs_alone [] s w 4 → (j : ℕ) → j < 5 → ¬ IsFlawedAt pairs_alone [] s w j
first_five s w a b c d e zero l = a
first_five s w a b c d e (suc zero) l = b
first_five s w a b c d e (suc (suc zero)) l = c
first_five s w a b c d e (suc (suc (suc zero))) l = d
first_five s w a b c d e (suc (suc (suc (suc zero)))) l = e
first_five s w a b c d e (suc (suc (suc (suc (suc j))))) l = absurd (omega (arith, l))

none_before : (f : Fact) → ¬ Contains [] f
none_before f c = let few = c.1 in omega (arith, few)

pub other_form : SpeaksOf c_and_x clashing FactClash 5
other_form = record {
  here = record {
    node = fact Given lasting;
    stands = refl;
    flaw = record {
      other = linear (codes "F") (x ∷ []);
      stands = first_item (linear (codes "F") (x ∷ [])) [];
      name = refl;
      differs = inr (λ e. cc);
    };
  };
  first = first_five (at_root c_and_x (act clashing nil)) FactClash
      (clean (at_root c_and_x (act clashing nil)) FactClash 0 (fact Pattern (linear (codes "F") (x ∷ []))) refl (λ h. none_before h.other h.stands))
      (clean (at_root c_and_x (act clashing nil)) FactClash 1 (variable (var_of (codes "x") Msg)) refl (λ h. h))
      (clean (at_root c_and_x (act clashing nil)) FactClash 2 (fact Shown (linear (codes "F") (x ∷ x ∷ []))) refl (λ h. none_before h.other h.stands))
      (clean (at_root c_and_x (act clashing nil)) FactClash 3 (variable (var_of (codes "x") Msg)) refl (λ h. h))
      (clean (at_root c_and_x (act clashing nil)) FactClash 4 (variable (var_of (codes "x") Msg)) refl (λ h. h));
}
