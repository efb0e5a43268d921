-- What the rules of each place take and add.
use Rattle.std.proofs.Common.{◌≡◌, ℕ, List, [], ◌∷◌, ◌++◌, Some, Bool, true, false, map, refl, sym, ap, ◌∙◌, ◌⊎◌, inl, inr}
use Rattle.std.specs.Prelude.{All}
use Rattle.std.specs.Str.{bytes_eq}
use Rattle.std.proofs.lemmas.List.Elements.{All-nil, All-cons, All-contains}
use Rattle.sap_terms.specs.AdversaryFacts.{in_fact, out_fact}
use Rattle.sap_terms.specs.Equations.{app2, pair_name}
use Rattle.sap_terms.specs.Reserved.{is_reserved}
use Rattle.sap_terms.specs.Signature.{Sig}
use Rattle.sap_terms.specs.Tree.{variable}
use Rattle.sap_terms.specs.Variables.{facts_vars, tree_vars}
use Rattle.sap_terms.specs.declared.fact.Fact.{Fact}
use Rattle.sap_terms.specs.declared.var.Var.{Var}
use Rattle.sap_terms.proofs.PlainLaws.Known.{one_name}
use Rattle.sap_process.specs.Action as action
use Rattle.sap_process.specs.Places.{place}
use Rattle.sap_process.specs.Scopes.{lock_var, with_new}
use Rattle.sap_process.specs.Sites.{fresh_var, message_var}
use Rattle.sap_place.specs.StateFacts.{copies_fact, tag, waits_fact}
use Rattle.sap_process.specs.Proc.{Proc, nil, parallel, replicated, act, test, lookup}
use Rattle.sap_rule.specs.declared.rule.Rule.{Rule}
use Rattle.sap_translate.specs.Members.{here, later}
use Rattle.sap_translate.specs.PlaceRules.{IsOfPlace}
use Rattle.sap_templates.specs.Places.{child, root, scoped_place_at}
use Rattle.sap_translate.specs.Scoped.{AreUnreserved}
use Rattle.sap_translate.specs.Sound.{SoundPlaces}
use Rattle.sap_templates.specs.ChannelFacts.{ack_fact, fresh_fact, msg_fact}
use Rattle.sap_templates.specs.Templates.{first_of, second_of, state, own_rules, init_rule, new_rule, out_rule, out_adv_rule, out_msg_rule, out_ack_rule, in_rule, in_adv_rule, in_msg_rule, event_rule, insert_rule, delete_rule, lock_rule, unlock_rule, embedded_rule, nil_rule, parallel_rule, rep_start_rule, rep_copy_rule, then_rule, else_rule, found_rule, missing_rule}
use Rattle.sap_translate.specs.relation.Names.{state_name}
use Rattle.sap_gen.specs.Moves.{IsPlain, ArePlain, IsAsTaken, AreAsTaken}
use Rattle.sap_gen.specs.Silent.{IsSilentRule}
use Rattle.sap_gen.proofs.Places.Finding.{moves_of, none_found, other_name, state_right}
use Rattle.sap_gen.proofs.Places.Standing.{child_stands}

-- no state fact has a name that isn't reserved
unreserved_name : (n : List ℕ) → is_reserved n ≡ false → (path : List ℕ) → bytes_eq (state_name path) n ≡ false
unreserved_name n u path = go (bytes_eq (state_name path) n) refl where
  go : (b : Bool) → bytes_eq (state_name path) n ≡ b → b ≡ false
  go false e = refl
  go true e =
      let same : state_name path ≡ n = one_name (state_name path) n e in
      let reserved : is_reserved (state_name path) ≡ true = refl in
      let clash : true ≡ false = sym reserved ∙ ap is_reserved same ∙ u in
      cc

module _ (g : Sig) (p : Proc) (sound : SoundPlaces g p) where
  -- the rule is silent, or what it takes are plain facts; and what it adds stands as the moves take it
  pub record IsFitting (r : Rule) : Type 0 where
    pub left : IsSilentRule p r ⊎ ArePlain (moves_of g p sound) r.left
    pub right : AreAsTaken (moves_of g p sound) r.right

  plain : (f : Fact) → ((path : List ℕ) → bytes_eq (state_name path) f.name ≡ false) → IsPlain (moves_of g p sound) f
  plain f h = other_name g p sound f.name h

  plain_facts : (fs : List Fact) → AreUnreserved fs → ArePlain (moves_of g p sound) fs
  plain_facts [] u = tt
  plain_facts (f ∷ fs) u = (other_name g p sound f.name (unreserved_name f.name (u f here)), plain_facts fs (λ h m. u h (later m)))

  right_facts : (fs : List Fact) → AreUnreserved fs → AreAsTaken (moves_of g p sound) fs
  right_facts [] u = tt
  right_facts (f ∷ fs) u = (inl (other_name g p sound f.name (unreserved_name f.name (u f here))), right_facts fs (λ h m. u h (later m)))

  one : (r : Rule) → IsFitting r → All IsFitting (r ∷ [])
  one r f = All-cons IsFitting r [] f (All-nil IsFitting)

  two : (r s : Rule) → IsFitting r → IsFitting s → All IsFitting (r ∷ s ∷ [])
  two r s f h = All-cons IsFitting r (s ∷ []) f (one s h)

  three : (r s t : Rule) → IsFitting r → IsFitting s → IsFitting t → All IsFitting (r ∷ s ∷ t ∷ [])
  three r s t f h k = All-cons IsFitting r (s ∷ t ∷ []) f (two s t h k)

  module _ (path : List ℕ) (v : List Var) where
    -- a state fact of a child stands as its move takes it
    first_right : (b c : Proc) (w : List Var) → scoped_place_at (root p) path ≡ Some (place path v b) → child (place path v b) 1 ≡ Some (place (first_of path) w c) → IsAsTaken (moves_of g p sound) (state (first_of path) w)
    first_right b c w at k = state_right g p sound (first_of path) w c (child_stands p path 1 (place path v b) (place (first_of path) w c) at k)

    second_right : (b c : Proc) (w : List Var) → scoped_place_at (root p) path ≡ Some (place path v b) → child (place path v b) 2 ≡ Some (place (second_of path) w c) → IsAsTaken (moves_of g p sound) (state (second_of path) w)
    second_right b c w at k = state_right g p sound (second_of path) w c (child_stands p path 2 (place path v b) (place (second_of path) w c) at k)

    -- the rules of an action are fitting, where its place isn't silent
    action_fitting : (a : action.Action) (c : Proc) → scoped_place_at (root p) path ≡ Some (place path v (act a c)) → All IsFitting (own_rules path v (act a c))
    action_fitting (action.new x) c at =
        let b = act (action.new x) c in
        one (new_rule path v x) (record {
          left = inr (none_found g p sound path v b at refl, (plain (fresh_fact (variable (fresh_var x))) (λ z. refl), tt));
          right = (first_right b c (v ++ fresh_var x ∷ []) at refl, tt);
        })
    action_fitting (action.out t) c at =
        let b = act (action.out t) c in
        one (out_rule path v t) (record {
          left = inl (record { path = path; scope = v; body = b; stands = at; is = refl });
          right = (inl (plain (out_fact t) (λ z. refl)), (first_right b c v at refl, tt));
        })
    action_fitting (action.send t u) c at =
        let b = act (action.send t u) c in
        three (out_adv_rule path v t u) (out_msg_rule path v t u) (out_ack_rule path v) (record {
          left = inr (none_found g p sound path v b at refl, (plain (in_fact t) (λ z. refl), tt));
          right = (inl (plain (out_fact u) (λ z. refl)), (first_right b c v at refl, tt));
        }) (record {
          left = inr (none_found g p sound path v b at refl, (plain (fresh_fact (variable tag)) (λ z. refl), tt));
          right = (inl (plain (msg_fact (variable tag) t u) (λ z. refl)), (inl (plain (waits_fact path (map variable v ++ variable tag ∷ [])) (λ z. refl)), tt));
        }) (record {
          left = inr (plain (waits_fact path (map variable v ++ variable tag ∷ [])) (λ z. refl), (plain (ack_fact (variable tag)) (λ z. refl), tt));
          right = (first_right b c v at refl, tt);
        })
    action_fitting (action.input t) c at =
        let b = act (action.input t) c in
        one (in_rule path v t) (record {
          left = inr (none_found g p sound path v b at refl, (plain (in_fact t) (λ z. refl), tt));
          right = (first_right b c (with_new v (tree_vars t)) at refl, tt);
        })
    action_fitting (action.receive t u) c at =
        let b = act (action.receive t u) c in
        two (in_adv_rule path v t u) (in_msg_rule path v t u) (record {
          left = inr (none_found g p sound path v b at refl, (plain (in_fact (app2 pair_name t u)) (λ z. refl), tt));
          right = (first_right b c (with_new v (tree_vars u)) at refl, tt);
        }) (record {
          left = inr (none_found g p sound path v b at refl, (plain (msg_fact (variable tag) t u) (λ z. refl), tt));
          right = (inl (plain (ack_fact (variable tag)) (λ z. refl)), (first_right b c (with_new v (tree_vars u)) at refl, tt));
        })
    action_fitting (action.event f) c at =
        let b = act (action.event f) c in
        one (event_rule path v f) (record { left = inr (none_found g p sound path v b at refl, tt); right = (first_right b c v at refl, tt) })
    action_fitting (action.insert t u) c at =
        let b = act (action.insert t u) c in
        one (insert_rule path v t u) (record { left = inr (none_found g p sound path v b at refl, tt); right = (first_right b c v at refl, tt) })
    action_fitting (action.delete t) c at =
        let b = act (action.delete t) c in
        one (delete_rule path v t) (record { left = inr (none_found g p sound path v b at refl, tt); right = (first_right b c v at refl, tt) })
    action_fitting (action.lock t l) c at =
        let b = act (action.lock t l) c in
        one (lock_rule path v t l) (record {
          left = inr (none_found g p sound path v b at refl, (plain (fresh_fact (variable (lock_var l))) (λ z. refl), tt));
          right = (first_right b c (v ++ lock_var l ∷ []) at refl, tt);
        })
    action_fitting (action.unlock t l) c at =
        let b = act (action.unlock t l) c in
        one (unlock_rule path v t l) (record { left = inr (none_found g p sound path v b at refl, tt); right = (first_right b c v at refl, tt) })
    action_fitting (action.embedded l e r) c at =
        let b = act (action.embedded l e r) c in
        let s = sound path (place path v b) at in
        one (embedded_rule path v l e r) (record {
          left = inr (none_found g p sound path v b at refl, plain_facts l s.0);
          right = (first_right b c (with_new v (facts_vars (l ++ (e ++ r)))) at refl, right_facts r s.2);
        })

    -- and those of a place
    own_fitting : (b : Proc) → scoped_place_at (root p) path ≡ Some (place path v b) → All IsFitting (own_rules path v b)
    own_fitting nil at =
        one (nil_rule path v) (record { left = inl (record { path = path; scope = v; body = nil; stands = at; is = refl }); right = tt })
    own_fitting (parallel a b) at =
        one (parallel_rule path v) (record {
          left = inl (record { path = path; scope = v; body = parallel a b; stands = at; is = refl });
          right = (first_right (parallel a b) a v at refl, (second_right (parallel a b) b v at refl, tt));
        })
    own_fitting (replicated a) at =
        two (rep_start_rule path v) (rep_copy_rule path v) (record {
          left = inl (record { path = path; scope = v; body = replicated a; stands = at; is = refl });
          right = (inl (plain (copies_fact path (map variable v)) (λ z. refl)), tt);
        }) (record {
          left = inr (plain (copies_fact path (map variable v)) (λ z. refl), tt);
          right = (first_right (replicated a) a v at refl, tt);
        })
    own_fitting (act a c) at = action_fitting a c at
    own_fitting (test t u a b) at =
        two (then_rule path v t u) (else_rule path v t u)
        (record { left = inr (none_found g p sound path v (test t u a b) at refl, tt); right = (first_right (test t u a b) a v at refl, tt) })
        (record { left = inr (none_found g p sound path v (test t u a b) at refl, tt); right = (second_right (test t u a b) b v at refl, tt) })
    own_fitting (lookup t x a b) at =
        two (found_rule path v t x) (missing_rule path v t)
        (record { left = inr (none_found g p sound path v (lookup t x a b) at refl, tt); right = (first_right (lookup t x a b) a (v ++ message_var x ∷ []) at refl, tt) })
        (record { left = inr (none_found g p sound path v (lookup t x a b) at refl, tt); right = (second_right (lookup t x a b) b v at refl, tt) })

  -- so is each rule of a place, and the one that starts the process
  pub place_fitting : (r : Rule) → IsOfPlace p r → IsFitting r
  place_fitting r o = All-contains IsFitting (own_rules o.path o.scope o.body) r (own_fitting o.path o.scope o.body o.stands) o.own

  pub init_fitting : IsFitting init_rule
  init_fitting = record { left = inr tt; right = (state_right g p sound [] [] p refl, tt) }
