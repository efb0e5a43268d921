-- What each rule of a place leaves open.
use Rattle.std.proofs.Common.{◌≡◌, ℕ, List, [], ◌∷◌, ◌++◌, refl, sym, ap, ◌∙◌, subst, map, inl, inr, append_assoc, append-nil}
use Rattle.std.specs.Prelude.{codes}
use Rattle.sap_terms.specs.AdversaryFacts.{in_fact, out_fact}
use Rattle.sap_terms.specs.Destructors.{HasDestructor}
use Rattle.sap_terms.specs.Equations.{app2, pair_name}
use Rattle.sap_terms.specs.Signature.{Sig}
use Rattle.sap_terms.specs.Tree.{Tree, variable, trees_of}
use Rattle.sap_terms.specs.Variables.{facts_vars, new_vars, tree_vars, trees_vars}
use Rattle.sap_terms.specs.declared.fact.Fact.{Fact}
use Rattle.sap_terms.specs.declared.var.Var.{Var}
use Rattle.sap_rewrite.specs.Around.{all_outer_vars, outer_vars}
use Rattle.sap_place.specs.StateFacts.{copies_fact, tag, waits_fact}
use Rattle.sap_process.specs.Action as action
use Rattle.sap_process.specs.Action.{Action}
use Rattle.sap_process.specs.Heads.{action_patterns, facts_terms, patterns}
use Rattle.sap_process.specs.Proc as whole
use Rattle.sap_process.specs.Proc.{Proc, act}
use Rattle.sap_process.specs.Scopes.{lock_var, with_new}
use Rattle.sap_process.specs.Sites.{fresh_var, message_var, var_names}
use Rattle.sap_restrict.specs.ReservedFacts.{delete_fact, eq_fact, event_fact, input_fact, insert_fact, is_in_fact, is_not_set_fact, lock_fact, not_eq_fact, unlock_fact}
use Rattle.sap_rule.specs.Variables.{facts_outer_vars, open_variables, rule_vars}
use Rattle.sap_rule.specs.declared.rule.Rule.{Rule}
use Rattle.sap_templates.specs.ChannelFacts.{ack_fact, fresh_fact, msg_fact}
use Rattle.sap_translate.specs.Members.{Member}
use Rattle.sap_translate.specs.Opened.{left_open, opened, opened_by}
use Rattle.sap_translate.specs.Scoped.{AllWithin, FactsWithin, IsFree, Within}
use Rattle.sap_translate.specs.Sound.{IsSoundAction, SoundAt}
use Rattle.sap_templates.specs.Templates.{action_rules, embedded_acts, embedded_rule, first_of, own_rules, rule, second_of, state}
use Rattle.sap_translate.proofs.Shared.Lookups.{in_left, in_right, member_cases, member_last, member_left, member_right, only_member}
use Rattle.sap_translate.proofs.Opened.NewVars.{new_in, new_none, new_one, rule_new}
use Rattle.sap_translate.proofs.Opened.Outer.{ArePlain, facts_outer, outer_all, scope_outer, tagged_outer}
use Rattle.sap_translate.proofs.Premises.WellMade.{Inside, among_more, in_list, same, tagged_within, vars_within}
use Rattle.sap_translate.proofs.Terms.Substitution.{member_known, within_more}

pub in_facts : (w : List Var) (fs : List Fact) → FactsWithin w fs → Inside (facts_vars fs) w
in_facts w [] i x m = elim m [ ]
in_facts w (f ∷ fs) i x m = elim (member_cases (trees_vars (trees_of f.args)) (facts_vars fs) m) [ in_left a ↦ in_list w f.args x i.0 a | in_right b ↦ in_facts w fs i.1 x b ]

in_rule : (w : List Var) (r : Rule) → FactsWithin w r.left → FactsWithin w r.acts → FactsWithin w r.right → Inside (rule_vars r) w
in_rule w r left acts right x m = elim (member_cases (facts_vars r.left) (facts_vars r.acts ++ facts_vars r.right) m) [
  | in_left a ↦ in_facts w r.left left x a
  | in_right b ↦ elim (member_cases (facts_vars r.acts) (facts_vars r.right) b) [ in_left a ↦ in_facts w r.acts acts x a | in_right c ↦ in_facts w r.right right x c ]
]

-- the variables of facts

scope_vars : (u : List Var) → trees_vars (trees_of (map variable u)) ≡ u
scope_vars [] = refl
scope_vars (x ∷ u) = ap (λ w. x ∷ w) (scope_vars u)

shown_vars : (fs : List Fact) → facts_vars (embedded_acts fs) ≡ facts_vars fs
shown_vars [] = refl
shown_vars (f ∷ fs) = refl

pub facts_joined : (fs hs : List Fact) → facts_vars (fs ++ hs) ≡ facts_vars fs ++ facts_vars hs
facts_joined [] hs = refl
facts_joined (f ∷ fs) hs = ap (λ vs. trees_vars (trees_of f.args) ++ vs) (facts_joined fs hs) ∙ sym (append_assoc (trees_vars (trees_of f.args)) (facts_vars fs) (facts_vars hs))

-- nothing is open where all variables stand on the left side, outside of destructors
none_open : (g : Sig) (r : Rule) (w : List Var) → Inside w (facts_outer_vars g r.left) → FactsWithin w r.left → FactsWithin w r.acts → FactsWithin w r.right → open_variables g r ≡ []
none_open g r w outer left acts right =
    new_none (var_names (facts_outer_vars g r.left)) (rule_vars r) (λ x m. member_known (facts_outer_vars g r.left) x (outer x (in_rule w r left acts right x m)))

-- one variable is where it is the only one that doesn't
one_open : (g : Sig) (r : Rule) (v : List Var) (z : Var) → facts_outer_vars g r.left ≡ v → FactsWithin (v ++ z ∷ []) r.left → FactsWithin (v ++ z ∷ []) r.acts → FactsWithin (v ++ z ∷ []) r.right → Member z (rule_vars r) → IsFree z v → open_variables g r ≡ z ∷ []
one_open g r v z outer left acts right m free =
    ap (λ u. new_vars (var_names u) (rule_vars r)) outer
    ∙ new_one (var_names v) z (rule_vars r) (λ w h. elim (member_cases v (z ∷ []) (in_rule (v ++ z ∷ []) r left acts right w h)) [ in_left k ↦ inl (member_known v w k) | in_right k ↦ inr (only_member k) ]) m free

module _ (g : Sig) (path : List ℕ) (v : List Var) where
  -- what is in scope stands in the state fact
  scope_known : (lefts : List Fact) → Inside v (facts_outer_vars g (state path v ∷ lefts))
  scope_known lefts x m = member_left (facts_outer_vars g lefts) (subst (Member x) (sym (scope_outer g v)) m)

  -- and what is new in the facts beside it
  wider_known : (ns : List Var) (lefts : List Fact) → Inside ns (facts_outer_vars g lefts) → Inside (v ++ ns) (facts_outer_vars g (state path v ∷ lefts))
  wider_known ns lefts new x m = elim (member_cases v ns m) [
    | in_left a ↦ scope_known lefts x a
    | in_right b ↦ member_right (all_outer_vars g (trees_of (map variable v))) (new x b)
  ]

  state_within : (w : List Var) → Inside v w → AllWithin w (map variable v)
  state_within w h = vars_within v w h

  -- a rule that takes the state fact and facts with the new variables
  wide : (word : List ℕ) (lefts acts right : List Fact) (ns : List Var) → Inside ns (facts_outer_vars g lefts) → FactsWithin (v ++ ns) lefts → FactsWithin (v ++ ns) acts → FactsWithin (v ++ ns) right → open_variables g (rule word path (state path v ∷ lefts) acts right) ≡ []
  wide word lefts acts right ns new l a r =
      none_open g (rule word path (state path v ∷ lefts) acts right) (v ++ ns) (wider_known ns lefts new) (state_within (v ++ ns) (among_more v ns), l) a r

  -- one without new variables
  plain : (word : List ℕ) (lefts acts right : List Fact) → FactsWithin v lefts → FactsWithin v acts → FactsWithin v right → open_variables g (rule word path (state path v ∷ lefts) acts right) ≡ []
  plain word lefts acts right l a r = none_open g (rule word path (state path v ∷ lefts) acts right) v (scope_known lefts) (state_within v (same v), l) a r

  scope : AllWithin v (map variable v)
  scope = vars_within v v (same v)

  new_opened : (x : Var) → map (open_variables g) (action_rules path v (action.new x)) ≡ [] ∷ []
  new_opened x =
      let w : List Var = v ++ fresh_var x ∷ [] in
      ap (λ vs. vs ∷ []) (wide (codes "New_") (fresh_fact (variable (fresh_var x)) ∷ []) [] (state (first_of path) w ∷ []) (fresh_var x ∷ []) (λ y m. m) ((member_last v (fresh_var x), tt), tt) tt (vars_within w w (same w), tt))

  out_opened : (t : Tree) → Within v t → map (open_variables g) (action_rules path v (action.out t)) ≡ [] ∷ []
  out_opened t i = ap (λ vs. vs ∷ []) (plain (codes "Out_") [] [] (out_fact t ∷ state (first_of path) v ∷ []) tt tt ((i, tt), (scope, tt)))

  send_opened : (t u : Tree) → Within v t → Within v u → map (open_variables g) (action_rules path v (action.send t u)) ≡ [] ∷ [] ∷ [] ∷ []
  send_opened t u i j =
      let w : List Var = v ++ tag ∷ [] in
      let inside : Inside v w = among_more v (tag ∷ []) in
      let last : Member tag w = member_last v tag in
      let waits : AllWithin w (map variable v ++ variable tag ∷ []) = tagged_within v w inside last in
      let known : Inside w (facts_outer_vars g (waits_fact path (map variable v ++ variable tag ∷ []) ∷ ack_fact (variable tag) ∷ [])) = λ x m. member_left (tag ∷ []) (subst (Member x) (sym (tagged_outer g v tag)) m) in
      let adv = plain (codes "OutAdv_") (in_fact t ∷ []) (input_fact t ∷ []) (out_fact u ∷ state (first_of path) v ∷ []) ((i, tt), tt) ((i, tt), tt) ((j, tt), (scope, tt)) in
      let msg = wide (codes "OutMsg_") (fresh_fact (variable tag) ∷ []) [] (msg_fact (variable tag) t u ∷ waits_fact path (map variable v ++ variable tag ∷ []) ∷ []) (tag ∷ []) (λ y m. m) ((last, tt), tt) tt ((last, (within_more v w inside t i, (within_more v w inside u j, tt))), (waits, tt)) in
      let ack = none_open g (rule (codes "OutAck_") path (waits_fact path (map variable v ++ variable tag ∷ []) ∷ ack_fact (variable tag) ∷ []) [] (state (first_of path) v ∷ [])) w known (waits, ((last, tt), tt)) tt (vars_within v w inside, tt) in
      λ k. adv k ∷ msg k ∷ ack k ∷ []

  -- what is new in a pattern stands in it outside of destructors
  new_outer : (t : Tree) → (HasDestructor g t → ⊥) → Inside (new_vars (var_names v) (tree_vars t)) (outer_vars g t)
  new_outer t fine x m = subst (Member x) (sym (outer_all g t fine)) (new_in (var_names v) (tree_vars t) x m)

  input_opened : (t : Tree) → (HasDestructor g t → ⊥) → Within (with_new v (tree_vars t)) t → map (open_variables g) (action_rules path v (action.input t)) ≡ [] ∷ []
  input_opened t fine i =
      let ns : List Var = new_vars (var_names v) (tree_vars t) in
      let w : List Var = v ++ ns in
      ap (λ vs. vs ∷ []) (wide (codes "In_") (in_fact t ∷ []) (input_fact t ∷ []) (state (first_of path) w ∷ []) ns (λ x m. member_left [] (member_left [] (new_outer t fine x m))) ((i, tt), tt) ((i, tt), tt) (vars_within w w (same w), tt))

  receive_opened : (t u : Tree) → (HasDestructor g u → ⊥) → Within v t → Within (with_new v (tree_vars u)) u → map (open_variables g) (action_rules path v (action.receive t u)) ≡ [] ∷ [] ∷ []
  receive_opened t u fine i j =
      let ns : List Var = new_vars (var_names v) (tree_vars u) in
      let w : List Var = v ++ ns in
      let z : List Var = w ++ tag ∷ [] in
      let k : Within w t = within_more v w (among_more v ns) t i in
      let inside : Inside w z = among_more w (tag ∷ []) in
      let below : Inside v z = λ x m. inside x (among_more v ns x m) in
      let last : Member tag z = member_last w tag in
      let lefts : List Fact = msg_fact (variable tag) t u ∷ [] in
      let known : Inside z (facts_outer_vars g (state path v ∷ lefts)) = λ x m. elim (member_cases w (tag ∷ []) m) [
        | in_left a ↦ wider_known ns lefts (λ y n. member_left [] (Member.later (member_right (outer_vars g t) (member_left [] (new_outer u fine y n))))) x a
        | in_right b ↦ member_right (all_outer_vars g (trees_of (map variable v))) (subst (λ y. Member y (facts_outer_vars g lefts)) (sym (only_member b)) Member.here)
      ] in
      let adv = wide (codes "InAdv_") (in_fact (app2 pair_name t u) ∷ []) (input_fact (app2 pair_name t u) ∷ []) (state (first_of path) w ∷ []) ns (λ x m. member_left [] (member_left [] (member_right (outer_vars g t) (member_left [] (new_outer u fine x m))))) (((k, (j, tt)), tt), tt) (((k, (j, tt)), tt), tt) (vars_within w w (same w), tt) in
      let msg = none_open g (rule (codes "InMsg_") path (state path v ∷ lefts) [] (ack_fact (variable tag) ∷ state (first_of path) w ∷ [])) z known
      (vars_within v z below, ((last, (within_more v z below t i, (within_more w z inside u j, tt))), tt)) tt ((last, tt), (vars_within w z inside, tt)) in
      λ n. adv n ∷ msg n ∷ []

  event_opened : (f : Fact) → AllWithin v f.args → map (open_variables g) (action_rules path v (action.event f)) ≡ [] ∷ []
  event_opened f i = ap (λ vs. vs ∷ []) (plain (codes "Event_") [] (event_fact ∷ f ∷ []) (state (first_of path) v ∷ []) tt (tt, (i, tt)) (scope, tt))

  insert_opened : (t u : Tree) → Within v t → Within v u → map (open_variables g) (action_rules path v (action.insert t u)) ≡ [] ∷ []
  insert_opened t u i j = ap (λ vs. vs ∷ []) (plain (codes "Insert_") [] (insert_fact t u ∷ []) (state (first_of path) v ∷ []) tt ((i, (j, tt)), tt) (scope, tt))

  delete_opened : (t : Tree) → Within v t → map (open_variables g) (action_rules path v (action.delete t)) ≡ [] ∷ []
  delete_opened t i = ap (λ vs. vs ∷ []) (plain (codes "Delete_") [] (delete_fact t ∷ []) (state (first_of path) v ∷ []) tt ((i, tt), tt) (scope, tt))

  lock_opened : (t : Tree) (l : ℕ) → Within v t → map (open_variables g) (action_rules path v (action.lock t l)) ≡ [] ∷ []
  lock_opened t l i =
      let w : List Var = v ++ lock_var l ∷ [] in
      let last : Member (lock_var l) w = member_last v (lock_var l) in
      ap (λ vs. vs ∷ []) (wide (codes "Lock_") (fresh_fact (variable (lock_var l)) ∷ []) (lock_fact (variable (lock_var l)) t ∷ []) (state (first_of path) w ∷ []) (lock_var l ∷ []) (λ y m. m) ((last, tt), tt) ((last, (within_more v w (among_more v (lock_var l ∷ [])) t i, tt)), tt) (vars_within w w (same w), tt))

  unlock_opened : (t : Tree) (l : ℕ) → Member (lock_var l) v → Within v t → map (open_variables g) (action_rules path v (action.unlock t l)) ≡ [] ∷ []
  unlock_opened t l m i = ap (λ vs. vs ∷ []) (plain (codes "Unlock_") [] (unlock_fact (variable (lock_var l)) t ∷ []) (state (first_of path) v ∷ []) tt ((m, (i, tt)), tt) (scope, tt))

  embedded_opened : (l a r : List Fact) → ArePlain g (facts_terms l) → map (open_variables g) (action_rules path v (action.embedded l a r)) ≡ left_open v l a r ∷ []
  embedded_opened l a r fine =
      let L : List Var = facts_vars l in
      let A : List Var = facts_vars a in
      let R : List Var = facts_vars r in
      let known : facts_outer_vars g (state path v ∷ l) ≡ v ++ L = λ i. scope_outer g v i ++ facts_outer g l fine i in
      let split : facts_vars (l ++ (a ++ r)) ≡ L ++ (A ++ R) = facts_joined l (a ++ r) ∙ ap (λ z. L ++ z) (facts_joined a r) in
      let left_vars : facts_vars (state path v ∷ l) ≡ v ++ L = ap (λ z. z ++ L) (scope_vars v) in
      let right_vars : facts_vars (state (first_of path) (with_new v (facts_vars (l ++ (a ++ r)))) ∷ r) ≡ (v ++ new_vars (var_names v) (L ++ (A ++ R))) ++ R = ap (λ z. z ++ R) (scope_vars (with_new v (facts_vars (l ++ (a ++ r)))) ∙ ap (λ z. v ++ new_vars (var_names v) z) split) in
      let of_rule : open_variables g (embedded_rule path v l a r) ≡ new_vars (var_names (v ++ L)) (A ++ R) = (λ i. new_vars (var_names (known i)) (left_vars i ++ (shown_vars a i ++ right_vars i))) ∙ rule_new v L A R in
      ap (λ vs. vs ∷ []) (of_rule ∙ ap (new_vars (var_names (v ++ L))) (sym (facts_joined a r)))

  action_opened : (a : Action) (p : Proc) → IsSoundAction g v a p → ArePlain g (action_patterns a) → map (open_variables g) (action_rules path v a) ≡ opened_by v a
  action_opened (action.new x) p s fine = new_opened x
  action_opened (action.out t) p s fine = out_opened t s
  action_opened (action.send t u) p s fine = send_opened t u s.0 s.1
  action_opened (action.input t) p s fine = input_opened t (fine t Member.here) s
  action_opened (action.receive t u) p s fine = receive_opened t u (fine u Member.here) s.0 s.2
  action_opened (action.event f) p s fine = event_opened f s.1
  action_opened (action.insert t u) p s fine = insert_opened t u s.0 s.1
  action_opened (action.delete t) p s fine = delete_opened t s
  action_opened (action.lock t l) p s fine = lock_opened t l s.0
  action_opened (action.unlock t l) p s fine = unlock_opened t l s.1 s.0
  action_opened (action.embedded l a r) p s fine = embedded_opened l a r fine

  test_opened : (t u : Tree) (p q : Proc) → Within v t → Within v u → map (open_variables g) (own_rules path v (whole.test t u p q)) ≡ [] ∷ [] ∷ []
  test_opened t u p q i j =
      let yes = plain (codes "Then_") [] (eq_fact t u ∷ []) (state (first_of path) v ∷ []) tt ((i, (j, tt)), tt) (scope, tt) in
      let no = plain (codes "Else_") [] (not_eq_fact t u ∷ []) (state (second_of path) v ∷ []) tt ((i, (j, tt)), tt) (scope, tt) in
      λ k. yes k ∷ no k ∷ []

  lookup_opened : (t : Tree) (x : Var) (p q : Proc) → Within v t → IsFree x v → map (open_variables g) (own_rules path v (whole.lookup t x p q)) ≡ (message_var x ∷ []) ∷ [] ∷ []
  lookup_opened t x p q i free =
      let z : Var = message_var x in
      let w : List Var = v ++ z ∷ [] in
      let inside : Inside v w = among_more v (z ∷ []) in
      let last : Member z w = member_last v z in
      let acts : List Fact = is_in_fact t (variable z) ∷ [] in
      let right : List Fact = state (first_of path) w ∷ [] in
      let known : facts_outer_vars g (state path v ∷ []) ≡ v = append-nil (all_outer_vars g (trees_of (map variable v))) ∙ scope_outer g v in
      let stands : Member z (facts_vars acts) = member_left [] (member_right (tree_vars t) Member.here) in
      let yes = one_open g (rule (codes "Found_") path (state path v ∷ []) acts right) v z known (vars_within v w inside, tt) ((within_more v w inside t i, (last, tt)), tt) (vars_within w w (same w), tt)
      (member_right (facts_vars (state path v ∷ [])) (member_left (facts_vars right) stands)) free in
      let no = plain (codes "Missing_") [] (is_not_set_fact t ∷ []) (state (second_of path) v ∷ []) tt ((i, tt), tt) (scope, tt) in
      λ k. yes k ∷ no k ∷ []

  replicated_opened : (p : Proc) → map (open_variables g) (own_rules path v (whole.replicated p)) ≡ [] ∷ [] ∷ []
  replicated_opened p =
      let first = plain (codes "RepStart_") [] [] (copies_fact path (map variable v) ∷ []) tt tt (scope, tt) in
      let known : Inside v (facts_outer_vars g (copies_fact path (map variable v) ∷ [])) = λ x m. member_left [] (subst (Member x) (sym (scope_outer g v)) m) in
      let more = none_open g (rule (codes "RepCopy_") path (copies_fact path (map variable v) ∷ []) [] (state (first_of path) v ∷ [])) v known (scope, tt) tt (scope, tt) in
      λ k. first k ∷ more k ∷ []

  pub own_opened : (p : Proc) → SoundAt g v p → ArePlain g (patterns p) → map (open_variables g) (own_rules path v p) ≡ opened v p
  own_opened whole.nil s fine = ap (λ vs. vs ∷ []) (plain (codes "Nil_") [] [] [] tt tt tt)
  own_opened (whole.parallel p q) s fine = ap (λ vs. vs ∷ []) (plain (codes "Par_") [] [] (state (first_of path) v ∷ state (second_of path) v ∷ []) tt tt (scope, (scope, tt)))
  own_opened (whole.replicated p) s fine = replicated_opened p
  own_opened (act a p) s fine = action_opened a p s fine
  own_opened (whole.test t u p q) s fine = test_opened t u p q s.0 s.1
  own_opened (whole.lookup t x p q) s fine = lookup_opened t x p q s.0 s.1
