-- Nodes of small heads, by hand.
use Rattle.std.proofs.Common.{◌≡◌, ◌<◌, ◌+◌, ℕ, zero, suc, true, false, List, [], ◌∷◌, Option, Some, None, refl, sym, ap, ◌∙◌, subst, arith}
use Rattle.std.specs.Prelude.{slice_get}
use Rattle.sap_terms.specs.Tree as tree
use Rattle.sap_terms.specs.Tree.{Tree}
use Rattle.sap_terms.specs.Variables.{is_known}
use Rattle.sap_terms.specs.declared.var.Var.{Var}
use Rattle.sap_process.specs.Action.{Action}
use Rattle.sap_process.specs.Sites.{var_names}
use Rattle.sap_nodes.specs.HeadNodes.{Node, variable}
use Rattle.sap_captures.specs.Examples.{Binds, Compares, by_x, head_in, on_channel, one, showing, taking, twice, with_n, n_var, x_var}
use Rattle.sap_captures.specs.Patterns.{pattern_nodes}

some_same : {A : Type 0} {a b : A} → ◌≡◌ {A = Option A} (Some a) (Some b) → a ≡ b
some_same e = cc (e)

none_some : {A X : Type 0} {a : A} → ◌≡◌ {A = Option A} None (Some a) → X
none_some e = absurd (cc (e))

variable_is : {v w : Var} → variable v ≡ variable w → v ≡ w
variable_is e = cc (e)

tree_is : {v w : Var} → tree.variable v ≡ tree.variable w → v ≡ w
tree_is e = cc (e)

-- ---- in(x)

pub one_binds : Binds [] one 0
one_binds = record { index = 0; at = refl; var = x_var; stands = refl; new = refl; first = λ j v low e. absurd (omega (arith, low)) }

first_of_one : (n : Node) (i : ℕ) (v : Var) → slice_get (n ∷ []) i ≡ Some (variable v) → (i ≡ 0) × (n ≡ variable v)
first_of_one n zero v e = (refl, some_same e)
first_of_one n (suc i) v e = none_some e

pub one_alone : (k : ℕ) → Binds [] one k → k ≡ 0
one_alone k r = let e : k ≡ 0 + r.index = r.at in let i = (first_of_one (variable x_var) r.index r.var r.stands).0 in omega (arith, e, i)

known_not : {A : Type 0} (scope : List Var) (v w : Var) → v ≡ w → is_known (var_names scope) w.name ≡ true → is_known (var_names scope) v.name ≡ false → A
known_not scope v w e known new_one =
    let clash : true ≡ false = sym known ∙ sym (ap (λ (u : Var). is_known (var_names scope) u.name) e) ∙ new_one in absurd (cc (clash))

pub one_known : (k : ℕ) → Binds (x_var ∷ []) one k → ⊥
one_known k r = known_not (x_var ∷ []) r.var x_var (sym (variable_is (first_of_one (variable x_var) r.index r.var r.stands).1)) refl r.new

pub one_compared : Compares (x_var ∷ []) one 0
one_compared = record { at = refl; var = x_var; whole = refl; known = refl }

pub one_new : (k : ℕ) → Compares [] one k → ⊥
one_new k r = let clash : false ≡ true = r.known in cc (clash)

pub one_other : (k : ℕ) → Compares (n_var ∷ []) one k → ⊥
one_other k r =
    let same : x_var ≡ r.var = tree_is (some_same r.whole) in
    let clash : false ≡ true = ap (λ (u : Var). is_known (var_names (n_var ∷ [])) u.name) same ∙ r.known in cc (clash)

-- ---- on a channel

pub channel_binds : Binds [] on_channel 1
channel_binds = record { index = 0; at = refl; var = x_var; stands = refl; new = refl; first = λ j v low e. absurd (omega (arith, low)) }

pub channel_compared : Compares (x_var ∷ []) on_channel 1
channel_compared = record { at = refl; var = x_var; whole = refl; known = refl }

pub no_channel_binds : Binds [] on_channel 0 → ⊥
no_channel_binds r = let e : 0 ≡ 1 + r.index = r.at in omega (arith, e)

pub no_channel_compared : Compares (x_var ∷ []) on_channel 0 → ⊥
no_channel_compared r = let e : 0 ≡ 1 = r.at in omega (arith, e)

pub by_x_binds : Binds [] by_x 1
by_x_binds = record { index = 0; at = refl; var = _; stands = refl; new = refl; first = λ j v low e. absurd (omega (arith, low)) }

pub by_x_channel : Binds [] by_x 0 → ⊥
by_x_channel r = let e : 0 ≡ 1 + r.index = r.at in omega (arith, e)

-- ---- larger patterns

behind_symbol : (scope : List Var) (a : Action) (v : Var) (j : ℕ) (w : Var) → j < 1 → slice_get (pattern_nodes (head_in scope a).body) j ≡ Some (variable w) → (slice_get (pattern_nodes (head_in scope a).body) 0 ≡ Some (variable w) → ⊥)
    → ¬ (w.name ≡ v.name)
behind_symbol scope a v zero w low e other = λ same. other e
behind_symbol scope a v (suc j) w low e other = absurd (omega (arith, low))

pub inside_binds : Binds (n_var ∷ []) with_n 1
inside_binds = record { index = 1; at = refl; var = x_var; stands = refl; new = refl; first = λ j v low e. behind_symbol (n_var ∷ []) with_n x_var j v low e (λ h. cc (h)) }

pub known_inside : Binds (n_var ∷ []) with_n 2 → ⊥
known_inside r =
    let a : 2 ≡ 0 + r.index = r.at in
    let e : 2 ≡ r.index = omega (arith, a) in
    let there : Some (variable n_var) ≡ Some (variable r.var) = subst (λ (i : ℕ). slice_get (pattern_nodes (head_in (n_var ∷ []) with_n).body) i ≡ Some (variable r.var)) (sym e) r.stands in
    known_not (n_var ∷ []) r.var n_var (sym (variable_is (some_same there))) refl r.new

pub no_symbol_binds : Binds [] with_n 0 → ⊥
no_symbol_binds r =
    let a : 0 ≡ 0 + r.index = r.at in
    let e : 0 ≡ r.index = omega (arith, a) in
    let there = subst (λ (i : ℕ). slice_get (pattern_nodes (head_in [] with_n).body) i ≡ Some (variable r.var)) (sym e) r.stands in cc (there)

pub twice_binds : Binds [] twice 1
twice_binds = record { index = 1; at = refl; var = x_var; stands = refl; new = refl; first = λ j v low e. behind_symbol [] twice x_var j v low e (λ h. cc (h)) }

pub twice_once : Binds [] twice 2 → ⊥
twice_once r =
    let a : 2 ≡ 0 + r.index = r.at in
    let e : 2 ≡ r.index = omega (arith, a) in
    let there : Some (variable x_var) ≡ Some (variable r.var) = subst (λ (i : ℕ). slice_get (pattern_nodes (head_in [] twice).body) i ≡ Some (variable r.var)) (sym e) r.stands in
    r.first 1 x_var (subst (λ (i : ℕ). 1 < i) e (omega arith)) refl (ap (λ (u : Var). u.name) (variable_is (some_same there)))

-- ---- rules

pub left_binds : Binds [] taking 1
left_binds = record { index = 1; at = refl; var = x_var; stands = refl; new = refl; first = λ j v low e. behind_symbol [] taking x_var j v low e (λ h. cc (h)) }

second_of_two : (n m : Node) (i : ℕ) (v : Var) → slice_get (n ∷ m ∷ []) i ≡ Some (variable v) → (n ≡ variable v → ⊥) → i ≡ 1
second_of_two n m zero v e other = absurd (other (some_same e))
second_of_two n m (suc zero) v e other = refl
second_of_two n m (suc (suc i)) v e other = none_some e

pub left_alone : (k : ℕ) → Binds [] taking k → k ≡ 1
left_alone k r = let e : k ≡ 0 + r.index = r.at in let i : r.index ≡ 1 = second_of_two _ _ r.index r.var r.stands (λ h. cc (h)) in omega (arith, e, i)

pub none_left : (k : ℕ) → Binds [] showing k → ⊥
none_left k r = none_some r.stands
