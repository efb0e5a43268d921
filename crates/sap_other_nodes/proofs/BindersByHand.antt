-- Which node binds a name, by hand.
use Rattle.std.proofs.Common.{◌≡◌, ℕ, zero, suc, ◌<◌, [], ◌∷◌, Option, Some, arith, refl, sym, subst}
use Rattle.std.specs.Prelude.{codes, slice_get}
use Rattle.sap_terms.specs.Equations.{pair_name}
use Rattle.sap_terms.specs.declared.var.Sort.TheVariants.{Msg}
use Rattle.sap_terms.proofs.PlainLaws.Known.{two_names}
use Rattle.sap_process.specs.Sites.{message_var}
use Rattle.sap_nodes.specs.FullScope.{IsNamed}
use Rattle.sap_nodes.specs.HeadNodes.{Node, binder, symbol, variable}
use Rattle.sap_nodes.specs.NodeExamples.{var_of}
use Rattle.sap_nodes.specs.declared.part.Part.TheVariants.{Pattern}
use Rattle.sap_other_nodes.specs.BinderExamples.{fresh_x, in_both_branches, name_x, new_twice, twice_in_pattern}
use Rattle.sap_other_nodes.specs.OtherBinders.{IsBinderNode, IsBoundOn, binding_for, bound_below, bound_here}
use Rattle.sap_other_nodes.proofs.BinderWays.{one_bound, one_node}

one_of : {A : Type 0} (x y : A) → ◌≡◌ {A = Option A} (Some x) (Some y) → x ≡ y
one_of x y e = cc

before_first : (j : ℕ) (m : Node) → j < 1 → slice_get (binding_for twice_in_pattern 1) j ≡ Some m → IsNamed name_x m → ⊥
before_first zero m l e h = subst (IsNamed name_x) (sym (one_of (symbol Pattern pair_name 2) m e)) h
before_first (suc j) m l e h = absurd (omega (arith, l))

pub pattern : IsBinderNode twice_in_pattern 1 name_x 2
pattern = record { index = 1; at = refl; node = variable (var_of (codes "x") Msg); stands = refl; named = refl; first = before_first }

pub not_second : IsBinderNode twice_in_pattern 1 name_x 3 → ⊥
not_second h = let same : 2 ≡ 3 = one_node twice_in_pattern 1 name_x 2 3 pattern h in absurd (omega (arith, same))

x_is_c : codes "x" ≡ codes "c" → ⊥
x_is_c = two_names (codes "x") (codes "c") refl

unnamed_c : (j : ℕ) (m : Node) → slice_get (binding_for twice_in_pattern 1) j ≡ Some m → IsNamed (codes "c") m → ⊥
unnamed_c zero m e h = subst (IsNamed (codes "c")) (sym (one_of (symbol Pattern pair_name 2) m e)) h
unnamed_c (suc zero) m e h = x_is_c (subst (IsNamed (codes "c")) (sym (one_of (variable (var_of (codes "x") Msg)) m e)) h)
unnamed_c (suc (suc zero)) m e h = x_is_c (subst (IsNamed (codes "c")) (sym (one_of (variable (var_of (codes "x") Msg)) m e)) h)
unnamed_c (suc (suc (suc j))) m e h = cc (e)

pub not_channel : (k : ℕ) → IsBinderNode twice_in_pattern 1 (codes "c") k → ⊥
not_channel k h = unnamed_c h.index h.node h.stands h.named

pub outer_one : IsBoundOn new_twice (1 ∷ 1 ∷ []) name_x 0 0
outer_one = bound_here (record { index = 0; at = refl; node = binder fresh_x; stands = refl; named = refl; first = λ j m l. absurd (omega (arith, l)) })

pub not_inner : IsBoundOn new_twice (1 ∷ 1 ∷ []) name_x 1 0 → ⊥
not_inner h = let same : 0 ≡ 1 = (one_bound (1 ∷ 1 ∷ []) new_twice name_x 0 1 0 0 outer_one h).0 in absurd (omega (arith, same))

pub found : IsBoundOn in_both_branches (1 ∷ 1 ∷ []) name_x 0 1
found = bound_here (record { index = 0; at = refl; node = binder (message_var (var_of (codes "x") Msg)); stands = refl; named = refl; first = λ j m l. absurd (omega (arith, l)) })

nothing_there : (k : ℕ) → IsBinderNode in_both_branches 2 name_x k → ⊥
nothing_there k h = cc (h.stands)

pub missing : IsBoundOn in_both_branches (2 ∷ 1 ∷ []) name_x 1 0
missing =
    bound_below nothing_there refl (bound_here (record { index = 0; at = refl; node = binder fresh_x; stands = refl; named = refl; first = λ j m l. absurd (omega (arith, l)) }))

pub not_missing : IsBoundOn in_both_branches (2 ∷ 1 ∷ []) name_x 0 1 → ⊥
not_missing h = let same : 1 ≡ 0 = (one_bound (2 ∷ 1 ∷ []) in_both_branches name_x 1 0 0 1 missing h).0 in absurd (omega (arith, same))
