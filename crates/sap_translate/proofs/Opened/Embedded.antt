-- What an embedded rule leaves open as a thread runs it, and what stands for that.
use Rattle.std.proofs.Common.{◌≡◌, ℕ, List, [], ◌∷◌, ◌++◌, refl, sym, ap, ◌∙◌, subst, Bool, true, false, not, ◌||◌}
use Rattle.sap_terms.specs.Choice.{Choice}
use Rattle.sap_terms.specs.Modulo.{instance_fact, instance_facts}
use Rattle.sap_terms.specs.Variables.{facts_vars, is_known, new_vars}
use Rattle.sap_terms.specs.declared.binding.Binding.{Binding}
use Rattle.sap_terms.specs.declared.fact.Fact.{Fact}
use Rattle.sap_terms.specs.declared.var.Var.{Var}
use Rattle.sap_rewrite.specs.Match.{Agrees, bound_vars}
use Rattle.sap_process.specs.Sites.{var_names}
use Rattle.sap_translate.specs.Members.{Member}
use Rattle.sap_translate.specs.Opened.{left_open}
use Rattle.sap_translate.specs.Scoped.{FactsWithin, IsFree}
use Rattle.sap_translate.specs.relation.Answers.{widened}
use Rattle.sap_translate.specs.relation.Envs.{Env, bind, chosen, filled, join, names}
use Rattle.sap_translate.proofs.Lists.FactLists.{map_joined, within_right}
use Rattle.sap_translate.proofs.Shared.Lookups.{in_left, in_right, member_cases, member_right}
use Rattle.sap_translate.proofs.Opened.NewVars.{filter_new, new_in, or_more}
use Rattle.sap_translate.proofs.Opened.Rules.{in_facts}
use Rattle.sap_translate.proofs.Terms.Choices.{filled_is, join_new}
use Rattle.sap_translate.proofs.Terms.Substitution.{GroundEnv, facts_vars_put, known_filter, member_known, names-append, new_first, new_free, new_of}

-- its instance leaves open the same
pub instance_open : (env : Env) → GroundEnv env → (l a r : List Fact) → new_vars (var_names (facts_vars (instance_facts (chosen env) l))) (facts_vars (instance_facts (chosen env) a ++ instance_facts (chosen env) r)) ≡ left_open (names env) l a r
instance_open env ground l a r =
    let v : List Var = names env in
    let L : List Var = facts_vars l in
    let others : facts_vars (instance_facts (chosen env) a ++ instance_facts (chosen env) r) ≡ new_of v (facts_vars (a ++ r)) = ap facts_vars (sym (map_joined (instance_fact (chosen env)) a r)) ∙ facts_vars_put env ground (a ++ r) in
    let known : (n : List ℕ) → is_known (var_names (v ++ L)) n ≡ (is_known (var_names v) n || is_known (var_names (new_of v L)) n) = λ n.
    ap (λ k. is_known k n) (map_joined (λ (x : Var). x.name) v L) ∙ names-append (var_names v) (var_names L) n ∙ or_more (is_known (var_names v) n) (is_known (var_names L) n) ∙ ap (λ z. is_known (var_names v) n || z) (sym (known_filter v L n)) in
    (λ i. new_vars (var_names (facts_vars_put env ground l i)) (others i)) ∙ filter_new v (var_names (new_of v L)) (var_names (v ++ L)) known (facts_vars (a ++ r))

not_false : (b : Bool) → not b ≡ true → b ≡ false
not_false true e = sym e
not_false false e = refl

agree_same : (σ ρ : Choice) (b : List Binding) → ((x : Var) → Member x (bound_vars b) → ρ x ≡ σ x) → Agrees b σ → Agrees b ρ
agree_same σ ρ [] h a = tt
agree_same σ ρ (e ∷ es) h a = (h e.var Member.here ∙ a.0, agree_same σ ρ es (λ x m. h x (Member.later m)) a.1)

known_more : (v L : List Var) (x : Var) → is_known (var_names (v ++ L)) x.name ≡ false → IsFree x v
known_more v L x e = go (is_known (var_names v) x.name) refl
  where
    go : (b : Bool) → is_known (var_names v) x.name ≡ b → b ≡ false
    go true h = absurd (let z : true ≡ false = sym (ap (λ k. is_known k x.name) (map_joined (λ (y : Var). y.name) v L) ∙ names-append (var_names v) (var_names L) x.name ∙ ap (λ b. b || is_known (var_names L) x.name) h) ∙ e in cc)
    go false h = refl

-- what is open stands, with all that is in scope behind the rule, for what the choice says
pub open_agrees : (env : Env) (σ : Choice) (l a r : List Fact) (b : List Binding) → FactsWithin (names (widened env σ (facts_vars (l ++ (a ++ r))))) (l ++ (a ++ r)) → bound_vars b ≡ left_open (names env) l a r → Agrees b σ → Agrees b (filled (widened env σ (facts_vars (l ++ (a ++ r)))))
open_agrees env σ l a r b within bound agrees =
    let v : List Var = names env in
    let fs : List Fact = l ++ (a ++ r) in
    let ns : List Var = new_vars (var_names v) (facts_vars fs) in
    agree_same σ (filled (widened env σ (facts_vars fs))) b (λ x m.
    let m1 : Member x (left_open v l a r) = subst (Member x) bound m in
    let m2 : Member x (facts_vars (a ++ r)) = new_in (var_names (v ++ facts_vars l)) (facts_vars (a ++ r)) x m1 in
    let free : IsFree x v = known_more v (facts_vars l) x (new_free (var_names (v ++ facts_vars l)) (facts_vars (a ++ r)) x m1) in
    let m3 : Member x (v ++ ns) = in_facts (v ++ ns) (a ++ r) (within_right (v ++ ns) l (a ++ r) within) x m2 in
    let m4 : Member x ns = elim (member_cases v ns m3) [ in_left k ↦ absurd (let z : true ≡ false = sym (member_known v x k) ∙ free in cc) | in_right k ↦ k ] in
    filled_is (join env (bind σ ns)) x (member_right v m4) ∙ join_new env (bind σ ns) x free ∙ new_first σ (var_names v) (facts_vars fs) x m4) agrees
