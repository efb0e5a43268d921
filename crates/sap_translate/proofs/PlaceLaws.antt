-- The rules of a place are found by their names, and their terms stand for what a thread has.
use Rattle.std.proofs.Common.{◌≡◌, List, [], ◌∷◌, Some, None, refl, sym, ap, ◌∙◌, Bool, true, false, cond, ◌⊎◌, inl, inr}
use Rattle.std.specs.Prelude.{Contains}
use Rattle.std.specs.Str.{bytes_eq}
use Rattle.sap_terms.specs.Choice.{Choice, instance}
use Rattle.sap_terms.specs.Equations.{app2, equations, pair_name}
use Rattle.sap_terms.specs.Laws.{DestructorsHeadLeftSides, LeavesAreNormal}
use Rattle.sap_terms.specs.Modulo.{instance_facts}
use Rattle.sap_terms.specs.Normal.{IsNormalForm}
use Rattle.sap_terms.specs.Signature.{Sig}
use Rattle.sap_terms.specs.Tree.{Tree, more, none}
use Rattle.sap_terms.specs.Variables.{new_vars}
use Rattle.sap_terms.specs.declared.fact.Fact.{Fact}
use Rattle.sap_terms.specs.declared.var.Var.{Var}
use Rattle.sap_rewrite.specs.Laws.{EqualityIsKept}
use Rattle.sap_process.specs.Proc.{Proc}
use Rattle.sap_process.specs.Sites.{var_names}
use Rattle.sap_rule.specs.Named.{HaveNamesOfTheirOwn, rule_named}
use Rattle.sap_rule.specs.declared.rule.Rule.{Rule}
use Rattle.sap_translate.specs.Members.{Member}
use Rattle.sap_translate.specs.PlaceRules.{IsOfPlace}
use Rattle.sap_translate.specs.Scoped.{FactsWithin, Within}
use Rattle.sap_templates.specs.Templates.{init_rule, own_rules, rules_of}
use Rattle.sap_translate.specs.relation.Answers.{term_under, widened}
use Rattle.sap_translate.specs.relation.Envs.{Env, GoodEnv, bind, chosen, filled, join, names}
use Rattle.sap_translate.proofs.Shared.Facts.{same_name_self, same_name_true}
use Rattle.sap_translate.proofs.Parts.Places.{Home, home}
use Rattle.sap_translate.proofs.Premises.OwnNames.{own_names}
use Rattle.sap_translate.proofs.Related.Common.{place_rule}
use Rattle.sap_translate.proofs.Terms.Choices.{facts_are, filled_is, join_new, join_old, pattern_is}
use Rattle.sap_translate.proofs.Terms.Derive.{contains, member}
use Rattle.sap_translate.proofs.Terms.Substitution.{new_first, new_free}

-- by name

none_here : (rs : List Rule) (x r : Rule) → rule_named rs x.name ≡ None → rule_named rs r.name ≡ Some r → bytes_eq x.name r.name ≡ false
none_here rs x r before found = go (bytes_eq x.name r.name) refl
  where
    go : (b : Bool) → bytes_eq x.name r.name ≡ b → b ≡ false
    go true e = absurd (let z : None ≡ Some r = sym before ∙ ap (rule_named rs) (same_name_true x.name r.name e) ∙ found in cc)
    go false e = refl

named_member : (rs : List Rule) → HaveNamesOfTheirOwn rs → (r : Rule) → Member r rs → rule_named rs r.name ≡ Some r
named_member [] own r m = elim m [ ]
named_member (x ∷ rs) own r m = at m (named_member rs own.1 r)
  where
    at : {r : Rule} → Member r (x ∷ rs) → (Member r rs → rule_named rs r.name ≡ Some r) → rule_named (x ∷ rs) r.name ≡ Some r
    at Member.here rest = ap (λ b. cond b (Some x) (rule_named rs x.name)) (same_name_self x.name)
    at {r} (Member.later k) rest = ap (λ b. cond b (Some x) (rule_named rs r.name)) (none_here rs x r own.0 (rest k)) ∙ rest k

pub found_by_name : (p : Proc) (r : Rule) → Contains (rules_of p) r → rule_named (rules_of p) r.name ≡ Some r
found_by_name p r h = named_member (rules_of p) (own_names p) r (member r (rules_of p) h)

pub origin : (p : Proc) (r : Rule) → Contains (rules_of p) r → (r ≡ init_rule) ⊎ IsOfPlace p r
origin p r h = at (member r (rules_of p) h)
  where
    at : {r : Rule} → Member r (rules_of p) → (r ≡ init_rule) ⊎ IsOfPlace p r
    at Member.here = inl refl
    at {r} (Member.later m) =
        let from : Home [] [] p r = home [] p [] r m in
        inr (record { path = from.path; scope = from.scope; body = from.body; stands = from.is; own = contains from.own })

pub placed : (p : Proc) (r : Rule) → IsOfPlace p r → Contains (rules_of p) r
placed p r h = contains (place_rule p h.path h.scope h.body r h.stands (member r (own_rules h.path h.scope h.body) h.own))

-- terms

pub in_scope : (env : Env) (x : Var) → Contains (names env) x → filled env x ≡ env.choice x
in_scope env x h = filled_is env x (member x (names env) h)

pub stays : (env later : Env) (x : Var) → Contains (names env) x → (join env later).choice x ≡ env.choice x
stays env later x h = join_old env later x (member x (names env) h)

pub as_chosen : (env : Env) (σ : Choice) (vs : List Var) (x : Var) → Contains (new_vars (var_names (names env)) vs) x → (widened env σ vs).choice x ≡ σ x
as_chosen env σ vs x h =
    let m = member x (new_vars (var_names (names env)) vs) h in
    join_new env (bind σ (new_vars (var_names (names env)) vs)) x (new_free (var_names (names env)) vs x m) ∙ new_first σ (var_names (names env)) vs x m

pub of_pattern : (g : Sig) (env : Env) (σ : Choice) (vs : List Var) (m : Tree) → GoodEnv g env → Within (names (widened env σ vs)) m → instance (filled (widened env σ vs)) m ≡ instance σ (term_under env m)
of_pattern g env σ vs m good within =
    sym (pattern_is env σ (new_vars (var_names (names env)) vs) good.ground (new_free (var_names (names env)) vs) (new_first σ (var_names (names env)) vs) m within)

pub of_facts : (g : Sig) (env : Env) (σ : Choice) (vs : List Var) (fs : List Fact) → GoodEnv g env → FactsWithin (names (widened env σ vs)) fs → instance_facts (filled (widened env σ vs)) fs ≡ instance_facts σ (instance_facts (chosen env) fs)
of_facts g env σ vs fs good within =
    sym (facts_are env σ (new_vars (var_names (names env)) vs) good.ground (new_free (var_names (names env)) vs) (new_first σ (var_names (names env)) vs) fs within)

pub of_pair : (leaves : LeavesAreNormal) (kept : EqualityIsKept) (heads : DestructorsHeadLeftSides) (g : Sig) (t u m n : Tree) → IsNormalForm (equations g) t m → IsNormalForm (equations g) u n → IsNormalForm (equations g) (app2 pair_name t u) (app2 pair_name m n)
of_pair leaves kept heads g t u m n first second = record {
  equal = kept.under_symbols (equations g) pair_name (t ∷ u ∷ []) (m ∷ n ∷ []) (first.equal, (second.equal, tt));
  normal = leaves.of_symbol (equations g) pair_name (more m (more n none)) (λ d. let z : false ≡ true = (heads g pair_name).1 d in cc) (first.normal, (second.normal, tt));
}
