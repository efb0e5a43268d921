use Rattle.std.proofs.Common.{◌≡◌, ℕ, List, ◌++◌, ap, refl, ◌∙◌}
use Rattle.std.specs.Prelude.{Result, Ok, Err, IfOk}
use Rattle.sap_terms.specs.Variables.{facts_vars, new_vars}
use Rattle.sap_terms.specs.declared.fact.Fact.{Fact}
use Rattle.sap_terms.specs.declared.var.Var.{Var}
use Rattle.sap_process.specs.Sites.{var_names}
use Rattle.sap_share.specs.declared.env.Bound.{Bound}
use Rattle.sap_heads.specs.Bound.{names_of}
use Rattle.sap_heads.specs.code.Known.{KnowAlike}
use Rattle.sap_heads.specs.code.Rules.{open_vars}
use Rattle.sap_heads.proofs.Known.{alike_ends, same_new}
use Rattle.sap_heads.proofs.bindings.open_of.Goals as goal

-- the new variables are the open ones
opened : {E : Type 0} (o : Result (List Var) E) (env : List Bound) (l e r : List Fact) (known : List (List ℕ)) (vars : List Var) → KnowAlike known (var_names (facts_vars l)) → vars ≡ facts_vars e ++ facts_vars r → IfOk o (λ vs. vs ≡ new_vars (names_of env ++ known) vars) → IfOk o (λ vs. vs ≡ open_vars env l e r)
opened (Ok vs) env l e r known vars k v is =
    is ∙ ap (new_vars (names_of env ++ known)) v ∙ same_new (names_of env ++ known) (names_of env ++ var_names (facts_vars l)) (facts_vars e ++ facts_vars r) (alike_ends (names_of env) (names_of env) known (var_names (facts_vars l)) (λ n. refl) k)
opened (Err x) env l e r known vars k v is = tt

pub returns : goal.returns
returns c = opened c.first_of.result c.args.env.now c.args.l.now c.args.e.now c.args.r.now c.in_ok-known.known c.in_ok-vars.vars c.in_ok-known.ensures c.in_ok-vars.ensures c.first_of.ensures
