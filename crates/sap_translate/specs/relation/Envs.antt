-- The variables in scope, and what they stand for.
use Rattle.sap_translate.specs.Members.{Member}
use Rattle.std.specs.Prelude.{List, [], ◌∷◌, ◌++◌, map, if◌then◌else◌}
use Rattle.sap_terms.specs.Choice.{Choice}
use Rattle.sap_terms.specs.Ground.{IsGround}
use Rattle.sap_terms.specs.Message.{IsMessage}
use Rattle.sap_terms.specs.Signature.{Sig}
use Rattle.sap_terms.specs.Tree.{Tree, variable, public, fresh}
use Rattle.sap_terms.specs.Variables.{is_known}
use Rattle.sap_terms.specs.declared.var.Sort.{Sort}
use Rattle.sap_terms.specs.declared.var.Sort.TheVariants.{Msg, Fresh, Pub}
use Rattle.sap_terms.specs.declared.var.Var.{Var}
use Rattle.std.specs.Option.{option_map_or}
use Rattle.sap_process.specs.Flaws.{binder_of}
use Rattle.sap_process.specs.Sites.{var_names}
use Rattle.sap_translate.specs.relation.Names.{among}

-- the variables in scope, and a choice of what they stand for
pub record Env : Type 0 where
  -- the variables in scope, in order of binding
  pub scope : List Var
  -- what they stand for
  pub choice : Choice

-- the variables in scope
abbrev pub names : Env → List Var
names env = env.scope

-- nothing is in scope
abbrev pub no_env : Env
no_env = record { scope = []; choice = λ v. public [] }

-- what the choice says of the first of these variables that has the name, or of the variable itself where none has it
abbrev pub of_first : Choice → List Var → Choice
of_first σ vs v = option_map_or σ (binder_of vs v.name) (σ v)

-- these are, and a name stands for what the choice says of the first of them that has it
abbrev pub bind : Choice → List Var → Env
bind σ vs = record { scope = vs; choice = of_first σ vs }

-- one variable is
abbrev pub just : Var → Tree → Env
just x t = record { scope = x ∷ []; choice = λ v. t }

-- the first, and the second where the first has no variable of the name
abbrev pub join : Env → Env → Env
join env τ = record {
  scope = env.scope ++ τ.scope;
  choice = λ v. if is_known (var_names env.scope) v.name then env.choice v else τ.choice v;
}

-- the choice that puts in what is in scope, and leaves other variables as they are
abbrev pub chosen : Env → Choice
chosen env = λ v. if is_known (var_names env.scope) v.name then env.choice v else variable v

-- some message of a sort
abbrev pub some_term : Sort → Tree
some_term Msg = public []
some_term Pub = public []
some_term Fresh = fresh 0

-- the choice that gives messages to other variables
abbrev pub filled : Env → Choice
filled env = λ v. if among v env.scope then env.choice v else some_term v.sort

-- what is in scope stands for these terms
abbrev pub values : Env → List Tree
values env = map env.choice env.scope

-- what is in scope stands for messages of its sorts, and nothing stands for a term with variables
pub record GoodEnv (g : Sig) (env : Env) : Type 0 where
  pub ground : (v : Var) → IsGround (env.choice v)
  pub messages : (v : Var) → Member v env.scope → IsMessage g v.sort (env.choice v)
