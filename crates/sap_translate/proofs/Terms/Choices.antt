-- Choices against what is in scope.
use Rattle.sap_translate.proofs.Premises.LowerLaws.{Laws, nf}
use Rattle.sap_translate.specs.Members.{Member}
use Rattle.std.proofs.Common.{◌≡◌, List, [], ◌∷◌, ◌++◌, refl, sym, ap, ◌∙◌, Bool, true, false, cond, map, subst, Option, None, Some}
use Rattle.sap_terms.specs.Choice.{Choice, instance}
use Rattle.sap_terms.specs.Ground.{IsGround}
use Rattle.sap_terms.specs.Message.{IsMessage, IsMessageChoice}
use Rattle.sap_terms.specs.Modulo.{instance_fact, instance_facts}
use Rattle.sap_terms.specs.Signature.{Sig}
use Rattle.sap_terms.specs.Equations.{equations}
use Rattle.sap_terms.specs.Tree.{Tree, variable}
use Rattle.sap_terms.specs.Variables.{is_known}
use Rattle.sap_terms.specs.declared.fact.Fact.{Fact}
use Rattle.sap_terms.specs.declared.var.Sort.{Sort}
use Rattle.sap_terms.specs.declared.var.Sort.TheVariants.{Msg, Fresh, Pub}
use Rattle.sap_terms.specs.declared.var.Var.{Var}
use Rattle.std.specs.Option.{option_map_or}
use Rattle.sap_process.specs.Flaws.{binder_of}
use Rattle.sap_process.specs.Sites.{var_names}
use Rattle.sap_translate.specs.relation.Names.{same_var, among, vars}
use Rattle.sap_translate.specs.relation.Envs.{Env, no_env, names, values, join, bind, just, chosen, filled, some_term, GoodEnv}
use Rattle.sap_translate.specs.Scoped.{IsFree, Within, AllWithin, FactsWithin}
use Rattle.sap_translate.proofs.Shared.Facts.{same_var_self, same_var_true}
use Rattle.sap_translate.proofs.Terms.Forms.{public_normal, fresh_normal, chosen_fixed}
use Rattle.sap_translate.proofs.Shared.Lookups.{member_left, member_right, member_cases, in_left, in_right, only_member}
use Rattle.sap_translate.proofs.Terms.Substitution.{AreFirst, GroundEnv, put_ground, put_then, put_agree, then, member_known}

pub choose_vars : (σ : Choice) (v : List Var) → map (instance σ) (vars v) ≡ map σ v
choose_vars σ [] = refl
choose_vars σ (x ∷ v) = ap (λ ts. σ x ∷ ts) (choose_vars σ v)

-- variables in scope, as arguments of a state fact
pub settled_vars : (laws : Laws) → (g : Sig) (σ : Choice) → IsMessageChoice g σ → (v : List Var) → map ((nf laws) (equations g)) (map (instance σ) (vars v)) ≡ map σ v
settled_vars laws g σ good v = ap (map ((nf laws) (equations g))) (choose_vars σ v) ∙ (chosen_fixed laws) g σ good v

pub map_agree : (f g : Choice) (v : List Var) → ((x : Var) → Member x v → f x ≡ g x) → map f v ≡ map g v
map_agree f g [] h = refl
map_agree f g (x ∷ v) h = ap (λ t. t ∷ map f v) (h x Member.here) ∙ ap (λ ts. g x ∷ ts) (map_agree f g v (λ y m. h y (Member.later m)))

pub agree_of : (f g : Choice) (v : List Var) → map f v ≡ map g v → (x : Var) → Member x v → f x ≡ g x
agree_of f g [] e x m = elim m [ ]
agree_of f g (y ∷ v) e x Member.here = cc
agree_of f g (y ∷ v) e x (Member.later m) = agree_of f g v (cc) x m

some_message : (laws : Laws) → (g : Sig) (s : Sort) → IsMessage g s (some_term s)
some_message laws g Msg = record { ground = tt; over = tt; normal = (public_normal laws) (equations g) []; sorted = refl }
some_message laws g Pub = record { ground = tt; over = tt; normal = (public_normal laws) (equations g) []; sorted = refl }
some_message laws g Fresh = record { ground = tt; over = tt; normal = (fresh_normal laws) (equations g) 0; sorted = refl }

among_member : (x : Var) (v : List Var) → among x v ≡ true → Member x v
among_member x [] e = absurd (cc)
among_member x (y ∷ v) e = go (same_var x y) refl (among_member x v) e
  where
    go : (b : Bool) → same_var x y ≡ b → (among x v ≡ true → Member x v) → cond b true (among x v) ≡ true → Member x (y ∷ v)
    go true h rest g = subst (λ z. Member x (z ∷ v)) (same_var_true x y h) Member.here
    go false h rest g = Member.later (rest g)

member_among : (x : Var) (v : List Var) → Member x v → among x v ≡ true
member_among x [] m = elim m [ ]
member_among x (y ∷ v) Member.here = rw (same_var_self x) refl
member_among x (y ∷ v) (Member.later m) = go (same_var x y) (member_among x v m)
  where
    go : (b : Bool) → among x v ≡ true → cond b true (among x v) ≡ true
    go true h = refl
    go false h = h

pub choice_good : (laws : Laws) → (g : Sig) (env : Env) → GoodEnv g env → IsMessageChoice g (filled env)
choice_good laws g env good x = go (among x env.scope) refl
  where
    go : (b : Bool) → among x env.scope ≡ b → IsMessage g x.sort (cond b (env.choice x) (some_term x.sort))
    go true e = good.messages x (among_member x env.scope e)
    go false e = (some_message laws) g x.sort

pub chosen_is : (env : Env) (x : Var) → Member x (names env) → chosen env x ≡ env.choice x
chosen_is env x m = ap (λ b. cond b (env.choice x) (variable x)) (member_known env.scope x m)

pub filled_is : (env : Env) (x : Var) → Member x (names env) → filled env x ≡ env.choice x
filled_is env x m = ap (λ b. cond b (env.choice x) (some_term x.sort)) (member_among x env.scope m)

pub free_left : (env : Env) (x : Var) → IsFree x (names env) → chosen env x ≡ variable x
free_left env x e = ap (λ b. cond b (env.choice x) (variable x)) e

-- what is in scope stays as it is where there is more
pub join_old : (env τ : Env) (x : Var) → Member x (names env) → (join env τ).choice x ≡ env.choice x
join_old env τ x m = ap (λ b. cond b (env.choice x) (τ.choice x)) (member_known env.scope x m)

pub join_new : (env τ : Env) (x : Var) → IsFree x (names env) → (join env τ).choice x ≡ τ.choice x
join_new env τ x e = ap (λ b. cond b (env.choice x) (τ.choice x)) e

pub filled_values : (env : Env) → map (filled env) (names env) ≡ values env
filled_values env = map_agree (filled env) env.choice (names env) (λ x m. filled_is env x m)

pub put_choice : (env : Env) (t : Tree) → Within (names env) t → instance (filled env) t ≡ instance (chosen env) t
put_choice env t w = put_agree (filled env) (chosen env) (names env) t (λ x m. filled_is env x m ∙ sym (chosen_is env x m)) w

put_all_agree : (σ τ : Choice) (v : List Var) (ts : List Tree) → ((x : Var) → Member x v → σ x ≡ τ x) → AllWithin v ts → map (instance σ) ts ≡ map (instance τ) ts
put_all_agree σ τ v [] h w = refl
put_all_agree σ τ v (t ∷ ts) h w = λ i. put_agree σ τ v t h w.0 i ∷ put_all_agree σ τ v ts h w.1 i

put_fact_agree : (σ τ : Choice) (v : List Var) (f : Fact) → ((x : Var) → Member x v → σ x ≡ τ x) → AllWithin v f.args → instance_fact σ f ≡ instance_fact τ f
put_fact_agree σ τ v f h w = λ i. record { name = f.name; persistent = f.persistent; args = put_all_agree σ τ v f.args h w i }

pub facts_agree : (σ τ : Choice) (v : List Var) (fs : List Fact) → ((x : Var) → Member x v → σ x ≡ τ x) → FactsWithin v fs → instance_facts σ fs ≡ instance_facts τ fs
facts_agree σ τ v [] h w = refl
facts_agree σ τ v (f ∷ fs) h w = λ i. put_fact_agree σ τ v f h w.0 i ∷ facts_agree σ τ v fs h w.1 i

pub put_fact_choice : (env : Env) (f : Fact) → AllWithin (names env) f.args → instance_fact (filled env) f ≡ instance_fact (chosen env) f
put_fact_choice env f w = put_fact_agree (filled env) (chosen env) (names env) f (λ x m. filled_is env x m ∙ sym (chosen_is env x m)) w

pub choice_append : (env τ : Env) (x : Var) → Member x (names env) → filled (join env τ) x ≡ env.choice x
choice_append env τ x m = filled_is (join env τ) x (member_left τ.scope m) ∙ join_old env τ x m

pub values_append : (env τ : Env) → map (filled (join env τ)) (names env) ≡ values env
values_append env τ = map_agree (filled (join env τ)) env.choice (names env) (λ x m. choice_append env τ x m)

pub choice_new : (env : Env) (x : Var) (t : Tree) → IsFree x (names env) → filled (join env (just x t)) x ≡ t
choice_new env x t e = filled_is (join env (just x t)) x (member_right env.scope Member.here) ∙ join_new env (just x t) x e

-- a term in scope, where there is more
pub put_longer : (env τ : Env) (t : Tree) → Within (names env) t → instance (filled (join env τ)) t ≡ instance (chosen env) t
put_longer env τ t w = put_agree (filled (join env τ)) (chosen env) (names env) t (λ x m. choice_append env τ x m ∙ sym (chosen_is env x m)) w

pub put_more : (env τ : Env) (t : Tree) → Within (names env) t → instance (chosen (join env τ)) t ≡ instance (chosen env) t
put_more env τ t w = put_agree (chosen (join env τ)) (chosen env) (names env) t (λ x m. chosen_is (join env τ) x (member_left τ.scope m) ∙ join_old env τ x m ∙ sym (chosen_is env x m)) w

-- good environments

pub good_bind : (g : Sig) (σ : Choice) (ns : List Var) → AreFirst σ ns → IsMessageChoice g σ → GoodEnv g (bind σ ns)
good_bind g σ ns first good = record {
  ground = λ v. ground v (binder_of ns v.name);
  messages = λ v m. subst (IsMessage g v.sort) (sym (first v m)) (good v);
}
  where
    ground : (v : Var) (o : Option Var) → IsGround (option_map_or σ o (σ v))
    ground v None = (good v).ground
    ground v (Some b) = (good b).ground

pub good_none : (g : Sig) → GoodEnv g no_env
good_none g = record { ground = λ v. tt; messages = λ v m. elim m [ ] }

pub good_just : (g : Sig) (x : Var) (t : Tree) → IsMessage g x.sort t → GoodEnv g (just x t)
good_just g x t h = record { ground = λ v. h.ground; messages = λ v m. subst (λ y. IsMessage g y.sort t) (sym (only_member m)) h }

pub good-append : (g : Sig) (env τ : Env) → GoodEnv g env → GoodEnv g τ → ((x : Var) → Member x τ.scope → IsFree x (names env)) → GoodEnv g (join env τ)
good-append g env τ one two free = record {
  ground = λ v. ground v (is_known (var_names env.scope) v.name);
  messages = λ v m. elim (member_cases env.scope τ.scope m) [
    | in_left a ↦ subst (λ t. IsMessage g v.sort t) (sym (join_old env τ v a)) (one.messages v a)
    | in_right b ↦ subst (λ t. IsMessage g v.sort t) (sym (join_new env τ v (free v b))) (two.messages v b)
  ];
}
  where
    ground : (v : Var) (b : Bool) → IsGround (cond b (env.choice v) (τ.choice v))
    ground v true = one.ground v
    ground v false = two.ground v

-- one variable alone is free
pub just_free : (env : Env) (x : Var) (t : Tree) → IsFree x (names env) → (y : Var) → Member y (names (just x t)) → IsFree y (names env)
just_free env x t e y m = subst (λ z. IsFree z (names env)) (sym (only_member m)) e

-- what a choice makes of a pattern that is in scope in part
pub then_is : (env : Env) (σ : Choice) (ns : List Var) → GroundEnv env → ((x : Var) → Member x ns → IsFree x (names env)) → AreFirst σ ns → (x : Var) → Member x (names env ++ ns) → then (chosen env) σ x ≡ (join env (bind σ ns)).choice x
then_is env σ ns ground free first x m = elim (member_cases env.scope ns m) [
  | in_left a ↦ ap (instance σ) (chosen_is env x a) ∙ put_ground σ (env.choice x) (ground x) ∙ sym (join_old env (bind σ ns) x a)
  | in_right b ↦ ap (instance σ) (free_left env x (free x b)) ∙ sym (join_new env (bind σ ns) x (free x b) ∙ first x b)
]

-- a pattern under its own choice, and with all that is then in scope
pub pattern_is : (env : Env) (σ : Choice) (ns : List Var) → GroundEnv env → ((x : Var) → Member x ns → IsFree x (names env)) → AreFirst σ ns → (m : Tree) → Within (names env ++ ns) m → instance σ (instance (chosen env) m) ≡ instance (filled (join env (bind σ ns))) m
pattern_is env σ ns ground free first m w =
    put_then (chosen env) σ m ∙ put_agree (then (chosen env) σ) (filled (join env (bind σ ns))) (names env ++ ns) m (λ x h. then_is env σ ns ground free first x h ∙ sym (filled_is (join env (bind σ ns)) x h)) w

all_then : (σ τ : Choice) (ts : List Tree) → map (instance τ) (map (instance σ) ts) ≡ map (instance (then σ τ)) ts
all_then σ τ [] = refl
all_then σ τ (t ∷ ts) = λ i. put_then σ τ t i ∷ all_then σ τ ts i

facts_then : (σ τ : Choice) (fs : List Fact) → instance_facts τ (instance_facts σ fs) ≡ instance_facts (then σ τ) fs
facts_then σ τ [] = refl
facts_then σ τ (f ∷ fs) = λ i. record { name = f.name; persistent = f.persistent; args = all_then σ τ f.args i } ∷ facts_then σ τ fs i

pub facts_are : (env : Env) (σ : Choice) (ns : List Var) → GroundEnv env → ((x : Var) → Member x ns → IsFree x (names env)) → AreFirst σ ns → (fs : List Fact) → FactsWithin (names env ++ ns) fs → instance_facts σ (instance_facts (chosen env) fs) ≡ instance_facts (filled (join env (bind σ ns))) fs
facts_are env σ ns ground free first fs w =
    facts_then (chosen env) σ fs ∙ facts_agree (then (chosen env) σ) (filled (join env (bind σ ns))) (names env ++ ns) fs (λ x h. then_is env σ ns ground free first x h ∙ sym (filled_is (join env (bind σ ns)) x h)) w

-- env agrees with σ
module _ (σ : Choice) (env : Env) (agrees : map σ (names env) ≡ values env) where
  agree : (x : Var) → Member x (names env) → σ x ≡ env.choice x
  agree x m = agree_of σ env.choice (names env) agrees x m

  pub put_same : (t : Tree) → Within (names env) t → instance σ t ≡ instance (chosen env) t
  put_same t w = put_agree σ (chosen env) (names env) t (λ x m. agree x m ∙ sym (chosen_is env x m)) w

  pub put_fact_same : (f : Fact) → AllWithin (names env) f.args → instance_fact σ f ≡ instance_fact (chosen env) f
  put_fact_same f w = put_fact_agree σ (chosen env) (names env) f (λ x m. agree x m ∙ sym (chosen_is env x m)) w

  module _ (ns : List Var) (free : (x : Var) → Member x ns → IsFree x (names env)) (first : AreFirst σ ns) where
    -- what is new stands for what σ gives
    longer : (x : Var) → Member x (names env ++ ns) → σ x ≡ (join env (bind σ ns)).choice x
    longer x m = elim (member_cases env.scope ns m) [
      | in_left a ↦ agree x a ∙ sym (join_old env (bind σ ns) x a)
      | in_right b ↦ sym (join_new env (bind σ ns) x (free x b) ∙ first x b)
    ]

    pub longer_choice : map σ (names env ++ ns) ≡ values (join env (bind σ ns))
    longer_choice = map_agree σ (join env (bind σ ns)).choice (names env ++ ns) longer

    pub pattern_matches : GroundEnv env → (m : Tree) → Within (names env ++ ns) m → instance σ (instance (chosen env) m) ≡ instance σ m
    pattern_matches ground m w = put_then (chosen env) σ m ∙ put_agree (then (chosen env) σ) σ (names env ++ ns) m (λ x h. then_is env σ ns ground free first x h ∙ sym (longer x h)) w

    pub facts_match : GroundEnv env → (fs : List Fact) → FactsWithin (names env ++ ns) fs → instance_facts σ (instance_facts (chosen env) fs) ≡ instance_facts σ fs
    facts_match ground fs w = facts_then (chosen env) σ fs ∙ facts_agree (then (chosen env) σ) σ (names env ++ ns) fs (λ x h. then_is env σ ns ground free first x h ∙ sym (longer x h)) w

  -- one name more
  pub one_more : (x : Var) (t : Tree) → IsFree x (names env) → σ x ≡ t → map σ (names env ++ x ∷ []) ≡ values (join env (just x t))
  one_more x t free e =
      map_agree σ (join env (just x t)).choice (names env ++ x ∷ []) (λ y m. elim (member_cases env.scope (x ∷ []) m) [
        | in_left a ↦ agree y a ∙ sym (join_old env (just x t) y a)
        | in_right b ↦ (let same : y ≡ x = only_member b in ap σ same ∙ e ∙ sym (join_new env (just x t) y (subst (λ z. IsFree z (names env)) (sym same) free)))
      ])
