-- What the laws of the rules' cases share: how a rule is used where both sides are together.
use Rattle.sap_translate.proofs.Premises.LowerLaws.{Laws, nf}
use Rattle.sap_translate.specs.Members.{Member}
use Rattle.sap_translate.specs.relation.Shown.{MeetsAll, MeetsSix}
use Rattle.sap_translate.proofs.Terms.Choices.{settled_vars}
use Rattle.sap_translate.proofs.Terms.Derive.{contains}
use Rattle.sap_translate.proofs.Terms.Forms.{settled, equal_are_facts, forms_are_facts, IsTidy}
use Rattle.sap_translate.proofs.Shared.Takings.{taken_each}
use Rattle.sap_translate.proofs.Parts.Kept.{first_taken}
use Rattle.sap_translate.proofs.Parts.Tidy.{tidy}
use Rattle.sap_translate.proofs.Shared.Inputs.{free_quiet}
use Rattle.sap_templates.specs.Templates.{rules_of}
use Rattle.sap_translate.specs.relation.Answers.{StandsBefore}
use Rattle.sap_translate.specs.relation.Envs.{Env, names, values}
use Rattle.sap_translate.specs.relation.Followed.{IsUsed}
use Rattle.sap_translate.specs.relation.Follows.{Together, Follows, Waits}
use Rattle.sap_translate.specs.relation.Names.{vars}
use Rattle.sap_translate.specs.relation.ProcessMoves.{ProcessMove, ProcessMoves, IsProcessMove, stays, further}
use Rattle.sap_translate.specs.relation.Agents.{Agent}
use Rattle.sap_translate.specs.relation.Related.{Related}
use Rattle.sap_place.specs.StateFacts.{state_fact}
use Rattle.sap_process.specs.Configuration.{Config}
use Rattle.sap_process.specs.Proc.{Proc}
use Rattle.sap_process.specs.ProcessSteps.{ProcessRun}
use Rattle.sap_rule.specs.RuleSteps.{RuleState, RuleStep, RuleRun, leaves}
use Rattle.sap_rule.specs.declared.rule.Rule.{Rule}
use Rattle.sap_terms.specs.AdversaryFacts.{k_fact}
use Rattle.sap_terms.specs.Choice.{instance, Choice}
use Rattle.sap_terms.specs.Equations.{equations}
use Rattle.sap_terms.specs.Modulo.{instance_facts}
use Rattle.sap_terms.specs.Piles.{Pile, Takes, adds}
use Rattle.sap_terms.specs.Signature.{Sig}
use Rattle.sap_terms.specs.Trace.{Trace, shown}
use Rattle.sap_terms.specs.Tree.{Tree}
use Rattle.sap_terms.specs.declared.fact.Fact.{Fact}
use Rattle.std.proofs.Common.{◌≡◌, ℕ, List, [], ◌∷◌, ◌++◌, Option, Some, sym, ap, ◌∙◌, subst, map, append-nil, append_assoc}

-- a run of the process goes on by moves
run_moves : {g : Sig} {o c d : Config} {tr shows : Trace} {moves : List ProcessMove} → ProcessRun g o c tr → ProcessMoves g c moves shows d → ProcessRun g o d (tr ++ shows)
run_moves {g} {o} {c} {tr = tr} run stays = subst (λ t. ProcessRun g o c t) (sym (append-nil tr)) run
run_moves {g} {o} {d = d} {tr = tr} run (further {label = label} {tr = shows} m ms) = subst (λ t. ProcessRun g o d t) (append_assoc tr (shown label) shows) (run_moves (ProcessRun.further run m.step) ms)

pub one_step : {g : Sig} {c d : Config} {move : ProcessMove} {label : List Fact} → IsProcessMove g c move label d → ProcessMoves g c (move ∷ []) (shown label ++ []) d
one_step m = further m stays

-- nothing becomes free for an input
pub silent_waits : (pending : Option Tree) (full : Trace) (acts : List Fact) → ((y : Tree) → Member (k_fact y) acts → ⊥) → Waits pending full → Waits pending (full ++ acts ∷ [])
silent_waits pending full acts none w x f = w x (free_quiet full acts x none f)

pub no_acts : (y : Tree) → Member (k_fact y) [] → ⊥
no_acts y m = elim m [ ]

-- where a rule takes a state fact first: the choice is that of the thread, and what else is taken
pub record UnderEnv (laws : Laws) (g : Sig) (s : RuleState) (k : ℕ) (ks : List ℕ) (path : List ℕ) (env : Env) (σ : Choice) (more : List Fact) (rest : Pile) : Type 0 where
  pub agrees : map σ (names env) ≡ values env
  pub takes : Takes s.facts (k ∷ ks) (state_fact path (values env) ∷ (settled laws) (equations g) σ more) rest

module _ (laws : Laws) (g : Sig) (start : Proc) (agents : List (Option Agent)) (pending : Option Tree) (c : Config) (tr : Trace) (s : RuleState) (full : Trace) (h : Together g start agents pending c tr s full) where
  pub follow : {moves : List ProcessMove} {shows : Trace} {d : Config} {later : Option Tree} {agents' : List (Option Agent)} {z : RuleState} {acts : List Fact} → ProcessMoves g c moves shows d → RuleStep g (rules_of start) s acts z → Related g start agents' later d (tr ++ shows) z (full ++ acts ∷ []) → (Waits pending full → Waits later (full ++ acts ∷ [])) → Follows g start pending c tr full moves shows d later agents' z acts
  follow moves step r w = record { process = moves; together = record { reached = run_moves h.reached moves; ran = RuleRun.further h.ran step; related = r }; waits = w }

  -- where the process stays
  pub follow_still : {later : Option Tree} {agents' : List (Option Agent)} {z : RuleState} {acts : List Fact} → RuleStep g (rules_of start) s acts z → Related g start agents' later c tr z (full ++ acts ∷ []) → (Waits pending full → Waits later (full ++ acts ∷ [])) → Follows g start pending c tr full [] [] c later agents' z acts
  follow_still {later} {agents'} {z} {acts} step r w = follow stays step (subst (λ t. Related g start agents' later c t z (full ++ acts ∷ [])) (sym (append-nil tr)) r) w

  pub left_is : (r : Rule) {ks : List ℕ} {σ : Choice} {left acts right : List Fact} {rest : Pile} → IsUsed g s full r ks σ left acts right rest → left ≡ (settled laws) (equations g) σ r.left
  left_is r {σ = σ} {left = left} u = (equal_are_facts laws) (equations g) (instance_facts σ r.left) left u.fits.takes (λ f n. taken_each (IsTidy (equations g)) ((tidy laws) h.ran).facts u.takes f n)

  -- a rule is used: the relation holds for what it comes to
  pub follow_use : {moves : List ProcessMove} {shows : Trace} {d : Config} {later : Option Tree} {agents' : List (Option Agent)} (r : Rule) {ks : List ℕ} (σ : Choice) {left acts right : List Fact} {rest : Pile} → Member r (rules_of start) → IsUsed g s full r ks σ left acts right rest → (a o : List Fact) → (settled laws) (equations g) σ r.acts ≡ a → (settled laws) (equations g) σ r.right ≡ o
      → ProcessMoves g c moves shows d → Related g start agents' later d (tr ++ shows) (leaves s (adds rest o)) (full ++ a ∷ []) → (Waits pending full → Waits later (full ++ a ∷ [])) → Follows g start pending c tr full moves shows d later agents' (leaves s (adds rest right)) acts
  follow_use {shows = shows} {d = d} {later = later} {agents' = agents'} r {ks = ks} σ {left = left} {acts = acts} {right = right} {rest = rest} m u a o a_is o_is moves related waits =
      let acts_are : acts ≡ a = (forms_are_facts laws) (equations g) (instance_facts σ r.acts) acts u.fits.shows ∙ a_is in
      let right_is : right ≡ o = (forms_are_facts laws) (equations g) (instance_facts σ r.right) right u.fits.adds ∙ o_is in
      follow moves (RuleStep.uses r ks σ left acts right (contains m) u.takes u.fits)
      (subst (λ fs. Related g start agents' later d (tr ++ shows) (leaves s (adds rest right)) (full ++ fs ∷ [])) (sym acts_are) (subst (λ fs. Related g start agents' later d (tr ++ shows) (leaves s (adds rest fs)) (full ++ a ∷ [])) (sym right_is) related))
      (subst (λ fs. Waits pending full → Waits later (full ++ fs ∷ [])) (sym acts_are) waits)

  -- the same where the process stays
  pub follow_use_still : {later : Option Tree} {agents' : List (Option Agent)} (r : Rule) {ks : List ℕ} (σ : Choice) {left acts right : List Fact} {rest : Pile} → Member r (rules_of start) → IsUsed g s full r ks σ left acts right rest → (a o : List Fact) → (settled laws) (equations g) σ r.acts ≡ a → (settled laws) (equations g) σ r.right ≡ o
      → Related g start agents' later c tr (leaves s (adds rest o)) (full ++ a ∷ []) → (Waits pending full → Waits later (full ++ a ∷ [])) → Follows g start pending c tr full [] [] c later agents' (leaves s (adds rest right)) acts
  follow_use_still {later} {agents'} r σ {rest = rest} m u a o a_is o_is related waits = follow_use r σ m u a o a_is o_is stays (subst (λ t. Related g start agents' later c t (leaves s (adds rest o)) (full ++ a ∷ [])) (sym (append-nil tr)) related) waits

  -- what the rule shows meets what the restrictions demand
  pub demands_of : (r : Rule) {ks : List ℕ} {σ : Choice} {left acts right : List Fact} {rest : Pile} → IsUsed g s full r ks σ left acts right rest → (a : List Fact) → (settled laws) (equations g) σ r.acts ≡ a → MeetsAll (equations g) (full ++ acts ∷ []) → MeetsSix (equations g) (full ++ a ∷ [])
  demands_of r {σ = σ} {acts = acts} u a a_is w = subst (λ fs. MeetsSix (equations g) (full ++ fs ∷ [])) ((forms_are_facts laws) (equations g) (instance_facts σ r.acts) acts u.fits.shows ∙ a_is) w.demands

  pub under_env : (r : Rule) (more : List Fact) {t k : ℕ} {ks : List ℕ} {path : List ℕ} {env : Env} {b : Proc} {σ : Choice} {left acts right : List Fact} {rest : Pile} → StandsBefore agents s t k path env b → IsUsed g s full r (k ∷ ks) σ left acts right rest → r.left ≡ state_fact path (vars (names env)) ∷ more → UnderEnv laws g s k ks path env σ more rest
  under_env r more {k = k} {ks = ks} {path = path} {env = env} {σ = σ} {rest = rest} w u l =
      let args : List Tree = map ((nf laws) (equations g)) (map (instance σ) (vars (names env))) in
      let taken : Takes s.facts (k ∷ ks) (state_fact path args ∷ (settled laws) (equations g) σ more) rest = subst (λ fs. Takes s.facts (k ∷ ks) fs rest) (left_is r u ∙ ap ((settled laws) (equations g) σ) l) u.takes in
      let same : args ≡ values env = same_args path args (values env) (sym (first_taken taken) ∙ w.fact) in
      record { agrees = sym ((settled_vars laws) g σ u.fits.messages (names env)) ∙ same; takes = subst (λ ts. Takes s.facts (k ∷ ks) (state_fact path ts ∷ (settled laws) (equations g) σ more) rest) same taken }
    where
      same_args : (path : List ℕ) (xs ys : List Tree) → Some (Some (state_fact path xs)) ≡ Some (Some (state_fact path ys)) → xs ≡ ys
      same_args path xs ys e = let one : state_fact path xs ≡ state_fact path ys = cc in ap (λ (f : Fact). f.args) one
