-- The facts that a rule adds: they say what its thread has in scope.
use Rattle.std.proofs.Common.{◌≡◌, ℕ, List, [], ◌∷◌, ◌++◌, refl, sym, ap, ◌∙◌, map, false, true, Bool}
use Rattle.std.specs.List.{AllZip}
use Rattle.std.specs.Prelude.{if◌then◌else◌}
use Rattle.sap_terms.specs.AdversaryFacts.{out_fact}
use Rattle.sap_terms.specs.Choice.{Choice, instance}
use Rattle.sap_terms.specs.Equal.{IsTheoryEqual}
use Rattle.sap_terms.specs.Equations.{equations}
use Rattle.sap_terms.specs.Message.{IsMessageChoice}
use Rattle.sap_terms.specs.Modulo.{instance_fact, instance_facts, IsFormOfFact, AreFormsOfFacts}
use Rattle.sap_terms.specs.Normal.{IsNormalForm}
use Rattle.sap_terms.specs.Signature.{Sig}
use Rattle.sap_terms.specs.Tree.{Tree, variable}
use Rattle.sap_terms.specs.Variables.{is_known, new_vars}
use Rattle.sap_terms.specs.declared.fact.Fact.{Fact}
use Rattle.sap_terms.specs.declared.var.Var.{Var}
use Rattle.sap_process.specs.Sites.{var_names}
use Rattle.sap_place.specs.StateFacts.{state_fact, copies_fact, waits_fact, tag}
use Rattle.sap_templates.specs.ChannelFacts.{ack_fact, msg_fact}
use Rattle.sap_translate.specs.Members.{Member}
use Rattle.sap_translate.specs.Scoped.{IsFree}
use Rattle.sap_templates.specs.Templates.{state}
use Rattle.sap_translate.specs.relation.Answers.{widened}
use Rattle.sap_translate.specs.relation.Envs.{Env, bind, join, just, names, values}
use Rattle.sap_back.proofs.Premises.{Laws}
use Rattle.sap_back.proofs.Terms.{contains, no_acts, one_form_of, SameOn}
use Rattle.sap_translate.proofs.Shared.Facts.{made}
use Rattle.sap_translate.proofs.Shared.Lookups.{member_cases, in_left, in_right, only_member}

-- a list of forms has a first for the first
pub record FirstForm (g : Sig) (a : Fact) (rest hs : List Fact) : Type 0 where
  pub first : Fact
  pub others : List Fact
  pub is : hs ≡ first ∷ others
  pub form : IsFormOfFact (equations g) a first
  pub forms : AreFormsOfFacts (equations g) rest others

pub first_form : (g : Sig) (a : Fact) (rest hs : List Fact) → AreFormsOfFacts (equations g) (a ∷ rest) hs → FirstForm g a rest hs
first_form g a rest [] h = absurd h
first_form g a rest (f ∷ fs) h = record { first = f; others = fs; is = refl; form = h.0; forms = h.1 }

-- what is in scope, and one variable more that is free, stand for what the choice says
pub wider_by_one : (laws : Laws) (env : Env) (σ : Choice) (x : Var) (t : Tree) → SameOn (names env) σ env.choice → IsFree x (names env) → σ x ≡ t → SameOn (names (join env (just x t))) σ (join env (just x t)).choice
wider_by_one laws env σ x t same free is y m = elim (member_cases (names env) (x ∷ []) m) [
  | in_left k ↦ same y k ∙ sym (laws.old env (just x t) y (contains k))
  | in_right k ↦ ap σ (only_member k) ∙ is ∙ sym (new_is (is_known (var_names (names env)) x.name) free) ∙ ap (join env (just x t)).choice (sym (only_member k))
]
  where
    new_is : (b : Bool) → b ≡ false → (if b then env.choice x else t) ≡ t
    new_is true e = absurd (cc)
    new_is false e = refl

-- so do those of a pattern that are new
pub wider_by_new : (laws : Laws) (env : Env) (σ : Choice) (vs : List Var) → SameOn (names env) σ env.choice → SameOn (names (widened env σ vs)) σ (widened env σ vs).choice
wider_by_new laws env σ vs same y m = elim (member_cases (names env) (new_vars (var_names (names env)) vs) m) [
  | in_left k ↦ same y k ∙ sym (laws.old env (bind σ (new_vars (var_names (names env)) vs)) y (contains k))
  | in_right k ↦ sym (laws.picks env σ vs y (contains k))
]

module _ (laws : Laws) (g : Sig) (σ : Choice) (messages : IsMessageChoice g σ) where
  -- what the choice says is its own form
  pub own_form : (x : Var) (t : Tree) → IsNormalForm (equations g) (σ x) t → t ≡ σ x
  own_form x t f = laws.one_form (equations g) (σ x) t (σ x) f (record { equal = IsTheoryEqual.same; normal = (messages x).normal })

  forms_are : (v : List Var) (τ : Choice) → SameOn v σ τ → (ts : List Tree) → AllZip (IsNormalForm (equations g)) (map (instance σ) (map variable v)) ts → ts ≡ map τ v
  forms_are [] τ same [] h = refl
  forms_are [] τ same (t ∷ ts) h = absurd h
  forms_are (x ∷ v) τ same [] h = absurd h
  forms_are (x ∷ v) τ same (t ∷ ts) h = λ i. (own_form x t h.0 ∙ same x Member.here) i ∷ forms_are v τ (λ y m. same y (Member.later m)) ts h.1 i

  forms_with : (v : List Var) (τ : Choice) (w : Var) → SameOn v σ τ → (ts : List Tree) → AllZip (IsNormalForm (equations g)) (map (instance σ) (map variable v ++ variable w ∷ [])) ts → ts ≡ map τ v ++ σ w ∷ []
  forms_with [] τ w same [] h = absurd h
  forms_with [] τ w same (t ∷ []) h = ap (λ u. u ∷ []) (own_form w t h.0)
  forms_with [] τ w same (t ∷ u ∷ ts) h = absurd h.1
  forms_with (x ∷ v) τ w same [] h = absurd h
  forms_with (x ∷ v) τ w same (t ∷ ts) h = λ i. (own_form x t h.0 ∙ same x Member.here) i ∷ forms_with v τ w (λ y m. same y (Member.later m)) ts h.1 i

  pub state_form : (path : List ℕ) (env : Env) (f : Fact) → SameOn (names env) σ env.choice → IsFormOfFact (equations g) (instance_fact σ (state path (names env))) f → f ≡ state_fact path (values env)
  state_form path env f same h = made f.name (state_fact path []).name f.persistent false f.args (values env) h.name h.persistent (forms_are (names env) env.choice same f.args h.args)

  pub copies_form : (path : List ℕ) (env : Env) (f : Fact) → SameOn (names env) σ env.choice → IsFormOfFact (equations g) (instance_fact σ (copies_fact path (map variable (names env)))) f → f ≡ copies_fact path (values env)
  copies_form path env f same h = made f.name (copies_fact path []).name f.persistent true f.args (values env) h.name h.persistent (forms_are (names env) env.choice same f.args h.args)

  pub waits_form : (path : List ℕ) (env : Env) (t : Tree) (f : Fact) → SameOn (names env) σ env.choice → σ tag ≡ t → IsFormOfFact (equations g) (instance_fact σ (waits_fact path (map variable (names env) ++ variable tag ∷ []))) f → f ≡ waits_fact path (values env ++ t ∷ [])
  waits_form path env t f same is h =
      made f.name (waits_fact path []).name f.persistent false f.args (values env ++ t ∷ []) h.name h.persistent (forms_with (names env) env.choice tag same f.args h.args ∙ ap (λ u. values env ++ u ∷ []) is)

  pub ack_form : (t : Tree) (f : Fact) → σ tag ≡ t → IsFormOfFact (equations g) (instance_fact σ (ack_fact (variable tag))) f → f ≡ ack_fact t
  ack_form t f is h = made f.name (ack_fact t).name f.persistent false f.args (t ∷ []) h.name h.persistent (forms_with [] σ tag (λ x m. refl) f.args h.args ∙ ap (λ u. u ∷ []) is)

  -- a state fact alone
  pub one_state : (path : List ℕ) (env : Env) (right : List Fact) → SameOn (names env) σ env.choice → AreFormsOfFacts (equations g) (instance_facts σ (state path (names env) ∷ [])) right → right ≡ state_fact path (values env) ∷ []
  one_state path env right same h =
      let a = first_form g (instance_fact σ (state path (names env))) [] right h in
      a.is ∙ (λ i. state_form path env a.first same a.form i ∷ no_acts (equations g) a.others a.forms i)

  pub one_copies : (path : List ℕ) (env : Env) (right : List Fact) → SameOn (names env) σ env.choice → AreFormsOfFacts (equations g) (instance_facts σ (copies_fact path (map variable (names env)) ∷ [])) right → right ≡ copies_fact path (values env) ∷ []
  one_copies path env right same h =
      let a = first_form g (instance_fact σ (copies_fact path (map variable (names env)))) [] right h in
      a.is ∙ (λ i. copies_form path env a.first same a.form i ∷ no_acts (equations g) a.others a.forms i)

  -- a state fact behind another fact
  pub then_state : (f : Fact) (path : List ℕ) (env : Env) (right : List Fact) → SameOn (names env) σ env.choice → AreFormsOfFacts (equations g) (instance_facts σ (f ∷ state path (names env) ∷ [])) right
      → (h : Fact) × IsFormOfFact (equations g) (instance_fact σ f) h × (right ≡ h ∷ state_fact path (values env) ∷ [])
  then_state f path env right same h =
      let a = first_form g (instance_fact σ f) (instance_facts σ (state path (names env) ∷ [])) right h in
      (a.first, a.form, a.is ∙ ap (λ fs. a.first ∷ fs) (one_state path env a.others same a.forms))

  pub two_states : (path other : List ℕ) (env : Env) (right : List Fact) → SameOn (names env) σ env.choice → AreFormsOfFacts (equations g) (instance_facts σ (state path (names env) ∷ state other (names env) ∷ [])) right → right ≡ state_fact path (values env) ∷ state_fact other (values env) ∷ []
  two_states path other env right same h =
      let a = then_state (state path (names env)) other env right same h in
      a.2 ∙ ap (λ f. f ∷ state_fact other (values env) ∷ []) (state_form path env a.0 same a.1)

  -- what is put out is a form of the term
  pub out_then_state : (m : Tree) (path : List ℕ) (env : Env) (right : List Fact) → SameOn (names env) σ env.choice → AreFormsOfFacts (equations g) (instance_facts σ (out_fact m ∷ state path (names env) ∷ [])) right
      → (x : Tree) × IsNormalForm (equations g) (instance σ m) x × (right ≡ out_fact x ∷ state_fact path (values env) ∷ [])
  out_then_state m path env right same h =
      let a = then_state (out_fact m) path env right same h in
      let o = one_form_of (equations g) (out_fact m).name (instance σ m) (a.0 ∷ []) (a.1, tt) in
      (o.form, o.is_form, a.2 ∙ ap (λ fs. fs ++ state_fact path (values env) ∷ []) o.is)

  pub ack_then_state : (t : Tree) (path : List ℕ) (env : Env) (right : List Fact) → σ tag ≡ t → SameOn (names env) σ env.choice → AreFormsOfFacts (equations g) (instance_facts σ (ack_fact (variable tag) ∷ state path (names env) ∷ [])) right → right ≡ ack_fact t ∷ state_fact path (values env) ∷ []
  ack_then_state t path env right is same h =
      let a = then_state (ack_fact (variable tag)) path env right same h in
      a.2 ∙ ap (λ f. f ∷ state_fact path (values env) ∷ []) (ack_form t a.0 is a.1)

  -- a message under way, and its sender that waits
  pub message_waits : (m n : Tree) (t x y : Tree) (path : List ℕ) (env : Env) (right : List Fact) → σ tag ≡ t → IsNormalForm (equations g) (instance σ m) x → IsNormalForm (equations g) (instance σ n) y → SameOn (names env) σ env.choice
      → AreFormsOfFacts (equations g) (instance_facts σ (msg_fact (variable tag) m n ∷ waits_fact path (map variable (names env) ++ variable tag ∷ []) ∷ [])) right → right ≡ msg_fact t x y ∷ waits_fact path (values env ++ t ∷ []) ∷ []
  message_waits m n t x y path env right is fx fy same h =
      let a = first_form g (instance_fact σ (msg_fact (variable tag) m n)) (instance_facts σ (waits_fact path (map variable (names env) ++ variable tag ∷ []) ∷ [])) right h in
      let b = first_form g (instance_fact σ (waits_fact path (map variable (names env) ++ variable tag ∷ []))) [] a.others a.forms in
      let two : a.others ≡ waits_fact path (values env ++ t ∷ []) ∷ [] = b.is ∙ (λ i. waits_form path env t b.first same is b.form i ∷ no_acts (equations g) b.others b.forms i) in
      a.is ∙ (λ i. message_form a.first a.form i ∷ two i)
    where
      three : (ts : List Tree) → AllZip (IsNormalForm (equations g)) (σ tag ∷ instance σ m ∷ instance σ n ∷ []) ts → ts ≡ t ∷ x ∷ y ∷ []
      three [] k = absurd k
      three (u ∷ []) k = absurd k.1
      three (u ∷ v ∷ []) k = absurd k.1.1
      three (u ∷ v ∷ w ∷ []) k = λ i. (own_form tag u k.0 ∙ is) i ∷ laws.one_form (equations g) (instance σ m) v x k.1.0 fx i ∷ laws.one_form (equations g) (instance σ n) w y k.1.1.0 fy i ∷ []
      three (u ∷ v ∷ w ∷ z ∷ ts) k = absurd k.1.1.1

      message_form : (f : Fact) → IsFormOfFact (equations g) (instance_fact σ (msg_fact (variable tag) m n)) f → f ≡ msg_fact t x y
      message_form f k = made f.name (msg_fact t x y).name f.persistent false f.args (t ∷ x ∷ y ∷ []) k.name k.persistent (three f.args k.args)
